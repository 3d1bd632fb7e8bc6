-- A proof over its store as the definitions' own state.
use Rattle.std.specs.Prelude.{◌≡◌, [], false}
use Rattle.model.specs.Steps.{State}
use Rattle.steps.specs.declared.Proof.{Proof}
use Rattle.steps.specs.Kept.{clauses_in}

abbrev pub state_of : Proof → State
state_of p = record { clauses = clauses_in p.clauses p.store.now; next = p.next; steps = p.steps; empty = p.empty }

-- no clause, no variable, no step
abbrev pub nothing : State
nothing = record { clauses = []; next = 0; steps = 0; empty = false }

-- both are over the same store, and have the same room there
abbrev pub SamePlace : Proof → Proof → Type 0
SamePlace p q = (q.store.ghost_name ≡ p.store.ghost_name) × (q.room ≡ p.room)
