-- A gate that represents itself has its clauses, any other two links to the gate of its key, which is done (`hit_done`).
use Prim.Native.Nat.{◌<◌}
use native.Mathlib.Omega.{arith}
use lib.ListN.{length}
use Rattle.emit_laws.specs.CaseTrees.{and_trees}
use Rattle.derivation.proofs.EmitLaws.{emits_two}
use Rattle.derivation.proofs.CaseLaws.{hit_done}
use Rattle.derivation.proofs.ands.and_pair.Goals as goal

pub returns-then-eq-clause-emits : goal.returns-then-eq-clause-emits
unfolding and_trees
returns-then-eq-clause-emits c = λ t links k h.
    rw (← c.representative-rep.ensures t k.rows (omega arith), ← c.if-eq.ensures) (c.and_own.ensures.emits t links k h)

pub returns-clause-emits : goal.returns-clause-emits
unfolding and_trees
returns-clause-emits c = λ t links k h.
    let e = c.representative-rep.ensures t k.rows (omega arith) in
    let done : c.variable-u.result < length links = rw (c.variable-u.ensures, e) (hit_done c.args.d k h (rw (← e, ← c.if-eq.ensures))) in
    rw (← e, ← c.if-eq.ensures)
    (emits_two (rw c.variable-u.ensures at (c.and_down-down.ensures.emits t links k h done))
    (rw c.variable-u.ensures at (c.and_up-up.ensures.emits t links k h done)))
