-- The invariant: the first clause and those of the variables before v are there.
use Prim.Native.Nat.{ℕ, ◌+◌, ◌≤◌}
use mathlib.Core.Path.{◌≡◌}
use Rattle.steps.specs.Proofs.{state_of, SamePlace}
use Rattle.miter.specs.Miters.{gates_up_to}
use Rattle.miter.proofs.begin.write_variables.Given as goal

abbrev pub invariant-loop-v : goal.invariant-loop-v
invariant-loop-v l =
    (1 + l.pair.left.inputs ≤ l.v)
    × (l.v ≤ l.v-end)
    × SamePlace l.initial.proof l.proof
    × ((i : ℕ) → l.v ≡ 1 + l.pair.left.inputs + i → state_of l.proof ≡ record (state_of l.initial.proof) { clauses = gates_up_to l.pair.left l.pair.right i })
