-- The invariant: the number behind the clauses of the gates below i, from which the count goes on over the others.
use Prim.Native.Nat.{◌+◌, ◌*◌, ◌≤◌}
use mathlib.Core.Path.{◌≡◌}
use lib.ListN.{drop}
use Rattle.model.specs.Miter.{gates_of, behind, first_z_clause}
use Rattle.miter.proofs.clauses.first_z_clause.Given as goal

abbrev pub invariant-loop-i : goal.invariant-loop-i
invariant-loop-i l =
    (l.i ≤ l.i-end) × (l.next ≤ 2 + 4 * l.i) × (first_z_clause l.pair.left l.pair.right ≡ behind l.next (drop l.i (gates_of l.pair.left l.pair.right)))
