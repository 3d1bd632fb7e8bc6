-- The invariant: the outputs below k have the same representatives, so the comparison goes on from k.
use Prim.Native.Nat.{◌+◌}
use mathlib.Core.Path.{◌≡◌}
use mathlib.Core.List.{map}
use lib.ListN.{drop}
use Rattle.fold_laws.specs.Engine.{moved_to, both_table, reps_apart, by_reps}
use Rattle.table.specs.Rows.{HoldsTable}
use Rattle.fold.proofs.pass.first_apart.Given as goal

abbrev pub invariant-loop-k : goal.invariant-loop-k
invariant-loop-k l =
    let a = l.pair.left in
    let b = l.pair.right in
    HoldsTable l.work (both_table a b) → by_reps a b ≡ reps_apart (1 + l.k) (both_table a b) (drop l.k a.outs) (drop l.k (map (moved_to a) b.outs))
