-- The invariant: the entries of the nets below k stand.
use mathlib.Core.Path.{◌≡◌}
use lib.ListN.{length}
use Rattle.fold_laws.specs.Table as model
use Rattle.table.specs.Buckets.{Indexed}
use Rattle.fold.proofs.pass.set_bases.Given as goal

abbrev pub invariant-loop-k : goal.invariant-loop-k
invariant-loop-k l = (length l.work ≡ length l.initial.work) × Indexed l.work l.nets (model.bases 0 l.k)
