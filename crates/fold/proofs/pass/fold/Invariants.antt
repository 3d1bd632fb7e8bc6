-- The invariant: the entries of the nets before gate k stand (`PassLaws`).
use mathlib.Core.Path.{◌≡◌}
use lib.ListN.{length}
use Rattle.model.specs.Miter.{gates_of}
use Rattle.table.specs.Buckets.{Indexed}
use Rattle.fold.proofs.PassLaws.{after}
use Rattle.fold.proofs.pass.fold.Given as goal

abbrev pub invariant-loop-k : goal.invariant-loop-k
invariant-loop-k l = (length l.work ≡ length l.initial.work) × Indexed l.work l.nets (after l.pair.left.inputs (gates_of l.pair.left l.pair.right) l.k)
