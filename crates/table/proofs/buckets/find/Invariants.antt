-- The invariant: the walk along the chain has come to `next` (`Walk`). The measure falls, since each net of a chain is below the one before.
use Rattle.std.proofs.Common.{◌≡◌, ◌≤◌, Bool, List, length}
use Rattle.fold_laws.specs.Table as model
use Rattle.table.specs.Buckets.{after, Indexed}
use Rattle.std.specs.Option.{unwrap_or}
use Rattle.table.proofs.BucketLaws.{Walk, Below}
use Rattle.table.proofs.buckets.find.Given as goal

abbrev pub invariant-loop-next : goal.invariant-loop-next
invariant-loop-next l =
    (after l.next ≤ l.v)
    × Below l.v l.found
    × ((t : List model.Entry) (k : Bool) → Indexed l.work l.nets t → length t ≡ l.v → l.kind ≡ model.kind_of k
    → Walk l.nets t k l.a.code l.b.code l.v (after l.next) (unwrap_or l.found l.v))

abbrev pub decreases-loop-next : goal.decreases-loop-next
decreases-loop-next l = after l.next
