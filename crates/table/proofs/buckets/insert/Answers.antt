-- The head of the bucket is the net's next, and the net its new head; then the row is stored (`inserted`).
use native.Mathlib.Omega.{arith}
use Rattle.table.specs.Rows.{entry_of}
use Rattle.table.proofs.BucketLaws.{inserted}
use Rattle.table.proofs.buckets.insert.Goals as goal

pub returns : goal.returns
returns c =
    let a = c.args in
    let g = c.bucket.ensures in
    λ t x n. rw (c.enter.ensures, g.0) (inserted a.work.now a.nets a.v (entry_of a.e) t c.requires (omega arith) x n)
