-- The buckets lie behind the rows and the links, and all numbers from there on are zeros.
use native.Mathlib.Omega.{arith}
use Rattle.clearing.proofs.ClearLaws.{cleared_at}
use Rattle.table.proofs.BucketLaws.{index_none}
use Rattle.table.proofs.buckets.empty.Goals as goal

pub returns : goal.returns
returns c =
    let a = c.args in
    let z = c.clear in
    index_none z.new.numbers a.nets (λ h i. cleared_at a.work.now z.new.numbers _ h z.ensures (omega (arith, c.requires)))
