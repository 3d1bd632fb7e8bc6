-- The two ways to a verdict (`ReportLaws`); after 1 the store is cleared from its start.
use native.Mathlib.Omega.{arith}
use lib.ListN.{length}
use Rattle.clearing.proofs.ClearLaws.{cleared}
use Rattle.reports.proofs.ReportLaws.{too_long, checked}
use borrow.Author.Rules.{rules}
use Rattle.reports.proofs.judge.Goals as goal

pub returns-then-bytes-stream : goal.returns-then-bytes-stream
returns-then-bytes-stream c =
    let a = c.args in
    let n = length a.store.now in
    let e = too_long a.bytes n a.stream.now c.if-bytes-stream.true in
    record { replies = rw (c.at.ensures, e); leaves = rw e (cleared a.store.now _ n (search rules) c.clear.ensures) }

pub returns : goal.returns
returns c =
    let a = c.args in
    let e = checked a.bytes (length a.store.now) a.stream.now (omega (arith, c.if-bytes-stream.false)) in
    let h = c.check.ensures in
    record { replies = rw e h.replies; leaves = rw e h.leaves }
