-- The two ways to an answer (`ListLaws`).
use native.Mathlib.Omega.{arith}
use Rattle.cec_list.proofs.ListLaws.{too_long, not_too_long}
use Rattle.cec_list.proofs.answer.list_stream.Goals as goal

pub returns-then-stream-gt-STREAM_BYTES : goal.returns-then-stream-gt-STREAM_BYTES
returns-then-stream-gt-STREAM_BYTES c = let e = too_long c.args.stream.now c.if-stream-gt-STREAM_BYTES.true in rw (c.at.ensures, e)

pub returns : goal.returns
returns c =
    let e = not_too_long c.args.stream.now (omega (arith, c.if-stream-gt-STREAM_BYTES.false)) in
    rw e c.read_list.ensures
