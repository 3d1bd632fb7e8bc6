-- The two ways to an answer (`LineLaws`).
use mathlib.Core.Path.{◌∙◌, sym}
use native.Mathlib.Omega.{arith}
use Rattle.cec_eval.proofs.LineLaws.{too_long, not_too_long}
use Rattle.cec_eval.proofs.answer.evaluate_stream.Goals as goal

pub returns-then-stream-gt-STREAM_BYTES : goal.returns-then-stream-gt-STREAM_BYTES
returns-then-stream-gt-STREAM_BYTES c = let a = c.args in rw c.at.ensures (too_long a.stream.now a.pattern c.if-stream-gt-STREAM_BYTES.true)

pub returns : goal.returns
returns c =
    let a = c.args in
    c.evaluate.ensures.replies ∙ sym (not_too_long a.stream.now a.pattern (omega (arith, c.if-stream-gt-STREAM_BYTES.false)))
