-- Too long, with the working numbers cleared, or the engine's promise (`StreamLaws`).
use mathlib.Core.Path.{◌≡◌}
use native.Mathlib.Omega.{arith}
use lib.ListN.{length}
use Rattle.cec_prove.specs.Streams.{proof_bytes, working_numbers}
use Rattle.clearing.proofs.ClearLaws.{cleared}
use Rattle.cec_prove.proofs.StreamLaws.{too_long, answered}
use borrow.Author.Rules.{rules}
use Rattle.cec_prove.proofs.evidence.prove_stream.Goals as goal

pub returns-then-stream-gt-STREAM_BYTES : goal.returns-then-stream-gt-STREAM_BYTES
returns-then-stream-gt-STREAM_BYTES c =
    let a = c.args in
    let f = c.clear in
    let long : length a.work.now ≡ working_numbers = search rules in
    (rw c.at.ensures (too_long a.stream.now (omega (arith, c.if-stream-gt-STREAM_BYTES.true))), cleared a.work.now f.new.numbers working_numbers long f.ensures)

pub returns : goal.returns
returns c =
    let a = c.args in
    let p = c.prove in
    let bytes : length a.out.now ≡ proof_bytes = search rules in
    let numbers : length a.work.now ≡ working_numbers = search rules in
    let long : length p.new.proof ≡ proof_bytes = search rules in
    let promise = rw (bytes, numbers) at p.ensures in
    answered a.stream.now (omega (arith, c.if-stream-gt-STREAM_BYTES.false)) p.result p.new.proof p.new.work long promise
