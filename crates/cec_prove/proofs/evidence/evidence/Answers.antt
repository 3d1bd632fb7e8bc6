-- Each arm knows its case of the answer; a proof lies within the buffer, and a report has digits for its line (`StreamLaws`).
use mathlib.Core.Path.{◌≡◌, refl}
use native.Mathlib.Omega.{arith}
use lib.ListN.{length}
use Rattle.cec_prove.specs.Streams.{proof_bytes}
use Rattle.cec_prove.proofs.StreamLaws.{proof_printed, report_printed}
use borrow.Author.Rules.{rules}
use Rattle.cec_prove.proofs.evidence.evidence.Goals as goal

pub returns-in-Ok : goal.returns-in-Ok
returns-in-Ok c = proof_printed c.args.stream.now _ _ refl (omega arith) c.in-Ok.ensures

pub returns-in-Err : goal.returns-in-Err
returns-in-Err c =
    let h = c.in-Err.ensures in
    let long : length c.prove_stream.new.out ≡ proof_bytes = search rules in
    report_printed c.args.stream.now _ _ _ refl (omega arith) h.0 h.1 (search rules) (rw long at c.write_frame.ensures.leaves)
