-- Each arm knows its case of the answer, and a report has digits for a refusal's line.
use Rattle.cec_eval.specs.Program.{program}
use Rattle.cec_eval.proofs.LineLaws.{has_digits}
use Rattle.cec_eval.proofs.answer.answer.Goals as goal

pub refusal_line-requires : goal.refusal_line-requires
refusal_line-requires c = has_digits c.args.stream.now c.args.pattern _ _ c.in-Err.ensures

pub returns-in-Ok : goal.returns-in-Ok
unfolding program
returns-in-Ok c = rw (← c.in-Ok.ensures) c.word_line.ensures

pub returns-in-Err : goal.returns-in-Err
unfolding program
returns-in-Err c = rw (← c.in-Err.ensures, ← c.number.ensures) c.refusal_line.ensures
