-- The lists are refused, or the answer to them is the answer to the text (`AnswerLaws`).
use lib.ListN.{length}
use Rattle.std.proofs.lemmas.Result.{err_from_is_err_and}
use Rattle.engine.proofs.AnswerLaws.{unread, answered}
use Rattle.engine.proofs.answer.Goals as goal

pub returns-in_err-pair : goal.returns-in_err-pair
returns-in_err-pair c =
    let a = c.args in
    let p = err_from_is_err_and c.from_residual.result c.from_residual.ensures.1 in
    rw (p.1, p.2) (unread a.text.now (length a.proof.now) (length a.work.now) c.in_err-pair.ensures)

pub returns : goal.returns
returns c = answered _ _ _ _ c.in_ok-pair.ensures _ c.folded.result c.folded.ensures
