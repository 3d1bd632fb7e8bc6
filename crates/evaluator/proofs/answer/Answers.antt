-- The reader's reply, the room, and the word (`AnswerLaws`).
use native.Mathlib.Omega.{arith}
use Rattle.std.proofs.lemmas.Result.{err_from_is_err_and}
use Rattle.evaluator.proofs.AnswerLaws.{text_refused, work_short, evaluated}
use Rattle.evaluator.proofs.answer.Goals as goal

pub returns-in_err-list : goal.returns-in_err-list
returns-in_err-list c =
    let p = err_from_is_err_and c.from_residual.result c.from_residual.ensures.1 in
    rw (p.1, p.2) (text_refused _ _ _ c.in_err-list.ensures)

pub returns-then-work-nets : goal.returns-then-work-nets
returns-then-work-nets c =
    let s = c.counts-counts.ensures in
    rw c.at.ensures (work_short _ _ _ c.in_ok-list.ensures (omega (arith, s.inputs, s.gates)))

pub returns : goal.returns
returns c =
    let s = c.counts-counts.ensures in
    evaluated _ _ _ c.in_ok-list.ensures (omega (arith, s.inputs, s.gates)) c.word_of.ensures
