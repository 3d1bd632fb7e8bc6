-- The promise from the answer: the proof's lines stay; where it is a refusal, zeros come everywhere (`AnswerLaws`).
use mathlib.Core.Path.{sym}
use lib.ListN.{length}
use Rattle.clearing.proofs.ClearLaws.{cleared}
use Rattle.engine.proofs.AnswerLaws.{keeps_answer}
use borrow.Author.Rules.{rules}
use Rattle.engine.proofs.prove.Goals as goal

pub returns-else-is_err : goal.returns-else-is_err
returns-else-is_err c =
    let a = c.args in
    let w = c.answer-answered in
    let z = cleared w.new.work _ (length a.work.now) (search rules) c.clear.ensures in
    keeps_answer a.text.now (length a.proof.now) (length a.work.now) w.new.proof _ z w.result (sym c.if-is_err.ensures.value) w.ensures (search rules)
