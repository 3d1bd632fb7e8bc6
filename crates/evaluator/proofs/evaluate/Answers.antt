-- The answer is known before the bytes are cleared, and they keep their number.
use lib.ListN.{length}
use Rattle.clearing.proofs.ClearLaws.{cleared}
use borrow.Author.Rules.{rules}
use Rattle.evaluator.proofs.evaluate.Goals as goal

pub returns : goal.returns
returns c =
    let r = c.answer-answered in
    record { replies = r.ensures; leaves = cleared r.new.work _ (length c.args.work.now) (search rules) c.clear.ensures }
