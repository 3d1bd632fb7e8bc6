-- What is spelt behind the kind is the literal (`output_says`).
use Rattle.std.proofs.Common.{rules}
use Rattle.frame.proofs.FieldLaws.{output_says, output_unfed}
use Rattle.frame.proofs.read.output_of.Goals as goal

pub returns-then-not-feeds : goal.returns-then-not-feeds
returns-then-not-feeds c = output_unfed c.args.text.now c.feeds.ensures c.if-not-feeds.true

pub returns : goal.returns
returns c = let says = output_says c.args.text.now c.feeds.ensures c.if-not-feeds.false in search (rules, says)
