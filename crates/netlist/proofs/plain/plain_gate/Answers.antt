-- There is no gate, or its literals are asked (`PlainLaws`).
use borrow.Author.Rules.{rules}
use Rattle.netlist.proofs.PlainLaws.{no_gate, plain_gate}
use Rattle.netlist.proofs.plain.plain_gate.Goals as goal

pub returns-in_default : goal.returns-in_default
returns-in_default c = no_gate c.args.text.now c.in_default.ensures c.args.net

pub returns-then-is_below : goal.returns-then-is_below
returns-then-is_below c = plain_gate c.args.text.now _ _ _ c.in-Some.ensures c.args.net c.is_below-then-is_below.result (search rules)

pub returns-else-is_below : goal.returns-else-is_below
returns-else-is_below c = plain_gate c.args.text.now _ _ _ c.in-Some.ensures c.args.net c.is_below.result (search rules)
