-- There is no output, or its literal is asked (`PlainLaws`).
use Rattle.netlist.proofs.PlainLaws.{plain_output}
use Rattle.netlist.proofs.plain.plain_output.Goals as goal

pub returns : goal.returns
returns c = plain_output c.args.text.now _ c.in-Some.ensures c.args.nets c.is_below.result c.is_below.ensures
