-- The lower and the higher are the definition's order.
use mathlib.Core.Bool.{false}
use Rattle.fold.proofs.OperandLaws.{by_order}
use Rattle.fold.proofs.operands.and_of.Goals as goal

pub returns : goal.returns
returns c = rw (c.and_ordered.ensures, c.min.ensures, c.max.ensures) (by_order false c.args.p c.args.q)
