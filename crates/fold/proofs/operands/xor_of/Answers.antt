-- Without their signs, the lower and the higher are the definition's order.
use mathlib.Core.Bool.{true}
use Rattle.fold.proofs.OperandLaws.{by_order, unsigned}
use Rattle.fold.proofs.operands.xor_of.Goals as goal

pub returns : goal.returns
returns c =
    rw (← unsigned c.args.p.code, ← unsigned c.args.q.code, ← c.unsigned-a.ensures, ← c.unsigned-b.ensures, c.xor_ordered.ensures, c.min.ensures, c.max.ensures)
    (by_order true c.unsigned-a.result c.unsigned-b.result)
