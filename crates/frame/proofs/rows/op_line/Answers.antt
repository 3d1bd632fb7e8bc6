-- The line is refused, it is of another kind, or its kind is a gate's (`RowLaws`).
use mathlib.Core.Path.{refl}
use Rattle.frame.specs.declared.kinds.Kind.TheVariants.{Gate}
use Rattle.frame.specs.Rows.{gate_frame}
use Rattle.frame.proofs.RowLaws.{lacks_refused, lacks_other}
use Rattle.frame.proofs.rows.op_line.Goals as goal

pub returns-in_err-kind : goal.returns-in_err-kind
returns-in_err-kind c = rw c.from_residual.ensures (λ g. lacks_refused c.args.text.now c.in_err-kind.ensures (gate_frame g))

pub returns-in_default : goal.returns-in_default
returns-in_default c = λ g. lacks_other c.args.text.now (Gate g.op) c.in_ok-kind.kind (c.in_default.not-Gate g.op) c.in_ok-kind.ensures (gate_frame g) refl

pub returns : goal.returns
returns c = rw c.in-Gate.is at c.in_ok-kind.ensures
