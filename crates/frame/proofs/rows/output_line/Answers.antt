-- The line is refused, it is of another kind, or it is read by its kind (`RowLaws`).
use mathlib.Core.Path.{refl}
use Rattle.frame.specs.declared.kinds.Kind.TheVariants.{Output}
use Rattle.frame.specs.Rows.{output_frame}
use Rattle.frame.proofs.RowLaws.{lacks_refused, lacks_other, literal_says}
use Rattle.frame.proofs.rows.output_line.Goals as goal

pub returns-in_err-kind : goal.returns-in_err-kind
returns-in_err-kind c = rw c.from_residual.ensures (λ a. lacks_refused c.args.text.now c.in_err-kind.ensures (output_frame a))

pub returns-in_default : goal.returns-in_default
returns-in_default c = λ a. lacks_other c.args.text.now Output c.in_ok-kind.kind c.in_default.not-Output c.in_ok-kind.ensures (output_frame a) refl

pub returns : goal.returns
returns c = literal_says c.args.text.now (rw c.in-Output.is at c.in_ok-kind.ensures) c.output_of.result c.output_of.ensures
