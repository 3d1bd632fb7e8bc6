-- The line is refused, it is of another kind, or it is read by its kind (`RowLaws`).
use mathlib.Core.Path.{refl}
use Rattle.frame.specs.declared.kinds.Kind.TheVariants.{Resolve}
use Rattle.frame.specs.Rows.{resolve_frame}
use Rattle.frame.proofs.RowLaws.{lacks_refused, lacks_other, resolve_says}
use Rattle.frame.proofs.rows.resolve_line.Goals as goal

pub returns-in_err-kind : goal.returns-in_err-kind
returns-in_err-kind c = rw c.from_residual.ensures (λ a. lacks_refused c.args.text.now c.in_err-kind.ensures (resolve_frame a))

pub returns-in_default : goal.returns-in_default
returns-in_default c = λ a. lacks_other c.args.text.now Resolve c.in_ok-kind.kind c.in_default.not-Resolve c.in_ok-kind.ensures (resolve_frame a) refl

pub returns : goal.returns
returns c = resolve_says c.args.text.now (rw c.in-Resolve.is at c.in_ok-kind.ensures) c.resolve_of.result c.resolve_of.ensures
