-- Each arm has the kind of the line (`kind_of`), and its fields' reader says the rest; where it has none the line is refused.
use mathlib.Core.Path.{refl}
use mathlib.Core.Bool.{true, false}
use native.Mathlib.Omega.{arith}
use Rattle.model.specs.Frames.{widths}
use Rattle.frame.specs.declared.Frame.TheVariants.{Gate, Output, Resolve, Extend}
use Rattle.frame.proofs.WriteLaws.{operands_widths}
use Rattle.frame.proofs.FieldLaws.{looked}
use Rattle.frame.proofs.read.first_frame.Goals as goal

pub slice_bounds-result-count : goal.slice_bounds-result-count
slice_bounds-result-count c = (c.in_ok-x-in-Gate.ensures _ (rw c.in-Gate.is at c.in_ok-kind_of.ensures) (operands_widths false c.in-Gate.op)).room

pub slice_bounds-result-start : goal.slice_bounds-result-start
slice_bounds-result-start c = (c.in_ok-x-in-Gate.ensures _ (rw c.in-Gate.is at c.in_ok-kind_of.ensures) (operands_widths false c.in-Gate.op)).room

pub slice_bounds-result-count-in-Output : goal.slice_bounds-result-count-in-Output
unfolding widths
slice_bounds-result-count-in-Output c = (c.in_ok-literal-in-Output.ensures _ (rw c.in-Output.is at c.in_ok-kind_of.ensures) refl).room

pub slice_bounds-result-start-in-Output : goal.slice_bounds-result-start-in-Output
unfolding widths
slice_bounds-result-start-in-Output c = (c.in_ok-literal-in-Output.ensures _ (rw c.in-Output.is at c.in_ok-kind_of.ensures) refl).room

pub slice_bounds-result-count-in-Resolve : goal.slice_bounds-result-count-in-Resolve
unfolding widths
slice_bounds-result-count-in-Resolve c = (c.in_ok-step-in-Resolve.ensures _ (rw c.in-Resolve.is at c.in_ok-kind_of.ensures) refl).room

pub slice_bounds-result-start-in-Resolve : goal.slice_bounds-result-start-in-Resolve
unfolding widths
slice_bounds-result-start-in-Resolve c = (c.in_ok-step-in-Resolve.ensures _ (rw c.in-Resolve.is at c.in_ok-kind_of.ensures) refl).room

pub slice_bounds-result-count-in-Extend : goal.slice_bounds-result-count-in-Extend
slice_bounds-result-count-in-Extend c = (c.in_ok-x-in-Extend.ensures _ (rw c.in-Extend.is at c.in_ok-kind_of.ensures) (operands_widths true c.in-Extend.op)).room

pub slice_bounds-result-start-in-Extend : goal.slice_bounds-result-start-in-Extend
slice_bounds-result-start-in-Extend c = (c.in_ok-x-in-Extend.ensures _ (rw c.in-Extend.is at c.in_ok-kind_of.ensures) (operands_widths true c.in-Extend.op)).room

pub returns-in_err-x-in-Gate : goal.returns-in_err-x-in-Gate
returns-in_err-x-in-Gate c =
    rw c.from_residual-in_err-x-in-Gate.ensures (c.in_err-x-in-Gate.ensures _ (rw c.in-Gate.is at c.in_ok-kind_of.ensures) (operands_widths false c.in-Gate.op))

pub returns-in_ok-x-in-Gate : goal.returns-in_ok-x-in-Gate
returns-in_ok-x-in-Gate c =
    looked c.args.text.now (Gate (record { op = c.in-Gate.op; x = c.in_ok-x-in-Gate.x; y = c.in_ok-x-in-Gate.y })) (c.in_ok-x-in-Gate.ensures _ (rw c.in-Gate.is at c.in_ok-kind_of.ensures) (operands_widths false c.in-Gate.op)) (omega arith)

pub returns-in_err-literal-in-Output : goal.returns-in_err-literal-in-Output
unfolding widths
returns-in_err-literal-in-Output c =
    rw c.from_residual-in_err-literal-in-Output.ensures (c.in_err-literal-in-Output.ensures _ (rw c.in-Output.is at c.in_ok-kind_of.ensures) refl)

pub returns-in_ok-literal-in-Output : goal.returns-in_ok-literal-in-Output
unfolding widths
returns-in_ok-literal-in-Output c =
    looked c.args.text.now (Output c.in_ok-literal-in-Output.literal) (c.in_ok-literal-in-Output.ensures _ (rw c.in-Output.is at c.in_ok-kind_of.ensures) refl) (omega arith)

pub returns-in_err-step-in-Resolve : goal.returns-in_err-step-in-Resolve
unfolding widths
returns-in_err-step-in-Resolve c =
    rw c.from_residual-in_err-step-in-Resolve.ensures (c.in_err-step-in-Resolve.ensures _ (rw c.in-Resolve.is at c.in_ok-kind_of.ensures) refl)

pub returns-in_ok-step-in-Resolve : goal.returns-in_ok-step-in-Resolve
unfolding widths
returns-in_ok-step-in-Resolve c =
    looked c.args.text.now (Resolve c.in_ok-step-in-Resolve.step) (c.in_ok-step-in-Resolve.ensures _ (rw c.in-Resolve.is at c.in_ok-kind_of.ensures) refl) (omega arith)

pub returns-in_err-x-in-Extend : goal.returns-in_err-x-in-Extend
returns-in_err-x-in-Extend c =
    rw c.from_residual-in_err-x-in-Extend.ensures (c.in_err-x-in-Extend.ensures _ (rw c.in-Extend.is at c.in_ok-kind_of.ensures) (operands_widths true c.in-Extend.op))

pub returns-in_ok-x-in-Extend : goal.returns-in_ok-x-in-Extend
returns-in_ok-x-in-Extend c =
    looked c.args.text.now (Extend (record { op = c.in-Extend.op; x = c.in_ok-x-in-Extend.x; y = c.in_ok-x-in-Extend.y })) (c.in_ok-x-in-Extend.ensures _ (rw c.in-Extend.is at c.in_ok-kind_of.ensures) (operands_widths true c.in-Extend.op)) (omega arith)
