-- Each arm knows its case of the enum, and a line's length is the total of its fields' widths (`line_by_widths`).
use mathlib.Core.Bool.{true, false}
use mathlib.Core.Path.{refl, sym}
use Rattle.model.specs.Frames.{widths, total}
use Rattle.frame.proofs.WriteLaws.{operands_widths, line_by_widths}
use Rattle.frame.proofs.fields.line_len.Goals as goal

pub returns-in-Header : goal.returns-in-Header
unfolding widths total
returns-in-Header c = rw c.in-Header.is (sym (line_by_widths _ _ refl refl))

pub returns-in-Gate : goal.returns-in-Gate
unfolding widths total
returns-in-Gate c = rw c.in-Gate.is (sym (line_by_widths _ _ (sym (operands_widths false c.in-Gate.field-0.op)) refl))

pub returns-in-Output : goal.returns-in-Output
unfolding widths total
returns-in-Output c = rw c.in-Output.is (sym (line_by_widths _ _ refl refl))

pub returns-in-Resolve : goal.returns-in-Resolve
unfolding widths total
returns-in-Resolve c = rw c.in-Resolve.is (sym (line_by_widths _ _ refl refl))

pub returns-in-Extend : goal.returns-in-Extend
unfolding widths total
returns-in-Extend c = rw c.in-Extend.is (sym (line_by_widths _ _ (sym (operands_widths true c.in-Extend.field-0.op)) refl))

pub returns-in-Report : goal.returns-in-Report
unfolding widths total
returns-in-Report c = rw c.in-Report.is (sym (line_by_widths _ _ refl refl))
