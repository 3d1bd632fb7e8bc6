-- Each arm knows its case of the enum; the fields are in turn those of the table.
use mathlib.Core.Bool.{true, false}
use mathlib.Core.Path.{refl}
use native.Mathlib.Omega.{arith}
use Rattle.model.specs.Frames.{widths}
use Rattle.frame.proofs.WriteLaws.{operands_widths}
use Rattle.frame.proofs.fields.fields_of.Goals as goal

pub returns-in-Header : goal.returns-in-Header
unfolding widths
returns-in-Header c =
    rw (c.in-Header.is, c.into.ensures, c.into-in-Header.ensures, c.into-in-Header-2.ensures, c.into-in-Header-3.ensures)
    (record { kind = refl; values = refl; widths = refl; long = refl; room = omega arith })

pub returns-in-Gate : goal.returns-in-Gate
unfolding widths
returns-in-Gate c =
    let e = operands_widths false c.in-Gate.gate.op in
    rw (c.in-Gate.is, c.into-in-Gate.ensures, c.into-in-Gate-2.ensures, c.into-in-Gate-3.ensures)
    (record { kind = refl; values = refl; widths = rw e; long = rw e; room = omega arith })

pub returns-in-Output : goal.returns-in-Output
unfolding widths
returns-in-Output c = rw (c.in-Output.is, c.into-in-Output.ensures, c.into-in-Output-2.ensures) (record { kind = refl; values = refl; widths = refl; long = refl; room = omega arith })

pub returns-in-Resolve : goal.returns-in-Resolve
unfolding widths
returns-in-Resolve c =
    rw (c.in-Resolve.is, c.into-in-Resolve.ensures, c.into-in-Resolve-2.ensures, c.into-in-Resolve-3.ensures, c.into-in-Resolve-4.ensures)
    (record { kind = refl; values = refl; widths = refl; long = refl; room = omega arith })

pub returns-in-Extend : goal.returns-in-Extend
unfolding widths
returns-in-Extend c =
    let e = operands_widths true c.in-Extend.gate.op in
    rw (c.in-Extend.is, c.into-in-Extend.ensures, c.into-in-Extend-2.ensures, c.into-in-Extend-3.ensures)
    (record { kind = refl; values = refl; widths = rw e; long = rw e; room = omega arith })

pub returns-in-Report : goal.returns-in-Report
unfolding widths
returns-in-Report c =
    rw (c.in-Report.is, c.into-in-Report.ensures, c.into-in-Report-2.ensures, c.three_bytes.ensures, c.into-in-Report-3.ensures, c.into-in-Report-4.ensures)
    (record { kind = refl; values = refl; widths = refl; long = refl; room = omega arith })
