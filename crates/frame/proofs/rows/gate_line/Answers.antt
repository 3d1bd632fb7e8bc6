-- There is no gate, its operands are refused (`RowLaws`), or they are read by its kind.
use mathlib.Core.Bool.{false}
use Rattle.frame.specs.Rows.{gate_frame}
use Rattle.frame.proofs.WriteLaws.{operands_widths}
use Rattle.frame.proofs.RowLaws.{lacks_refused}
use Rattle.frame.proofs.rows.gate_line.Goals as goal

pub returns-in_err-op : goal.returns-in_err-op
returns-in_err-op c = rw c.from_residual.ensures c.in_err-op.ensures

pub returns-in_err-x : goal.returns-in_err-x
returns-in_err-x c =
    let refused = c.in_err-x.ensures _ c.in_ok-op.ensures (operands_widths false c.in_ok-op.op) in
    rw c.from_residual-in_err-x.ensures (λ g. lacks_refused c.args.text.now refused (gate_frame g))

pub returns : goal.returns
returns c = c.in_ok-x.ensures _ c.in_ok-op.ensures (operands_widths false c.in_ok-op.op)
