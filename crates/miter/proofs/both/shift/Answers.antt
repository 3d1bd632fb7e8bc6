-- Inputs stay, gates go behind the left list's (`MiterLaws`).
use native.Mathlib.Omega.{arith}
use Rattle.miter.proofs.MiterLaws.{shift_input, shift_gate_lem}
use Rattle.miter.proofs.both.shift.Goals as goal

pub returns-then-variable-inputs : goal.returns-then-variable-inputs
returns-then-variable-inputs c = let a = c.args in shift_input a.inputs a.left a.l (omega arith)

pub returns : goal.returns
returns c = let a = c.args in shift_gate_lem a.inputs a.left a.l (omega arith)
