-- An OR is an AND of complements (`MiterLaws`).
use native.Mathlib.Omega.{arith}
use Rattle.miter.proofs.MiterLaws.{w_low, w_defines}
use Rattle.miter.proofs.variables.w_gate.Goals as goal

pub overflow_cast-w_variable : goal.overflow_cast-w_variable
overflow_cast-w_variable c = let a = c.args in omega (arith, c.w_variable.ensures, w_low a.z a.w a.k (omega arith))

pub negative-requires-2 : goal.negative-requires-2
negative-requires-2 c = let a = c.args in omega (arith, c.w_variable.ensures, w_low a.z a.w a.k (omega arith))

pub returns : goal.returns
returns c =
    let a = c.args in
    w_defines a.z a.w a.k _ _ _ (omega arith) (omega arith) c.negative.ensures (rw c.w_variable.ensures at c.negative-2.ensures) c.negative-3.ensures
