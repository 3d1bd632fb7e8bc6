-- Each return knows which fields are within their digits; the first that is not makes the numbers unfit (`NumberLaws`).
use mathlib.Core.Path.{refl}
use mathlib.Core.List.{[], ◌∷◌}
use native.Mathlib.Omega.{arith}
use Rattle.std.proofs.lemmas.Result.{err_from_is_err_and}
use Rattle.model.specs.Frames.{two_bytes}
use Rattle.frame.specs.Kinds.{operands_kind}
use Rattle.cec_abi.specs.Calls.{fit}
use Rattle.cec_abi.proofs.NumberLaws.{fits, misfits, operands_limits, framed, unfit}
use Rattle.cec_abi.proofs.numbers.operands.Goals as goal

pub returns-in_err-x : goal.returns-in_err-x
unfolding fit
returns-in_err-x c extends op =
    let a = c.args in
    let m = misfits two_bytes a.x c.in_err-x.ensures (omega arith) in
    let p = err_from_is_err_and c.from_residual.result c.from_residual.ensures.1 in
    rw (p.1, p.2, m.0) (unfit (operands_kind extends op) (a.x ∷ a.y ∷ []) (operands_limits extends op) (rw (m.1)))

pub returns-in_err-y : goal.returns-in_err-y
unfolding fit
returns-in_err-y c extends op =
    let a = c.args in
    let s0 = fits two_bytes a.x c.in_ok-x.ensures (omega arith) in
    let m = misfits two_bytes a.y c.in_err-y.ensures (omega arith) in
    let p = err_from_is_err_and c.from_residual-in_err-y.result c.from_residual-in_err-y.ensures.1 in
    rw (p.1, p.2, m.0) (unfit (operands_kind extends op) (a.x ∷ a.y ∷ []) (operands_limits extends op) (rw (s0.1, m.1)))

pub returns : goal.returns
unfolding fit
returns c extends op =
    let a = c.args in
    let s0 = fits two_bytes a.x c.in_ok-x.ensures (omega arith) in
    let s1 = fits two_bytes a.y c.in_ok-y.ensures (omega arith) in
    rw (s0.0, s1.0) (framed (operands_kind extends op) (a.x ∷ a.y ∷ []) (operands_limits extends op) refl (rw (s0.1, s1.1)))
