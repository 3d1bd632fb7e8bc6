-- Each return knows which fields are within their digits; the first that is not makes the numbers unfit (`NumberLaws`).
use mathlib.Core.Path.{refl}
use mathlib.Core.List.{[], ◌∷◌}
use native.Mathlib.Omega.{arith}
use Rattle.std.proofs.lemmas.Result.{err_from_is_err_and}
use Rattle.model.specs.Frames.{one_byte, two_bytes, widths, header_kind}
use Rattle.cec_abi.specs.Calls.{limits, fit}
use Rattle.cec_abi.proofs.NumberLaws.{fits, misfits, framed, unfit}
use Rattle.cec_abi.proofs.numbers.header_from.Goals as goal

pub returns-in_err-inputs : goal.returns-in_err-inputs
unfolding limits widths fit
returns-in_err-inputs c =
    let a = c.args in
    let m = misfits one_byte a.inputs c.in_err-inputs.ensures (omega arith) in
    let p = err_from_is_err_and c.from_residual.result c.from_residual.ensures.1 in
    rw (p.1, p.2, m.0) (unfit header_kind (a.inputs ∷ a.gates ∷ a.outputs ∷ []) refl (rw (m.1)))

pub returns-in_err-gates : goal.returns-in_err-gates
unfolding limits widths fit
returns-in_err-gates c =
    let a = c.args in
    let s0 = fits one_byte a.inputs c.in_ok-inputs.ensures (omega arith) in
    let m = misfits two_bytes a.gates c.in_err-gates.ensures (omega arith) in
    let p = err_from_is_err_and c.from_residual-in_err-gates.result c.from_residual-in_err-gates.ensures.1 in
    rw (p.1, p.2, m.0) (unfit header_kind (a.inputs ∷ a.gates ∷ a.outputs ∷ []) refl (rw (s0.1, m.1)))

pub returns-in_err-outputs : goal.returns-in_err-outputs
unfolding limits widths fit
returns-in_err-outputs c =
    let a = c.args in
    let s0 = fits one_byte a.inputs c.in_ok-inputs.ensures (omega arith) in
    let s1 = fits two_bytes a.gates c.in_ok-gates.ensures (omega arith) in
    let m = misfits one_byte a.outputs c.in_err-outputs.ensures (omega arith) in
    let p = err_from_is_err_and c.from_residual-in_err-outputs.result c.from_residual-in_err-outputs.ensures.1 in
    rw (p.1, p.2, m.0) (unfit header_kind (a.inputs ∷ a.gates ∷ a.outputs ∷ []) refl (rw (s0.1, s1.1, m.1)))

pub returns : goal.returns
unfolding limits widths fit
returns c =
    let a = c.args in
    let s0 = fits one_byte a.inputs c.in_ok-inputs.ensures (omega arith) in
    let s1 = fits two_bytes a.gates c.in_ok-gates.ensures (omega arith) in
    let s2 = fits one_byte a.outputs c.in_ok-outputs.ensures (omega arith) in
    rw (s0.0, s1.0, s2.0) (framed header_kind (a.inputs ∷ a.gates ∷ a.outputs ∷ []) refl refl (rw (s0.1, s1.1, s2.1)))
