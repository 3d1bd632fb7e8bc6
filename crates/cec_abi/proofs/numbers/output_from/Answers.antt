-- Each return knows which fields are within their digits; the first that is not makes the numbers unfit (`NumberLaws`).
use mathlib.Core.Path.{refl}
use mathlib.Core.List.{[], ◌∷◌}
use native.Mathlib.Omega.{arith}
use Rattle.std.proofs.lemmas.Result.{err_from_is_err_and}
use Rattle.model.specs.Frames.{two_bytes, widths, output_kind}
use Rattle.cec_abi.specs.Calls.{limits, fit}
use Rattle.cec_abi.proofs.NumberLaws.{fits, misfits, framed, unfit}
use Rattle.cec_abi.proofs.numbers.output_from.Goals as goal

pub returns-in_err-literal : goal.returns-in_err-literal
unfolding limits widths fit
returns-in_err-literal c =
    let a = c.args in
    let m = misfits two_bytes a.literal c.in_err-literal.ensures (omega arith) in
    let p = err_from_is_err_and c.from_residual.result c.from_residual.ensures.1 in
    rw (p.1, p.2, m.0) (unfit output_kind (a.literal ∷ []) refl (rw (m.1)))

pub returns : goal.returns
unfolding limits widths fit
returns c =
    let a = c.args in
    let s0 = fits two_bytes a.literal c.in_ok-literal.ensures (omega arith) in
    rw (s0.0) (framed output_kind (a.literal ∷ []) refl refl (rw (s0.1)))
