-- Each return knows which fields are within their digits; the first that is not makes the numbers unfit (`NumberLaws`).
use mathlib.Core.Path.{refl}
use mathlib.Core.List.{[], ◌∷◌}
use native.Mathlib.Omega.{arith}
use Rattle.std.proofs.lemmas.Result.{err_from_is_err_and}
use Rattle.model.specs.Frames.{two_bytes, widths, resolve_kind}
use Rattle.cec_abi.specs.Calls.{limits, fit}
use Rattle.cec_abi.proofs.NumberLaws.{fits, misfits, framed, unfit}
use Rattle.cec_abi.proofs.numbers.resolve_from.Goals as goal

pub returns-in_err-first : goal.returns-in_err-first
unfolding limits widths fit
returns-in_err-first c =
    let a = c.args in
    let m = misfits two_bytes a.first c.in_err-first.ensures (omega arith) in
    let p = err_from_is_err_and c.from_residual.result c.from_residual.ensures.1 in
    rw (p.1, p.2, m.0) (unfit resolve_kind (a.first ∷ a.second ∷ a.variable ∷ []) refl (rw (m.1)))

pub returns-in_err-second : goal.returns-in_err-second
unfolding limits widths fit
returns-in_err-second c =
    let a = c.args in
    let s0 = fits two_bytes a.first c.in_ok-first.ensures (omega arith) in
    let m = misfits two_bytes a.second c.in_err-second.ensures (omega arith) in
    let p = err_from_is_err_and c.from_residual-in_err-second.result c.from_residual-in_err-second.ensures.1 in
    rw (p.1, p.2, m.0) (unfit resolve_kind (a.first ∷ a.second ∷ a.variable ∷ []) refl (rw (s0.1, m.1)))

pub returns-in_err-variable : goal.returns-in_err-variable
unfolding limits widths fit
returns-in_err-variable c =
    let a = c.args in
    let s0 = fits two_bytes a.first c.in_ok-first.ensures (omega arith) in
    let s1 = fits two_bytes a.second c.in_ok-second.ensures (omega arith) in
    let m = misfits two_bytes a.variable c.in_err-variable.ensures (omega arith) in
    let p = err_from_is_err_and c.from_residual-in_err-variable.result c.from_residual-in_err-variable.ensures.1 in
    rw (p.1, p.2, m.0) (unfit resolve_kind (a.first ∷ a.second ∷ a.variable ∷ []) refl (rw (s0.1, s1.1, m.1)))

pub returns : goal.returns
unfolding limits widths fit
returns c =
    let a = c.args in
    let s0 = fits two_bytes a.first c.in_ok-first.ensures (omega arith) in
    let s1 = fits two_bytes a.second c.in_ok-second.ensures (omega arith) in
    let s2 = fits two_bytes a.variable c.in_ok-variable.ensures (omega arith) in
    rw (s0.0, s1.0, s2.0) (framed resolve_kind (a.first ∷ a.second ∷ a.variable ∷ []) refl refl (rw (s0.1, s1.1, s2.1)))
