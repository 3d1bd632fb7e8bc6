-- Each return knows which fields are within their digits; the first that is not makes the numbers unfit (`NumberLaws`).
use mathlib.Core.Path.{refl}
use mathlib.Core.List.{[], ◌∷◌}
use native.Mathlib.Omega.{arith}
use Rattle.std.proofs.lemmas.Result.{err_from_is_err_and}
use Rattle.model.specs.Frames.{one_byte, two_bytes, widths, report_kind}
use Rattle.cec_abi.specs.Calls.{limits, fit}
use Rattle.cec_abi.proofs.NumberLaws.{fits, misfits, in_any, framed, unfit}
use Rattle.cec_abi.proofs.numbers.report_from.Goals as goal

pub returns-in_err-refusal : goal.returns-in_err-refusal
unfolding limits widths fit
returns-in_err-refusal c =
    let a = c.args in
    let m = misfits one_byte a.refusal c.in_err-refusal.ensures (omega arith) in
    let p = err_from_is_err_and c.from_residual.result c.from_residual.ensures.1 in
    rw (p.1, p.2, m.0) (unfit report_kind (a.refusal ∷ a.line ∷ a.steps ∷ a.clauses ∷ []) refl (rw (m.1)))

pub returns-in_err-steps : goal.returns-in_err-steps
unfolding limits widths fit
returns-in_err-steps c =
    let a = c.args in
    let s0 = fits one_byte a.refusal c.in_ok-refusal.ensures (omega arith) in
    let s1 = in_any a.line (omega arith) in
    let m = misfits two_bytes a.steps c.in_err-steps.ensures (omega arith) in
    let p = err_from_is_err_and c.from_residual-in_err-steps.result c.from_residual-in_err-steps.ensures.1 in
    rw (p.1, p.2, m.0) (unfit report_kind (a.refusal ∷ a.line ∷ a.steps ∷ a.clauses ∷ []) refl (rw (s0.1, s1, m.1)))

pub returns-in_err-clauses : goal.returns-in_err-clauses
unfolding limits widths fit
returns-in_err-clauses c =
    let a = c.args in
    let s0 = fits one_byte a.refusal c.in_ok-refusal.ensures (omega arith) in
    let s1 = in_any a.line (omega arith) in
    let s2 = fits two_bytes a.steps c.in_ok-steps.ensures (omega arith) in
    let m = misfits two_bytes a.clauses c.in_err-clauses.ensures (omega arith) in
    let p = err_from_is_err_and c.from_residual-in_err-clauses.result c.from_residual-in_err-clauses.ensures.1 in
    rw (p.1, p.2, m.0) (unfit report_kind (a.refusal ∷ a.line ∷ a.steps ∷ a.clauses ∷ []) refl (rw (s0.1, s1, s2.1, m.1)))

pub returns : goal.returns
unfolding limits widths fit
returns c =
    let a = c.args in
    let s0 = fits one_byte a.refusal c.in_ok-refusal.ensures (omega arith) in
    let s1 = in_any a.line (omega arith) in
    let s2 = fits two_bytes a.steps c.in_ok-steps.ensures (omega arith) in
    let s3 = fits two_bytes a.clauses c.in_ok-clauses.ensures (omega arith) in
    rw (s0.0, s2.0, s3.0) (framed report_kind (a.refusal ∷ a.line ∷ a.steps ∷ a.clauses ∷ []) refl refl (rw (s0.1, s1, s2.1, s3.1)))
