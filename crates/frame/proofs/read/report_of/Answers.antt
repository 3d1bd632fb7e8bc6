-- Where LF stands elsewhere, or a field is not all digits, the line has another length than its kind; else it has these fields (`line_says`).
use mathlib.Core.Path.{refl}
use mathlib.Core.List.{[], ◌∷◌}
use native.Mathlib.Omega.{arith}
use Rattle.std.specs.Prelude.{Some, None}
use Rattle.model.specs.Frames.{widths, total, one_byte, two_bytes, three_bytes}
use Rattle.frame.proofs.FieldLaws.{looked, unfed, line_says}
use Rattle.frame.specs.declared.Frame.TheVariants.{Report}
use Rattle.frame.proofs.read.report_of.Goals as goal

pub returns-then-not-feeds : goal.returns-then-not-feeds
unfolding widths total
returns-then-not-feeds c = unfed c.args.text.now (one_byte ∷ three_bytes ∷ two_bytes ∷ two_bytes ∷ []) c.feeds.ensures refl c.if-not-feeds.true _ c.requires refl

pub returns-in_err-refusal : goal.returns-in_err-refusal
unfolding widths total
returns-in_err-refusal c =
    let a = c.args in
    rw c.from_residual.ensures
    (line_says a.text.now (one_byte ∷ three_bytes ∷ two_bytes ∷ two_bytes ∷ []) c.feeds.ensures refl c.if-not-feeds.false refl None (rw (← c.byte_at.ensures, c.in_err-refusal.was)) _ c.requires refl)

pub returns-in_err-line : goal.returns-in_err-line
unfolding widths total
returns-in_err-line c =
    let a = c.args in
    rw c.from_residual-in_err-line.ensures
    (line_says a.text.now (one_byte ∷ three_bytes ∷ two_bytes ∷ two_bytes ∷ []) c.feeds.ensures refl c.if-not-feeds.false refl None (rw (← c.byte_at.ensures, c.in_ok-refusal.was, ← c.triple_at.ensures, c.in_err-line.was)) _ c.requires refl)

pub returns-in_err-steps : goal.returns-in_err-steps
unfolding widths total
returns-in_err-steps c =
    let a = c.args in
    rw c.from_residual-in_err-steps.ensures
    (line_says a.text.now (one_byte ∷ three_bytes ∷ two_bytes ∷ two_bytes ∷ []) c.feeds.ensures refl c.if-not-feeds.false refl None (rw (← c.byte_at.ensures, c.in_ok-refusal.was, ← c.triple_at.ensures, c.in_ok-line.was, ← c.word_at.ensures, c.in_err-steps.was)) _ c.requires refl)

pub returns-in_err-clauses : goal.returns-in_err-clauses
unfolding widths total
returns-in_err-clauses c =
    let a = c.args in
    rw c.from_residual-in_err-clauses.ensures
    (line_says a.text.now (one_byte ∷ three_bytes ∷ two_bytes ∷ two_bytes ∷ []) c.feeds.ensures refl c.if-not-feeds.false refl None (rw (← c.byte_at.ensures, c.in_ok-refusal.was, ← c.triple_at.ensures, c.in_ok-line.was, ← c.word_at.ensures, c.in_ok-steps.was, ← c.word_at-2.ensures, c.in_err-clauses.was)) _ c.requires refl)

pub returns : goal.returns
unfolding widths total
returns c =
    let a = c.args in
    looked a.text.now (Report c.in_ok-refusal.refusal c.in_ok-line.field-0 c.in_ok-steps.steps c.in_ok-clauses.clauses)
    (line_says a.text.now (one_byte ∷ three_bytes ∷ two_bytes ∷ two_bytes ∷ []) c.feeds.ensures refl c.if-not-feeds.false refl (Some (c.in_ok-refusal.refusal ∷ c.in_ok-line.field-0 ∷ c.in_ok-steps.steps ∷ c.in_ok-clauses.clauses ∷ []))
    (rw (← c.byte_at.ensures, c.in_ok-refusal.was, ← c.triple_at.ensures, c.in_ok-line.was, ← c.word_at.ensures, c.in_ok-steps.was, ← c.word_at-2.ensures, c.in_ok-clauses.was)) _ c.requires refl)
    (omega arith)
