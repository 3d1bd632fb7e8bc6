-- Where LF stands elsewhere, or a field is not all digits, the line has another length than its kind; else it has these fields (`line_says`).
use mathlib.Core.Path.{refl}
use mathlib.Core.List.{[], ◌∷◌}
use Rattle.std.specs.Prelude.{Some, None}
use Rattle.model.specs.Frames.{total, two_bytes}
use Rattle.frame.proofs.FieldLaws.{unfed, line_says}
use Rattle.frame.proofs.read.resolve_of.Goals as goal

pub returns-then-not-feeds : goal.returns-then-not-feeds
unfolding total
returns-then-not-feeds c = unfed c.args.text.now (two_bytes ∷ two_bytes ∷ two_bytes ∷ []) c.feeds.ensures refl c.if-not-feeds.true

pub returns-in_err-first : goal.returns-in_err-first
unfolding total
returns-in_err-first c =
    let a = c.args in
    rw c.from_residual.ensures
    (line_says a.text.now (two_bytes ∷ two_bytes ∷ two_bytes ∷ []) c.feeds.ensures refl c.if-not-feeds.false refl None (rw (← c.word_at.ensures, c.in_err-first.was)))

pub returns-in_err-second : goal.returns-in_err-second
unfolding total
returns-in_err-second c =
    let a = c.args in
    rw c.from_residual-in_err-second.ensures
    (line_says a.text.now (two_bytes ∷ two_bytes ∷ two_bytes ∷ []) c.feeds.ensures refl c.if-not-feeds.false refl None (rw (← c.word_at.ensures, c.in_ok-first.was, ← c.word_at-2.ensures, c.in_err-second.was)))

pub returns-in_err-variable : goal.returns-in_err-variable
unfolding total
returns-in_err-variable c =
    let a = c.args in
    rw c.from_residual-in_err-variable.ensures
    (line_says a.text.now (two_bytes ∷ two_bytes ∷ two_bytes ∷ []) c.feeds.ensures refl c.if-not-feeds.false refl None (rw (← c.word_at.ensures, c.in_ok-first.was, ← c.word_at-2.ensures, c.in_ok-second.was, ← c.word_at-3.ensures, c.in_err-variable.was)))

pub returns : goal.returns
unfolding total
returns c =
    let a = c.args in
    line_says a.text.now (two_bytes ∷ two_bytes ∷ two_bytes ∷ []) c.feeds.ensures refl c.if-not-feeds.false refl (Some (c.in_ok-first.first ∷ c.in_ok-second.second ∷ c.in_ok-variable.variable ∷ []))
    (rw (← c.word_at.ensures, c.in_ok-first.was, ← c.word_at-2.ensures, c.in_ok-second.was, ← c.word_at-3.ensures, c.in_ok-variable.was))
