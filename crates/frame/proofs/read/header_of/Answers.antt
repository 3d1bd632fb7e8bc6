-- Where LF stands elsewhere, or a field is not all digits, the line has another length than its kind; else it has these fields (`line_says`).
use mathlib.Core.Path.{refl}
use mathlib.Core.List.{[], ◌∷◌}
use native.Mathlib.Omega.{arith}
use Rattle.std.specs.Prelude.{Some, None}
use Rattle.model.specs.Frames.{widths, total, one_byte, two_bytes}
use Rattle.frame.proofs.FieldLaws.{looked, unfed, line_says}
use Rattle.frame.specs.declared.Frame.TheVariants.{Header}
use Rattle.frame.proofs.read.header_of.Goals as goal

pub returns-then-not-feeds : goal.returns-then-not-feeds
unfolding widths total
returns-then-not-feeds c = unfed c.args.text.now (one_byte ∷ two_bytes ∷ one_byte ∷ []) c.feeds.ensures refl c.if-not-feeds.true _ c.requires refl

pub returns-in_err-inputs : goal.returns-in_err-inputs
unfolding widths total
returns-in_err-inputs c =
    let a = c.args in
    rw c.from_residual.ensures
    (line_says a.text.now (one_byte ∷ two_bytes ∷ one_byte ∷ []) c.feeds.ensures refl c.if-not-feeds.false refl None (rw (← c.byte_at.ensures, c.in_err-inputs.was)) _ c.requires refl)

pub returns-in_err-gates : goal.returns-in_err-gates
unfolding widths total
returns-in_err-gates c =
    let a = c.args in
    rw c.from_residual-in_err-gates.ensures
    (line_says a.text.now (one_byte ∷ two_bytes ∷ one_byte ∷ []) c.feeds.ensures refl c.if-not-feeds.false refl None (rw (← c.byte_at.ensures, c.in_ok-inputs.was, ← c.word_at.ensures, c.in_err-gates.was)) _ c.requires refl)

pub returns-in_err-outputs : goal.returns-in_err-outputs
unfolding widths total
returns-in_err-outputs c =
    let a = c.args in
    rw c.from_residual-in_err-outputs.ensures
    (line_says a.text.now (one_byte ∷ two_bytes ∷ one_byte ∷ []) c.feeds.ensures refl c.if-not-feeds.false refl None (rw (← c.byte_at.ensures, c.in_ok-inputs.was, ← c.word_at.ensures, c.in_ok-gates.was, ← c.byte_at-2.ensures, c.in_err-outputs.was)) _ c.requires refl)

pub returns : goal.returns
unfolding widths total
returns c =
    let a = c.args in
    looked a.text.now (Header c.in_ok-inputs.inputs c.in_ok-gates.gates c.in_ok-outputs.outputs)
    (line_says a.text.now (one_byte ∷ two_bytes ∷ one_byte ∷ []) c.feeds.ensures refl c.if-not-feeds.false refl (Some (c.in_ok-inputs.inputs ∷ c.in_ok-gates.gates ∷ c.in_ok-outputs.outputs ∷ []))
    (rw (← c.byte_at.ensures, c.in_ok-inputs.was, ← c.word_at.ensures, c.in_ok-gates.was, ← c.byte_at-2.ensures, c.in_ok-outputs.was)) _ c.requires refl)
    (omega arith)
