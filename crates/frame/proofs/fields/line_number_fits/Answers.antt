-- A report's line is tested; no other frame states one.
use Prim.Native.Nat.{ℕ}
use mathlib.Core.List.{[], ◌∷◌}
use mathlib.Core.Path.{◌≡◌, refl}
use Rattle.model.specs.Frames.{stated_line}
use Rattle.frame.specs.declared.Frame.{Frame}
use Rattle.frame.specs.declared.Frame.TheVariants.{Header, Gate, Output, Resolve, Extend, Report}
use Rattle.frame.specs.Frames.{frame_of}
use Rattle.frame.proofs.OpLaws.{by_gate, by_extend}
use Rattle.frame.proofs.fields.line_number_fits.Goals as goal

no_line : (f : Frame) → ((refusal line steps clauses : ℕ) → f ≡ Report refusal line steps clauses → ⊥) → stated_line (frame_of f) ≡ 0
unfolding stated_line
no_line (Header i g o) n = refl
no_line (Gate g) n = by_gate (λ k. stated_line (record { kind = k; fields = g.x ∷ g.y ∷ [] }) ≡ 0) refl refl g.op
no_line (Output l) n = refl
no_line (Resolve s) n = refl
no_line (Extend g) n = by_extend (λ k. stated_line (record { kind = k; fields = g.x ∷ g.y ∷ [] }) ≡ 0) refl refl g.op
no_line (Report r l s c) n = absurd (n r l s c refl)

pub returns-in_default : goal.returns-in_default
returns-in_default c = rw (no_line c.args.frame c.in_default.not-Report) refl

pub returns : goal.returns
unfolding stated_line
returns c = rw c.in-Report.is
