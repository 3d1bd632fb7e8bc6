-- The buffer is cleared first, so that both refusals leave zeros and a written line has zeros behind it; the ways of writing are in
-- `WriteLaws`.
use mathlib.Core.Path.{◌≡◌, refl, sym, ap, ◌∙◌}
use native.Mathlib.Nat.{zero-add}
use native.Mathlib.Omega.{arith}
use Prim.Native.Nat.{ℕ}
use lib.ListN.{length, length-replicate}
use Rattle.model.specs.Answers.Answer.{refused}
use Rattle.model.specs.Frames.{write_frame, written_frame}
use Rattle.frame.specs.Frames.{frame_of}
use Rattle.clearing.proofs.ClearLaws.{cleared}
use Rattle.frame.proofs.WriteLaws.{write_unfit, write_short, write_done}
use Rattle.frame.proofs.write_frame.Goals as goal
use Rattle.frame.proofs.write_frame.Goals.{then-not-line_number_fits-via-then-not-line_number_fits, then-not-line_number_fits-via-else-not-line_number_fits+then-out-line_len}

pub returns-then-not-line_number_fits : goal.returns-then-not-line_number_fits
returns-then-not-line_number_fits c =
    let a = c.args in
    let zeroed = cleared a.out.now _ _ refl c.clear.ensures in
    let Refuses : Type 0 = (refused 16 0 ≡ write_frame (frame_of a.frame) (length a.out.now)) × (c.clear.new.numbers ≡ written_frame (frame_of a.frame) (length a.out.now)) in
    let both : Refuses = elim c.then-not-line_number_fits.branch [
      | then-not-line_number_fits-via-then-not-line_number_fits w ↦ write_unfit (frame_of a.frame) (length a.out.now) (sym c.line_number_fits.ensures ∙ w.if-not-line_number_fits.true) zeroed
      | then-not-line_number_fits-via-else-not-line_number_fits+then-out-line_len w ↦ write_short (frame_of a.frame) (length a.out.now) (omega (arith, w.line_len.ensures, w.if-out-line_len.true, ap length zeroed, length-replicate {A = ℕ} (length a.out.now) 0)) zeroed
    ] in
    record { replies = rw c.at.ensures both.0; leaves = both.1 }

pub returns : goal.returns
returns c =
    let a = c.args in
    let zeroed = cleared a.out.now _ _ refl c.clear.ensures in
    let w = c.write_line in
    let both = write_done (frame_of a.frame) (length a.out.now)
    (sym c.line_number_fits.ensures ∙ c.if-not-line_number_fits.false)
    (omega (arith, c.line_len.ensures, ap length zeroed, length-replicate {A = ℕ} (length a.out.now) 0))
    (w.ensures.0 ∙ zero-add _)
    (rw zeroed at w.ensures.1) in record { replies = both.0; leaves = both.1 }
