-- Every frame's line has its place, and so what is printed is the line, with zeros behind it.
use Prim.Native.Nat.{ℕ, ◌-◌, ◌≤◌}
use mathlib.Core.Path.{◌≡◌, refl, sym, ◌∙◌}
use mathlib.Core.List.{List}
use mathlib.Core.Bool.{true, false}
use native.Mathlib.Omega.{arith}
use lib.ListN.{length, take}
use lib.Seq.{take_at}
use borrow.Author.Tests.{le-leb}
use Rattle.model.specs.Limits.{highest_line}
use Rattle.model.specs.Answers.{guard, filled, zeros}
use Rattle.model.specs.Frames.{line_of, widths, total, stated_line, write_frame, written_frame}
use Rattle.frame.specs.declared.Frame.{Frame}
use Rattle.frame.specs.declared.Frame.TheVariants.{Header, Gate, Output, Resolve, Extend, Report}
use Rattle.frame.specs.Frames.{frame_of}
use Rattle.frame.proofs.WriteLaws.{operands_widths, line_by_widths}
use Rattle.printed.specs.Printing.{line_room, Whole}

-- a report's line is the longest
short : (f : Frame) → length (line_of (frame_of f)) ≤ line_room
unfolding widths total
short (Header i g o) = omega (arith, line_by_widths (frame_of (Header i g o)) _ refl refl)
short (Gate g) = omega (arith, line_by_widths (frame_of (Gate g)) _ (sym (operands_widths false g.op)) refl)
short (Output l) = omega (arith, line_by_widths (frame_of (Output l)) _ refl refl)
short (Resolve s) = omega (arith, line_by_widths (frame_of (Resolve s)) _ refl refl)
short (Extend g) = omega (arith, line_by_widths (frame_of (Extend g)) _ (sym (operands_widths true g.op)) refl)
short (Report r n s c) = omega (arith, line_by_widths (frame_of (Report r n s c)) _ refl refl)

-- bytes that have room, at the start of a line with zeros behind them
pub filled_line : (bytes : List ℕ) {line : List ℕ} {n : ℕ} → length bytes ≤ line_room → line ≡ filled line_room bytes → n ≡ length bytes → Whole line n × (take n line ≡ bytes)
filled_line bytes {line} {n} h e l =
    let first : take n line ≡ bytes = rw e (take_at bytes (zeros (line_room - length bytes)) n (sym l)) in
    (record { room = omega (arith, h, l); behind = rw first e }, first)

-- so a frame is written
pub frame_printed : (f : Frame) → stated_line (frame_of f) ≤ highest_line → (line : List ℕ) (n : ℕ) → line ≡ written_frame (frame_of f) line_room → n ≡ length (line_of (frame_of f))
    → Whole line n × (take n line ≡ line_of (frame_of f))
unfolding write_frame guard
frame_printed f h line n e l = filled_line (line_of (frame_of f)) (short f) (e ∙ rw (le-leb _ _ h, le-leb _ _ (short f))) l
