-- A lone line, by what stands first in its text and then behind that: the definition goes by lines, the reader by reading a line twice.
use Prim.Native.Nat.{ℕ, suc}
use mathlib.Core.Path.{◌≡◌, refl, sym, ap, ◌∙◌}
use mathlib.Core.List.{List, [], ◌∷◌}
use Rattle.model.specs.Answers.{Answer, bind}
use Rattle.model.specs.Answers.Answer.{ok, refused}
use Rattle.model.specs.Lines.{Line, lines}
use Rattle.model.specs.Frames.{Frame, frame_at, end_at, lone_of, lone_line}
use Rattle.std.specs.Prelude.{Option, Some, Result, Ok}
use Rattle.refusal.specs.declared.Refusal.{Refusal}
use Rattle.frame.specs.declared.cursor.Cursor.{Cursor}
use Rattle.frame.specs.declared.Frame as CodeFrame
use Rattle.frame.specs.Frames.{First, first, first_in, first_of, frame_of}
use Rattle.frame.specs.Frames.First.{none, found, fault}

-- the answer, where this stands behind the frame
abbrev pub end_by : First → ℕ → Frame → Answer Frame
end_by none line f = ok f
end_by (found g ls n) line f = refused 3 line
end_by (fault number place) line f = refused number place

-- the answer, where this stands first
abbrev pub lone_by : First → Answer Frame
lone_by none = refused 2 1
lone_by (found f ls line) = end_by (first ls line) line f
lone_by (fault number place) = refused number place

end_by_lem : (ls : List Line) (line : ℕ) (f : Frame) → bind (end_at ls line) (λ _. ok f) ≡ end_by (first ls line) line f
unfolding end_at first
end_by_lem [] line f = refl
end_by_lem (l ∷ ls) line f = go (frame_at l line)
  where
    go : (a : Answer Frame) → bind (bind a (λ g. refused 3 line)) (λ (u : Unit {0}). ok f) ≡ end_by (first_in a ls (suc line)) line f
    go (ok g) = refl
    go (refused number place) = refl

lone_by_lem : (ls : List Line) → lone_of ls ≡ lone_by (first ls 1)
unfolding lone_of first
lone_by_lem [] = refl
lone_by_lem (l ∷ ls) = go (frame_at l 1)
  where
    go : (a : Answer Frame) → bind a (λ f. bind (end_at ls 2) (λ _. ok f)) ≡ lone_by (first_in a ls 2)
    go (ok f) = end_by_lem ls 2 f
    go (refused number place) = refl

module _ (text : List ℕ) {left : List ℕ} {line : ℕ} (start : (left ≡ text) × (line ≡ 1)) where
  -- by what the reader finds at the start
  pub lone : (r : Result (Option (CodeFrame.Frame × Cursor)) Refusal) → first_of r ≡ first (lines left) line → lone_by (first_of r) ≡ lone_line text
  unfolding lone_line
  lone r e = ap lone_by (rw (start.0, start.1) at e) ∙ sym (lone_by_lem (lines text))

  -- where a frame stands there, by what the reader finds behind it
  pub lone_behind : (f : CodeFrame.Frame) (next : Cursor) (second : Result (Option (CodeFrame.Frame × Cursor)) Refusal)
      → first_of (Ok (Some (f, next))) ≡ first (lines left) line → first_of second ≡ first (lines next.rest.now) next.line
      → end_by (first_of second) next.line (frame_of f) ≡ lone_line text
  lone_behind f next second e e' = ap (λ (x : First). end_by x next.line (frame_of f)) e' ∙ lone (Ok (Some (f, next))) e
