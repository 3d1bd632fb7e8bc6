-- What an answer of the cursor's reader says of the lines: the cases of `first` taken apart, for the readers of lists and proofs.
use Prim.Native.Nat.{ℕ, suc, ◌<◌}
use mathlib.Core.Path.{◌≡◌, refl, sym}
use mathlib.Core.List.{List, [], ◌∷◌}
use native.Mathlib.Omega.{arith}
use lib.ListN.{length, length-drop}
use Rattle.model.specs.Answers.{Answer}
use Rattle.model.specs.Answers.Answer.{ok, refused}
use Rattle.model.specs.Lines.{Line}
use Rattle.model.specs.Frames.{Frame, frame_at}
use Rattle.frame.specs.Frames.{first, first_in, Behind}
use Rattle.frame.specs.Frames.First.{none, found, fault}

-- ---- no two cases are the same

pub none_found : {f : Frame} {ls : List Line} {line : ℕ} → none ≡ found f ls line → ⊥
none_found e = let z : ◌≡◌ {A = ℕ} 0 1 = cc in omega arith

none_fault : {number line : ℕ} → none ≡ fault number line → ⊥
none_fault e = let z : ◌≡◌ {A = ℕ} 0 1 = cc in omega arith

pub found_fault : {f : Frame} {ls : List Line} {line number place : ℕ} → found f ls line ≡ fault number place → ⊥
found_fault e = let z : ◌≡◌ {A = ℕ} 0 1 = cc in omega arith

-- and one has one frame
pub found_same : {f g : Frame} {ls ms : List Line} {i j : ℕ} → found f ls i ≡ found g ms j → f ≡ g
found_same e = cc

-- ---- the cases

-- no line is left
pub first_none : (ls : List Line) (line : ℕ) → none ≡ first ls line → ls ≡ []
unfolding first
first_none [] line e = refl
first_none (l ∷ ls) line e = absurd (go (frame_at l line) e)
  where
    go : (a : Answer Frame) → none ≡ first_in a ls (suc line) → ⊥
    go (ok f) e = none_found e
    go (refused number place) e = none_fault e

-- the first line has this frame; the others, and the number of the next, are these
pub record Framed (ls : List Line) (line : ℕ) (f : Frame) (rest : List Line) (next : ℕ) : Type 0 where
  pub line_is : Line
  pub cut : ls ≡ line_is ∷ rest
  pub frame : frame_at line_is line ≡ ok f
  pub next_is : next ≡ suc line

pub first_found : (ls : List Line) (line : ℕ) {f : Frame} {rest : List Line} {next : ℕ} → found f rest next ≡ first ls line → Framed ls line f rest next
unfolding first
first_found [] line e = absurd (none_found (sym e))
first_found (l ∷ ls) line {f} {rest} {next} e = go (frame_at l line) refl e
  where
    go : (a : Answer Frame) → frame_at l line ≡ a → found f rest next ≡ first_in a ls (suc line) → Framed (l ∷ ls) line f rest next
    go (ok g) r e = record { line_is = l; cut = cc; frame = cc; next_is = cc }
    go (refused number place) r e = absurd (found_fault e)

-- the first line is refused
pub record Faulted (ls : List Line) (line number place : ℕ) : Type 0 where
  pub line_is : Line
  pub rest : List Line
  pub cut : ls ≡ line_is ∷ rest
  pub refusal : frame_at line_is line ≡ refused number place

pub first_fault : (ls : List Line) (line : ℕ) {number place : ℕ} → fault number place ≡ first ls line → Faulted ls line number place
unfolding first
first_fault [] line e = absurd (none_fault (sym e))
first_fault (l ∷ ls) line {number} {place} e = go (frame_at l line) refl e
  where
    go : (a : Answer Frame) → frame_at l line ≡ a → fault number place ≡ first_in a ls (suc line) → Faulted (l ∷ ls) line number place
    go (ok g) r e = absurd (found_fault (sym e))
    go (refused n p) r e = record { line_is = l; rest = ls; cut = refl; refusal = cc }

-- ---- what is left behind some bytes

pub shorter : {text rest : List ℕ} → Behind text rest → length rest < length text
shorter {text} b = rw b.cut (rw length-drop (omega (arith, b.some, b.within)))
