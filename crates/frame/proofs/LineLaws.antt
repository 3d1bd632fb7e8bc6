-- Laws of lines: how the lines of a text begin, by the run of digits at its start, and the four ways in which reading its first line ends.
-- The argument is by induction over the bytes: a digit before a line becomes its first digit, and a line that is faulty stays so.
use Prim.Native.Nat.{ℕ, suc, ◌+◌, ◌<◌, ◌≤◌}
use mathlib.Core.Path.{◌≡◌, refl, sym, ◌∙◌}
use mathlib.Core.List.{List, [], ◌∷◌}
use mathlib.Core.Bool.{Bool, true, false, cond}
use native.Mathlib.Omega.{arith}
use native.Mathlib.Numerals.{one-add}
use lib.ListN.{length, take, drop, get_or}
use lib.Dec.{ltb}
use borrow.Author.Tests.{eq-eqb, ne_eqb, ltb-true, ltb-false}
use Rattle.model.specs.Lines.{Line, is_digit, line_feed, with_byte, prepend, lines}
use Rattle.model.specs.Lines.Line.{digits, faulty}
use Rattle.model.specs.Frames.{decode, frame_at}
use Rattle.digits.specs.Digits.{value_of, values, run}
use Rattle.frame.specs.Frames.{first, first_in}
use Rattle.frame.specs.Frames.First.{none, fault}
use Rattle.frame.specs.Kinds.{Unframed}
use Rattle.digits.proofs.DigitLaws.{digit_not_lf}

-- ---- the first line of a text

-- a digit before lines of which the first is known
lines_digit : (b : ℕ) (s : List ℕ) (l : Line) (ls : List Line) → is_digit b ≡ true → lines s ≡ l ∷ ls → lines (b ∷ s) ≡ with_byte b l ∷ ls
unfolding lines
lines_digit b s l ls e h = rw (digit_not_lf b e, h)

-- nothing but digits: the text ends within the line
lines_open : (s : List ℕ) → 0 < length s → run s ≡ length s → lines s ≡ faulty ∷ []
unfolding lines
lines_open [] h e = absurd (omega arith)
lines_open (b ∷ []) h e = go (is_digit b) refl e
  where
    go : (d : Bool) → is_digit b ≡ d → ◌≡◌ {A = ℕ} (cond d 1 0) 1 → lines (b ∷ []) ≡ faulty ∷ []
    go true i e = rw (digit_not_lf b i)
    go false i e = absurd (omega arith)
lines_open (b ∷ a ∷ s) h e = go (lines_open (a ∷ s) (omega arith)) (is_digit b) refl e
  where
    go : (run (a ∷ s) ≡ suc (length s) → lines (a ∷ s) ≡ faulty ∷ []) → (d : Bool) → is_digit b ≡ d → cond d (1 + run (a ∷ s)) 0 ≡ suc (suc (length s))
        → lines (b ∷ a ∷ s) ≡ faulty ∷ []
    go r true i e = lines_digit b (a ∷ s) faulty [] i (r (omega arith))
    go r false i e = absurd (omega arith)

-- a byte that is no digit before lines: the first of them is faulty
faulty_byte : (b : ℕ) (ls : List Line) → is_digit b ≡ false → (rest : List Line) × (prepend false b ls ≡ faulty ∷ rest)
faulty_byte b [] e = ([], refl)
faulty_byte b (digits ds ∷ ls) e = (ls, rw e)
faulty_byte b (faulty ∷ ls) e = (ls, refl)

-- digits, and then a byte that is neither digit nor LF
lines_other : (s : List ℕ) → run s < length s → (get_or s (run s) 0 ≡ line_feed → ⊥) → (rest : List Line) × (lines s ≡ faulty ∷ rest)
unfolding lines
lines_other [] h n = absurd (omega arith)
lines_other (b ∷ s) h n = go (lines_other s) (is_digit b) refl h n
  where
    go : (run s < length s → (get_or s (run s) 0 ≡ line_feed → ⊥) → (rest : List Line) × (lines s ≡ faulty ∷ rest)) → (d : Bool) → is_digit b ≡ d → cond d (1 + run s) 0 < suc (length s) → (get_or (b ∷ s) (cond d (1 + run s) 0) 0 ≡ line_feed → ⊥)
        → (rest : List Line) × (lines (b ∷ s) ≡ faulty ∷ rest)
    go f true i h n =
        let r = f (omega arith) (λ z. n (rw one-add z)) in
        (r.0, lines_digit b s faulty r.0 i r.1)
    go f false i h n =
        let r = faulty_byte b (lines s) i in
        (r.0, rw (ne_eqb b line_feed n) r.1)

-- digits, and then LF
lines_whole : (s : List ℕ) → run s < length s → get_or s (run s) 0 ≡ line_feed → lines s ≡ digits (values (take (run s) s)) ∷ lines (drop (suc (run s)) s)
unfolding lines value_of
lines_whole [] h e = absurd (omega arith)
lines_whole (b ∷ s) h e = go (lines_whole s) (is_digit b) refl h e
  where
    go : (run s < length s → get_or s (run s) 0 ≡ line_feed → lines s ≡ digits (values (take (run s) s)) ∷ lines (drop (suc (run s)) s)) → (d : Bool) → is_digit b ≡ d → cond d (1 + run s) 0 < suc (length s) → get_or (b ∷ s) (cond d (1 + run s) 0) 0 ≡ line_feed
        → lines (b ∷ s) ≡ digits (values (take (cond d (1 + run s) 0) (b ∷ s))) ∷ lines (drop (cond d (1 + run s) 0) s)
    go f true i h e =
        rw one-add
        (lines_digit b s (digits (values (take (run s) s))) (lines (drop (suc (run s)) s)) i (f (omega arith) (rw one-add at e)) ∙ rw i)
    go f false i h e = rw (eq-eqb b line_feed e)

-- ---- reading the first line of a text, which begins with n digits

module _ (text : List ℕ) (line n : ℕ) (e : n ≡ run text) where
  pub read_end : length text ≡ 0 → first (lines text) line ≡ none
  unfolding first lines
  read_end h = rw (empty text h)
    where
      empty : (l : List ℕ) → length l ≡ 0 → l ≡ []
      empty [] e = refl
      empty (b ∷ l) e = absurd (omega arith)

  pub read_open : 0 < length text → n ≡ length text → first (lines text) line ≡ fault 2 line
  unfolding first frame_at
  read_open h k = rw (lines_open text h (sym e ∙ k))

  pub read_other : n < length text → (get_or text n 0 ≡ line_feed → ⊥) → first (lines text) line ≡ fault 2 line
  unfolding first frame_at
  read_other h k = let r = lines_other text (rw (← e) h) (λ z. k (rw (← e) at z)) in rw r.1

  pub read_whole : n < length text → get_or text n 0 ≡ line_feed
      → first (lines text) line ≡ first_in (decode (values (take n text)) line) (lines (drop (suc n) text)) (suc line)
  unfolding first frame_at
  read_whole h k = let w = lines_whole text (rw (← e) h) (rw (← e) k) in rw (w, ← e)

  -- where LF does not stand behind the digits
  pub read_faulty : 0 < length text → n ≤ length text → (n < length text → get_or text n 0 ≡ line_feed → ⊥) → fault 2 line ≡ first (lines text) line
  read_faulty h k not = go (ltb n (length text)) refl
    where
      go : (t : Bool) → ltb n (length text) ≡ t → fault 2 line ≡ first (lines text) line
      go true t = let i = ltb-true n (length text) t in sym (read_other i (not i))
      go false t = sym (read_open h (omega (arith, ltb-false n (length text) t)))

  -- where LF does, and the line has no frame
  pub read_unframed : n < length text → get_or text n 0 ≡ line_feed → Unframed text → fault 3 line ≡ first (lines text) line
  read_unframed h k u = sym (read_whole h k ∙ rw (← u n line e h k))
