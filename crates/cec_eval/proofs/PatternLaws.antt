-- 16 digits as one number: four digits at a time, each four a number of 16 bits.
use Prim.Native.Nat.{ℕ, suc, ◌+◌, ◌*◌, ◌≤◌}
use mathlib.Core.Path.{◌≡◌, refl, sym, ap, ◌∙◌}
use mathlib.Core.Bool.{Bool, true, false, ◌&&◌, cond, true≢false}
use mathlib.Core.List.{List, [], ◌∷◌, map}
use native.Mathlib.Omega.{arith}
use native.Mathlib.Nat.{zero-add}
use Rattle.std.specs.Prelude.{Some, None}
use lib.Dec.{eqb, eqb-suc-suc}
use lib.ListN.{length, length-map, length-drop, take, drop, drop_of_length-le}
use lib.Seq.{drop-drop}
use borrow.Author.Tests.{eq-eqb, ne_eqb}
use Rattle.model.specs.Lines.{is_digit, digit_value}
use Rattle.model.specs.Frames.{number, two_bytes}
use Rattle.digits.specs.Digits.{value_of, values, run, number_at, spelt}
use Rattle.digits.proofs.DigitLaws.{run_on, run_end}
use Rattle.digits.proofs.ReadLaws.{spelt_some, spelt_none}
use Rattle.cec_eval.specs.Program.{word_digits, all_digits, pattern_of}

-- ---- digits alone

-- exactly if as many stand at the start as there are bytes
all_run : (l : List ℕ) → all_digits l ≡ eqb (run l) (length l)
all_run [] = sym (eq-eqb 0 0 refl)
all_run (b ∷ s) = go (is_digit b) (all_run s)
  where
    go : (c : Bool) → all_digits s ≡ eqb (run s) (length s) → (c && all_digits s) ≡ eqb (cond c (1 + run s) 0) (suc (length s))
    go true e = let one : 1 + run s ≡ suc (run s) = omega arith in rw one (e ∙ sym (eqb-suc-suc (run s) (length s)))
    go false e = sym (ne_eqb 0 (suc (length s)) (λ z. omega arith))

-- the values of digits
all_values : (l : List ℕ) → all_digits l ≡ true → map digit_value l ≡ values l
unfolding value_of
all_values [] h = refl
all_values (b ∷ s) h = go (is_digit b) refl h (all_values s)
  where
    go : (c : Bool) → is_digit b ≡ c → (c && all_digits s) ≡ true → (all_digits s ≡ true → map digit_value s ≡ values s) → digit_value b ∷ map digit_value s ≡ value_of b ∷ values s
    go true e k rest = rw e (ap (λ (t : List ℕ). digit_value b ∷ t) (rest k))
    go false e k rest = absurd (true≢false (sym k))

-- ---- four digits at a time

-- four digits behind a number
four : (n : ℕ) (vs : List ℕ) → 4 ≤ length vs → number n vs ≡ number (65536 * n + number 0 (take two_bytes vs)) (drop two_bytes vs)
unfolding number
four n [] h = absurd (omega arith)
four n (a ∷ []) h = absurd (omega arith)
four n (a ∷ b ∷ []) h = absurd (omega arith)
four n (a ∷ b ∷ c ∷ []) h = absurd (omega arith)
four n (a ∷ b ∷ c ∷ d ∷ vs) h = ap (λ (m : ℕ). number m vs) (omega arith)

-- from a place on
next : (n k : ℕ) (vs : List ℕ) → k + 4 ≤ length vs → number n (drop k vs) ≡ number (65536 * n + number 0 (take two_bytes (drop k vs))) (drop (k + 4) vs)
next n k vs h = four n (drop k vs) (omega (arith, length-drop k vs)) ∙ ap (λ (ds : List ℕ). number (65536 * n + number 0 (take two_bytes (drop k vs))) ds) (drop-drop 4 k vs)

-- four fours: the number of 16 digits
sixteen : (vs : List ℕ) → length vs ≡ 16
    → number 0 vs
    ≡ 65536 * (65536 * (65536 * number 0 (take two_bytes vs) + number 0 (take two_bytes (drop 4 vs))) + number 0 (take two_bytes (drop 8 vs))) + number 0 (take two_bytes (drop 12 vs))
unfolding number
sixteen vs e =
    let none : drop 16 vs ≡ [] = drop_of_length-le vs {i = 16} (omega arith) in
    let first = next 0 0 vs (omega arith) in
    let second = next (65536 * 0 + number 0 (take two_bytes vs)) 4 vs (omega arith) in
    let third = next (65536 * (65536 * 0 + number 0 (take two_bytes vs)) + number 0 (take two_bytes (drop 4 vs))) 8 vs (omega arith) in
    let fourth = next _ 12 vs (omega arith) in
    let all = first ∙ second ∙ third ∙ fourth in
    let whole = rw none at all in
    omega (arith, whole)

-- ---- the three ways out

module _ (l : List ℕ) where
  pub other_length : (length l ≡ word_digits → ⊥) → None ≡ pattern_of l
  unfolding pattern_of
  other_length h = rw (ne_eqb (length l) word_digits h)

  other_byte : length l ≡ word_digits → (run l ≡ word_digits → ⊥) → None ≡ pattern_of l
  unfolding pattern_of
  other_byte e h = rw (all_run l, e, ne_eqb (run l) word_digits h)

  spelled : length l ≡ word_digits → run l ≡ word_digits → (a b c d : ℕ) → a ≡ number_at l 0 two_bytes → b ≡ number_at l 4 two_bytes → c ≡ number_at l 8 two_bytes
      → d ≡ number_at l 12 two_bytes → Some (4294967296 * (65536 * a + b) + (65536 * c + d)) ≡ pattern_of l
  unfolding pattern_of number_at
  spelled e h a b c d p q r s =
      let all : all_digits l ≡ true = rw (all_run l, e, h) in
      rw (e, all, all_values l all)
      (ap Some (omega (arith, sixteen (values l) (length-map l value_of ∙ e), p, q, r, s)))

  -- where a place has no word, a byte is no digit
  pub no_word : (k : ℕ) → k + two_bytes ≤ word_digits → length l ≡ word_digits → None ≡ spelt l k two_bytes → None ≡ pattern_of l
  no_word k h e none = other_byte e (λ all. omega (arith, spelt_none l k two_bytes none, on all))
    where
      on : run l ≡ word_digits → run l ≡ k + run (drop k l)
      on all = rw (zero-add) at (run_on l 0 k (omega arith))

  pub four_words : length l ≡ word_digits → (a b c d : ℕ) → Some a ≡ spelt l 0 two_bytes → Some b ≡ spelt l 4 two_bytes → Some c ≡ spelt l 8 two_bytes
      → Some d ≡ spelt l 12 two_bytes → Some (4294967296 * (65536 * a + b) + (65536 * c + d)) ≡ pattern_of l
  four_words e a b c d p q r s =
      let w = spelt_some l 0 two_bytes p in
      let x = spelt_some l 4 two_bytes q in
      let y = spelt_some l 8 two_bytes r in
      let z = spelt_some l 12 two_bytes s in
      let all : run l ≡ word_digits = omega (arith, w.goes, x.goes, y.goes, z.goes, run_end l word_digits (omega arith)) in
      spelled e all a b c d w.number x.number y.number z.number
