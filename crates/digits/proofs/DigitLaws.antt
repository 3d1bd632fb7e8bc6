-- Laws of digits: which bytes they are, what they are worth, how many stand at a place, and the numbers that they spell; and a rule of each
-- byte, computed.
use Prim.Native.Nat.{ℕ, zero, suc, ◌+◌, ◌*◌, ◌/◌, ◌%◌, ◌^◌, ◌<◌, ◌≤◌}
use mathlib.Core.Path.{◌≡◌, refl, ◌∙◌}
use mathlib.Core.List.{List, [], ◌∷◌, ◌++◌}
use mathlib.Core.Bool.{Bool, true, false, ◌&&◌, cond}
use native.Mathlib.Omega.{arith}
use Rattle.std.proofs.Common.{pow-suc}
use lib.Dec.{eqb}
use lib.ListN.{length, take, drop, get_or, length-drop, length-map}
use lib.Seq.{drop-cons, drop-drop, take-add, length-take-le}
use Rattle.std.proofs.lemmas.List.{drop-map}
use Rattle.std.proofs.lemmas.List.Sums.{prefix_len-drop_yes, prefix_len-drop_no, prefix_len-drop_all}
use borrow.Author.Tests.{eqb-true, ne_eqb}
use Rattle.model.specs.Lines.{is_digit, digit_of}
use Rattle.model.specs.Frames.{number, one_byte}
use Rattle.laws.specs.Bools.{both, below_or_at}
use Rattle.laws.specs.Digits.{digit_byte}
use Rattle.digits.specs.Digits.{value_of, values, run, number_at}

-- ---- a rule of each number below n, by one test that is computed

abbrev pub every : (ℕ → Bool) → ℕ → Bool
every f zero = true
every f (suc n) = f n && every f n

pub each : (f : ℕ → Bool) (n : ℕ) → every f n ≡ true → (k : ℕ) → k < n → f k ≡ true
each f zero e k h = absurd (omega arith)
each f (suc n) e k h = let b = both (f n) (every f n) e in below_or_at k n h (each f n b.1 k) (λ i. rw i b.0)

pub same : (f g : ℕ → ℕ) (n : ℕ) → every (λ k. eqb (f k) (g k)) n ≡ true → (k : ℕ) → k < n → f k ≡ g k
same f g n e k h = eqb-true (f k) (g k) (each (λ k. eqb (f k) (g k)) n e k h)

-- ---- one digit

-- a digit has a value below 16, and is the byte of that value
pub value_back : (b : ℕ) → is_digit b ≡ true → (value_of b < 16) × (digit_of (value_of b) ≡ b)
unfolding value_of
value_back b e = rw e (digit_byte b e)

-- a letter is seven bytes behind where a tenth digit would stand
pub digit_sum : (a : ℕ) → a < 16 → digit_of a ≡ a + 48 + 7 * ((a + 6) / 16 % 2)
digit_sum a h = same (λ a. digit_of a) (λ a. a + 48 + 7 * ((a + 6) / 16 % 2)) 16 refl a h

-- from '0' up, and below 'G'
pub digit_range : (b : ℕ) → is_digit b ≡ true → (48 ≤ b) × (b ≤ 70)
digit_range b e = let v = value_back b e in let s = digit_sum (value_of b) v.0 in (omega arith, omega arith)

pub digit_not_lf : (b : ℕ) → is_digit b ≡ true → eqb b 10 ≡ false
digit_not_lf b e = ne_eqb b 10 (λ h. omega (arith, digit_range b e))

-- ---- a run of digits

pub run_stop : (l : List ℕ) (i : ℕ) → i < length l → is_digit (get_or l i 0) ≡ false → run (drop i l) ≡ 0
run_stop l i = prefix_len-drop_no is_digit l i 0

pub run_more : (l : List ℕ) (i : ℕ) → i < length l → is_digit (get_or l i 0) ≡ true → run (drop i l) ≡ 1 + run (drop (i + 1) l)
run_more l i = prefix_len-drop_yes is_digit l i 0

pub run_end : (l : List ℕ) (i : ℕ) → length l ≤ i → run (drop i l) ≡ 0
run_end l i = prefix_len-drop_all is_digit l i

-- behind some of its digits a run goes on
run_rest : (l : List ℕ) (w : ℕ) → w ≤ run l → run l ≡ w + run (drop w l)
run_rest l zero h = omega arith
run_rest [] (suc w) h = absurd (omega arith)
run_rest (b ∷ l) (suc w) h = go (is_digit b) (run_rest l w) h
  where
    go : (t : Bool) → (w ≤ run l → run l ≡ w + run (drop w l)) → suc w ≤ cond t (1 + run l) 0 → cond t (1 + run l) 0 ≡ suc w + run (drop w l)
    go true rest h = omega (arith, rest (omega arith))
    go false rest h = absurd (omega arith)

pub run_on : (l : List ℕ) (k w : ℕ) → w ≤ run (drop k l) → run (drop k l) ≡ w + run (drop (k + w) l)
run_on l k w h = run_rest (drop k l) w h ∙ rw (drop-drop w k l)

-- ---- numbers

-- digits behind a number, from that number and their own
number_behind : (n : ℕ) (ds : List ℕ) → number n ds ≡ 16 ^ length ds * n + number 0 ds
unfolding number
number_behind n [] = omega arith
number_behind n (d ∷ ds) =
    let p : 16 ^ suc (length ds) * n ≡ 16 ^ length ds * (16 * n) = rw pow-suc (grind arith) in
    rw (number_behind (16 * n + d) ds, number_behind (16 * 0 + d) ds) (grind arith)

number_append : (n : ℕ) (ds es : List ℕ) → number n (ds ++ es) ≡ number (number n ds) es
unfolding number
number_append n [] es = refl
number_append n (d ∷ ds) es = number_append (16 * n + d) ds es

module _ (l : List ℕ) (k : ℕ) where
  -- digits before digits
  pub number_join : (v w : ℕ) → k + v + w ≤ length l → number_at l k (v + w) ≡ 16 ^ w * number_at l k v + number_at l (k + v) w
  unfolding number_at
  number_join v w h =
      let e : length (take w (drop (k + v) (values l))) ≡ w = length-take-le w (drop (k + v) (values l)) (simp (length-drop, length-map) (omega arith)) in
      rw (take-add v w (drop k (values l)), drop-drop v k (values l), number_append 0 (take v (drop k (values l))) (take w (drop (k + v) (values l))), number_behind (number 0 (take v (drop k (values l)))) (take w (drop (k + v) (values l))), e)

  pub number_one : k < length l → number_at l k 1 ≡ value_of (get_or l k 0)
  unfolding number_at number
  number_one h = rw (drop-map value_of k l, drop-cons l k 0) (omega arith)

pub byte_number : (l : List ℕ) (k : ℕ) → k + 2 ≤ length l → number_at l k one_byte ≡ 16 * value_of (get_or l k 0) + value_of (get_or l (k + 1) 0)
byte_number l k h = number_join l k 1 1 (omega arith) ∙ rw (number_one l k (omega arith), number_one l (k + 1) (omega arith))
