-- Laws of what is read at a place: the number of all the digits there, or none where the run of digits stops before. Digits are read one part
-- behind the other, each part none where the run stops in it.
use Prim.Native.Nat.{ℕ, ◌+◌, ◌*◌, ◌^◌, ◌<◌, ◌≤◌}
use mathlib.Core.Path.{◌≡◌, refl, sym, ap, ◌∙◌}
use mathlib.Core.List.{List}
use mathlib.Core.Bool.{Bool, true, false, ◌&&◌, cond}
use native.Mathlib.Omega.{arith}
use lib.ListN.{length, drop, get_or}
use lib.Dec.{leb}
use borrow.Author.Tests.{le-leb, lt-leb, leb-true, leb-false}
use Rattle.std.specs.Prelude.{Some, None}
use Rattle.std.specs.Option.{option_map, option_and_then}
use Rattle.std.proofs.lemmas.Option.{cond_some}
use Rattle.laws.specs.Bools.{both}
use Rattle.model.specs.Lines.{is_digit}
use Rattle.model.specs.Frames.{one_byte, two_bytes, three_bytes}
use Rattle.digits.specs.Digits.{value_of, run, number_at, value_at, spelt}
use Rattle.digits.specs.Packed.{packed, are_digits, four_values}
use Rattle.digits.proofs.DigitLaws.{value_back, run_more, run_stop, run_on, number_one, number_join}

-- this many digits stand at a place, with this number, and the run of digits goes on behind them
pub record Spelt (text : List ℕ) (at width n : ℕ) : Type 0 where
  pub goes : run (drop at text) ≡ width + run (drop (at + width) text)
  pub number : n ≡ number_at text at width

module _ (l : List ℕ) (k w : ℕ) where
  spelt_is : w ≤ run (drop k l) → spelt l k w ≡ Some (number_at l k w)
  unfolding spelt
  spelt_is h = rw (le-leb w (run (drop k l)) h)

  spelt_not : run (drop k l) < w → spelt l k w ≡ None
  unfolding spelt
  spelt_not h = rw (lt-leb w (run (drop k l)) h)

  pub spelt_some : {n : ℕ} → Some n ≡ spelt l k w → Spelt l k w n
  spelt_some {n} e = go (leb w (run (drop k l))) refl
    where
      go : (t : Bool) → leb w (run (drop k l)) ≡ t → Spelt l k w n
      go true t =
          let h = leb-true w (run (drop k l)) t in
          let s = spelt_is h in
          record { goes = run_on l k w h; number = cc }
      go false t = let s = spelt_not (leb-false w (run (drop k l)) t) in cc

  pub spelt_none : None ≡ spelt l k w → run (drop k l) < w
  spelt_none e = go (leb w (run (drop k l))) refl
    where
      go : (t : Bool) → leb w (run (drop k l)) ≡ t → run (drop k l) < w
      go true t = let s = spelt_is (leb-true w (run (drop k l)) t) in cc
      go false t = leb-false w (run (drop k l)) t

pub value_small : (b : ℕ) {v : ℕ} → value_at b ≡ Some v → v < 16
value_small b {v} e =
    let f = cond_some (is_digit b) (value_of b) v e in
    rw (← f.1) (value_back b f.0).0

-- ---- one part behind the other

spelt_one : (l : List ℕ) (k : ℕ) → k < length l → spelt l k 1 ≡ value_at (get_or l k 0)
spelt_one l k h = go (is_digit (get_or l k 0)) refl
  where
    go : (t : Bool) → is_digit (get_or l k 0) ≡ t → spelt l k 1 ≡ cond t (Some (value_of (get_or l k 0))) None
    go true t = rw (spelt_is l k 1 (omega (arith, run_more l k h t)), number_one l k h)
    go false t = rw (spelt_not l k 1 (omega (arith, run_stop l k h t)))

spelt_join : (l : List ℕ) (k v w : ℕ) → k + v + w ≤ length l → spelt l k (v + w) ≡ option_and_then (λ m. option_map (λ n. 16 ^ w * m + n) (spelt l (k + v) w)) (spelt l k v)
spelt_join l k v w h = go (leb v (run (drop k l))) (leb w (run (drop (k + v) l))) refl refl
  where
    go : (s t : Bool) → leb v (run (drop k l)) ≡ s → leb w (run (drop (k + v) l)) ≡ t
        → spelt l k (v + w) ≡ option_and_then (λ m. option_map (λ n. 16 ^ w * m + n) (spelt l (k + v) w)) (spelt l k v)
    go false t a b =
        let c = leb-false v (run (drop k l)) a in
        rw (spelt_not l k (v + w) (omega arith), spelt_not l k v c)
    go true false a b =
        let c = leb-true v (run (drop k l)) a in
        let d = leb-false w (run (drop (k + v) l)) b in
        let e = run_on l k v c in
        rw (spelt_not l k (v + w) (omega arith), spelt_is l k v c, spelt_not l (k + v) w d)
    go true true a b =
        let c = leb-true v (run (drop k l)) a in
        let d = leb-true w (run (drop (k + v) l)) b in
        let e = run_on l k v c in
        rw (spelt_is l k (v + w) (omega arith), spelt_is l k v c, spelt_is l (k + v) w d, number_join l k v w h)

-- a digit, or two, before others
before : (l : List ℕ) (k w : ℕ) → k + 1 + w ≤ length l → spelt l k (1 + w) ≡ option_and_then (λ m. option_map (λ n. 16 ^ w * m + n) (spelt l (k + 1) w)) (value_at (get_or l k 0))
before l k w h = spelt_join l k 1 w h ∙ rw (spelt_one l k (omega arith))

pub two_digits : (l : List ℕ) (k : ℕ) → k + 2 ≤ length l → spelt l k one_byte ≡ option_and_then (λ m. option_map (λ n. 16 * m + n) (value_at (get_or l (k + 1) 0))) (value_at (get_or l k 0))
two_digits l k h = before l k 1 (omega arith) ∙ rw (spelt_one l (k + 1) (omega arith))

pub six_digits : (l : List ℕ) (k : ℕ) → k + 6 ≤ length l → spelt l k three_bytes ≡ option_and_then (λ m. option_map (λ n. 65536 * m + n) (spelt l (k + 2) two_bytes)) (spelt l k one_byte)
six_digits l k h = spelt_join l k 2 4 (omega arith)

-- ---- four digits at once

record Four (a b c d v : ℕ) : Type 0 where
  all : are_digits a b c d ≡ true
  first : value_of a < 16
  second : value_of b < 16
  third : value_of c < 16
  fourth : value_of d < 16
  is : v ≡ packed (value_of a) (value_of b) (value_of c) (value_of d)

four_found : (a b c d : ℕ) {v : ℕ} → Some v ≡ four_values a b c d → Four a b c d v
four_found a b c d {v} e =
    let f = cond_some (are_digits a b c d) (packed (value_of a) (value_of b) (value_of c) (value_of d)) v (sym e) in
    let l = both (is_digit a && is_digit b && is_digit c) (is_digit d) f.0 in
    let m = both (is_digit a && is_digit b) (is_digit c) l.0 in
    let n = both (is_digit a) (is_digit b) m.0 in
    record {
      all = f.0;
      first = (value_back a n.0).0;
      second = (value_back b n.1).0;
      third = (value_back c m.1).0;
      fourth = (value_back d l.1).0;
      is = sym f.1;
    }

pub small_values : (a b c d : ℕ) {v : ℕ} → Some v ≡ four_values a b c d → v ≤ 0x0F0F0F0F
small_values a b c d e = let f = four_found a b c d e in omega arith

module _ (l : List ℕ) (k : ℕ) (n : k + 4 ≤ length l) where
  four_digits : spelt l k two_bytes
      ≡ cond (are_digits (get_or l k 0) (get_or l (k + 1) 0) (get_or l (k + 2) 0) (get_or l (k + 3) 0))
      (Some (4096 * value_of (get_or l k 0) + 256 * value_of (get_or l (k + 1) 0) + 16 * value_of (get_or l (k + 2) 0) + value_of (get_or l (k + 3) 0))) None
  four_digits =
      let two : k + 1 + 1 ≡ k + 2 = omega arith in
      let three : k + 2 + 1 ≡ k + 3 = omega arith in
      before l k 3 (omega arith)
      ∙ rw (before l (k + 1) 2 (omega arith), two, before l (k + 2) 1 (omega arith), three, spelt_one l (k + 3) (omega arith))
      (go (is_digit (get_or l k 0)) (is_digit (get_or l (k + 1) 0)) (is_digit (get_or l (k + 2) 0)) (is_digit (get_or l (k + 3) 0))
      (value_of (get_or l k 0)) (value_of (get_or l (k + 1) 0)) (value_of (get_or l (k + 2) 0)) (value_of (get_or l (k + 3) 0)))
    where
      go : (s t u w : Bool) (a b c d : ℕ)
          → option_and_then (λ m. option_map (λ n. 16 ^ 3 * m + n) (option_and_then (λ m. option_map (λ n. 16 ^ 2 * m + n) (option_and_then (λ m. option_map (λ n. 16 ^ 1 * m + n) (cond w (Some d) None)) (cond u (Some c) None))) (cond t (Some b) None))) (cond s (Some a) None)
          ≡ cond (s && t && u && w) (Some (4096 * a + 256 * b + 16 * c + d)) None
      go false t u w a b c d = refl
      go true false u w a b c d = refl
      go true true false w a b c d = refl
      go true true true false a b c d = refl
      go true true true true a b c d = ap Some (omega arith)

  -- the values make the number; where there are none, there is none
  pub word : {v : ℕ} (r : ℕ) → Some v ≡ four_values (get_or l k 0) (get_or l (k + 1) 0) (get_or l (k + 2) 0) (get_or l (k + 3) 0)
      → ((a b c d : ℕ) → a < 16 → b < 16 → c < 16 → d < 16 → v ≡ packed a b c d → r ≡ 4096 * a + 256 * b + 16 * c + d) → Some r ≡ spelt l k two_bytes
  word r e joined =
      let f = four_found (get_or l k 0) (get_or l (k + 1) 0) (get_or l (k + 2) 0) (get_or l (k + 3) 0) e in
      rw (four_digits, f.all) (ap Some (joined _ _ _ _ f.first f.second f.third f.fourth f.is))

  pub no_word : None ≡ four_values (get_or l k 0) (get_or l (k + 1) 0) (get_or l (k + 2) 0) (get_or l (k + 3) 0) → None ≡ spelt l k two_bytes
  no_word e = go (are_digits (get_or l k 0) (get_or l (k + 1) 0) (get_or l (k + 2) 0) (get_or l (k + 3) 0)) _ _ e ∙ sym four_digits
    where
      go : (t : Bool) (x y : ℕ) → None ≡ cond t (Some x) None → None ≡ cond t (Some y) None
      go true x y e = cc
      go false x y e = refl
