-- Laws of four bytes in one number: its parts, a mask that is the same for each of them, and four digits spelt from their values, and taken for
-- their values, at once. What holds of one byte is computed for each.
use Prim.Native.Nat.{ℕ, ◌+◌, ◌-◌, ◌*◌, ◌/◌, ◌%◌, ◌^◌, ◌<◌, ◌≤◌}
use mathlib.Core.Path.{◌≡◌, refl, sym, ◌∙◌}
use mathlib.Core.Bool.{Bool, true, false, ◌&&◌, not, cond}
use Rattle.std.specs.Prelude.{Some, None}
use native.Mathlib.Omega.{arith}
use lib.Bits.{bit_and, and_block, and_mask, and_high, and_le_l}
use lib.Dec.{eqb, leb, ltb}
use borrow.Author.Tests.{eqb-true, eq-eqb, leb-true, ltb-true, not-true}
use Rattle.model.specs.Lines.{is_digit, digit_of, digit_value}
use Rattle.model.specs.Nets.{xorb}
use Rattle.laws.specs.Bools.{both, xorb_equal}
use Rattle.digits.specs.Digits.{value_of}
use Rattle.digits.specs.Packed.{packed, are_digits, four_values}
use Rattle.digits.proofs.DigitLaws.{each, same, digit_sum}

-- ---- parts

parts : (v : ℕ) → v < 4294967296 → v ≡ packed (v % 256) (v / 256 % 256) (v / 65536 % 256) (v / 16777216)
parts v h = omega arith

pub its_parts : (a b c d : ℕ) → a < 256 → b < 256 → c < 256
    → (packed a b c d % 256 ≡ a) × (packed a b c d / 256 % 256 ≡ b) × (packed a b c d / 65536 % 256 ≡ c) × (packed a b c d / 16777216 ≡ d)
its_parts a b c d ha hb hc =
    let one : packed a b c d / 256 ≡ (d * 256 + c) * 256 + b = omega arith in
    let two : packed a b c d / 65536 ≡ d * 256 + c = omega arith in
    (omega arith, rw one (omega arith), rw two (omega arith), omega arith)

module _ (a b c d p q r s : ℕ) (ha : a < 256) (hb : b < 256) (hc : c < 256) (hd : d < 256) (hp : p < 256) (hq : q < 256) (hr : r < 256) (hs : s < 256) where
  same_parts : packed a b c d ≡ packed p q r s → (a ≡ p) × (b ≡ q) × (c ≡ r) × (d ≡ s)
  same_parts e = (omega arith, omega arith, omega arith, omega arith)

  and_packed : bit_and (packed a b c d) (packed p q r s) ≡ packed (bit_and a p) (bit_and b q) (bit_and c r) (bit_and d s)
  and_packed =
      and_block 8 ((d * 2 ^ 8 + c) * 2 ^ 8 + b) ((s * 2 ^ 8 + r) * 2 ^ 8 + q) a p ha hp
      ∙ rw (and_block 8 (d * 2 ^ 8 + c) (s * 2 ^ 8 + r) b q hb hq, and_block 8 d s c r hc hr)

-- ---- values: spelt, and joined to a number

pub digit_small : (a : ℕ) → a < 16 → digit_of a < 256
digit_small a h = omega (arith, digit_sum a h)

module _ (a b c d : ℕ) (ha : a < 16) (hb : b < 16) (hc : c < 16) (hd : d < 16) where
  pub spelt : packed a b c d + 0x30303030 + 7 * (bit_and (packed a b c d + 0x06060606) 0x10101010 / 16) ≡ packed (digit_of a) (digit_of b) (digit_of c) (digit_of d)
  spelt =
      let e : packed a b c d + 0x06060606 ≡ packed (a + 6) (b + 6) (c + 6) (d + 6) = omega arith in
      let m = and_packed (a + 6) (b + 6) (c + 6) (d + 6) 16 16 16 16 (omega arith) (omega arith) (omega arith) (omega arith) (omega arith) (omega arith) (omega arith) (omega arith) in
      rw (e, m, and_high (a + 6) 1 4, and_high (b + 6) 1 4, and_high (c + 6) 1 4, and_high (d + 6) 1 4, digit_sum a ha, digit_sum b hb, digit_sum c hc, digit_sum d hd)
      (omega arith)

-- ---- four digits

-- one byte: 1 if it has 64, as letters do; the byte, less 17 then; 6 more, or 10; and what both have of 16 and above
letter : ℕ → ℕ
letter a = a / 64 % 2

figure : ℕ → ℕ
figure a = a - 17 * letter a

above : ℕ → ℕ
above a = figure a + 6 + 4 * letter a

test : ℕ → ℕ
test a = bit_and (bit_and (figure a) (above a)) 240

pub record Lane (a : ℕ) : Type 0 where
  byte : a < 256
  back : a ≡ figure a + 17 * letter a
  small : (above a ≤ 248) × (bit_and (figure a) (above a) < 256) × (test a < 256)
  is : test a ≡ 48 → is_digit a ≡ true
  passes : is_digit a ≡ true → test a ≡ 48
  value : is_digit a ≡ true → a % 16 + 9 * letter a ≡ value_of a

pub lane : (a : ℕ) → a < 256 → Lane a
unfolding value_of test above figure letter
lane a h =
    let e : eqb (test a) 48 ≡ is_digit a = xorb_equal _ _ (not-true _ (each (λ a. not (xorb (eqb (test a) 48) (is_digit a))) 256 refl a h)) in
    record {
      byte = h;
      back = omega arith;
      small = (
        leb-true _ _ (each (λ a. leb (above a) 248) 256 refl a h),
        ltb-true _ _ (each (λ a. ltb (bit_and (figure a) (above a)) 256) 256 refl a h),
        ltb-true _ _ (each (λ a. ltb (test a) 256) 256 refl a h),
      );
      is = λ t. sym e ∙ eq-eqb _ _ t;
      passes = λ i. eqb-true _ _ (e ∙ i);
      value = λ i. rw i (rw i at (same (λ a. cond (is_digit a) (a % 16 + 9 * letter a) 0) (λ a. cond (is_digit a) (digit_value a) 0) 256 refl a h));
    }

-- four bytes, as the code takes them
abbrev letters : ℕ → ℕ
letters n = bit_and n 0x40404040 / 64

abbrev figures : ℕ → ℕ
figures n = n - 17 * letters n

abbrev values : ℕ → ℕ
values n = bit_and n 0x0F0F0F0F + 9 * letters n

abbrev tests : ℕ → ℕ
tests n = bit_and (bit_and (figures n) (figures n + 0x06060606 + 4 * letters n)) 0xF0F0F0F0

module _ {a b c d : ℕ} (p : Lane a) (q : Lane b) (r : Lane c) (s : Lane d) where
  letters_packed : letters (packed a b c d) ≡ packed (letter a) (letter b) (letter c) (letter d)
  unfolding letter
  letters_packed =
      let e = and_packed a b c d 64 64 64 64 p.byte q.byte r.byte s.byte (omega arith) (omega arith) (omega arith) (omega arith) in
      rw (e, and_high a 1 6, and_high b 1 6, and_high c 1 6, and_high d 1 6) (omega arith)

  figures_packed : figures (packed a b c d) ≡ packed (figure a) (figure b) (figure c) (figure d)
  figures_packed = rw letters_packed (omega arith)

  values_packed : values (packed a b c d) ≡ packed (a % 16 + 9 * letter a) (b % 16 + 9 * letter b) (c % 16 + 9 * letter c) (d % 16 + 9 * letter d)
  values_packed =
      let e = and_packed a b c d 15 15 15 15 p.byte q.byte r.byte s.byte (omega arith) (omega arith) (omega arith) (omega arith) in
      rw (e, and_mask a 4, and_mask b 4, and_mask c 4, and_mask d 4, letters_packed) (omega arith)

  aboves_packed : figures (packed a b c d) + 0x06060606 + 4 * letters (packed a b c d) ≡ packed (above a) (above b) (above c) (above d)
  unfolding above
  aboves_packed = rw (figures_packed, letters_packed) (omega arith)

  tests_packed : tests (packed a b c d) ≡ packed (test a) (test b) (test c) (test d)
  unfolding test
  tests_packed =
      let m = and_packed (figure a) (figure b) (figure c) (figure d) (above a) (above b) (above c) (above d) (omega arith) (omega arith) (omega arith) (omega arith) (omega arith) (omega arith) (omega arith) (omega arith) in
      rw (aboves_packed, figures_packed, m) (and_packed _ _ _ _ 240 240 240 240 p.small.1 q.small.1 r.small.1 s.small.1 (omega arith) (omega arith) (omega arith) (omega arith))

  pub no_four : (tests (packed a b c d) ≡ 0x30303030 → ⊥) → None ≡ four_values a b c d
  no_four fails = go (are_digits a b c d) refl
    where
      go : (t : Bool) → are_digits a b c d ≡ t → None ≡ cond t (Some (packed (value_of a) (value_of b) (value_of c) (value_of d))) None
      go true e =
          let l = both (is_digit a && is_digit b && is_digit c) (is_digit d) e in
          let m = both (is_digit a && is_digit b) (is_digit c) l.0 in
          let n = both (is_digit a) (is_digit b) m.0 in
          absurd (fails (omega (arith, tests_packed, p.passes n.0, q.passes n.1, r.passes m.1, s.passes l.1)))
      go false e = refl

  pub four : tests (packed a b c d) ≡ 0x30303030 → Some (values (packed a b c d)) ≡ four_values a b c d
  four e =
      let t = same_parts (test a) (test b) (test c) (test d) 48 48 48 48 p.small.2 q.small.2 r.small.2 s.small.2 (omega arith) (omega arith) (omega arith) (omega arith) (sym tests_packed ∙ e) in
      let i = p.is t.0 in
      let j = q.is t.1 in
      let k = r.is t.2 in
      let m = s.is t.3 in
      rw (values_packed, p.value i, q.value j, r.value k, s.value m, i, j, k, m)

-- nothing wraps, and nothing goes below 0
pub no_wrap : (n : ℕ) → n < 4294967296 → (17 * letters n ≤ n) × (figures n + 0x06060606 + 4 * letters n ≤ 0xF8F8F8F8)
no_wrap n h =
    let p = lane (n % 256) (omega arith) in
    let q = lane (n / 256 % 256) (omega arith) in
    let r = lane (n / 65536 % 256) (omega arith) in
    let s = lane (n / 16777216) (omega arith) in
    (omega (arith, and_le_l n 0x40404040), rw (parts n h) (rw (aboves_packed p q r s) (omega (arith, p.small.0, q.small.0, r.small.0, s.small.0))))
