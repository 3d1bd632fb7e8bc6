-- Laws of values that are bytes of 0 and 1: AND and XOR, the inputs stored from the pattern's lowest bits, and the word of the outputs built from
-- the last one down.
use Prim.Native.Nat.{ℕ, suc, ◌+◌, ◌*◌, ◌/◌, ◌%◌, ◌^◌, ◌≤◌, ◌<◌}
use mathlib.Core.Path.{◌≡◌, refl, sym}
use mathlib.Core.Bool.{Bool, true, false, ◌&&◌}
use mathlib.Core.List.{List, ◌++◌, map, append_assoc}
use native.Mathlib.Omega.{arith}
use native.Mathlib.Numerals.{add-one}
use native.Mathlib.Nat.{pow-suc, pow-le-pow_right}
use mir.Val.{bool_byte}
use lib.ListN.{length, drop, get_or, set, length-map, get_or-map, drop_of_length-le}
use lib.Seq.{drop-cons}
use lib.Bits.{bit_and, bit_xor}
use Rattle.model.specs.Nets.{Netlist, net_of, odd, xorb, bit, bits, word, literal, start}
use Rattle.laws.specs.Literals.{bit_odd}
use Rattle.laws.specs.Values.{length_start}
use Rattle.values.specs.Values.{HoldsValues}
use Rattle.values.proofs.ValueLaws.{hold_none, store_value}

-- ---- gates and literals

pub and_bits : (x y : Bool) → bit_and (bit x) (bit y) ≡ bit (x && y)
and_bits true true = refl
and_bits true false = refl
and_bits false y = refl

pub xor_bits : (x y : Bool) → bit_xor (bit x) (bit y) ≡ bit (xorb x y)
xor_bits true true = refl
xor_bits true false = refl
xor_bits false y = refl

-- a sign as a byte
pub sign_bit : (b : Bool) → bool_byte b ≡ bit b
sign_bit true = refl
sign_bit false = refl

-- a literal's value, by its net's value and its sign
pub literal_bits : (vs : List Bool) (l : ℕ) → bit_xor (bit (get_or vs (net_of l) false)) (bit (odd l)) % 2 ≡ bit (literal vs l)
unfolding literal
literal_bits vs l = go (odd l) (get_or vs (net_of l) false)
  where
    go : (s v : Bool) → bit_xor (bit v) (bit s) % 2 ≡ bit (xorb s v)
    go true true = refl
    go true false = refl
    go false true = refl
    go false false = refl

-- ---- inputs

-- of the inputs, k are stored, and `rest` has the bits behind theirs
pub record Stored (values : List ℕ) (pattern k rest : ℕ) : Type 0 where
  pub held : HoldsValues values (start k pattern)
  pub behind : (m : ℕ) → bits (k + m) pattern ≡ bits k pattern ++ bits m rest

module _ {pattern : ℕ} where
  pub stored_none : (values : List ℕ) → 0 < length values → Stored (set values 0 0) pattern 0 pattern
  unfolding bits
  stored_none values h = record {
    held = store_value {numbers = values} 0 0 false hold_none refl h refl;
    behind = λ m. let e : 0 + m ≡ m = omega arith in rw e;
  }

  pub stored_more : {values : List ℕ} {k rest : ℕ} → 1 + k < length values → Stored values pattern k rest
      → Stored (set values (1 + k) (rest % 2)) pattern (k + 1) (rest / 2)
  unfolding bits
  stored_more {k = k} {rest} h s = record {
    held = rw (s.behind 1) (store_value (1 + k) (rest % 2) (odd rest) s.held (sym (length_start k pattern)) h (bit_odd rest));
    behind = λ m. let e : k + 1 + m ≡ k + suc m = omega arith in rw (e, s.behind 1, append_assoc) (s.behind (suc m));
  }

-- ---- the word

-- the word of the outputs from k up
abbrev pub word_from : Netlist → List Bool → ℕ → ℕ
word_from n vs k = word (drop k (map (literal vs) n.outs))

pub word_end : (n : Netlist) (vs : List Bool) (k : ℕ) → length n.outs ≤ k → 0 ≡ word_from n vs k
unfolding word
word_end n vs k h = rw (drop_of_length-le (map (literal vs) n.outs) {i = k} (rw length-map h))

pub word_more : (n : Netlist) (vs : List Bool) (k : ℕ) → k < length n.outs → 2 * word_from n vs (k + 1) + bit (literal vs (get_or n.outs k 0)) ≡ word_from n vs k
unfolding word
word_more n vs k h =
    let bs : List Bool = map (literal vs) n.outs in
    rw (add-one, drop-cons bs k (literal vs 0) (rw length-map h), get_or-map (literal vs) n.outs k 0) (omega arith)

-- a number below 2 ^ m, doubled and with a bit, is below 2 ^ (m + 1)
pub double : (w b m : ℕ) → w < 2 ^ m → b ≤ 1 → 2 * w + b < 2 ^ suc m
double w b m h k = let e = pow-suc 2 m in omega arith

-- so a word of at most 63 bits has room for one more
pub word_fits : (w b m : ℕ) → w < 2 ^ m → b ≤ 1 → m < 64 → 2 * w + b < 18446744073709551616
word_fits w b m h k l =
    let d = double w b m h k in
    let e : 2 ^ suc m ≤ 2 ^ 64 = pow-le-pow_right {n = 2} (omega arith) l in
    omega arith
