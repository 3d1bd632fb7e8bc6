-- Laws of a resolve's line written: a word's four digits at once, and kind, words and LF one behind the other.
use Prim.Native.Nat.{ℕ, suc, ◌+◌, ◌*◌, ◌/◌, ◌%◌, ◌<◌}
use mathlib.Core.Path.{◌≡◌, sym, ◌∙◌}
use mathlib.Core.List.{List, [], ◌∷◌, ◌++◌}
use native.Mathlib.Nat.{mod-eq_of_lt}
use native.Mathlib.Omega.{arith}
use lib.ListN.{set}
use lib.Seq.{sets}
use Rattle.model.specs.Lines.{digit_of, line_feed}
use Rattle.model.specs.Frames.{widths, hex, hex_fields, line_of, resolve_kind, one_byte, two_bytes}
use Rattle.frame.proofs.WriteLaws.{sets_append, store_field}
use Rattle.digits.specs.Packed.{packed}
use Rattle.frame.specs.Frames.{resolve}
use Rattle.digits.proofs.PackLaws.{its_parts, digit_small}

-- four digits that were spelt at once
pub word_stored : (out : List ℕ) (at n s : ℕ)
    → ((a b c d : ℕ) → a < 16 → b < 16 → c < 16 → d < 16 → n / 16 / 16 / 16 + 256 * (n / 16 / 16 % 16) + 65536 * (n / 16 % 16) + 16777216 * (n % 16) ≡ packed a b c d → s ≡ packed (digit_of a) (digit_of b) (digit_of c) (digit_of d))
    → n < 65536 → set (set (set (set out at (s % 256)) (at + 1) (s / 256 % 256)) (at + 2) (s / 65536 % 256)) (at + 3) (s / 16777216) ≡ sets out at (hex two_bytes n)
unfolding hex
word_stored out at n s spells h =
    let a : ℕ = n / 16 / 16 / 16 % 16 in
    let b : ℕ = n / 16 / 16 % 16 in
    let c : ℕ = n / 16 % 16 in
    let d : ℕ = n % 16 in
    let q : a ≡ n / 16 / 16 / 16 = mod-eq_of_lt (omega arith) in
    let e = spells a b c d (omega arith) (omega arith) (omega arith) (omega arith) (omega arith) in
    let p = its_parts (digit_of a) (digit_of b) (digit_of c) (digit_of d) (digit_small a (omega arith)) (digit_small b (omega arith)) (digit_small c (omega arith)) in
    let one : at + 1 ≡ suc at = omega arith in
    let two : at + 2 ≡ suc (suc at) = omega arith in
    let three : at + 3 ≡ suc (suc (suc at)) = omega arith in
    rw (one, two, three, e, p.0, p.1, p.2, p.3)

-- a resolve's kind, its three words and LF
pub resolve_stored : (out : List ℕ) (at a b v : ℕ)
    → set (sets (sets (sets (set (set out at 49) (at + 1) 49) (at + 2) (hex two_bytes a)) (at + 6) (hex two_bytes b)) (at + 10) (hex two_bytes v)) (at + 14) line_feed ≡ sets out at (line_of (resolve a b v))
unfolding line_of widths hex_fields hex
resolve_stored out at a b v =
    let one : at + 1 ≡ suc at = omega arith in
    let six : at + 2 + two_bytes ≡ at + 6 = omega arith in
    let ten : at + 6 + two_bytes ≡ at + 10 = omega arith in
    let end : at + 10 + two_bytes ≡ at + 14 = omega arith in
    let kind : List ℕ = set (set out at 49) (at + 1) 49 in
    let first : List ℕ = sets kind (at + 2) (hex two_bytes a) in
    let second : List ℕ = sets first (at + 6) (hex two_bytes b) in
    (rw end at (store_field second (at + 10) two_bytes v [] [] (line_feed ∷ [])))
    ∙ (rw ten at (store_field first (at + 6) two_bytes b (two_bytes ∷ []) (v ∷ []) (line_feed ∷ [])))
    ∙ (rw six at (store_field kind (at + 2) two_bytes a (two_bytes ∷ two_bytes ∷ []) (b ∷ v ∷ []) (line_feed ∷ [])))
    ∙ rw one (sym (sets_append out at (hex one_byte resolve_kind) (hex_fields (widths resolve_kind) (a ∷ b ∷ v ∷ []) ++ (line_feed ∷ []))))
