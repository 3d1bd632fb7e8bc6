-- Laws of `decode`, over the bytes of a line: its kind is the number that its first two digits spell, and its fields stand behind it in the
-- widths of the table.
use Prim.Native.Nat.{ℕ, ◌+◌, ◌<◌}
use mathlib.Core.Path.{◌≡◌, refl}
use mathlib.Core.List.{List, [], ◌∷◌}
use mathlib.Core.Bool.{true, false, and-false}
use native.Mathlib.Omega.{arith}
use lib.ListN.{length, drop, length-map}
use lib.Seq.{drop-drop}
use borrow.Author.Tests.{eq-eqb, ne_eqb}
use Rattle.model.specs.Answers.{guard}
use Rattle.model.specs.Answers.Answer.{ok, refused}
use Rattle.model.specs.Frames.{widths, is_kind, total, split, decode_as, decode, one_byte}
use Rattle.digits.specs.Digits.{values, number_at}

-- the fields of these widths, from a place on
abbrev pub fields_at : List ℕ → ℕ → List ℕ → List ℕ
fields_at l at [] = []
fields_at l at (w ∷ ws) = number_at l at w ∷ fields_at l (at + w) ws

split_fields : (l : List ℕ) (at : ℕ) (ws : List ℕ) → split ws (drop at (values l)) ≡ fields_at l at ws
unfolding split number_at
split_fields l at [] = refl
split_fields l at (w ∷ ws) = rw (drop-drop w at (values l), split_fields l (at + w) ws)

-- ---- the ways of decoding a line, where `kind` is what its first two digits spell

module _ (l : List ℕ) (line : ℕ) {kind number : ℕ} (spelt : number ≡ number_at l 0 one_byte) (is : number ≡ kind) where
  pub whole : is_kind (widths kind) ≡ true → length l ≡ one_byte + total (widths kind)
      → ok (record { kind = kind; fields = fields_at l one_byte (widths kind) }) ≡ decode (values l) line
  unfolding decode decode_as number_at guard
  whole k n = rw (← spelt, is, k, length-map, eq-eqb _ _ n, split_fields l one_byte (widths kind))

  pub wrong_length : (length l ≡ one_byte + total (widths kind) → ⊥) → refused 3 line ≡ decode (values l) line
  unfolding decode decode_as number_at guard
  wrong_length n = rw (← spelt, is, length-map, ne_eqb _ _ n, and-false)

  pub no_kind : is_kind (widths kind) ≡ false → refused 3 line ≡ decode (values l) line
  unfolding decode decode_as number_at guard
  no_kind k = rw (← spelt, is, k)

-- a line of less than two digits
pub short : (l : List ℕ) (line : ℕ) → length l < 2 → refused 3 line ≡ decode (values l) line
short l line h = wrong_length l line refl refl (λ e. omega arith)
