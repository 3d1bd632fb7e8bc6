-- Laws of the frame that a kind and numbers make, by the digits that the kind's fields may have, and of four numbers in a list.
use Prim.Native.Nat.{ℕ, ◌^◌, ◌<◌}
use mathlib.Core.Path.{◌≡◌, refl}
use mathlib.Core.List.{List, [], ◌∷◌}
use mathlib.Core.Bool.{Bool, true, false, and-false, true≢false}
use native.Mathlib.Omega.{arith}
use lib.Dec.{eqb, ltb}
use lib.ListN.{length, get_or, take}
use borrow.Author.Tests.{lt-ltb, le-ltb, eqb-true}
use Rattle.model.specs.Answers.{guard}
use Rattle.model.specs.Answers.Answer.{ok, refused}
use Rattle.model.specs.Frames.{widths, is_kind, report_kind, two_bytes}
use Rattle.frame.specs.declared.Op.{Op}
use Rattle.frame.specs.declared.Op.TheVariants.{And, Xor}
use Rattle.frame.specs.Kinds.{operands_kind}
use Rattle.std.specs.Prelude.{Result, Ok, Err}
use Rattle.std.specs.Result.{OkIff}
use Rattle.std.specs.declared.num.TryFromIntError.{TryFromIntError}
use Rattle.refusal.specs.declared.Reason.TheVariants.{Frame as Wrong}
use Rattle.refusal.specs.declared.Refusal.{Refusal}
use Rattle.cec_abi.specs.Calls.{any_number, limits, fit, frame_from, FieldOf}

-- ---- a number against the digits of its field

-- the refusal of a number that does not fit
abbrev pub wrong : Refusal
wrong = record { reason = Wrong; line = 0 }

-- what `field` says of a number and its answer
abbrev Fielded : ℕ → ℕ → Result ℕ Refusal → Type 0
Fielded width n r = (t : Result ℕ TryFromIntError) × OkIff t (n < 16 ^ width) n × FieldOf t r

-- The number that `field` took is n: it fits, and is the field.
pub fits : (width n : ℕ) {m x : ℕ} → Fielded width m (Ok x) → m ≡ n → (x ≡ n) × (ltb n (16 ^ width) ≡ true)
fits width n (Ok y, h, e) same = (cc, lt-ltb n (16 ^ width) (omega (arith, h.0)))
fits width n (Err y, h, e) same = cc

-- or it does not, and is refused by 3 at line 0
pub misfits : (width n : ℕ) {m : ℕ} {r : Refusal} → Fielded width m (Err r) → m ≡ n → (r ≡ wrong) × (ltb n (16 ^ width) ≡ false)
misfits width n (Ok y, h, e) same = cc
misfits width n (Err y, h, e) same = (cc, le-ltb n (16 ^ width) (omega (arith, h)))

pub in_any : (n : ℕ) → n < 2 ^ 64 → ltb n (16 ^ any_number) ≡ true
in_any n h = lt-ltb n (16 ^ any_number) h

-- ---- the limits of a kind

-- a gate's and an extension's fields have the same limits for AND and XOR
pub operands_limits : (extends : Bool) (op : Op) → limits (operands_kind extends op) ≡ two_bytes ∷ two_bytes ∷ []
unfolding limits widths
operands_limits false And = refl
operands_limits false Xor = refl
operands_limits true And = refl
operands_limits true Xor = refl

-- a kind outside the table is no report's
pub outside : (kind : ℕ) → is_kind (widths kind) ≡ false → is_kind (limits kind) ≡ false
unfolding limits widths
outside kind e = go (eqb kind report_kind) refl
  where
    go : (b : Bool) → eqb kind report_kind ≡ b → is_kind (limits kind) ≡ false
    go true q = absurd (true≢false (rw (eqb-true kind report_kind q) at e))
    go false q = rw q (rw q at e)

-- ---- the ways of making a frame, where `ws` are the digits that its fields may have

module _ (kind : ℕ) {ws : List ℕ} (numbers : List ℕ) (known : limits kind ≡ ws) where
  pub framed : is_kind ws ≡ true → fit ws numbers ≡ true → ok (record { kind = kind; fields = take (length ws) numbers }) ≡ frame_from kind numbers
  unfolding frame_from guard
  framed k h = rw (known, k, h)

  pub unfit : fit ws numbers ≡ false → refused 3 0 ≡ frame_from kind numbers
  unfolding frame_from guard
  unfit h = rw (known, h, and-false)

  pub no_kind : is_kind ws ≡ false → refused 3 0 ≡ frame_from kind numbers
  unfolding frame_from guard
  no_kind k = rw (known, k)

-- a gate and an extension take two of the numbers
pub two_numbers : (extends : Bool) (op : Op) (x y : ℕ) (rest : List ℕ) → frame_from (operands_kind extends op) (x ∷ y ∷ []) ≡ frame_from (operands_kind extends op) (x ∷ y ∷ rest)
unfolding limits widths fit frame_from
two_numbers false And x y rest = refl
two_numbers false Xor x y rest = refl
two_numbers true And x y rest = refl
two_numbers true Xor x y rest = refl

-- ---- a list of four

pub four : (l : List ℕ) → length l ≡ 4 → get_or l 0 0 ∷ get_or l 1 0 ∷ get_or l 2 0 ∷ get_or l 3 0 ∷ [] ≡ l
four [] h = absurd (omega arith)
four (a ∷ []) h = absurd (omega arith)
four (a ∷ b ∷ []) h = absurd (omega arith)
four (a ∷ b ∷ c ∷ []) h = absurd (omega arith)
four (a ∷ b ∷ c ∷ d ∷ []) h = refl
four (a ∷ b ∷ c ∷ d ∷ e ∷ l) h = absurd (omega arith)
