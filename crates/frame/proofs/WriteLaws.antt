-- Laws of writing: stores one behind the other, digits stored from the last to the first, fields in turn, and a buffer's zeros.
use Prim.Native.Nat.{ℕ, zero, suc, ◌+◌, ◌-◌, ◌/◌, ◌%◌, ◌<◌, ◌≤◌}
use mathlib.Core.Path.{◌≡◌, refl, sym, ap, ◌∙◌}
use mathlib.Core.List.{List, [], ◌∷◌, ◌++◌, append_assoc, append-nil}
use mathlib.Core.Bool.{Bool, true, false, and-false}
use native.Mathlib.Omega.{arith}
use lib.Dec.{leb}
use lib.ListN.{length, drop, get_or, set, length-replicate, drop_of_length-le}
use native.Mathlib.Numerals.{add-one}
use lib.Seq.{sets, sets-eq, length-sets, set_comm, drop-cons}
use borrow.Author.Tests.{le-leb, lt-leb}
use Rattle.model.specs.Limits.{highest_line}
use Rattle.model.specs.Answers.{guard, zeros, filled}
use Rattle.model.specs.Answers.Answer.{ok, refused}
use Rattle.model.specs.Lines.{digit_of, line_feed}
use Rattle.model.specs.Frames.{Frame, widths, total, hex, hex_fields, line_of, stated_line, write_frame, written_frame, one_byte, two_bytes}
use Rattle.laws.specs.Digits.{length_hex}
use Rattle.laws.specs.RoundTrip.{line_length}
use Rattle.frame.specs.declared.Op.{Op}
use Rattle.frame.specs.declared.Op.TheVariants.{And, Xor}
use Rattle.frame.specs.declared.fields.Field.{Field}
use Rattle.frame.specs.declared.fields.Fields.{Fields}
use Rattle.frame.specs.Frames.{report, values_of, widths_of, Spells}
use Rattle.frame.specs.Kinds.{operands_kind}

-- ---- stores

pub sets_append : (l : List ℕ) (i : ℕ) (xs ys : List ℕ) → sets l i (xs ++ ys) ≡ sets (sets l i xs) (i + length xs) ys
sets_append l i [] ys = let e : i + 0 ≡ i = omega arith in rw e
sets_append l i (x ∷ xs) ys = let e : i + suc (length xs) ≡ suc i + length xs = omega arith in rw e (sets_append (set l i x) (suc i) xs ys)

-- a store behind others may come first
set_first : (l : List ℕ) (i k : ℕ) (xs : List ℕ) (d : ℕ) → i + length xs ≤ k → sets (set l k d) i xs ≡ set (sets l i xs) k d
set_first l i k [] d h = refl
set_first l i k (x ∷ xs) d h =
    rw (set_comm l k i d x (λ e. omega arith)) (set_first (set l i x) (suc i) k xs d (omega arith))

-- ---- digits

-- the last of the digits is stored, and the others are left
pub store_digit : (out : List ℕ) (at left n d : ℕ) → d ≡ digit_of (n % 16) → sets (set out (at + left) d) at (hex left (n / 16)) ≡ sets out at (hex (suc left) n)
unfolding hex
store_digit out at left n d e =
    let h : length (hex left (n / 16)) ≡ left = length_hex left (n / 16) in
    rw (sets_append out at (hex left (n / 16)) (digit_of (n % 16) ∷ []), h, e)
    (set_first out at (at + left) (hex left (n / 16)) (digit_of (n % 16)) (omega arith))

-- ---- fields

-- the first field is stored, and then those behind it
pub store_field : (out : List ℕ) (p w v : ℕ) (ws vs : List ℕ) (tail : List ℕ)
    → sets (sets out p (hex w v)) (p + w) (hex_fields ws vs ++ tail) ≡ sets out p (hex_fields (w ∷ ws) (v ∷ vs) ++ tail)
unfolding hex_fields
store_field out p w v ws vs tail =
    rw (append_assoc (hex w v) (hex_fields ws vs) tail, sets_append out p (hex w v) (hex_fields ws vs ++ tail), length_hex w v)

-- both kinds of a gate, and both of an extension, have two literals
pub operands_widths : (extends : Bool) (op : Op) → widths (operands_kind extends op) ≡ two_bytes ∷ two_bytes ∷ []
unfolding widths
operands_widths false And = refl
operands_widths false Xor = refl
operands_widths true And = refl
operands_widths true Xor = refl

-- a line's length, where the widths of its kind are known to be ws
pub line_by_widths : (f : Frame) (ws : List ℕ) → ws ≡ widths f.kind → length f.fields ≡ length ws → length (line_of f) ≡ one_byte + total ws + 1
line_by_widths f ws e n = rw e (line_length f (n ∙ ap length e))

-- ---- fields in turn

-- Of these fields the first i are stored: the place has moved past them, and storing the others and the LF gives what storing all of them from
-- the start gives.
pub record Storing (fields : List Field) (out₀ : List ℕ) (p₀ i : ℕ) (out : List ℕ) (p : ℕ) : Type 0 where
  pub long : length out ≡ length out₀
  pub place : p + total (widths_of (drop i fields)) ≡ p₀ + total (widths_of fields)
  pub same : sets out p (hex_fields (widths_of (drop i fields)) (values_of (drop i fields)) ++ (line_feed ∷ [])) ≡ sets out₀ p₀ (hex_fields (widths_of fields) (values_of fields) ++ (line_feed ∷ []))

abbrev none : Field
none = record { value = 0; width = 0 }

module _ (fields : List Field) (out₀ : List ℕ) (p₀ i : ℕ) (out : List ℕ) (p : ℕ) (s : Storing fields out₀ p₀ i out p) where
  -- the place moves past field i
  past : i < length fields → p + (get_or fields i none).width + total (widths_of (drop (suc i) fields)) ≡ p₀ + total (widths_of fields)
  unfolding total
  past h = let e = rw (drop-cons fields i none h) at s.place in omega arith

  pub field_room : i < length fields → p₀ + total (widths_of fields) + 1 ≤ length out₀ → p + (get_or fields i none).width ≤ length out
  field_room h r = omega (arith, past h, s.long)

  pub field_stored : i < length fields → (out' : List ℕ) (p' : ℕ) → out' ≡ sets out p (hex (get_or fields i none).width (get_or fields i none).value) → p' ≡ p + (get_or fields i none).width
      → Storing fields out₀ p₀ (i + 1) out' p'
  field_stored h out' p' e q =
      record {
        long = rw (e, length-sets) s.long;
        place = rw (q, add-one) (past h);
        same =
            rw (
              e,
              q,
              add-one,
              store_field out p (get_or fields i none).width (get_or fields i none).value (widths_of (drop (suc i) fields)) (values_of (drop (suc i) fields)) (line_feed ∷ []),
            )
            (rw (drop-cons fields i none h) at s.same);
      }

  -- none is left
  pub fields_stored : length fields ≤ i → (p ≡ p₀ + total (widths_of fields)) × (set out p line_feed ≡ sets out₀ p₀ (hex_fields (widths_of fields) (values_of fields) ++ (line_feed ∷ [])))
  unfolding total hex_fields
  fields_stored h =
      let e = rw (drop_of_length-le fields h) at s.place in
      (omega arith, rw (drop_of_length-le fields h) at s.same)

-- ---- a frame's line

-- fields of no digits behind the last are not written
no_digits : (n : ℕ) → hex_fields (zeros n) (zeros n) ≡ []
unfolding hex_fields hex
no_digits zero = refl
no_digits (suc n) = no_digits n

fields_alone : (ws vs : List ℕ) (n : ℕ) → length vs ≡ length ws → hex_fields (ws ++ zeros n) (vs ++ zeros n) ≡ hex_fields ws vs
unfolding hex_fields
fields_alone [] [] n e = no_digits n
fields_alone [] (v ∷ vs) n e = absurd (omega arith)
fields_alone (w ∷ ws) [] n e = absurd (omega arith)
fields_alone (w ∷ ws) (v ∷ vs) n e = rw (fields_alone ws vs n (omega arith))

no_total : (n : ℕ) → total (zeros n) ≡ 0
unfolding total
no_total zero = refl
no_total (suc n) = omega (arith, no_total n)

total_alone : (ws : List ℕ) (n : ℕ) → total (ws ++ zeros n) ≡ total ws
unfolding total
total_alone [] n = no_total n
total_alone (w ∷ ws) n = rw (total_alone ws n)

module _ (w : Fields) (f : Frame) (s : Spells w f) where
  pub line_long : length (line_of f) ≡ one_byte + total (widths_of w.fields) + 1
  line_long = line_by_widths f (widths f.kind) refl s.long ∙ rw (s.widths, total_alone (widths f.kind) (4 - length f.fields))

  -- the kind is stored, and then the fields
  pub line_stored : (out : List ℕ) (at : ℕ)
      → sets (sets out at (hex one_byte w.kind)) (at + one_byte) (hex_fields (widths_of w.fields) (values_of w.fields) ++ (line_feed ∷ [])) ≡ sets out at (line_of f)
  unfolding line_of
  line_stored out at =
      rw (
        append_assoc (hex one_byte f.kind) (hex_fields (widths f.kind) f.fields) (line_feed ∷ []),
        s.kind,
        s.widths,
        s.values,
        fields_alone (widths f.kind) f.fields (4 - length f.fields) s.long,
        sets_append out at (hex one_byte f.kind) (hex_fields (widths f.kind) f.fields ++ (line_feed ∷ [])),
        length_hex one_byte f.kind,
      )

-- ---- zeros

pub drop_zeros : (n m : ℕ) → drop n (zeros m) ≡ zeros (m - n)
drop_zeros zero m = let e : m - 0 ≡ m = omega arith in rw e
drop_zeros (suc n) zero = let e : 0 - suc n ≡ 0 = omega arith in rw e
drop_zeros (suc n) (suc m) = let e : suc m - suc n ≡ m - n = omega arith in rw e (drop_zeros n m)

-- content stored at the start of a cleared buffer
pub fill : (n : ℕ) (content : List ℕ) → length content ≤ n → sets (zeros n) 0 content ≡ filled n content
fill n content h =
    let k : 0 + length content ≤ length (zeros n) = simp length-replicate (omega arith) in
    let z : 0 + length content ≡ length content = omega arith in
    rw (sets-eq content (zeros n) 0 k, z, drop_zeros (length content) n)

-- ---- the ways of writing a frame into a buffer: the reply, and the buffer

module _ (f : Frame) (room : ℕ) where
  refuses : write_frame f room ≡ refused 16 0 → {buffer : List ℕ} → buffer ≡ zeros room → (refused 16 0 ≡ write_frame f room) × (buffer ≡ written_frame f room)
  refuses e b = (sym e, rw e b)

  pub write_unfit : leb (stated_line f) highest_line ≡ false → {buffer : List ℕ} → buffer ≡ zeros room → (refused 16 0 ≡ write_frame f room) × (buffer ≡ written_frame f room)
  unfolding write_frame guard
  write_unfit n = refuses (rw n)

  pub write_short : room < length (line_of f) → {buffer : List ℕ} → buffer ≡ zeros room → (refused 16 0 ≡ write_frame f room) × (buffer ≡ written_frame f room)
  unfolding write_frame guard
  write_short h = refuses (rw (lt-leb (length (line_of f)) room h, and-false))

  pub write_done : leb (stated_line f) highest_line ≡ true → length (line_of f) ≤ room → {n : ℕ} → n ≡ length (line_of f) → {buffer : List ℕ} → buffer ≡ sets (zeros room) 0 (line_of f)
      → (ok n ≡ write_frame f room) × (buffer ≡ written_frame f room)
  unfolding write_frame guard
  write_done n h e b = (rw (n, le-leb (length (line_of f)) room h, e), rw (n, le-leb (length (line_of f)) room h) (b ∙ fill room (line_of f) h))

-- ---- a report's line, in a buffer of just its length

pub report_length : (refusal line steps clauses : ℕ) → length (line_of (report refusal line steps clauses)) ≡ 19
unfolding widths total
report_length refusal line steps clauses = line_length (report refusal line steps clauses) refl

-- a line that fills a buffer of zeros
pub whole_buffer : (line : List ℕ) {n : ℕ} → length line ≡ n → sets (zeros n) 0 line ≡ line
whole_buffer line e =
    let none : length line - length line ≡ 0 = omega arith in
    rw (← e) (fill (length line) line (omega arith) ∙ rw (none, append-nil))
