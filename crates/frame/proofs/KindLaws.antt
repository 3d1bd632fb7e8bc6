-- Laws of kinds: the kind that two digits spell, the kind of a line, and a line that has none.
use Prim.Native.Nat.{ℕ, suc, ◌+◌, ◌*◌, ◌/◌, ◌%◌, ◌<◌, ◌≤◌}
use mathlib.Core.Path.{◌≡◌, refl, sym, ap, ◌∙◌}
use mathlib.Core.List.{List}
use mathlib.Core.Logic.{◌⊎◌, inl, inr}
use mathlib.Core.Bool.{Bool, true, false, cond}
use native.Mathlib.Omega.{arith}
use Rattle.std.specs.Prelude.{Option, Some, None}
use Rattle.std.specs.Option.{ok_or}
use Rattle.std.proofs.lemmas.List.Sums.{prefix_len-le-length}
use lib.ListN.{length, take, drop, get_or}
use lib.Dec.{eqb, ltb}
use borrow.Author.Tests.{ltb-true, ltb-false, eqb-true, eqb-false, ne_eqb}
use Rattle.model.specs.Answers.{Answer}
use Rattle.model.specs.Answers.Answer.{ok, refused}
use Rattle.model.specs.Lines as model
use Rattle.model.specs.Lines.{is_digit, digit_of, line_feed, lines}
use Rattle.model.specs.Frames.{Frame, widths, is_kind, number, one_byte, decode_as, decode}
use Rattle.laws.specs.Digits.{byte_read}
use Rattle.laws.specs.Answers.{ok_injective, refused_not_ok, guard_ok}
use Rattle.digits.specs.Digits.{value_of, values, run, number_at}
use Rattle.digits.proofs.DigitLaws.{value_back, run_more, run_stop, byte_number}
use Rattle.frame.specs.declared.Op.{Op}
use Rattle.frame.specs.declared.Op.TheVariants.{And, Xor}
use Rattle.frame.specs.declared.kinds.Kind.{Kind}
use Rattle.frame.specs.declared.kinds.Kind.TheVariants.{Header, Gate, Output, Resolve, Extend, Report}
use Rattle.refusal.specs.declared.Reason.TheVariants.{Frame as Wrong}
use Rattle.frame.specs.Frames.{first, first_in}
use Rattle.frame.specs.Frames.First.{found}
use Rattle.frame.specs.Kinds.{operands_kind, byte_of, IsOp, Spell, Named, IsKind, HasKind, KindSays, Unframed}
use Rattle.frame.proofs.DecodeLaws.{no_kind, short}
use Rattle.frame.proofs.FieldLaws.{part_long, kind_spelt}
use Rattle.frame.proofs.FirstLaws.{none_found, found_fault}
use Rattle.frame.proofs.LineLaws.{read_end, read_open, read_other, read_whole}

-- ---- two digits

module _ (high low : ℕ) (hb : high < 256) (lb : low < 256) where
  -- bytes that are these digits
  pub named : {spelt : ℕ} (a b : ℕ) → a < 256 → b < 256 → spelt ≡ 256 * low + high → spelt ≡ 256 * b + a → is_digit a ≡ true → is_digit b ≡ true → {kind : ℕ} → kind ≡ 16 * value_of a + value_of b
      → Spell high low kind
  named a b ha hb' e q ia ib k =
      let h : high ≡ a = omega arith in
      let l : low ≡ b = omega arith in
      rw (h, l) (record { high_digit = ia; low_digit = ib; spelt = k })

  -- the same where the second is '2' or '3'
  pub named_op : {spelt : ℕ} (extends : Bool) (a p : ℕ) {op : Op} → IsOp low op → a < 256 → is_digit a ≡ true → value_of a ≡ p → operands_kind extends And ≡ 16 * p + 2 → operands_kind extends Xor ≡ 16 * p + 3
      → spelt ≡ 256 * low + high → (spelt ≡ 12800 + a) ⊎ (spelt ≡ 13056 + a) → Spell high low (operands_kind extends op)
  unfolding value_of
  named_op extends a p o ha ia v and xor e (inl q) =
      let l : low ≡ 50 = omega arith in
      rw (o.and l) (named a 50 ha (omega arith) e (omega arith) ia refl (rw v and))
  named_op extends a p o ha ia v and xor e (inr q) =
      let l : low ≡ 51 = omega arith in
      rw (o.xor l) (named a 51 ha (omega arith) e (omega arith) ia refl (rw v xor))

  -- digits that do not spell a number of the table
  pub not_spelt : (p q : ℕ) → p < 16 → q < 16 → (256 * low + high ≡ 256 * digit_of q + digit_of p → ⊥) → is_digit high ≡ true → is_digit low ≡ true
      → eqb (16 * value_of high + value_of low) (16 * p + q) ≡ false
  not_spelt p q hp hq not ih il =
      let h = value_back high ih in
      let l = value_back low il in
      ne_eqb _ _ (λ (s : 16 * value_of high + value_of low ≡ 16 * p + q).
      let u : value_of high ≡ p = omega (arith, h.0, l.0) in
      let v : value_of low ≡ q = omega (arith, h.0, l.0) in
      not (rw (← u, ← v, h.1, l.1)))

-- the digits of a byte
pub named_byte : (byte high low : ℕ) → byte < 256 → high ≡ digit_of (byte / 16) → low ≡ digit_of (byte % 16) → (k : Option Kind) → Named high low k → IsKind byte (ok_or k Wrong)
unfolding value_of
named_byte byte high low h eh el k n =
    let a = byte_read (byte / 16) (omega arith) in
    let b = byte_read (byte % 16) (omega arith) in
    let ih : is_digit high ≡ true = rw eh a.is_one in
    let il : is_digit low ≡ true = rw el b.is_one in
    let vh : value_of high ≡ byte / 16 = rw (eh, a.is_one) a.value in
    let vl : value_of low ≡ byte % 16 = rw (el, b.is_one) b.value in
    let e : 16 * value_of high + value_of low ≡ byte = omega arith in
    go k n ih il e
  where
    go : (k : Option Kind) → Named high low k → is_digit high ≡ true → is_digit low ≡ true → 16 * value_of high + value_of low ≡ byte → IsKind byte (ok_or k Wrong)
    go (Some k) s ih il e = sym (s.spelt ∙ e)
    go None none ih il e = (refl, rw e at (none ih il))

-- ---- the kind of a line

module _ (text : List ℕ) (room : one_byte ≤ length text) where
  known : (kind : ℕ) → Spell (get_or text 0 0) (get_or text 1 0) kind → HasKind text kind
  known kind s =
      let one = run_more text 0 (omega arith) s.high_digit in
      let two = run_more text 1 (omega arith) s.low_digit in
      record { room = room; goes = omega arith; spelt = s.spelt ∙ sym (byte_number text 0 room) }

  unknown : (is_digit (get_or text 0 0) ≡ true → is_digit (get_or text 1 0) ≡ true → is_kind (widths (16 * value_of (get_or text 0 0) + value_of (get_or text 1 0))) ≡ false) → Unframed text
  unknown none n line e h f = go (is_digit (get_or text 0 0)) (is_digit (get_or text 1 0)) refl refl
    where
      go : (t u : Bool) → is_digit (get_or text 0 0) ≡ t → is_digit (get_or text 1 0) ≡ u → refused 3 line ≡ decode (values (take n text)) line
      go true true t u =
          let k = known _ (record { high_digit = t; low_digit = u; spelt = refl }) in
          no_kind (take n text) line (kind_spelt text _ n k (omega (arith, k.goes))) refl (none t u)
      go true false t u =
          let one = run_more text 0 (omega arith) t in
          let two = run_stop text 1 (omega arith) u in
          short (take n text) line (omega (arith, part_long text n h))
      go false u t _ =
          let one = run_stop text 0 (omega arith) t in
          short (take n text) line (omega (arith, part_long text n h))

  pub kind_says : (k : Option Kind) → Named (get_or text 0 0) (get_or text 1 0) k → KindSays text k
  kind_says (Some k) s = known (byte_of k) s
  kind_says None none = unknown none

-- less than two bytes
pub unframed_short : (text : List ℕ) → length text < one_byte → Unframed text
unframed_short text r n line e h f = short (take n text) line (omega (arith, part_long text n h))

-- ---- the kind of a byte

abbrev kind_back : ℕ → Option Kind
kind_back n =
    cond (eqb n 1) (Some Header)
    (cond (eqb n 2) (Some (Gate And))
    (cond (eqb n 3) (Some (Gate Xor))
    (cond (eqb n 4) (Some Output)
    (cond (eqb n 17) (Some Resolve)
    (cond (eqb n 18) (Some (Extend And))
    (cond (eqb n 19) (Some (Extend Xor))
    (Some Report)))))))

back : (k : Kind) → kind_back (byte_of k) ≡ Some k
back Header = refl
back (Gate And) = refl
back (Gate Xor) = refl
back Output = refl
back Resolve = refl
back (Extend And) = refl
back (Extend Xor) = refl
back Report = refl

-- ---- a line that has a frame

-- the digits of the line, decoded
record Decoded (text : List ℕ) (line : ℕ) (f : Frame) : Type 0 where
  inside : run text < length text
  feed : get_or text (run text) 0 ≡ line_feed
  frame : decode (values (take (run text) text)) line ≡ ok f

decode_kind : (ds : List ℕ) (line : ℕ) {f : Frame} → decode ds line ≡ ok f → f.kind ≡ number 0 (take one_byte ds)
unfolding decode decode_as
decode_kind ds line e = sym (ap (λ (f : Frame). f.kind) (ok_injective (guard_ok _ 3 line _ e).1))

module _ (text : List ℕ) (line : ℕ) {f : Frame} {ls : List model.Line} {next : ℕ} (e : found f ls next ≡ first (lines text) line) where
  found_decoded : Decoded text line f
  found_decoded = start (eqb (length text) 0) refl
    where
      n : ℕ
      n = run text

      same : (a : Answer Frame) → found f ls next ≡ first_in a (lines (drop (suc n) text)) (suc line) → a ≡ ok f
      same (ok g) q = cc
      same (refused number place) q = absurd (found_fault q)

      go : (length text ≡ 0 → ⊥) → (b : Bool) → ltb n (length text) ≡ b → (d : Bool) → eqb (get_or text n 0) line_feed ≡ d → Decoded text line f
      go _ true b true d =
          let h = ltb-true n (length text) b in
          let l = eqb-true (get_or text n 0) line_feed d in
          record { inside = h; feed = l; frame = same _ (e ∙ read_whole text line n refl h l) }
      go _ true b false d = absurd (found_fault (e ∙ read_other text line n refl (ltb-true n (length text) b) (eqb-false (get_or text n 0) line_feed d)))
      go m false b d _ = absurd (found_fault (e ∙ read_open text line n refl (omega arith) (omega (arith, ltb-false n (length text) b, prefix_len-le-length is_digit text))))

      start : (t : Bool) → eqb (length text) 0 ≡ t → Decoded text line f
      start true t = absurd (none_found (sym (e ∙ read_end text line n refl (eqb-true (length text) 0 t))))
      start false t = go (eqb-false (length text) 0 t) (ltb n (length text)) refl (eqb (get_or text n 0) line_feed) refl

  -- its kind is what its first two digits spell
  pub found_kind : {kind : ℕ} → HasKind text kind → f.kind ≡ kind
  unfolding number_at
  found_kind {kind} k =
      let d = found_decoded in
      decode_kind _ line d.frame ∙ sym (kind_spelt text kind (run text) k (omega (arith, k.goes)))

  -- and it is not refused
  pub found_framed : Unframed text → ⊥
  found_framed u =
      let d = found_decoded in
      refused_not_ok (u (run text) line refl d.inside d.feed ∙ d.frame)

  -- so its kind is no other
  pub only : (due : Kind) → f.kind ≡ byte_of due → (k : Option Kind) → KindSays text k → k ≡ Some due
  only due is (Some k) s = sym (back k) ∙ ap kind_back (sym (found_kind s) ∙ is) ∙ back due
  only due is None s = absurd (found_framed s)
