-- One gate: its form is folded as its representative is made, case by case, so `merge` or `fresh` takes the invariant one net further.
use Prim.Native.Nat.{ℕ, suc, ◌≤◌, ◌<◌}
use Rattle.std.specs.Prelude.{◌≡◌, refl, Bool, ◌&&◌, ◌||◌, List, get_or, leb}
use Rattle.std.proofs.Common.{sym, ap, ap₂, ◌∙◌, arith}
use Rattle.std.proofs.Math.Bool.{true, false, cond}
use Rattle.std.proofs.Math.Dec.{eqb}
use borrow.Author.Tests.{eqb-true, eq-eqb, ne_eqb, leb-true, leb-false}
use Rattle.model.specs.Nets.{net_of, odd, xorb}
use Rattle.model.specs.Clauses.{positive, neg}
use Rattle.model.specs.Forms.{Form, form, flip, false_core, never, always, fold_and, fold_xor, xor_cores, literal_form}
use Rattle.laws.specs.Bools.{by_cond, either, xorb_self, below_or_at}
use Rattle.laws.specs.Literals.{positive_even}
use Rattle.fold_laws.specs.Signs.{signed}
use Rattle.fold_laws.proofs.Signs.{signed_net}
use Rattle.fold_laws.specs.Same.{◌~◌, fold, new_form, same_by}
use Rattle.fold_laws.proofs.Same.{~sym, ~trans, ~path, ~flip, fold~, fold_swap, xor_flip}
use Rattle.fold_laws.specs.Cases.{Made, AndCase, AndIs, and_case, and_made, XorCase, XorIs, xor_case, xor_made, made}
use Rattle.fold_laws.proofs.Cases.{and_is, xor_is, by_made}
use Rattle.fold_laws.specs.Cases.Made.{is, key}
use Rattle.fold_laws.specs.Cases.AndCase.{nil, pass, opp, pair}
use Rattle.fold_laws.specs.Cases.XorCase.{pass, same, pair}
use Rattle.fold_laws.specs.Table.{Entry, at, rep_of, ordered, part, sign_of}
use Rattle.fold_laws.proofs.Entries.{kind_inj, rep_signed, own_over}
use Rattle.fold_laws.specs.Facts.{Laws, Stands, GateFact, Operand}
use Rattle.fold_laws.proofs.Facts.{zero_operand, operand}
use Rattle.fold_laws.specs.Invariant.{Shape, Inv}
use Rattle.fold_laws.proofs.Invariant.{form_signed, rep_form, by_rep, merge, fresh}
use Rattle.fold_laws.specs.Invariant.Shape.{base, gate}

positive_form : (fs : List Form) (v : ℕ) → literal_form fs (positive v) ≡ get_or fs v never
unfolding literal_form
positive_form fs v = let n : net_of (positive v) ≡ v = omega arith in rw (positive_even v, n)

module _ {fs : List Form} {t : List Entry} {N first v : ℕ} (laws : Laws t N) (more : v < N) (i : Inv fs t first v)
    (zero-form : literal_form fs 0 ≡ never) (some : 0 < v) where
  abbrev F : ℕ → Form
  F = literal_form fs

  -- ---- forms are folded as representatives are

  form_of : Bool → Made → Form
  form_of k (is r) = F r
  form_of k (key a b) = new_form k (F a) (F b)

  zero_of : (k : Bool) → Operand t v k 0
  zero_of k = zero_operand laws v some k

  neg_of : {a : ℕ} → Operand t v false a → Operand t v false (neg a)
  neg_of {a} p = record { below = omega (arith, p.below); own = rep_signed t true a ∙ ap neg p.own; plain = refl }

  one_form : F 1 ≡ always
  one_form = form_signed fs true 0 ∙ ap (flip true) zero-form

  and_made_lem : {a b : ℕ} → a ≤ b → Operand t v false a → Operand t v false b → (c : AndCase) → AndIs a b c
      → fold_and (F a) (F b) ≡ form_of false (and_made c a b)
  unfolding fold_and same_by form_of
  and_made_lem {a} {b} h p q c d =
      rw (
        ← zero-form,
        ← one_form,
        ← form_signed fs true b,
        by_rep laws more i false p (zero_of false),
        by_rep laws more i false q (zero_of false),
        by_rep laws more i false p (neg_of (zero_of false)),
        by_rep laws more i false q (neg_of (zero_of false)),
        by_rep laws more i false p q,
        by_rep laws more i false p (neg_of q),
      )
      (go c d)
    where
      -- no constant
      inner : 2 ≤ a → (f : Form) → cond (eqb a 0 || eqb b 0) (F 0) (cond (eqb a 1) (F b) (cond (eqb b 1) (F a) f)) ≡ f
      inner l f = rw (ne_eqb a 0 (omega arith), ne_eqb b 0 (omega arith), ne_eqb a 1 (omega arith), ne_eqb b 1 (omega arith))

      go : (c : AndCase) → AndIs a b c
          → cond (eqb a 0 || eqb b 0) (F 0)
          (cond (eqb a 1) (F b)
          (cond (eqb b 1) (F a)
          (cond (eqb a b) (F b)
          (cond (eqb a (neg b)) (F 0)
          (new_form false (F a) (F b))))))
          ≡ form_of false (and_made c a b)
      go nil d = rw (eq-eqb a 0 d)
      go pass d =
          rw (ne_eqb a 0 d.0, ne_eqb b 0 (omega (arith, d.0)))
          (either (eqb a 1) (eqb a b) d.1 (λ e. rw e)
          (λ e.
          by_cond (λ f. f ≡ F b) (eqb a 1) (λ _. refl)
          (λ _. by_cond (λ f. f ≡ F b) (eqb b 1) (λ _. ap F (eqb-true a b e)) (λ _. rw e))))
      go opp d = inner d.0 _ ∙ rw (ne_eqb a b (omega arith), eq-eqb a (neg b) (omega arith))
      go pair d = inner d.0 _ ∙ rw (ne_eqb a b (omega arith), ne_eqb a (neg b) (omega arith))

  xor_made_lem : {a b : ℕ} → a ≤ b → Operand t v true a → Operand t v true b → (c : XorCase) → XorIs a b c
      → fold_xor (F a) (F b) ≡ form_of true (xor_made c a b)
  unfolding fold_xor xor_cores same_by form_of
  xor_made_lem {a} {b} h p q c d =
      rw (
        rw zero-form at (by_rep laws more i true p (zero_of true)),
        rw zero-form at (by_rep laws more i true q (zero_of true)),
        by_rep laws more i true p q,
      )
      (go c d)
    where
      go : (c : XorCase) → XorIs a b c
          → form (xorb (F a).sign (F b).sign)
          (cond (eqb a 0) (F b).core
          (cond (eqb b 0) (F a).core
          (cond (eqb a b) false_core
          (new_form true (F a) (F b)).core)))
          ≡ form_of true (xor_made c a b)
      go pass d = rw (d, zero-form)
      go same d =
          rw (ne_eqb a 0 (omega arith), ne_eqb b 0 (omega arith), eq-eqb a b d.1, d.1, zero-form)
          (ap (λ (s : Bool). form s false_core) (xorb_self (F b).sign))
      go pair d = rw (ne_eqb a 0 (omega arith), ne_eqb b 0 (omega arith), ne_eqb a b (omega arith))

  fold_made : (k : Bool) {a b : ℕ} → a ≤ b → Operand t v k a → Operand t v k b
      → fold k (F a) (F b) ≡ form_of k (made k a b)
  fold_made false {a} {b} h p q = and_made_lem h p q (and_case a b) (and_is a b h)
  fold_made true {a} {b} h p q = xor_made_lem h p q (xor_case a b) (xor_is a b h p.plain q.plain)

  -- ---- one net further

  -- by what its literal n stands for
  Next : Bool → ℕ → Made → Type 0
  Next k n m = F n ~ form_of k m → Stands t first k n m → Inv fs t first (suc v)

  next_literal : (k : Bool) (n : ℕ) {r : ℕ} → net_of n ≡ v → Operand t v k r → Next k n (is r)
  unfolding Next form_of
  next_literal k n o p f e = merge laws more i n o (rw e p.below) (rw e f)

  next_key : (k : Bool) (n : ℕ) {a b : ℕ} → net_of n ≡ v → Operand t v k a → Operand t v k b → net_of a < net_of b → Next k n (key a b)
  unfolding Next form_of
  next_key k n {a} {b} o p q h f s = below_or_at w v (omega (arith, laws.down n (omega arith))) old new
    where
      w : ℕ
      w = net_of (rep_of t n)

      -- the gate that has the key is below
      old : w < v → Inv fs t first (suc v)
      old d = go (i.shapes w d (own_over t (rep_of t n) (positive w) (omega arith) (laws.idem n (omega arith))))
        where
          go : Shape fs t first w → Inv fs t first (suc v)
          go (base j z c) = absurd (omega (arith, s.from))
          go (gate m c) =
              let like = rw (kind_inj m k (sym c.kind ∙ s.kind), s.ka, s.kb, s.core) at c.form in
              merge laws more i n o d (~trans f (~sym like))

      -- it is this one
      new : w ≡ v → Inv fs t first (suc v)
      new e =
          let r : rep_of t n ≡ n = laws.fixed n (omega arith) (e ∙ sym o) in
          let ka : (at t v).ka ≡ a = rw e at s.ka in
          let kb : (at t v).kb ≡ b = rw e at s.kb in
          let core : (at t v).core ≡ n = (rw e at s.core) ∙ r in
          fresh laws more i k (own_over t n (positive v) (omega arith) r)
          (record {
            kind = rw e at s.kind;
            first = rw ka p;
            second = rw kb q;
            rising = rw (ka, kb) h;
            over = rw core o;
            form = rw (core, ka, kb) f;
          })
          (rw (ka, kb) (rw e at s.none))

  next_made : (k : Bool) (n : ℕ) {a b : ℕ} → net_of n ≡ v → Operand t v k a → Operand t v k b → a ≤ b
      → F n ~ fold k (F a) (F b) → Stands t first k n (made k a b) → Inv fs t first (suc v)
  unfolding Next
  next_made k n {a} {b} o p q h f =
      by_made (Next k n) k a b h p.plain q.plain (next_literal k n o (zero_of k)) (next_literal k n o q) (λ c d. next_key k n o p q d)
      (~trans f (~path (fold_made k h p q)))

  -- signs that were taken off operands are put on the result
  signs_off : (k c d : Bool) (f g : Form) → flip (xorb (k && c) (k && d)) (fold k f g) ≡ fold k (flip (k && c) f) (flip (k && d) g)
  signs_off true c d f g = sym (xor_flip c d f g)
  signs_off false c d f g = refl

  pub step : (k : Bool) (x y : ℕ) → net_of x < v → net_of y < v → get_or fs v never ≡ fold k (F x) (F y)
      → GateFact t first v k x y → Inv fs t first (suc v)
  unfolding ordered
  step k x y hx hy f =
      by_cond (λ (m : Made). Stands t first k n m → Inv fs t first (suc v)) (leb a b)
      (λ c. next_made k n over (part_of x hx) (part_of y hy) (leb-true a b c) like)
      (λ c. next_made k n over (part_of y hy) (part_of x hx) (omega (arith, leb-false a b c)) (~trans like (fold_swap k _ _)))
    where
      p : ℕ
      p = rep_of t x

      q : ℕ
      q = rep_of t y

      a : ℕ
      a = part k p

      b : ℕ
      b = part k q

      n : ℕ
      n = signed (sign_of k p q) (positive v)

      over : net_of n ≡ v
      over = signed_net (sign_of k p q) (positive v) ∙ omega arith

      part_of : (x : ℕ) → net_of x < v → Operand t v k (part k (rep_of t x))
      part_of = operand laws v (omega arith) k

      like : F n ~ fold k (F a) (F b)
      like =
          ~trans (~path (form_signed fs (sign_of k p q) (positive v) ∙ ap (flip (sign_of k p q)) (positive_form fs v ∙ f)))
          (~trans (~flip (sign_of k p q) (fold~ k (rep_form laws more i x hx) (rep_form laws more i y hy)))
          (~path (signs_off k (odd p) (odd q) (F p) (F q)
          ∙ ap₂ (fold k) (sym (form_signed fs (k && odd p) p)) (sym (form_signed fs (k && odd q) q)))))
