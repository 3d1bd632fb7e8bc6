-- Literals have the same form exactly if they have the same representative (J), of a table that meets T1. It is kept up from net to net by
-- two laws: `merge`, for a net that stands for another's literal, and `fresh`, for a gate whose key no net below has, the only one that looks
-- into cores.
use Rattle.std.specs.Prelude.{ℕ, suc, ◌<◌, ◌≡◌, refl, Bool, not, ◌&&◌, List, get_or, eqb}
use Rattle.std.proofs.Common.{sym, ap, ap₂, ◌∙◌, true≢false, arith}
use Rattle.std.proofs.Math.Bool.{true, false, and-false}
use borrow.Author.Tests.{eqb-true, eq-eqb, ne_eqb}
use Rattle.model.specs.Nets.{net_of, xorb, odd}
use Rattle.model.specs.Clauses.{positive, neg}
use Rattle.model.specs.Forms.{Core, Form, flip, never, alike, same, same_form, literal_form}
use Rattle.model.specs.Forms.Core.{leaf}
use Rattle.laws.specs.Bools.{both, either, eqb_sym, below_or_at}
use Rattle.fold_laws.specs.Signs.{signed}
use Rattle.fold_laws.proofs.Signs.{signed_net, odd_signed, even_not_neg, same_net}
use Rattle.fold_laws.specs.Same.{◌≈◌, new_form, same_by}
use Rattle.fold_laws.proofs.Same.{alike_true, same_left, same_form_sym, new_same}
use Rattle.fold_laws.specs.Same.{◌~◌}
use Rattle.fold_laws.proofs.Same.{~core, ~refl, ~left, ~right, ~trans, ~path, ~flip, flip_flip}
use Rattle.fold_laws.specs.Table.{Entry, at, rep_of}
use Rattle.fold_laws.specs.Entries.{NoneBelow}
use Rattle.fold_laws.proofs.Entries.{rep_signed, own_over}
use Rattle.fold_laws.specs.Facts.{Laws, Operand}
use Rattle.fold_laws.specs.Invariant.{OfKey, Shape, Tells, Inv}
use Rattle.fold_laws.specs.Invariant.Shape.{base, gate}

-- ---- forms of literals

pub form_signed : (fs : List Form) (b : Bool) (l : ℕ) → literal_form fs (signed b l) ≡ flip b (literal_form fs l)
unfolding literal_form
form_signed fs b l = rw (odd_signed b l, signed_net b l) (sym (flip_flip b (odd l) (get_or fs (net_of l) never)))

core_net : (fs : List Form) (l m : ℕ) → net_of l ≡ net_of m → (literal_form fs l).core ≡ (literal_form fs m).core
unfolding literal_form
core_net fs l m e = rw e

-- forms that are neither the same nor opposite have other cores
cores : (f g : Form) (q : Bool) → same_form f g ≡ q → same_form f (flip true g) ≡ false → same f.core g.core ≡ q
unfolding same_form
cores f g q e d = go (alike f.sign g.sign) refl
  where
    alike_not : (a b : Bool) → alike a b ≡ false → alike a (not b) ≡ true
    alike_not true true e = absurd (true≢false e)
    alike_not true false e = refl
    alike_not false true e = refl
    alike_not false false e = absurd (true≢false e)

    go : (r : Bool) → alike f.sign g.sign ≡ r → same f.core g.core ≡ q
    go true h = rw h at e
    go false h = rw (alike_not f.sign g.sign h) at d ∙ (rw h at e)

other_core : (f g : Form) → same f.core g.core ≡ false → same_form f g ≡ false
unfolding same_form
other_core f g e = rw e (and-false (alike f.sign g.sign))

leaf_new : (k : Bool) (j : ℕ) (f g : Form) → same (leaf j) (new_form k f g).core ≡ false
unfolding same
leaf_new true j f g = refl
leaf_new false j f g = refl

-- a form and itself, or its complement, as a literal and itself or its complement
self : (c : Bool) (f : Form) (m : ℕ) → same_form (flip c f) f ≡ eqb (signed c m) m
unfolding same_form
self true f m = rw (not_alike f.sign) (sym (ne_eqb (neg m) m (omega arith)))
  where
    not_alike : (a : Bool) → alike (not a) a ≡ false
    not_alike true = refl
    not_alike false = refl
self false f m = (~refl f).eq ∙ sym (eq-eqb m m refl)

tells_sym : (fs : List Form) (t : List Entry) (l m : ℕ) → Tells fs t l m → Tells fs t m l
tells_sym fs t l m e = same_form_sym (literal_form fs m) (literal_form fs l) ∙ e ∙ eqb_sym (rep_of t l) (rep_of t m)

-- ---- one net more

module _ {fs : List Form} {t : List Entry} {N first v : ℕ} (laws : Laws t N) (more : v < N) (i : Inv fs t first v) where
  abbrev F : ℕ → Form
  F = literal_form fs

  -- a literal and its representative
  pub rep_form : (l : ℕ) → net_of l < v → F l ~ F (rep_of t l)
  rep_form l h =
      let b = laws.down l (omega arith) in
      record { eq = i.J l (rep_of t l) h (omega arith) ∙ eq-eqb (rep_of t l) (rep_of t (rep_of t l)) (sym (laws.idem l (omega arith))) }

  -- what a kind compares is told by representatives
  pub by_rep : (k : Bool) {l m : ℕ} → Operand t v k l → Operand t v k m → same_by k (F l) (F m) ≡ eqb l m
  unfolding same_by
  by_rep false {l} {m} p q = rw (i.J l m p.below q.below, p.own, q.own)
  by_rep true {l} {m} p q =
      cores (F l) (F m) (eqb l m) (i.J l m p.below q.below ∙ rw (p.own, q.own))
      (ap (same_form (F l)) (sym (form_signed fs true m))
      ∙ i.J l (neg m) p.below (omega (arith, q.below))
      ∙ rw (p.own, rep_signed t true m, q.own, ne_eqb l (neg m) (even_not_neg l m p.plain q.plain)))

  -- ---- a net that is another's literal

  -- up to v every literal has the form of its representative, which lies below v
  pub merge : (n : ℕ) → net_of n ≡ v → net_of (rep_of t n) < v → F n ~ F (rep_of t n) → Inv fs t first (suc v)
  merge n o h f =
      record {
        shapes = λ u d x. below_or_at u v d (λ d. i.shapes u d x) (λ q. absurd (omega (arith, own_over t (positive u) n (omega arith) x)));
        J = λ l m d c.
            let a = linked l d in
            let b = linked m c in
            ~left a.1 (F m)
            ∙ ~right b.1 (F (rep_of t l))
            ∙ i.J (rep_of t l) (rep_of t m) a.0 b.0
            ∙ ap₂ eqb (laws.idem l (omega arith)) (laws.idem m (omega arith));
      }
    where
      linked : (l : ℕ) → net_of l < suc v → (net_of (rep_of t l) < v) × (F l ~ F (rep_of t l))
      linked l d =
          below_or_at (net_of l) v d (λ d. (omega (arith, laws.down l (omega arith)), rep_form l d))
          (λ q.
          let c : Bool = xorb (odd l) (odd n) in
          let y : l ≡ signed c n = same_net l n (q ∙ sym o) in
          let z : rep_of t l ≡ signed c (rep_of t n) = ap (rep_of t) y ∙ rep_signed t c n in (
            rw (z, signed_net c (rep_of t n)) h,
            ~trans (~path (ap F y ∙ form_signed fs c n)) (~trans (~flip c f) (~path (sym (ap F z ∙ form_signed fs c (rep_of t n))))),
          ))

  -- ---- a net of its own, of a key that no net below has

  module _ (k : Bool) (own : rep_of t (positive v) ≡ positive v) (key : OfKey fs t k v) (none : NoneBelow t k (at t v).ka (at t v).kb v) where
    -- the form that v's core is
    abbrev new : Form
    new = new_form k (F (at t v).ka) (F (at t v).kb)

    lower : {m : Bool} {u l : ℕ} → u < v → Operand t u m l → Operand t v m l
    lower h p = record { below = omega (arith, p.below); own = p.own; plain = p.plain }

    -- no gate below has the core of this key: its key would be this one, since both are in order
    once : (m : Bool) (u : ℕ) → u < v → OfKey fs t m u
        → (new_form m (F (at t u).ka) (F (at t u).kb)).core ≈ new.core → ⊥
    once m u h p e =
        let w = both (alike m k) _ (sym (new_same m k _ _ _ _) ∙ e) in
        let y : m ≡ k = alike_true m k w.0 in
        let q : OfKey fs t m v = rw y key in
        let a = lower h p.first in
        let b = lower h p.second in
        let d = rw (by_rep m a q.first, by_rep m b q.second, by_rep m a q.second, by_rep m b q.first) at w.1 in
        either (eqb (at t u).ka (at t v).ka && eqb (at t u).kb (at t v).kb) _ d
        (λ d.
        let c = both (eqb (at t u).ka (at t v).ka) _ d in
        none u h (record { kind = rw y at p.kind; first = eqb-true _ _ c.0; second = eqb-true _ _ c.1 }))
        (λ d.
        let c = both (eqb (at t u).ka (at t v).kb) _ d in
        let f : (at t u).ka ≡ (at t v).kb = eqb-true _ _ c.0 in
        let g : (at t u).kb ≡ (at t v).ka = eqb-true _ _ c.1 in
        omega (arith, p.rising, q.rising))

    new_v : (F (positive v)).core ≈ new.core
    new_v = rw (core_net fs (positive v) (at t v).core (omega (arith, key.over))) (~core key.form)

    -- no own net below has this core
    taken : (u : ℕ) → u < v → (F (positive u)).core ≈ new.core → Shape fs t first u → ⊥
    taken u h e (base j z s) = true≢false (sym e ∙ same_left (F (positive u)).core (leaf j) new.core s ∙ leaf_new k j _ _)
    taken u h e (gate m p) =
        let d : Core = (new_form m (F (at t u).ka) (F (at t u).kb)).core in
        let y : (F (positive u)).core ≈ d = rw (core_net fs (positive u) (at t u).core (omega (arith, p.over))) (~core p.form) in
        once m u h p (sym (same_left (F (positive u)).core d new.core y) ∙ e)

    apart : (l : ℕ) → net_of l < v → same (F l).core (F (positive v)).core ≡ false
    apart l h = go (same (F l).core (F (positive v)).core) refl
      where
        go : (q : Bool) → same (F l).core (F (positive v)).core ≡ q → q ≡ false
        go false e = refl
        go true e =
            let r : ℕ = rep_of t l in
            let u : ℕ = net_of r in
            let b = laws.down l (omega arith) in
            let o : rep_of t (positive u) ≡ positive u = own_over t r (positive u) (omega arith) (laws.idem l (omega arith)) in
            let f : (F r).core ≈ new.core =
            sym (same_left (F l).core (F r).core new.core (~core (rep_form l h)))
            ∙ same_left (F l).core (F (positive v)).core new.core e
            ∙ new_v in
            absurd (taken u (omega arith) (rw (core_net fs (positive u) r (omega arith)) f) (i.shapes u (omega arith) o))

    pub fresh : Inv fs t first (suc v)
    fresh =
        record {
          shapes = λ u d x. below_or_at u v d (λ d. i.shapes u d x) (λ q. rw q (gate k key));
          J = λ l m d c.
              below_or_at (net_of l) v d
              (λ d. below_or_at (net_of m) v c (i.J l m d) (side l m d))
              (λ d. below_or_at (net_of m) v c (λ c. tells_sym fs t m l (side m l c d)) (last l m d));
        }
      where
        rep_v : (l : ℕ) → net_of l ≡ v → rep_of t l ≡ l
        rep_v l e = own_over t (positive v) l (omega arith) own

        side : (l m : ℕ) → net_of l < v → net_of m ≡ v → Tells fs t l m
        side l m d c =
            let b = laws.down l (omega arith) in
            other_core (F l) (F m) (rw (core_net fs m (positive v) (omega arith)) (apart l d))
            ∙ sym (ne_eqb (rep_of t l) (rep_of t m) (λ e. omega (arith, rep_v m c)))

        last : (l m : ℕ) → net_of l ≡ v → net_of m ≡ v → Tells fs t l m
        last l m d c =
            let s : Bool = xorb (odd l) (odd m) in
            let y : l ≡ signed s m = same_net l m (d ∙ sym c) in
            ap (λ (f : Form). same_form f (F m)) (ap F y ∙ form_signed fs s m)
            ∙ self s (F m) m
            ∙ ap₂ eqb (sym (rep_v l d ∙ y)) (sym (rep_v m c))
