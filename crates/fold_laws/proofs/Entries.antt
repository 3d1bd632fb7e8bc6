-- Reading a table: representatives, what `find` finds, what a key's entry is, and how a table starts. These laws hold of every table, but for
-- the last ones, of `table_of`.
use Rattle.std.specs.Prelude.{ℕ, zero, suc, ◌+◌, ◌≤◌, ◌<◌, ◌≡◌, refl, Bool, true, false, ◌&&◌, cond, List, length, take, eqb, ltb}
use Rattle.std.proofs.Common.{sym, ap, ◌∙◌, true≢false, arith, get_or-take, length-take-le, eqb-true, eq-eqb, ltb-true, ltb-false}
use Rattle.model.specs.Nets.{Gate, net_of, odd, xorb}
use Rattle.model.specs.Clauses.{positive}
use Rattle.laws.specs.Bools.{both, by_cond, below_or_at, xorb_self}
use Rattle.laws.specs.Literals.{positive_even}
use Rattle.laws.specs.Growing.{grow_front, length_grow}
use Rattle.fold_laws.specs.Signs.{signed}
use Rattle.fold_laws.proofs.Signs.{signed_net, odd_signed, signed_signed, signed_back, same_net, signed_positive}
use Rattle.fold_laws.specs.Cases.Made.{key}
use Rattle.fold_laws.specs.Table.{Entry, kind_of, base_entry, linked_entry, own_entry, blank, at, rep_of}
use Rattle.fold_laws.specs.Table.{fits, find, enter, part, entry, bases, table_of}
use Rattle.fold_laws.specs.Entries.{Hit, NoneBelow, Entered}
use Rattle.fold_laws.specs.Entries.Entered.{old, new}

-- ---- kinds and signs

pub kind_inj : (k m : Bool) → kind_of k ≡ kind_of m → k ≡ m
kind_inj true true e = refl
kind_inj true false e = absurd (omega arith)
kind_inj false true e = absurd (omega arith)
kind_inj false false e = refl

pub kind_some : (k : Bool) → kind_of k ≡ 0 → ⊥
kind_some true e = omega arith
kind_some false e = omega arith

pub plain_part : (k : Bool) (p : ℕ) → k && odd (part k p) ≡ false
plain_part true p = odd_signed (odd p) p ∙ xorb_self (odd p)
plain_part false p = refl

-- ---- representatives

pub rep_signed : (t : List Entry) (b : Bool) (l : ℕ) → rep_of t (signed b l) ≡ signed b (rep_of t l)
unfolding rep_of
rep_signed t b l = rw (odd_signed b l, signed_net b l) (sym (signed_signed b (odd l) (at t (net_of l)).rep))

-- of a literal of net v, from the net's
pub rep_is : (t : List Entry) (v : ℕ) (s : Bool) (r : ℕ) → (at t v).rep ≡ signed s r → rep_of t (signed s (positive v)) ≡ r
unfolding rep_of
rep_is t v s r e =
    let n : net_of (positive v) ≡ v = omega arith in
    rep_signed t s (positive v) ∙ ap (signed s) (rw (positive_even v, n) e) ∙ signed_back s r

-- over one net all literals represent themselves or none does
pub own_over : (t : List Entry) (l m : ℕ) → net_of m ≡ net_of l → rep_of t l ≡ l → rep_of t m ≡ m
own_over t l m e o =
    let c : Bool = xorb (odd m) (odd l) in
    let y : m ≡ signed c l = same_net m l e in
    ap (rep_of t) y ∙ rep_signed t c l ∙ ap (signed c) o ∙ sym y

-- they do where the net does
pub own_rep : (t : List Entry) (l : ℕ) → (at t (net_of l)).rep ≡ positive (net_of l) → rep_of t l ≡ l
unfolding rep_of
own_rep t l e = rw e (signed_positive l)

-- entries behind do not matter
pub rep_take : (t : List Entry) (v l : ℕ) → net_of l < v → rep_of (take v t) l ≡ rep_of t l
unfolding rep_of
rep_take t v l h = rw (get_or-take v t (net_of l) blank h)

-- ---- finding

fits_hit : (t : List Entry) (k : Bool) (a b u : ℕ) → fits k a b (at t u) ≡ true → Hit t k a b u
unfolding fits
fits_hit t k a b u e =
    let h = both (eqb (at t u).kind (kind_of k)) (eqb (at t u).ka a && eqb (at t u).kb b) e in
    let j = both (eqb (at t u).ka a) (eqb (at t u).kb b) h.1 in
    record { kind = eqb-true _ _ h.0; first = eqb-true _ _ j.0; second = eqb-true _ _ j.1 }

hit_fits : (t : List Entry) (k : Bool) (a b u : ℕ) → Hit t k a b u → fits k a b (at t u) ≡ true
unfolding fits
hit_fits t k a b u h =
    rw (eq-eqb (at t u).kind (kind_of k) h.kind, eq-eqb (at t u).ka a h.first, eq-eqb (at t u).kb b h.second)

-- w is the first from u to e that fits, or e
record Found (t : List Entry) (k : Bool) (a b u e w : ℕ) : Type 0 where
  from : u ≤ w
  to : w ≤ e
  hit : w < e → fits k a b (at t w) ≡ true
  least : (x : ℕ) → u ≤ x → x < w → fits k a b (at t x) ≡ false

find_found : (k : Bool) (a b : ℕ) (t : List Entry) (n u : ℕ) → Found t k a b u (u + n) (find k a b t n u)
unfolding find
find_found k a b t zero u =
    record { from = omega arith; to = omega arith; hit = λ h. absurd (omega arith); least = λ x h i. absurd (omega arith) }
find_found k a b t (suc n) u =
    by_cond (Found t k a b u (u + suc n)) (fits k a b (at t u))
    (λ e. record { from = omega arith; to = omega arith; hit = λ h. e; least = λ x h i. absurd (omega arith) })
    (λ e.
    let r : Found t k a b (suc u) (suc u + n) (find k a b t n (suc u)) = find_found k a b t n (suc u) in
    record {
      from = omega arith;
      to = omega arith;
      hit = λ h. r.hit (omega arith);
      least = λ x h i. below_or_at u x (omega arith) (λ d. r.least x (omega arith) i) (λ d. rw (← d) e);
    })

pub entered : (t : List Entry) (k s : Bool) (a b v : ℕ) → v < length t → at t v ≡ enter (take v t) k s (key a b) → Entered t k s a b v
unfolding enter
entered t k s a b v h e = go (ltb u v) refl (e ∙ rw long)
  where
    u : ℕ
    u = find k a b (take v t) v 0

    long : length (take v t) ≡ v
    long = length-take-le v t (omega arith)

    f : Found (take v t) k a b 0 (0 + v) u
    f = find_found k a b (take v t) v 0

    none : u ≤ v → NoneBelow t k a b u
    none l w d hit =
        true≢false (sym (hit_fits t k a b w hit) ∙ (rw (get_or-take v t w blank (omega arith)) at (f.least w (omega arith) d)))

    go : (q : Bool) → ltb u v ≡ q
        → at t v ≡ cond q (linked_entry k (signed s (at (take v t) u).core)) (own_entry k v a b (signed s (positive v)))
        → Entered t k s a b v
    go true d e =
        let l : u < v = ltb-true u v d in
        let c : at (take v t) u ≡ at t u = get_or-take v t u blank l in
        old u l (fits_hit t k a b u (rw c at (f.hit (omega arith)))) (none (omega arith)) (e ∙ rw c)
    go false d e =
        let o : u ≡ v = omega (arith, ltb-false u v d, f.to) in
        new (rw o at (none (omega arith))) e

-- ---- how a table starts

pub length_bases : (k n : ℕ) → length (bases k n) ≡ n
unfolding bases
length_bases k zero = refl
length_bases k (suc n) = ap suc (length_bases (suc k) n)

bases_at : (k n u : ℕ) → u < n → at (bases k n) u ≡ base_entry (k + u)
unfolding bases
bases_at k zero u h = absurd (omega arith)
bases_at k (suc n) zero h = ap base_entry (omega arith)
bases_at k (suc n) (suc u) h = bases_at (suc k) n u (omega arith) ∙ ap base_entry (omega arith)

pub length_table : (n : ℕ) (gs : List Gate) → length (table_of n gs) ≡ 1 + n + length gs
unfolding table_of
length_table n gs = length_grow entry (bases 0 (1 + n)) gs ∙ ap (λ (k : ℕ). k + length gs) (length_bases 0 (1 + n))

pub table_base : (n : ℕ) (gs : List Gate) (u : ℕ) → u < 1 + n → at (table_of n gs) u ≡ base_entry u
unfolding table_of
table_base n gs u h =
    grow_front entry blank (bases 0 (1 + n)) gs u (omega (arith, length_bases 0 (1 + n)))
    ∙ bases_at 0 (1 + n) u h
    ∙ ap base_entry (omega arith)
