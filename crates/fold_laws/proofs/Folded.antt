-- A whole list: literals have the same form exactly if they have the same representative, of any table that meets `Facts`. By induction over
-- the gates from Step; it starts at net 0 and the inputs, where forms are leaves and representatives the literals themselves.
use Rattle.std.specs.Prelude.{ℕ, zero, suc, ◌+◌, ◌≤◌, ◌<◌, ◌≡◌, refl, Bool, true, false, ◌&&◌, cond, List, [], ◌∷◌, length, get_or, take, eqb}
use Rattle.std.proofs.Common.{ap, ap₂, ◌∙◌, subst, arith, get_or-take, eqb-true, eq-eqb}
use Rattle.std.proofs.lemmas.Bool.{eqb-false}
use Rattle.model.specs.Nets.{Op, Gate, net_of, odd}
use Rattle.model.specs.Nets.Op.{and, xor}
use Rattle.model.specs.Clauses.{positive}
use Rattle.model.specs.Forms.{Form, form, never, alike, same, same_form, fold_op, literal_form, gate_form, leaves}
use Rattle.model.specs.Forms.Core.{leaf}
use Rattle.laws.specs.Bools.{xorb_false}
use Rattle.laws.specs.Literals.{literals_below}
use Rattle.laws.specs.Growing.{Grown, grown, grow_front}
use Rattle.laws.specs.Pairs.{Ordered, is_xor, Plain}
use Rattle.fold_laws.proofs.Signs.{literal_ext}
use Rattle.fold_laws.specs.Same.{◌≈◌, fold}
use Rattle.fold_laws.proofs.Same.{same_refl, alike_true, alike_self}
use Rattle.fold_laws.specs.Table.{Entry}
use Rattle.fold_laws.specs.Facts.{Laws, GateFacts, Facts}
use Rattle.fold_laws.specs.Invariant.{Inv}
use Rattle.fold_laws.specs.Invariant.Shape.{base}
use Rattle.fold_laws.proofs.Step.{step}
use Rattle.fold_laws.specs.Folded.{forms_of}

-- ---- a list's forms

leaves_at : (k n u : ℕ) → u < n → get_or (leaves k n) u never ≡ form false (leaf (k + u))
unfolding leaves
leaves_at k zero u h = absurd (omega arith)
leaves_at k (suc n) zero h = ap (λ (j : ℕ). form false (leaf j)) (omega arith)
leaves_at k (suc n) (suc u) h = leaves_at (suc k) n u (omega arith) ∙ ap (λ (j : ℕ). form false (leaf j)) (omega arith)

pub length_leaves : (k n : ℕ) → length (leaves k n) ≡ n
unfolding leaves
length_leaves k zero = refl
length_leaves k (suc n) = ap suc (length_leaves (suc k) n)

-- a literal over net 0 or an input
base_form : (n : ℕ) (gs : List Gate) (l : ℕ) → net_of l < 1 + n → literal_form (forms_of n gs) l ≡ form (odd l) (leaf (net_of l))
unfolding literal_form
base_form n gs l h =
    let e : get_or (forms_of n gs) (net_of l) never ≡ form false (leaf (0 + net_of l)) =
    grow_front gate_form never (leaves 0 (1 + n)) gs (net_of l) (omega (arith, length_leaves 0 (1 + n))) ∙ leaves_at 0 (1 + n) (net_of l) h in
    let z : 0 + net_of l ≡ net_of l = omega arith in
    rw (e, z, xorb_false (odd l))

-- ---- net 0 and the inputs

-- two literals are one if their signs and their nets are
literal_eqb : (l m : ℕ) → alike (odd l) (odd m) && eqb (net_of l) (net_of m) ≡ eqb l m
literal_eqb l m = go (eqb l m) refl
  where
    some : (p q : Bool) → alike (odd l) (odd m) ≡ p → eqb (net_of l) (net_of m) ≡ q → (l ≡ m → ⊥) → p && q ≡ false
    some true true d e n = absurd (n (literal_ext l m (alike_true (odd l) (odd m) d) (eqb-true (net_of l) (net_of m) e)))
    some true false d e n = refl
    some false q d e n = refl

    go : (q : Bool) → eqb l m ≡ q → alike (odd l) (odd m) && eqb (net_of l) (net_of m) ≡ q
    go true e = rw (eqb-true l m e, alike_self (odd m), eq-eqb (net_of m) (net_of m) refl)
    go false e = some _ _ refl refl (eqb-false l m e)

leaf_same : (p q : Bool) (j k : ℕ) → same_form (form p (leaf j)) (form q (leaf k)) ≡ alike p q && eqb j k
unfolding same_form same
leaf_same p q j k = refl

start : (n : ℕ) (gs : List Gate) {t : List Entry} → Facts t n gs → Inv (forms_of n gs) t (1 + n) (1 + n)
start n gs {t} f =
    record {
      shapes = λ u h e. base u h (rw (base_form n gs (positive u) (omega arith)) (eq_leaf u));
      J = λ l m h k.
          rw (base_form n gs l h, base_form n gs m k, f.inputs l (omega arith), f.inputs m (omega arith))
          (leaf_same (odd l) (odd m) (net_of l) (net_of m) ∙ literal_eqb l m);
    }
  where
    eq_leaf : (u : ℕ) → leaf (net_of (positive u)) ≈ leaf u
    eq_leaf u = let e : net_of (positive u) ≡ u = omega arith in rw e (same_refl (leaf u))

-- ---- gate by gate

form_take : (fs : List Form) (v l : ℕ) → net_of l < v → literal_form (take v fs) l ≡ literal_form fs l
unfolding literal_form
form_take fs v l h = rw (get_or-take v fs (net_of l) never h)

plain_fold : (k : Bool) (f g : Form) → fold_op (cond k xor and) f g ≡ fold k f g
unfolding fold_op
plain_fold true f g = refl
plain_fold false f g = refl

-- a list's gate is an AND or an XOR
gate_form_lem : (fs : List Form) (g : Gate) (v : ℕ) → net_of g.x < v → net_of g.y < v → g.op ≡ cond (is_xor g.op) xor and
    → gate_form (take v fs) g ≡ fold (is_xor g.op) (literal_form fs g.x) (literal_form fs g.y)
unfolding gate_form
gate_form_lem fs g v hx hy p =
    ap₂ (fold_op g.op) (form_take fs v g.x hx) (form_take fs v g.y hy)
    ∙ ap (λ (o : Op). fold_op o (literal_form fs g.x) (literal_form fs g.y)) p
    ∙ plain_fold (is_xor g.op) (literal_form fs g.x) (literal_form fs g.y)

-- the invariant goes on over the gates from net v up
pass : {fs : List Form} {t : List Entry} {N first : ℕ} → Laws t N → literal_form fs 0 ≡ never
    → (gs : List Gate) (v : ℕ) → Ordered v gs → Plain gs → 0 < v → v + length gs ≤ N → Grown gate_form never fs v gs → GateFacts t first v gs
    → Inv fs t first v → Inv fs t first (v + length gs)
pass {fs} {t} {N} {first} laws z [] v o p s n f e i = subst (Inv fs t first) (omega arith) i
pass {fs} {t} {N} {first} laws z (g ∷ gs) v o p s n f e i =
    let b = literals_below v g o.0 in
    let c = f.0 ∙ gate_form_lem fs g v b.0 b.1 p.0 in
    let j = step laws (omega arith) i z s (is_xor g.op) g.x g.y b.0 b.1 c e.0 in
    subst (Inv fs t first) (omega arith) (pass laws z gs (suc v) o.1 p.1 (omega arith) (omega arith) f.1 e.1 j)

-- representatives tell forms, and forms representatives
pub folded : (n : ℕ) (gs : List Gate) {t : List Entry} → Ordered (1 + n) gs → Plain gs → Facts t n gs
    → Inv (forms_of n gs) t (1 + n) (1 + n + length gs)
folded n gs o p f =
    pass f.laws (base_form n gs 0 (omega arith)) gs (1 + n) o p (omega arith) (omega arith)
    (grown gate_form never (leaves 0 (1 + n)) gs (1 + n) (length_leaves 0 (1 + n))) f.gates (start n gs f)
