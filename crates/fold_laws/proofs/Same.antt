-- Sameness of forms is an equivalence, and folding respects it, in both operands and in their order; an XOR's signs come off. Folding is by
-- cases on its tests, which are the same for operands that are the same, and the same but for their order where operands are exchanged.
use Rattle.std.specs.Prelude.{◌≡◌, refl, Bool, true, false, not, ◌&&◌, ◌||◌, cond}
use Rattle.std.proofs.Common.{sym, ap, ◌∙◌, true≢false, eqb-true, eq-eqb}
use Rattle.std.proofs.Math.Bool.{and_comm, or_comm, or-true}
use Rattle.std.proofs.lemmas.Bool.{not-true}
use Rattle.model.specs.Nets.{xorb}
use Rattle.model.specs.Forms.{Core, Form, form, flip, false_core, never, always, and_core, xor_core, alike, same, same_form, fold_and, xor_cores, fold_xor}
use Rattle.model.specs.Forms.Core.{leaf, node}
use Rattle.laws.specs.Bools.{both, either, xorb_equal, xorb_self, xorb_comm, xorb_assoc, eqb_sym}
use Rattle.fold_laws.specs.Same.{◌≈◌, ◌~◌, fold, new_form, same_by}

-- ---- signs

pub alike_true : (a b : Bool) → alike a b ≡ true → a ≡ b
alike_true a b e = xorb_equal a b (not-true (xorb a b) e)

pub alike_self : (a : Bool) → alike a a ≡ true
alike_self a = ap not (xorb_self a)

alike_sym : (a b : Bool) → alike a b ≡ alike b a
alike_sym a b = ap not (xorb_comm a b)

alike_flip : (a b c : Bool) → alike (xorb a b) c ≡ alike b (xorb a c)
alike_flip a b c = ap not (ap (λ (d : Bool). xorb d c) (xorb_comm a b) ∙ sym (xorb_assoc b a c))

-- ---- cores

quad : (a b c d : Bool) → a && b && (c && d) ≡ true → (a ≡ true) × (b ≡ true) × (c ≡ true) × (d ≡ true)
quad a b c d e =
    let p = both (a && b) (c && d) e in
    let q = both a b p.0 in
    let r = both c d p.1 in
    (q.0, q.1, r.0, r.1)

-- pairs compared straight and crossed: crossed and straight
crossed : (z a b c d : Bool) → z && (a && b || c && d) ≡ z && (d && c || b && a)
crossed z a b c d = rw (and_comm a b, and_comm c d, or_comm (b && a) (d && c))

pub same_refl : (c : Core) → c ≈ c
unfolding same
same_refl (leaf k) = eq-eqb k k refl
same_refl (node x s a t b) = rw (alike_self x, alike_self s, alike_self t, same_refl a, same_refl b)

same_sym : (c d : Core) → same c d ≡ same d c
unfolding same
same_sym (leaf j) (leaf k) = eqb_sym j k
same_sym (leaf j) (node x s a t b) = refl
same_sym (node x s a t b) (leaf k) = refl
same_sym (node x s a t b) (node y p c q d) =
    rw (alike_sym x y, alike_sym s p, alike_sym t q, alike_sym s q, alike_sym t p, same_sym a c, same_sym b d, same_sym a d, same_sym b c)
    (rw (and_comm (alike q s && same d a) (alike p t && same c b)))

-- the same to a third, so transitive
pub same_left : (c d e : Core) → c ≈ d → same c e ≡ same d e
unfolding same
same_left (leaf j) (leaf k) e h = rw (eqb-true j k h)
same_left (leaf j) (node x s a t b) e h = absurd (true≢false (sym h))
same_left (node x s a t b) (leaf k) e h = absurd (true≢false (sym h))
same_left (node x s a t b) (node y p c q d) (leaf k) h = refl
same_left (node x s a t b) (node y p c q d) (node z u e v f) h =
    let k = both (alike x y) _ h in
    let m = alike_true x y k.0 in
    either (alike s p && same a c && (alike t q && same b d)) _ k.1
    (λ h.
    let i = quad _ _ _ _ h in
    let g = alike_true s p i.0 in
    let j = alike_true t q i.2 in
    cc (same_left a c e i.1, same_left a c f i.1, same_left b d e i.3, same_left b d f i.3))
    (λ h.
    let i = quad _ _ _ _ h in
    let g = alike_true s q i.0 in
    let j = alike_true t p i.2 in
    cc (
      same_left a d e i.1,
      same_left a d f i.1,
      same_left b c e i.3,
      same_left b c f i.3,
      crossed (alike y z) (alike q u && same d e) (alike p v && same c f) (alike q v && same d f) (alike p u && same c e),
    ))

-- ---- forms

~make : {f g : Form} → f.sign ≡ g.sign → f.core ≈ g.core → f ~ g
unfolding same_form
~make {f} {g} e c = record { eq = rw (e, c, alike_self g.sign) }

~sign : {f g : Form} → f ~ g → f.sign ≡ g.sign
unfolding same_form
~sign {f} {g} e = alike_true f.sign g.sign (both _ _ e.eq).0

pub ~core : {f g : Form} → f ~ g → f.core ≈ g.core
unfolding same_form
~core {f} {g} e = (both (alike f.sign g.sign) _ e.eq).1

pub same_form_sym : (f g : Form) → same_form f g ≡ same_form g f
unfolding same_form
same_form_sym f g = rw (alike_sym f.sign g.sign, same_sym f.core g.core)

-- the same to a third, on either side
pub ~left : {f g : Form} → f ~ g → (h : Form) → same_form f h ≡ same_form g h
unfolding same_form
~left {f} {g} e h = rw (~sign e, same_left f.core g.core h.core (~core e))

pub ~right : {f g : Form} → f ~ g → (h : Form) → same_form h f ≡ same_form h g
~right {f} {g} e h = same_form_sym h f ∙ ~left e h ∙ same_form_sym g h

pub ~refl : (f : Form) → f ~ f
~refl f = ~make refl (same_refl f.core)

pub ~sym : {f g : Form} → f ~ g → g ~ f
~sym {f} {g} e = record { eq = same_form_sym g f ∙ e.eq }

pub ~trans : {f g h : Form} → f ~ g → g ~ h → f ~ h
~trans {h = h} e d = record { eq = ~left e h ∙ d.eq }

pub ~path : {f g : Form} → f ≡ g → f ~ g
~path {f} e = rw (← e) (~refl f)

-- complements
pub ~flip : (b : Bool) {f g : Form} → f ~ g → flip b f ~ flip b g
~flip b e = ~make (ap (xorb b) (~sign e)) (~core e)

pub flip_flip : (a b : Bool) (f : Form) → flip a (flip b f) ≡ flip (xorb a b) f
flip_flip a b f = ap (λ (s : Bool). form s f.core) (xorb_assoc a b f.sign)

-- opposite either way round
opposite_sym : (f g : Form) → same_form g (flip true f) ≡ same_form f (flip true g)
unfolding same_form
opposite_sym f g = rw (alike_sym g.sign (xorb true f.sign), alike_flip true f.sign g.sign, same_sym g.core f.core)

-- ---- folding, by kind: AND, or XOR where k

-- new cores are the same if their operands are, either way round
pub new_same : (k m : Bool) (f g p q : Form) → same (new_form k f g).core (new_form m p q).core
    ≡ alike k m && (same_by k f p && same_by k g q || same_by k f q && same_by k g p)
unfolding same same_form same_by
new_same false false f g p q = refl
new_same false true f g p q = refl
new_same true false f g p q = refl
new_same true true f g p q = refl

by~ : (k : Bool) {f g : Form} → f ~ g → same_by k f g ≡ true
unfolding same_by
by~ false e = e.eq
by~ true e = ~core e

new_left : (k : Bool) {f g : Form} → f ~ g → (h : Form) → new_form k f h ~ new_form k g h
new_left k {f} {g} e h = ~make (signs k) (new_same k k f h g h ∙ rw (alike_self k, by~ k e, by~ k (~refl h)))
  where
    signs : (k : Bool) → (new_form k f h).sign ≡ (new_form k g h).sign
    signs false = refl
    signs true = rw (~sign e)

new_swap : (k : Bool) (f g : Form) → new_form k f g ~ new_form k g f
new_swap k f g =
    ~make (signs k) (new_same k k f g g f ∙ rw (alike_self k, by~ k (~refl f), by~ k (~refl g)) (or-true (same_by k f g && same_by k g f)))
  where
    signs : (k : Bool) → (new_form k f g).sign ≡ (new_form k g f).sign
    signs false = refl
    signs true = xorb_comm f.sign g.sign

-- two choices by one test
cond_both : {A : Type 0} (R : A → A → Type 0) (b : Bool) {x y z w : A} → R x y → R z w → R (cond b x z) (cond b y w)
cond_both R true p q = p
cond_both R false p q = q

-- ---- one operand

fold_left : (k : Bool) {f g : Form} → f ~ g → (h : Form) → fold k f h ~ fold k g h
unfolding fold_and fold_xor xor_cores
fold_left false {f} {g} e h =
    rw (~left e never, ~left e always, ~left e h, ~left e (flip true h))
    (cond_both ◌~◌ (same_form g never || same_form h never) (~refl never)
    (cond_both ◌~◌ (same_form g always) (~refl h)
    (cond_both ◌~◌ (same_form h always) e
    (cond_both ◌~◌ (same_form g h) (~refl h)
    (cond_both ◌~◌ (same_form g (flip true h)) (~refl never)
    (new_left false e h))))))
fold_left true {f} {g} e h =
    ~make (rw (~sign e))
    (rw (same_left f.core g.core false_core (~core e), same_left f.core g.core h.core (~core e))
    (cond_both ◌≈◌ (same g.core false_core) (same_refl h.core)
    (cond_both ◌≈◌ (same h.core false_core) (~core e)
    (cond_both ◌≈◌ (same g.core h.core) (same_refl false_core)
    (~core (new_left true e h))))))

-- ---- the operands' order

and_swap : (f g : Form) (z a b e o : Bool) → same_form f always ≡ a → same_form g always ≡ b → same_form f g ≡ e
    → cond z never (cond a g (cond b f (cond e g (cond o never (form false (and_core f g))))))
    ~ cond z never (cond b f (cond a g (cond e f (cond o never (form false (and_core g f))))))
and_swap f g true a b e o p q r = ~refl never
and_swap f g false true true e o p q r = ~trans {g = always} (record { eq = q }) (~sym (record { eq = p }))
and_swap f g false true false e o p q r = ~refl g
and_swap f g false false true e o p q r = ~refl f
and_swap f g false false false true o p q r = ~sym (record { eq = r })
and_swap f g false false false false true p q r = ~refl never
and_swap f g false false false false false p q r = new_swap false f g

xor_swap : (f g : Form) (a b e : Bool) → same f.core false_core ≡ a → same g.core false_core ≡ b
    → cond a g.core (cond b f.core (cond e false_core (xor_core f.core g.core)))
    ≈ cond b f.core (cond a g.core (cond e false_core (xor_core g.core f.core)))
xor_swap f g true true e p q = same_left g.core false_core f.core q ∙ same_sym false_core f.core ∙ p
xor_swap f g true false e p q = same_refl g.core
xor_swap f g false true e p q = same_refl f.core
xor_swap f g false false true p q = same_refl false_core
xor_swap f g false false false p q = ~core (new_swap true f g)

pub fold_swap : (k : Bool) (f g : Form) → fold k f g ~ fold k g f
unfolding fold_and fold_xor xor_cores
fold_swap false f g =
    rw (or_comm (same_form g never) (same_form f never), same_form_sym g f, opposite_sym f g)
    (and_swap f g (same_form f never || same_form g never) _ _ _ (same_form f (flip true g)) refl refl refl)
fold_swap true f g =
    ~make (xorb_comm f.sign g.sign) (rw (same_sym g.core f.core) (xor_swap f g _ _ (same f.core g.core) refl refl))

-- both operands at once
pub fold~ : (k : Bool) {f g h i : Form} → f ~ g → h ~ i → fold k f h ~ fold k g i
fold~ k {g = g} {h = h} {i = i} e d = ~trans (fold_left k e h) (~trans (fold_swap k g h) (~trans (fold_left k d g) (fold_swap k i g)))

-- ---- an XOR's signs come off

xorb_swap : (a b c d : Bool) → xorb (xorb a b) (xorb c d) ≡ xorb (xorb a c) (xorb b d)
xorb_swap a b c d =
    sym (xorb_assoc a b (xorb c d))
    ∙ ap (xorb a) (xorb_assoc b c d ∙ ap (λ (e : Bool). xorb e d) (xorb_comm b c) ∙ sym (xorb_assoc c b d))
    ∙ xorb_assoc a c (xorb b d)

pub xor_flip : (c d : Bool) (f g : Form) → fold_xor (flip c f) (flip d g) ≡ flip (xorb c d) (fold_xor f g)
unfolding fold_xor
xor_flip c d f g = ap (λ (s : Bool). form s (xor_cores f.core g.core)) (xorb_swap c f.sign d g.sign)
