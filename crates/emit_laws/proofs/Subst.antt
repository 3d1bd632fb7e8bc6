-- Representatives put for literals in a clause, by cuts with links; and two gates of one kind with the same operands imply each other.
-- The delicate point is the second substitution: a literal that the first brought in is its own representative, and stays.
use Prim.Native.Nat.{ℕ, suc, ◌+◌, ◌≤◌, ◌<◌}
use Rattle.std.specs.Prelude.{◌≡◌, Bool, ◌||◌, cond, length, leb}
use Rattle.std.proofs.Math.Path.{refl, sym, ap}
use Rattle.std.proofs.Common.{◌∙◌, arith}
use Rattle.std.proofs.Math.Bool.{true, false, true≢false}
use mathlib.Core.List.{List, [], ◌∷◌, ◌++◌}
use Rattle.std.proofs.Math.Dec.{eqb}
use borrow.Author.Tests.{eqb-true, eqb-false, eq-eqb, ne_eqb, le-leb, leb-true}
use Rattle.model.specs.Limits.{clause_width}
use Rattle.model.specs.Nets.{net_of}
use Rattle.model.specs.Clauses.{Clause, neg}
use Rattle.laws.specs.Bools.{by_cond, both}
use Rattle.emit_laws.specs.Sets.{Same, Off}
use Rattle.emit_laws.proofs.Sets.{holds_append, flat, sets}
use Rattle.emit_laws.specs.Trees.{Tree, size, Derives, Gives}
use Rattle.emit_laws.proofs.Trees.{derives_same}
use Rattle.emit_laws.specs.Trees.Tree.{old, cut}
use Rattle.emit_laws.specs.Trees.Derives.{given, cuts}
use Rattle.emit_laws.specs.Trees.Claim.{any, is}
use Rattle.emit_laws.specs.Subst.{unless_false, least_own, own, link_claim, subst1, subst2, link2, Ready, Linkable, imply_and, imply_xor}

-- ---- a representative in a clause

pub not_false : (r : ℕ) → (r ≡ 0 → ⊥) → unless_false r ≡ r ∷ []
unfolding unless_false
not_false r h = rw (ne_eqb r 0 h)

length_unless : (r : ℕ) → length (unless_false r) ≤ 1
unfolding unless_false
length_unless r = by_cond (λ (S : List ℕ). length S ≤ 1) (eqb r 0) (λ e. omega arith) (λ e. omega arith)

off_unless : (l r : ℕ) → ((r ≡ 0 → ⊥) → l ≡ r → ⊥) → Off l (unless_false r)
unfolding unless_false
off_unless l r h = by_cond (Off l) (eqb r 0) (λ e. tt) (λ e. (h (eqb-false r 0 e), tt))

-- ---- representatives R

module _ (R : ℕ → ℕ) where
  pub owned : (l : ℕ) → R l ≡ l → 2 ≤ l → own R l ≡ true
  owned l e h = simp (eq-eqb (R l) l e, le-leb least_own l (omega (arith, h)))

-- ---- substitution, with E the number of each literal's link

module _ (R E : ℕ → ℕ) where
  module _ (K : List Clause) where
    subst1_ok : (d : Tree) (l : ℕ) (S : List ℕ) → Ready R E K l → (R l ≡ 1 → ⊥) → (own R l ≡ false → Off l S) → length S < clause_width
        → Derives K d (l ∷ S) → Derives K (subst1 R E d l) (unless_false (R l) ++ S)
    unfolding subst1
    subst1_ok d l S r h f n p =
        by_cond (λ (t : Tree). Derives K t (unless_false (R l) ++ S)) (own R l)
        (λ e.
        let b = both (eqb (R l) l) (leb least_own l) e in
        let q : unless_false (R l) ≡ l ∷ [] =
        ap unless_false (eqb-true _ _ b.0) ∙ not_false l (λ z. omega (arith, leb-true least_own l b.1)) in
        rw q p)
        (λ e.
        cuts p (given (r.link e h)) (f e) (off_unless (neg l) (R l) (λ z. r.apart e))
        (omega (arith, length_unless (R l))) (λ k. simp flat (simp sets)))

    -- w is a literal of the clause that stays, over another net than l and m
    pub subst2_ok : (d : Tree) (w l m : ℕ) → Ready R E K l → Ready R E K m → (R l ≡ 1 → ⊥) → (R m ≡ 1 → ⊥) → (l ≡ w → ⊥) → (m ≡ w → ⊥)
        → Derives K d (w ∷ l ∷ m ∷ []) → Derives K (subst2 R E d l m) (w ∷ (unless_false (R l) ++ unless_false (R m)))
    unfolding subst2
    subst2_ok d w l m rl rm hl hm fl fm p =
        by_cond (λ (t : Tree). Derives K t (w ∷ (unless_false (R l) ++ unless_false (R m)))) (eqb l m)
        (λ e.
        let q : m ≡ l = sym (eqb-true l m e) in
        let one : Derives K d (l ∷ w ∷ []) = derives_same (rw q at p) (λ k. simp flat (simp sets)) in
        rw q (derives_same (subst1_ok d l (w ∷ []) rl hl (λ o. (fl, tt)) (omega arith) one) (λ k. simp flat (simp sets))))
        (λ e.
        let n : l ≡ m → ⊥ = eqb-false l m e in
        let first : Derives K (subst1 R E d l) (unless_false (R l) ++ (w ∷ m ∷ [])) =
        subst1_ok d l (w ∷ m ∷ []) rl hl (λ o. (fl, (n, tt))) (omega arith) (derives_same p (λ k. simp flat (simp sets))) in
        derives_same
        (subst1_ok (subst1 R E d l) m (w ∷ unless_false (R l)) rm hm (λ o. (fm, off_unless m (R l) (λ z q. brought o z q)))
        (omega (arith, length_unless (R l))) (derives_same first (λ k. simp flat (simp sets))))
        (λ k. simp flat (simp sets)))
      where
        -- m was not brought in, unless it is its own representative
        brought : own R m ≡ false → (R l ≡ 0 → ⊥) → m ≡ R l → ⊥
        brought o z q = true≢false (sym (owned R m (ap R q ∙ rl.idem ∙ sym q) (omega (arith, hl, z))) ∙ o)

    pub link2_ok : (n : ℕ) (d : Tree) (l m : ℕ) → Linkable R E K n l m → Derives K d (neg n ∷ l ∷ m ∷ [])
        → Gives K (link2 R E n d l m) (link_claim R n)
    unfolding link2 link_claim
    link2_ok n d l m r p = go (eqb (R n) 1) refl
      where
        go : (b : Bool) → eqb (R n) 1 ≡ b
            → Gives K (cond b (old 0) (subst2 R E d l m)) (cond b any (is (neg n ∷ unless_false (R n))))
        go true e = tt
        go false e =
            let h = r.real (eqb-false (R n) 1 e) in
            let s = r.same in
            derives_same (subst2_ok d (neg n) l m r.first r.second h.0 h.1 r.low.0 r.low.1 p)
            (λ k. simp flat
            (rw (holds_append k (unless_false (R l)) (unless_false (R m))) at (ap (λ (x : Bool). eqb k (neg n) || x) (s k))))

  -- ---- how many lines

  size_subst1 : (d : Tree) (l : ℕ) → size (subst1 R E d l) ≤ suc (size d)
  unfolding subst1
  size_subst1 d l = by_cond (λ (t : Tree). size t ≤ suc (size d)) (own R l) (λ e. omega arith) (λ e. omega arith)

  pub size_subst2 : (d : Tree) (l m : ℕ) → size (subst2 R E d l m) ≤ size d + 2
  unfolding subst2
  size_subst2 d l m =
      by_cond (λ (t : Tree). size t ≤ size d + 2) (eqb l m)
      (λ e. omega (arith, size_subst1 d l)) (λ e. omega (arith, size_subst1 d l, size_subst1 (subst1 R E d l) m))

  pub size_link2 : (n : ℕ) (d : Tree) (l m : ℕ) → size (link2 R E n d l m) ≤ size d + 2
  unfolding link2
  size_link2 n d l m = by_cond (λ (t : Tree). size t ≤ size d + 2) (eqb (R n) 1) (λ e. omega arith) (λ e. size_subst2 d l m)

-- ---- cuts

-- a cut on l of clauses in any order
pub cut_by : {K : List Clause} {d e : Tree} {A B U : List ℕ} (l : ℕ) (S T : List ℕ) → Derives K d A → Derives K e B
    → Same A (l ∷ S) → Same B (neg l ∷ T) → Off l S × Off (neg l) T × (length S + length T ≤ clause_width) → Same (S ++ T) U
    → Derives K (cut d e l) U
cut_by l S T a b f g h u = cuts (derives_same a f) (derives_same b g) h.0 h.1 h.2 u

-- w and p, w and ¬p: w alone
pub collapse_ok : {K : List Clause} (w p : ℕ) {j k : Tree} → Derives K j (w ∷ p ∷ []) → Derives K k (w ∷ neg p ∷ [])
    → (net_of p ≡ net_of w → ⊥) → Derives K (cut j k p) (w ∷ [])
collapse_ok w p a b h =
    cut_by p (w ∷ []) (w ∷ []) a b (λ i. simp flat (simp sets)) (λ i. simp flat (simp sets)) (omega arith) (λ i. simp flat (simp sets))

pub imply_and_ok : {K : List Clause} (a b p q : ℕ) {k1 k2 m3 : Tree} → Derives K k1 (neg a ∷ p ∷ []) → Derives K k2 (neg a ∷ q ∷ [])
    → Derives K m3 (b ∷ neg p ∷ neg q ∷ []) → net_of p < net_of q → net_of q < net_of a → net_of q < net_of b
    → Derives K (imply_and k1 k2 m3 p q) (neg a ∷ b ∷ [])
imply_and_ok {K} a b p q {k1} {k2} {m3} f g h s t u =
    let c : Derives K (cut k1 m3 p) (neg q ∷ neg a ∷ b ∷ []) =
    cut_by p (neg a ∷ []) (b ∷ neg q ∷ []) f h
    (λ i. simp flat (simp sets)) (λ i. simp flat (simp sets)) (omega arith) (λ i. simp flat (simp sets)) in
    cut_by q (neg a ∷ []) (neg a ∷ b ∷ []) g c
    (λ i. simp flat (simp sets)) (λ i. refl) (omega arith) (λ i. simp flat (simp sets))

pub imply_xor_ok : {K : List Clause} (a b x y : ℕ) {k00 k11 m01 m10 : Tree}
    → Derives K k00 (x ∷ y ∷ neg a ∷ []) → Derives K k11 (neg x ∷ neg y ∷ neg a ∷ [])
    → Derives K m01 (x ∷ neg y ∷ b ∷ []) → Derives K m10 (neg x ∷ y ∷ b ∷ [])
    → net_of x < net_of y → net_of y < net_of a → net_of y < net_of b → Derives K (imply_xor k00 k11 m01 m10 x y) (neg a ∷ b ∷ [])
imply_xor_ok {K} a b x y {k00} {k11} {m01} {m10} f g h k s t u =
    let c : Derives K (cut k00 m01 y) (x ∷ neg a ∷ b ∷ []) =
    cut_by y (x ∷ neg a ∷ []) (x ∷ b ∷ []) f h
    (λ i. simp flat (simp sets)) (λ i. simp flat (simp sets)) (omega arith) (λ i. simp flat (simp sets)) in
    let d : Derives K (cut m10 k11 y) (neg x ∷ neg a ∷ b ∷ []) =
    cut_by y (neg x ∷ b ∷ []) (neg x ∷ neg a ∷ []) k g
    (λ i. simp flat (simp sets)) (λ i. simp flat (simp sets)) (omega arith) (λ i. simp flat (simp sets)) in
    cut_by x (neg a ∷ b ∷ []) (neg a ∷ b ∷ []) c d (λ i. refl) (λ i. refl) (omega arith) (λ i. simp flat (simp sets))
