-- The outputs: ¬z of each, chained over the w's to ¬w of the last, and a cut with the miter's last clause. One tree, whose clause is empty.
use Prim.Native.Nat.{ℕ, suc, ◌+◌, ◌*◌, ◌≤◌, ◌<◌}
use Rattle.std.specs.Prelude.{◌≡◌, refl, length, eqb}
use Rattle.std.proofs.Math.Path.{sym, ap}
use Rattle.std.proofs.Common.{◌∙◌, subst}
use mathlib.Core.List.{List, [], ◌∷◌}
use native.Mathlib.Omega.{arith}
use borrow.Author.Tests.{eqb-true, eqb-false}
use Rattle.model.specs.Limits.{lines_per_output}
use Rattle.model.specs.Nets.{Op, Gate, net_of}
use Rattle.model.specs.Nets.Op.{xor, or}
use Rattle.model.specs.Clauses.{Clause, positive, neg, op_clauses, all_clauses}
use Rattle.model.specs.Miter.{ws}
use Rattle.laws.specs.Bools.{by_cond}
use Rattle.laws.specs.MiterOrder.{last}
use Rattle.fold_laws.specs.Table.{Entry, rep_of}
use Rattle.fold_laws.specs.Facts.{Laws}
use Rattle.emit_laws.proofs.Sets.{flat, sets}
use Rattle.emit_laws.specs.Replay.{Has}
use Rattle.emit_laws.specs.Trees.{Tree, size, Derives}
use Rattle.emit_laws.proofs.Trees.{derives_same}
use Rattle.emit_laws.specs.Trees.Tree.{old, cut}
use Rattle.emit_laws.specs.Trees.Derives.{given}
use Rattle.emit_laws.specs.Subst.{unless_false, subst2, Ready, Xor4}
use Rattle.emit_laws.proofs.Subst.{not_false, subst2_ok, size_subst2, cut_by, collapse_ok}
use Rattle.emit_laws.specs.Place.{clause_count, Block}
use Rattle.emit_laws.proofs.Place.{first_gate_lem, xor_at, or_at}
use Rattle.emit_laws.specs.Outputs.{out_tree, chain, outs_tree, OneRep, AllOneRep}

-- ---- the trees

module _ (R E : ℕ → ℕ) where
  -- ---- how many lines

  size_out : (k : ℕ) (g : Gate) → size (out_tree R E k g) ≤ 5
  unfolding out_tree
  size_out k g =
      let k11 : ℕ = suc (suc (suc k)) in
      let a : size (subst2 R E (old k) g.x g.y) ≤ 2 = size_subst2 R E (old k) g.x g.y in
      let b : size (subst2 R E (old k11) (neg g.x) (neg g.y)) ≤ 2 = size_subst2 R E (old k11) (neg g.x) (neg g.y) in
      by_cond (λ (t : Tree). size t ≤ 5) (eqb (R g.x) 0) (λ e. omega arith)
      (λ e. by_cond (λ (t : Tree). size t ≤ 5) (eqb (R g.x) 1) (λ e. omega arith) (λ e. omega arith))

  size_chain : (run : Tree) (w t kw z kz : ℕ) (gs : List Gate) → size (chain R E run w t kw z kz gs) ≤ size run + 7 * length gs
  unfolding chain
  size_chain run w t kw z kz [] = omega arith
  size_chain run w t kw z kz (g ∷ gs) =
      let next : Tree = cut (cut (old (suc (suc kw))) run (positive w)) (out_tree R E kz g) (positive z) in
      omega (arith, size_out kz g, size_chain next t (suc t) (kw + 3) (suc z) (kz + 4) gs)

  pub size_outs : (t kw z kz c : ℕ) (gs : List Gate) → size (outs_tree R E t kw z kz c gs) ≤ lines_per_output * length gs
  unfolding outs_tree
  size_outs t kw z kz c [] = omega arith
  size_outs t kw z kz c (g ∷ gs) = omega (arith, size_out kz g, size_chain (out_tree R E kz g) z t kw (suc z) (kz + 4) gs)

-- ---- what they derive

module _ (T : List Entry) (N : ℕ) (laws : Laws T N) (E : ℕ → ℕ) (K : List Clause)
    (ready : (l : ℕ) → net_of l < N → Ready (rep_of T) E K l) where
  abbrev R : ℕ → ℕ
  R = rep_of T

  -- from the first or the last clause of an XOR, w, of literals that stand for one
  unit : (w x y : ℕ) (d : Tree) → net_of x < N → net_of y < N → N ≤ net_of w → R x ≡ R y → (R x ≡ 1 → ⊥)
      → Derives K d (x ∷ y ∷ w ∷ []) → Derives K (subst2 R E d x y) (w ∷ unless_false (R x))
  unit w x y d hx hy hw e r p =
      let s = subst2_ok R E K d w x y (ready x hx) (ready y hy) r (rw (← e) r) (omega arith) (omega arith)
      (derives_same p (λ k. simp flat (simp sets))) in
      derives_same (rw (← e) at s) (λ k. simp flat (simp sets))

  out_ok : (z k : ℕ) (g : Gate) → Xor4 K (positive z) g.x g.y (old k) (old (suc k)) (old (suc (suc k))) (old (suc (suc (suc k))))
      → OneRep R N g → N ≤ z → Derives K (out_tree R E k g) (neg (positive z) ∷ [])
  unfolding out_tree unless_false
  out_ok z k g b o hz =
      let x : ℕ = g.x in
      let y : ℕ = g.y in
      let w : ℕ = neg (positive z) in
      let k11 : ℕ = suc (suc (suc k)) in
      let f : R (neg x) ≡ R (neg y) = laws.flip x ∙ ap neg o.same ∙ sym (laws.flip y) in
      let p : (R x ≡ 1 → ⊥) → Derives K (subst2 R E (old k) x y) (w ∷ unless_false (R x)) =
      λ r. unit w x y (old k) o.x_below o.y_below (omega arith) o.same r b.zz in
      let q : (R (neg x) ≡ 1 → ⊥) → Derives K (subst2 R E (old k11) (neg x) (neg y)) (w ∷ unless_false (R (neg x))) =
      λ r. unit w (neg x) (neg y) (old k11) (omega (arith, o.x_below)) (omega (arith, o.y_below)) (omega arith) f r b.oo in
      by_cond (λ (t : Tree). Derives K t (w ∷ [])) (eqb (R x) 0)
      (λ i. let h : R x ≡ 0 = eqb-true (R x) 0 i in rw h at (p (omega arith)))
      (λ i.
      let h0 : R x ≡ 0 → ⊥ = eqb-false (R x) 0 i in
      by_cond (λ (t : Tree). Derives K t (w ∷ [])) (eqb (R x) 1)
      (λ j.
      let h : R x ≡ 1 = eqb-true (R x) 1 j in
      let m : R (neg x) ≡ 0 = laws.flip x ∙ ap neg h in
      rw m at (q (omega arith)))
      (λ j.
      let h1 : R x ≡ 1 → ⊥ = eqb-false (R x) 1 j in
      let m : R (neg x) ≡ neg (R x) = laws.flip x in
      collapse_ok w (R x)
      (rw (not_false (R x) h0) at (p h1))
      (rw (m, not_false (neg (R x)) (omega arith)) at (q (omega arith)))
      (omega (arith, laws.down x o.x_below))))

  -- of the z in front: ¬z, and where the clauses of the other z stand
  first_out : (z k : ℕ) (g : Gate) (gs : List Gate) → Block K k (all_clauses z (g ∷ gs)) → OneRep R N g → N ≤ z
      → Derives K (out_tree R E k g) (neg (positive z) ∷ []) × Block K (k + 4) (all_clauses (suc z) gs)
  first_out z k g gs p o hz =
      let h = first_gate_lem k z g gs p in
      let four : clause_count g.op ≡ 4 = ap clause_count o.is_xor_lem in
      let clauses : Block K k (op_clauses xor z g.x g.y) =
      subst (λ (op : Op). Block K k (op_clauses op z g.x g.y)) o.is_xor_lem h.0 in
      (out_ok z k g (xor_at k z g.x g.y clauses) o hz, rw four at h.1)

  -- ¬w and ¬z give ¬t, where t is w OR z
  next_w : (w t z : ℕ) (run f : Tree) (k : ℕ) → Derives K run (neg (positive w) ∷ []) → Derives K f (neg (positive z) ∷ [])
      → Has K k (neg (positive t) ∷ positive w ∷ positive z ∷ []) → w < t → z < t → (w ≡ z → ⊥)
      → Derives K (cut (cut (old k) run (positive w)) f (positive z)) (neg (positive t) ∷ [])
  next_w w t z run f k p q h a b c =
      let d : Derives K (cut (old k) run (positive w)) (neg (positive t) ∷ positive z ∷ []) =
      cut_by (positive w) (neg (positive t) ∷ positive z ∷ []) [] (given h) p
      (λ i. simp flat (simp sets)) (λ i. refl) (omega arith) (λ i. refl) in
      cut_by (positive z) (neg (positive t) ∷ []) [] d q (λ i. simp flat (simp sets)) (λ i. refl) (omega arith) (λ i. refl)

  chain_ok : (gs : List Gate) (run : Tree) (w t kw z kz : ℕ) → Derives K run (neg (positive w) ∷ []) → Block K kz (all_clauses z gs)
      → Block K kw (all_clauses t (ws (length gs) t w z)) → AllOneRep R N gs → N ≤ z → w < t → z + length gs ≤ t
      → ((j : ℕ) → j < length gs → w ≡ z + j → ⊥)
      → Derives K (chain R E run w t kw z kz gs) (neg (positive (last (length gs) t w)) ∷ [])
  unfolding chain ws
  chain_ok [] run w t kw z kz p a b e n h i d = p
  chain_ok (g ∷ gs) run w t kw z kz p a b e n h i d =
      let f = first_out z kz g gs a e.0 n in
      let y = first_gate_lem kw t (record { op = or; x = positive w; y = positive z }) (ws (length gs) (suc t) t (suc z)) b in
      let c : w ≡ z → ⊥ = λ q. d 0 (omega arith) (omega arith) in
      chain_ok gs (cut (cut (old (suc (suc kw))) run (positive w)) (out_tree R E kz g) (positive z)) t (suc t) (kw + 3) (suc z) (kz + 4)
      (next_w w t z run (out_tree R E kz g) (suc (suc kw)) p f.0 (or_at kw t w z y.0) h (omega arith) c)
      f.1 y.1 e.1 (omega arith) (omega arith) (omega arith) (λ j l q. omega arith)

  pub outs_ok : (g : Gate) (gs : List Gate) (t kw z kz c : ℕ) → Block K kz (all_clauses z (g ∷ gs))
      → Block K kw (all_clauses t (ws (length gs) t z (suc z))) → Has K c (positive (last (length gs) t z) ∷ [])
      → AllOneRep R N (g ∷ gs) → N ≤ z → z + suc (length gs) ≤ t → Derives K (outs_tree R E t kw z kz c (g ∷ gs)) []
  unfolding outs_tree
  outs_ok g gs t kw z kz c a b h e n i =
      let f = first_out z kz g gs a e.0 n in
      let r =
      chain_ok gs (out_tree R E kz g) z t kw (suc z) (kz + 4) f.0 f.1 b e.1
      (omega arith) (omega arith) (omega arith) (λ j l q. omega arith) in
      cut_by (positive (last (length gs) t z)) [] [] (given h) r (λ i. refl) (λ i. refl) (omega arith) (λ i. refl)
