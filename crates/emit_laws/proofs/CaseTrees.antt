-- The trees of one gate, case by case, give what `Settled` says, in at most 16 lines. Each case is a few substitutions and cuts; what they ask
-- of nets, which is below which, comes from the table's laws.
use Rattle.std.specs.Prelude.{ℕ, ◌≤◌, ◌<◌, ◌≡◌, Bool, ◌||◌, eqb}
use Rattle.std.proofs.Math.Path.{refl, sym, ap}
use Rattle.std.proofs.Common.{◌∙◌, eqb-true, ne_eqb}
use Rattle.std.proofs.Math.Bool.{true, false}
use mathlib.Core.List.{List, [], ◌∷◌, ◌++◌}
use native.Mathlib.Omega.{arith}
use Rattle.std.proofs.lemmas.Bool.{eqb-false}
use Rattle.model.specs.Limits.{lines_per_gate}
use Rattle.model.specs.Nets.{net_of}
use Rattle.model.specs.Clauses.{Clause, neg}
use Rattle.laws.specs.Bools.{by_cond}
use Rattle.fold_laws.proofs.Signs.{signed_back}
use Rattle.fold_laws.specs.Cases.{AndCase, AndIs, and_made, XorCase, XorIs, xor_made}
use Rattle.fold_laws.specs.Cases.AndCase.{nil, pass, opp, pair}
use Rattle.fold_laws.specs.Cases.XorCase.{pass, same, pair}
use Rattle.fold_laws.specs.Table.{Entry, rep_of}
use Rattle.fold_laws.specs.Facts.{Laws, Keyed, Stands}
use Rattle.fold_laws.proofs.Facts.{stands_below}
use Rattle.emit_laws.specs.Sets.{Same}
use Rattle.emit_laws.proofs.Sets.{flat, sets}
use Rattle.emit_laws.specs.Trees.{Tree, size, sizes, Derives, Gives, Met, All₂}
use Rattle.emit_laws.proofs.Trees.{derives_same}
use Rattle.emit_laws.specs.Trees.Tree.{old}
use Rattle.emit_laws.specs.Trees.Derives.{given}
use Rattle.emit_laws.specs.Trees.Claim.{any, is}
use Rattle.emit_laws.specs.Trees.All₂.{end, more}
use Rattle.emit_laws.specs.Subst.{unless_false, link_claim, subst2, Ready, And3, Xor4}
use Rattle.emit_laws.proofs.Subst.{not_false, subst2_ok, link2_ok, size_subst2, size_link2, collapse_ok, imply_and_ok, imply_xor_ok}
use Rattle.emit_laws.specs.CaseTrees.{claims, leaf, and_trees, xor_trees, Settled}
use Rattle.emit_laws.specs.CaseTrees.Settled.{linked, kept}

-- ---- the clauses of a gate

and_leaves : {K : List Clause} {n x y : ℕ} {D : List ℕ} → All₂ (Met K) D (claims false n x y)
    → And3 K n x y (leaf D 0) (leaf D 1) (leaf D 2)
and_leaves (more p (more q (more r end))) = record { one = given p; two = given q; three = given r }

xor_leaves : {K : List Clause} {n x y : ℕ} {D : List ℕ} → All₂ (Met K) D (claims true n x y)
    → Xor4 K n x y (leaf D 0) (leaf D 1) (leaf D 2) (leaf D 3)
xor_leaves (more p (more q (more r (more s end)))) = record { zz = given p; zo = given q; oz = given r; oo = given s }

-- ---- the trees

-- the third clause of an AND whose first operand is true, or is the second
pass_same : (p q : ℕ) → eqb p 1 || eqb p q ≡ true → Same (unless_false (neg p) ++ unless_false (neg q)) (unless_false (neg q))
unfolding unless_false
pass_same p q h = go (eqb p 1) refl
  where
    go : (b : Bool) → eqb p 1 ≡ b → Same (unless_false (neg p) ++ unless_false (neg q)) (unless_false (neg q))
    go true e k = rw (eqb-true p 1 e)
    go false e k = rw (eqb-true p q (rw e at h)) (simp flat (simp sets))

-- ---- what they give, where each literal over a net below that of n is linked

module _ (T : List Entry) (N first : ℕ) (laws : Laws T N) (E : ℕ → ℕ) (K : List Clause) (n : ℕ) (fits : net_of n < N) (pos : 0 < net_of n)
    (ready : (l : ℕ) → net_of l < net_of n → Ready (rep_of T) E K l) where
  abbrev R : ℕ → ℕ
  R = rep_of T

  claim_false : R n ≡ 0 → link_claim R n ≡ is (neg n ∷ [])
  unfolding link_claim unless_false
  claim_false h = rw h

  claim_true : R n ≡ 0 → link_claim R (neg n) ≡ any
  unfolding link_claim
  claim_true h = rw (laws.flip n, h)

  claim_is : (m : ℕ) → 2 ≤ R m → link_claim R m ≡ is (neg m ∷ R m ∷ [])
  unfolding link_claim
  claim_is m h = rw (ne_eqb (R m) 1 (omega arith), not_false (R m) (omega arith))

  -- in a clause of w over the net of n: two operands, none of them constant; one
  sub2 : {d : Tree} {A : List ℕ} (w x y : ℕ) → net_of w ≡ net_of n → net_of x < net_of n → net_of y < net_of n → 2 ≤ R x → 2 ≤ R y
      → Derives K d A → Same A (w ∷ x ∷ y ∷ []) → Derives K (subst2 R E d x y) (w ∷ R x ∷ R y ∷ [])
  sub2 {d} w x y hw hx hy px py p s =
      rw (not_false (R x) (omega arith), not_false (R y) (omega arith)) at
      (subst2_ok R E K d w x y (ready x hx) (ready y hy) (omega arith) (omega arith) (omega arith) (omega arith) (derives_same p s))

  sub1 : {d : Tree} (w x : ℕ) → net_of w ≡ net_of n → net_of x < net_of n → 2 ≤ R x → Derives K d (w ∷ x ∷ [])
      → Derives K (subst2 R E d x x) (w ∷ R x ∷ [])
  sub1 w x hw hx px p =
      derives_same (sub2 w x x hw hx hx px px p (λ k. simp flat (simp sets))) (λ k. simp flat (simp sets))

  same_false : (m x y : ℕ) → R x ≡ 0 → R y ≡ R m → Same (unless_false (R x) ++ unless_false (R y)) (unless_false (R m))
  unfolding unless_false
  same_false m x y e f k = rw (e, f)

  same_twice : (y : ℕ) → R n ≡ R y → Same (unless_false (R y) ++ unless_false (R y)) (unless_false (R n))
  same_twice y e k = rw e (simp flat (simp sets))

  module _ (x y : ℕ) (hx : net_of x < net_of n) (hy : net_of y < net_of n) (D : List ℕ) where
    -- D are the clauses of the net that n stands for
    abbrev Kept : Bool → Type 0
    Kept o = net_of (R n) < net_of n → Keyed T first o n (R x) (R y) → All₂ (Met K) D (claims o (R n) (R x) (R y))

    links : {o : Bool} {t u : Tree} → net_of (R n) < net_of n → Gives K t (link_claim R n) → Gives K u (link_claim R (neg n))
        → Settled T first K o n (R x) (R y) (t ∷ u ∷ [])
    links h p q = linked h (more p (more q end))

    -- n stands for false: one tree
    unit : {o : Bool} {t : Tree} → R n ≡ 0 → Derives K t (neg n ∷ []) → Settled T first K o n (R x) (R y) (t ∷ old 0 ∷ [])
    unit f p = links (omega arith) (rw (claim_false f) p) (rw (claim_true f) tt)

    -- n stands for a net with the same key
    hits : {o : Bool} {t u : Tree} → net_of (R n) < net_of n → 2 ≤ R n → Derives K t (neg n ∷ R n ∷ []) → Derives K u (neg (R n) ∷ n ∷ [])
        → Settled T first K o n (R x) (R y) (t ∷ u ∷ [])
    hits h i p q =
        let e : 2 ≤ R (neg n) = rw (laws.flip n) (omega arith) in
        links h (rw (claim_is n i) p)
        (rw (claim_is (neg n) e, signed_back true n, laws.flip n) (derives_same q (λ k. simp flat (simp sets))))

    pub and_ok : (c : AndCase) (k1 k2 k3 : Tree) → And3 K n x y k1 k2 k3 → AndIs (R x) (R y) c
        → Stands T first false n (and_made c (R x) (R y)) → Kept false
        → Settled T first K false n (R x) (R y) (and_trees R E c n x y k1 k2 k3 D)
    unfolding and_trees
    and_ok nil k1 k2 k3 g i f d =
        links (omega arith)
        (link2_ok R E K n k1 x x
        (record {
          first = ready x hx;
          second = ready x hx;
          low = omega arith;
          real = λ h. omega arith;
          same = same_false n x x i (i ∙ sym f);
        })
        (derives_same g.one (λ k. simp flat (simp sets))))
        (rw (claim_true f) tt)
    and_ok pass k1 k2 k3 g i f d =
        links (omega (arith, laws.down y (omega arith)))
        (link2_ok R E K n k2 y y
        (record { first = ready y hy; second = ready y hy; low = omega arith; real = λ h. omega arith; same = same_twice y f })
        (derives_same g.two (λ k. simp flat (simp sets))))
        (link2_ok R E K (neg n) k3 (neg x) (neg y)
        (record {
          first = ready (neg x) (omega arith);
          second = ready (neg y) (omega arith);
          low = rw (signed_back true n) (omega arith);
          real = λ h. omega (arith, laws.flip x, laws.flip y, laws.flip n, i.0);
          same = rw (laws.flip x, laws.flip y, laws.flip n, f) (pass_same (R x) (R y) i.1);
        })
        (rw (signed_back true n) g.three))
    and_ok opp k1 k2 k3 g i f d =
        unit f
        (collapse_ok (neg n) (R x)
        (sub1 (neg n) x (omega arith) hx i.0 g.one)
        (rw (← i.1) (sub1 (neg n) y (omega arith) hy (omega arith) g.two))
        (omega (arith, laws.down x (omega arith))))
    and_ok pair k1 k2 k3 g i f d =
        let px : 2 ≤ R (neg x) = rw (laws.flip x) (omega arith) in
        let py : 2 ≤ R (neg y) = rw (laws.flip y) (omega arith) in
        let s1 : Derives K (subst2 R E k1 x x) (neg n ∷ R x ∷ []) = sub1 (neg n) x (omega arith) hx i.0 g.one in
        let s2 : Derives K (subst2 R E k2 y y) (neg n ∷ R y ∷ []) = sub1 (neg n) y (omega arith) hy (omega arith) g.two in
        let s3 : Derives K (subst2 R E k3 (neg x) (neg y)) (n ∷ neg (R x) ∷ neg (R y) ∷ []) =
        rw (laws.flip x, laws.flip y) at
        (sub2 n (neg x) (neg y) refl (omega arith) (omega arith) px py g.three (λ k. refl)) in
        by_cond (Settled T first K false n (R x) (R y)) (eqb (R n) n)
        (λ e. kept (eqb-true (R n) n e) f (more s1 (more s2 (more s3 end))))
        (λ e.
        let h : net_of (R n) < net_of n = stands_below laws n fits (eqb-false (R n) n e) in
        let u = and_leaves (d h f) in
        hits h (omega (arith, f.above))
        (imply_and_ok n (R n) (R x) (R y) s1 s2 u.three i.1 (omega (arith, f.above)) f.above)
        (imply_and_ok (R n) n (R x) (R y) u.one u.two s3 i.1 f.above (omega (arith, f.above))))

    pub xor_ok : (c : XorCase) (k00 k01 k10 k11 : Tree) → Xor4 K n x y k00 k01 k10 k11 → XorIs (R x) (R y) c
        → Stands T first true n (xor_made c (R x) (R y)) → Kept true
        → Settled T first K true n (R x) (R y) (xor_trees R E c n x y k00 k01 k10 k11 D)
    unfolding xor_trees
    xor_ok pass k00 k01 k10 k11 g i f d =
        links (omega (arith, laws.down y (omega arith)))
        (link2_ok R E K n k00 x y
        (record { first = ready x hx; second = ready y hy; low = omega arith; real = λ h. omega arith; same = same_false n x y i (sym f) })
        (derives_same g.zz (λ k. simp flat (simp sets))))
        (link2_ok R E K (neg n) k01 x (neg y)
        (record {
          first = ready x hx;
          second = ready (neg y) (omega arith);
          low = rw (signed_back true n) (omega arith);
          real = λ h. omega (arith, laws.flip y, laws.flip n);
          same = same_false (neg n) x (neg y) i (laws.flip y ∙ ap neg (sym f) ∙ sym (laws.flip n));
        })
        (rw (signed_back true n) (derives_same g.zo (λ k. simp flat (simp sets)))))
    xor_ok same k00 k01 k10 k11 g i f d =
        let px : 2 ≤ R (neg x) = rw (laws.flip x) (omega arith) in
        let py : 2 ≤ R (neg y) = rw (laws.flip y) (omega arith) in
        let s0 = sub2 (neg n) x y (omega arith) hx hy i.0 (omega arith) g.zz (λ k. simp flat (simp sets)) in
        let s1 = sub2 (neg n) (neg x) (neg y) (omega arith) (omega arith) (omega arith) px py g.oo (λ k. simp flat (simp sets)) in
        unit f
        (collapse_ok (neg n) (R x)
        (derives_same (rw (← i.1) at s0) (λ k. simp flat (simp sets)))
        (derives_same (rw (laws.flip x, laws.flip y, ← i.1) at s1) (λ k. simp flat (simp sets)))
        (omega (arith, laws.down x (omega arith))))
    xor_ok pair k00 k01 k10 k11 g i f d =
        let px : 2 ≤ R (neg x) = rw (laws.flip x) (omega arith) in
        let py : 2 ≤ R (neg y) = rw (laws.flip y) (omega arith) in
        let a : net_of (neg x) < net_of n = omega arith in
        let b : net_of (neg y) < net_of n = omega arith in
        let zz : Derives K (subst2 R E k00 x y) (R x ∷ R y ∷ neg n ∷ []) =
        derives_same (sub2 (neg n) x y (omega arith) hx hy i.0 (omega arith) g.zz (λ k. simp flat (simp sets)))
        (λ k. simp flat (simp sets)) in
        let zo : Derives K (subst2 R E k01 x (neg y)) (R x ∷ neg (R y) ∷ n ∷ []) =
        derives_same (rw (laws.flip y) at (sub2 n x (neg y) refl hx b i.0 py g.zo (λ k. simp flat (simp sets))))
        (λ k. simp flat (simp sets)) in
        let oz : Derives K (subst2 R E k10 (neg x) y) (neg (R x) ∷ R y ∷ n ∷ []) =
        derives_same (rw (laws.flip x) at (sub2 n (neg x) y refl a hy px (omega arith) g.oz (λ k. simp flat (simp sets))))
        (λ k. simp flat (simp sets)) in
        let oo : Derives K (subst2 R E k11 (neg x) (neg y)) (neg (R x) ∷ neg (R y) ∷ neg n ∷ []) =
        derives_same
        (rw (laws.flip x, laws.flip y) at (sub2 (neg n) (neg x) (neg y) (omega arith) a b px py g.oo (λ k. simp flat (simp sets))))
        (λ k. simp flat (simp sets)) in
        by_cond (Settled T first K true n (R x) (R y)) (eqb (R n) n)
        (λ e. kept (eqb-true (R n) n e) f (more zz (more zo (more oz (more oo end)))))
        (λ e.
        let h : net_of (R n) < net_of n = stands_below laws n fits (eqb-false (R n) n e) in
        let u = xor_leaves (d h f) in
        hits h (omega (arith, f.above))
        (imply_xor_ok n (R n) (R x) (R y) zz oo u.zo u.oz i.1 (omega (arith, f.above)) f.above)
        (imply_xor_ok (R n) n (R x) (R y) u.zz u.oo zo oz i.1 f.above (omega (arith, f.above))))

-- ---- how many lines

module _ (R E : ℕ → ℕ) (n x y : ℕ) (D : List ℕ) where
  s2 : (k l m : ℕ) → size (subst2 R E (old k) l m) ≤ 2
  s2 k l m = size_subst2 R E (old k) l m

  pub and_size : (c : AndCase) (k1 k2 k3 : ℕ) → sizes (and_trees R E c n x y (old k1) (old k2) (old k3) D) ≤ lines_per_gate
  unfolding and_trees
  and_size nil k1 k2 k3 = omega (arith, size_link2 R E n (old k1) x x)
  and_size pass k1 k2 k3 = omega (arith, size_link2 R E n (old k2) y y, size_link2 R E (neg n) (old k3) (neg x) (neg y))
  and_size opp k1 k2 k3 = omega (arith, s2 k1 x x, s2 k2 y y)
  and_size pair k1 k2 k3 =
      by_cond (λ (ts : List Tree). sizes ts ≤ lines_per_gate) (eqb (R n) n)
      (λ e. omega (arith, s2 k1 x x, s2 k2 y y, s2 k3 (neg x) (neg y)))
      (λ e. omega (arith, s2 k1 x x, s2 k2 y y, s2 k3 (neg x) (neg y)))

  pub xor_size : (c : XorCase) (k00 k01 k10 k11 : ℕ)
      → sizes (xor_trees R E c n x y (old k00) (old k01) (old k10) (old k11) D) ≤ lines_per_gate
  unfolding xor_trees
  xor_size pass k00 k01 k10 k11 = omega (arith, size_link2 R E n (old k00) x y, size_link2 R E (neg n) (old k01) x (neg y))
  xor_size same k00 k01 k10 k11 = omega (arith, s2 k00 x y, s2 k11 (neg x) (neg y))
  xor_size pair k00 k01 k10 k11 =
      by_cond (λ (ts : List Tree). sizes ts ≤ lines_per_gate) (eqb (R n) n)
      (λ e. omega (arith, s2 k00 x y, s2 k01 x (neg y), s2 k10 (neg x) y, s2 k11 (neg x) (neg y)))
      (λ e. omega (arith, s2 k00 x y, s2 k01 x (neg y), s2 k10 (neg x) y, s2 k11 (neg x) (neg y)))
