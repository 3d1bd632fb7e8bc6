-- Substitutions emitted: by the case of the literal, of the two literals, and of what is linked.
use Prim.Native.Nat.{ℕ, zero, suc}
use mathlib.Core.Path.{◌≡◌, refl, sym, ap, ◌∙◌, subst}
use mathlib.Core.Bool.{true, false}
use native.Mathlib.Omega.{arith}
use lib.Dec.{eqb, leb}
use Rattle.std.specs.Ordering.{is_gt, nat_cmp}
use Rattle.std.proofs.Common.{Greater}
use Rattle.std.specs.Cmp.{nat_cmp_is}
use Rattle.std.proofs.lemmas.Bool.{le-leb}
use Rattle.emit_laws.specs.Trees.{Tree, num}
use Rattle.emit_laws.specs.Trees.Tree.{old, cut}
use Rattle.emit_laws.specs.Subst.{least_own, own, subst1, subst2, link2}
use Rattle.emit_laws.proofs.Stepwise.{then_subst1}
use Rattle.derivation.specs.declared.lines.Proof.{Proof}
use Rattle.derivation.specs.Emission.{Emits}
use Rattle.derivation.proofs.EmitLaws.{emits_then}

-- the test of `subst1`: the literal is that of a net behind net 0
pub own_test : (l : ℕ) → is_gt (nat_cmp l 1) ≡ leb least_own l
own_test zero = refl
own_test (suc zero) = refl
own_test (suc (suc n)) = ap is_gt (sym (nat_cmp_is (suc (suc n)) 1 Greater (omega arith))) ∙ sym (le-leb 2 (suc (suc n)) (omega arith))

module _ (R E : ℕ → ℕ) {s r : Proof} {c : ℕ} (d : Tree) (l : ℕ) where
  -- a literal that stands for itself stays; any other is resolved with its link
  pub emits_own : own R l ≡ true → Emits s r c d → Emits s r c (subst1 R E d l)
  unfolding subst1
  emits_own e f = rw e f

  pub emits_linked : own R l ≡ false → Emits s r c (cut d (old (E l)) l) → Emits s r c (subst1 R E d l)
  unfolding subst1
  emits_linked e f = rw e f

  -- the same literal twice, and two in turn
  pub emits_once : (m : ℕ) → eqb l m ≡ true → Emits s r c (subst1 R E d l) → Emits s r c (subst2 R E d l m)
  unfolding subst2
  emits_once m e f = rw e f

  pub emits_twice : (m : ℕ) → eqb l m ≡ false → {a : Proof} {b : ℕ} → Emits s a b (subst1 R E d l) → Emits a r c (subst1 R E (old b) m)
      → Emits s r c (subst2 R E d l m)
  unfolding subst2
  emits_twice m e {a} f g =
      let h : Emits a r c (subst1 R E (old (num s.clauses (subst1 R E d l))) m) = subst (λ (n : ℕ). Emits a r c (subst1 R E (old n) m)) f.number g in
      rw e (emits_then f h (then_subst1 R E s.clauses (subst1 R E d l) m))

  -- no link where n stands for true
  pub emits_no_link : (n m : ℕ) → eqb (R n) 1 ≡ true → Emits s r c (old 0) → Emits s r c (link2 R E n d l m)
  unfolding link2
  emits_no_link n m e f = rw e f

  pub emits_link : (n m : ℕ) → eqb (R n) 1 ≡ false → Emits s r c (subst2 R E d l m) → Emits s r c (link2 R E n d l m)
  unfolding link2
  emits_link n m e f = rw e f
