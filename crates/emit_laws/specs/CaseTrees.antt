-- The trees of one gate, case by case, and what they give: two links to a net below, or clauses over a key of its own (`Settled`).
use Rattle.std.specs.Prelude.{ℕ, ◌<◌, ◌≡◌, Bool, cond, get_or, eqb}
use Rattle.std.proofs.Math.Bool.{true, false}
use mathlib.Core.List.{List, [], ◌∷◌}
use Rattle.model.specs.Nets.{net_of}
use Rattle.model.specs.Clauses.{Clause, neg}
use Rattle.fold_laws.specs.Cases.{AndCase, XorCase}
use Rattle.fold_laws.specs.Cases.AndCase.{nil, pass, opp, pair}
use Rattle.fold_laws.specs.Cases.XorCase.{pass, same, pair}
use Rattle.fold_laws.specs.Table.{Entry, rep_of}
use Rattle.fold_laws.specs.Facts.{Keyed}
use Rattle.emit_laws.specs.Trees.{Tree, Claim, Gives, All₂}
use Rattle.emit_laws.specs.Trees.Tree.{old, cut}
use Rattle.emit_laws.specs.Trees.Claim.{is}
use Rattle.emit_laws.specs.Subst.{link_claim, subst2, link2, imply_and, imply_xor}

-- ---- the clauses of a gate

-- of an AND; of an XOR
abbrev pub claims : Bool → ℕ → ℕ → ℕ → List Claim
claims false n x y = is (neg n ∷ x ∷ []) ∷ is (neg n ∷ y ∷ []) ∷ is (n ∷ neg x ∷ neg y ∷ []) ∷ []
claims true n x y =
    is (x ∷ y ∷ neg n ∷ []) ∷ is (x ∷ neg y ∷ n ∷ []) ∷ is (neg x ∷ y ∷ n ∷ []) ∷ is (neg x ∷ neg y ∷ neg n ∷ []) ∷ []

-- the clause of number i among the numbers D
abbrev pub leaf : List ℕ → ℕ → Tree
leaf D i = old (get_or D i 0)

-- ---- the trees

module _ (R E : ℕ → ℕ) where
  -- k1, k2, k3: the clauses of n = AND of x, y; D: the numbers kept of the net that n stands for
  unfoldable pub and_trees : AndCase → ℕ → ℕ → ℕ → Tree → Tree → Tree → List ℕ → List Tree
  and_trees nil n x y k1 k2 k3 D = link2 R E n k1 x x ∷ old 0 ∷ []
  and_trees pass n x y k1 k2 k3 D = link2 R E n k2 y y ∷ link2 R E (neg n) k3 (neg x) (neg y) ∷ []
  and_trees opp n x y k1 k2 k3 D = cut (subst2 R E k1 x x) (subst2 R E k2 y y) (R x) ∷ old 0 ∷ []
  and_trees pair n x y k1 k2 k3 D =
      cond (eqb (R n) n)
      (subst2 R E k1 x x ∷ subst2 R E k2 y y ∷ subst2 R E k3 (neg x) (neg y) ∷ [])
      (imply_and (subst2 R E k1 x x) (subst2 R E k2 y y) (leaf D 2) (R x) (R y)
      ∷ imply_and (leaf D 0) (leaf D 1) (subst2 R E k3 (neg x) (neg y)) (R x) (R y)
      ∷ [])

  -- likewise of n = XOR of x, y
  unfoldable pub xor_trees : XorCase → ℕ → ℕ → ℕ → Tree → Tree → Tree → Tree → List ℕ → List Tree
  xor_trees pass n x y k00 k01 k10 k11 D = link2 R E n k00 x y ∷ link2 R E (neg n) k01 x (neg y) ∷ []
  xor_trees same n x y k00 k01 k10 k11 D = cut (subst2 R E k00 x y) (subst2 R E k11 (neg x) (neg y)) (R x) ∷ old 0 ∷ []
  xor_trees pair n x y k00 k01 k10 k11 D =
      cond (eqb (R n) n)
      (subst2 R E k00 x y ∷ subst2 R E k01 x (neg y) ∷ subst2 R E k10 (neg x) y ∷ subst2 R E k11 (neg x) (neg y) ∷ [])
      (imply_xor (subst2 R E k00 x y) (subst2 R E k11 (neg x) (neg y)) (leaf D 1) (leaf D 2) (R x) (R y)
      ∷ imply_xor (leaf D 0) (leaf D 3) (subst2 R E k01 x (neg y)) (subst2 R E k10 (neg x) y) (R x) (R y)
      ∷ [])

-- what the trees of a gate give: links of n and ¬n to a net below, or clauses over a key of its own
pub data Settled (T : List Entry) (first : ℕ) (K : List Clause) (o : Bool) (n a b : ℕ) (ts : List Tree) : Type 0 where
  linked : net_of (rep_of T n) < net_of n → All₂ (Gives K) ts (link_claim (rep_of T) n ∷ link_claim (rep_of T) (neg n) ∷ [])
      → Settled T first K o n a b ts
  kept : rep_of T n ≡ n → Keyed T first o n a b → All₂ (Gives K) ts (claims o n a b) → Settled T first K o n a b ts
