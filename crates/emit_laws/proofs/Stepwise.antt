-- Trees line by line, for code that has the number of a clause at hand instead of its tree: a substitution in a tree's clause is the tree's
-- lines, then the substitution in the clause of that number. No theorem of this crate uses it; the proofs of the code, in emit, do.
use Rattle.std.specs.Prelude.{ℕ, refl, Bool, true, false, cond}
use Rattle.std.proofs.Common.{sym, append-nil, arith}
use Rattle.emit_laws.specs.Trees.{Tree, num, lay}
use Rattle.emit_laws.specs.Trees.Tree.{old, cut}
use Rattle.emit_laws.specs.Subst.{own, subst1}
use Rattle.emit_laws.specs.Stepwise.{Then}

-- nothing more
pub then_old : (n : ℕ) (d : Tree) → Then n d d (old (num n d))
unfolding lay
then_old n d = record { lines = sym (append-nil (lay n d)); number = refl; count = omega arith }

-- a cut with a clause that is there
pub then_cut : (n : ℕ) (d : Tree) (c l : ℕ) → Then n (cut d (old c) l) d (cut (old (num n d)) (old c) l)
unfolding lay
then_cut n d c l = record { lines = refl; number = omega arith; count = omega arith }

-- a substitution
pub then_subst1 : (R E : ℕ → ℕ) (n : ℕ) (d : Tree) (l : ℕ) → Then n (subst1 R E d l) d (subst1 R E (old (num n d)) l)
unfolding subst1
then_subst1 R E n d l = go (own R l)
  where
    go : (b : Bool) → Then n (cond b d (cut d (old (E l)) l)) d (cond b (old (num n d)) (cut (old (num n d)) (old (E l)) l))
    go true = then_old n d
    go false = then_cut n d (E l) l
