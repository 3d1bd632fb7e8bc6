-- Trees with the same lines and the same number: a cut whose clauses change places, on the complement.
use Prim.Native.Nat.{ℕ, ◌+◌}
use mathlib.Core.Path.{◌≡◌, refl, ◌∙◌, subst}
use mathlib.Core.Bool.{Bool, true, false, not, cond}
use native.Mathlib.Omega.{arith}
use Rattle.model.specs.Nets.{net_of, odd}
use Rattle.model.specs.Clauses.{neg}
use Rattle.laws.specs.Literals.{neg_net, neg_odd}
use Rattle.emit_laws.specs.Replay.{Resolution, pivot}
use Rattle.emit_laws.specs.Trees.{Tree, size, num, lay}
use Rattle.emit_laws.specs.Trees.Tree.{old, cut}
use Rattle.derivation.specs.declared.lines.Proof.{Proof}
use Rattle.derivation.specs.Emission.{Adds, Emits}

pub record Alike (t u : Tree) : Type 0 where
  pub count : size t ≡ size u
  pub lines : (n : ℕ) → lay n t ≡ lay n u
  pub number : (n : ℕ) → num n t ≡ num n u

pub emits_alike : {s r : Proof} {c : ℕ} {t u : Tree} → Alike t u → Emits s r c t → Emits s r c u
emits_alike {s} {r} h f = record { adds = subst (Adds s r) (h.lines s.clauses) f.adds; number = f.number ∙ h.number s.clauses }

pub alike_cut : {t u d e : Tree} → Alike t u → Alike d e → (l : ℕ) → Alike (cut t d l) (cut u e l)
unfolding lay
alike_cut f g l = record {
  count = rw (f.count, g.count);
  lines = λ n. rw (f.lines n, f.count, f.number n, g.lines, g.number);
  number = λ n. rw (f.count, g.count);
}

pivot_turned : (a b l : ℕ) → pivot b a (neg l) ≡ pivot a b l
pivot_turned a b l = rw (neg_odd, neg_net) (go (odd l))
  where
    go : (o : Bool) → cond (not o) (record { first = a; second = b; variable = net_of l }) (record { first = b; second = a; variable = net_of l })
        ≡ cond {A = Resolution} o (record { first = b; second = a; variable = net_of l }) (record { first = a; second = b; variable = net_of l })
    go true = refl
    go false = refl

module _ (k l : ℕ) (t : Tree) where
  pub turned_left : Alike (cut t (old k) (neg l)) (cut (old k) t l)
  unfolding lay
  turned_left = record {
    count = omega arith;
    lines = λ n. let z : n + 0 ≡ n = omega arith in rw (z, pivot_turned);
    number = λ n. omega arith;
  }

  pub turned_right : Alike (cut (old k) t (neg l)) (cut t (old k) l)
  unfolding lay
  turned_right = record {
    count = omega arith;
    lines = λ n. let z : n + 0 ≡ n = omega arith in rw (z, pivot_turned);
    number = λ n. omega arith;
  }
