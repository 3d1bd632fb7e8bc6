-- A gate's entry: what the definition enters for what its operands fold to, and which gate it is.
use Prim.Native.Nat.{ℕ, ◌≤◌, ◌<◌}
use mathlib.Core.Path.{◌≡◌, refl, sym, ap, subst}
use mathlib.Core.Bool.{Bool, true, false, cond}
use mathlib.Core.List.{List}
use native.Mathlib.Omega.{arith}
use lib.ListN.{length}
use lib.Dec.{ltb}
use borrow.Author.Tests.{ltb-true}
use Rattle.std.proofs.Common.{Option, Some, None, unwrap_or}
use Rattle.std.specs.Option.{IfSome, MatchOption}
use Rattle.model.specs.Nets.{net_of, reads_below}
use Rattle.laws.specs.Literals.{literals_below}
use Rattle.laws.specs.Pairs.{is_xor}
use Rattle.frame.specs.declared.Op.{Op}
use Rattle.frame.specs.declared.Gate.{Gate}
use Rattle.listing.specs.Gates.{gate_meant}
use Rattle.miter.proofs.MiterLaws.{meant}
use Rattle.model.specs.Clauses.{positive, neg}
use Rattle.frame.specs.Frames.{op_of}
use Rattle.fold_laws.specs.Signs.{signed}
use Rattle.fold_laws.specs.Cases.Made.{is, key}
use Rattle.fold_laws.specs.Table as model
use Rattle.table.specs.Buckets.{below}

-- ---- what is entered

pub signed_by : (s : Bool) (l : ℕ) → cond s (neg l) l ≡ signed s l
signed_by true l = refl
signed_by false l = refl

pub linked_is : (t : List model.Entry) (k s : Bool) (kind l r : ℕ) → kind ≡ model.kind_of k → r ≡ cond s (neg l) l
    → record { rep = r; kind = kind; ka = 0; kb = 0; core = 0 } ≡ model.enter t k s (is l)
unfolding model.enter
linked_is t k s kind l r e c = rw (e, c, signed_by s l)

-- what the search answers: net u is x and below v, or x is not below v
found_some : (v x u : ℕ) → Some u ≡ below v x → (u ≡ x) × (ltb x v ≡ true)
found_some v x u = go (ltb x v)
  where
    go : (b : Bool) → Some u ≡ cond b (Some x) None → (u ≡ x) × (b ≡ true)
    go true e = (ap (λ (o : Option ℕ). unwrap_or o 0) e, refl)
    go false e = absurd (subst (λ (o : Option ℕ). MatchOption o ⊥ (λ (x : ℕ). Unit)) e tt)

found_none : (v x : ℕ) (o : Option ℕ) → IfSome o (λ (u : ℕ). v ≤ u) → o ≡ below v x → ltb x v ≡ false
found_none v x o h = go (ltb x v) refl
  where
    go : (b : Bool) → ltb x v ≡ b → o ≡ cond b (Some x) None → b ≡ false
    go true q e = let n : v ≤ x = rw e at h in absurd (omega (arith, ltb-true x v q))
    go false q e = refl

module _ (t : List model.Entry) (k s : Bool) (a b v : ℕ) (n : length t ≡ v) where
  pub enters_found : (u r : ℕ) → Some u ≡ below v (model.find k a b t v 0) → r ≡ cond s (neg (model.at t u).core) (model.at t u).core
      → model.linked_entry k r ≡ model.enter t k s (key a b)
  unfolding model.enter
  enters_found u r e c = let f = found_some v (model.find k a b t v 0) u e in rw (n, f.1, ← f.0, c, signed_by s (model.at t u).core)

  pub enters_own : (o : Option ℕ) (core : ℕ) → o ≡ below v (model.find k a b t v 0) → IfSome o (λ (u : ℕ). v ≤ u)
      → core ≡ cond s (neg (positive v)) (positive v) → model.own_entry k v a b core ≡ model.enter t k s (key a b)
  unfolding model.enter
  enters_own o core e h c = rw (n, found_none v (model.find k a b t v 0) o h e, c, signed_by s (positive v))

-- ---- a gate

module _ (t : List model.Entry) (g : Gate) (v p q : ℕ) (n : length t ≡ v) (low : reads_below v (gate_meant g) ≡ true)
    (x : net_of g.x < length t → p ≡ model.rep_of t g.x) (y : net_of g.y < length t → q ≡ model.rep_of t g.y) where
  reps : (p ≡ model.rep_of t g.x) × (q ≡ model.rep_of t g.y)
  reps = let b = literals_below v (gate_meant g) low in (x (omega (arith, b.0)), y (omega (arith, b.1)))

  pub is_entry : (op : Op) → g.op ≡ op → model.enter_gate t (is_xor (op_of op)) p q ≡ model.entry t (gate_meant g)
  unfolding model.entry
  is_entry op e = rw (reps.0, reps.1, ← e) (ap (model.entry t) (sym (meant g.op g.x g.y)))
