-- P5 for every variable and all literals beside it. A rising list is given by what it holds, so two clauses are compared literal by literal.
use Rattle.std.specs.Prelude.{ℕ, ◌≡◌, refl, Bool, true, false, List, [], ◌∷◌, ◌++◌, eqb}
use Rattle.std.proofs.Math.Bool.{or-false, or_comm}
use Rattle.std.proofs.Common.{arith, eqb-true, ne_eqb}
use Rattle.model.specs.Nets.{net_of}
use Rattle.model.specs.Clauses.{positive, negative, clause_of, holds, resolvent}
use Rattle.sets.specs.Sets.{holds_join, holds_without, holds_append, holds_cons, holds_nil, rises, same_held}

-- literals over other variables than v
abbrev pub Beside : ℕ → List ℕ → Type 0
Beside v [] = Unit {0}
Beside v (l ∷ ls) = (net_of l ≡ v → ⊥) × Beside v ls

holds_beside : (v : ℕ) (ls : List ℕ) → Beside v ls → holds (positive v) ls ≡ false
unfolding holds
holds_beside v [] h = refl
holds_beside v (l ∷ ls) h =
    rw (ne_eqb (positive v) l (λ e. h.0 (omega arith)), holds_beside v ls h.1)

ruleset held = (holds_join, holds_without, holds_append, holds_cons, holds_nil, or-false)

-- (v, ¬v, c) with (¬v, d) on v gives (¬v, c, d): of the two, only c may not hold v. Each literal k is v, ¬v, or neither.
pub both_signs : (v : ℕ) (c d : List ℕ) → Beside v c
    → resolvent v (clause_of (positive v ∷ negative v ∷ c)) (clause_of (negative v ∷ d)) ≡ clause_of (negative v ∷ c ++ d)
unfolding resolvent
both_signs v c d h = same_held (search rises) (search rises) (λ k. go k (eqb k (positive v)) (eqb k (negative v)) refl refl)
  where
    go : (k : ℕ) (p n : Bool) → eqb k (positive v) ≡ p → eqb k (negative v) ≡ n
        → holds k (resolvent v (clause_of (positive v ∷ negative v ∷ c)) (clause_of (negative v ∷ d))) ≡ holds k (clause_of (negative v ∷ c ++ d))
    go k true n e f =
        let same-literal : k ≡ positive v = eqb-true k (positive v) e in
        let other : eqb k (negative v) ≡ false = ne_eqb k (negative v) (λ q. omega arith) in
        let lacks : holds k c ≡ false = rw same-literal (holds_beside v c h) in
        simp (held, e, other, lacks)
    go k false true e f = simp (held, e, f)
    go k false false e f = simp (held, e, f) (or_comm (holds k d) (holds k c))
