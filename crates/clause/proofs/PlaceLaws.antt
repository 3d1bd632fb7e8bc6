-- Places of clauses. An array that is filled place by place has the clause up to there, then the bound. Below a literal that a rising clause
-- holds, the clause without it has the same literals at the same places, and from it on those of the next places.
use Prim.Native.Nat.{ℕ, zero, suc, ◌<◌, ◌≤◌}
use mathlib.Core.Path.{◌≡◌, refl, sym, ap, ap₂, ◌∙◌, subst}
use mathlib.Core.Bool.{true, true≢false}
use mathlib.Core.List.{List, [], ◌∷◌}
use native.Mathlib.Omega.{arith}
use borrow.Author.Tests.{eq-eqb, ne_eqb}
use lib.ListN.{length, take, drop, get_or, set}
use lib.Seq.{take-nil, drop-nil}
use Rattle.model.specs.Limits.{clause_width}
use Rattle.model.specs.Clauses.{Clause, holds, without}
use Rattle.clause.specs.Places.{literal_bound, head_of, filled, Whole}
use Rattle.clause.specs.Sets.{Rising}
use Rattle.clause.proofs.SetLaws.{by_order, head_below, holds_more, not_below, without_none}

-- ---- heads

pub head_most : (c : Clause) → Rising c → head_of c ≤ literal_bound
head_most [] r = omega arith
head_most (x ∷ c) r = omega (arith, head_below x c r)

pub rising_from : (i : ℕ) (c : Clause) → Rising c → Rising (drop i c)
rising_from zero c r = r
rising_from (suc i) [] r = tt
rising_from (suc i) (x ∷ c) r = rising_from i c r.1

above_from : (x k : ℕ) (c : Clause) → x < head_of c → Rising c → x < head_of (drop k c)
above_from x zero c h r = h
above_from x (suc k) [] h r = h
above_from x (suc k) (y ∷ c) h r = above_from x k c (omega (arith, r.0)) r.1

-- ---- filled arrays

pub filled_at : (n k : ℕ) (c : Clause) → k < n → get_or (filled n c) k 0 ≡ head_of (drop k c)
filled_at zero k c h = absurd (omega arith)
filled_at (suc n) zero c h = refl
filled_at (suc n) (suc k) [] h = filled_at n k [] (omega arith) ∙ ap head_of (drop-nil k)
filled_at (suc n) (suc k) (x ∷ c) h = filled_at n k c (omega arith)

-- one place more is filled
pub filled_next : (n k : ℕ) (c : Clause) → k < n → set (filled n (take k c)) k (head_of (drop k c)) ≡ filled n (take (suc k) c)
filled_next zero k c h = absurd (omega arith)
filled_next (suc n) zero [] h = refl
filled_next (suc n) zero (x ∷ c) h = refl
filled_next (suc n) (suc k) [] h = ap (λ (t : List ℕ). literal_bound ∷ t) (rw (take-nil k, drop-nil k) at (filled_next n k [] (omega arith)))
filled_next (suc n) (suc k) (x ∷ c) h = ap (λ (t : List ℕ). x ∷ t) (filled_next n k c (omega arith))

-- the clause is what stands before the bound
pub filled_front : (n : ℕ) (c : Clause) → length c ≤ n → take (length c) (filled n c) ≡ c
filled_front n [] h = refl
filled_front zero (x ∷ c) h = absurd (omega arith)
filled_front (suc n) (x ∷ c) h = ap (λ (t : Clause). x ∷ t) (filled_front n c (omega arith))

-- a place of the struct that is seen as this clause
pub struct_at : (literals : List ℕ) (len : ℕ) (c : Clause) (k : ℕ) → Whole literals len → take len literals ≡ c → k < clause_width
    → get_or literals k 0 ≡ head_of (drop k c)
struct_at literals len c k w e h =
    ap (λ (t : List ℕ). get_or t k 0) (w.behind ∙ ap (filled clause_width) e) ∙ filled_at clause_width k c h

-- ---- structs

-- from a place on each has the bound
abbrev pub Ends : ℕ → ℕ → List ℕ → Type 0
Ends n len literals = (k : ℕ) → len ≤ k → k < n → get_or literals k 0 ≡ literal_bound

behind_ends : (n len : ℕ) (literals : List ℕ) → length literals ≡ n → Ends n len literals → literals ≡ filled n (take len literals)
behind_ends zero zero [] e h = refl
behind_ends zero (suc len) [] e h = refl
behind_ends zero len (x ∷ xs) e h = absurd (omega arith)
behind_ends (suc n) len [] e h = absurd (omega arith)
behind_ends (suc n) zero (x ∷ xs) e h = ap₂ ◌∷◌ (h 0 (omega arith) (omega arith)) (behind_ends n zero xs (omega arith) (λ k l m. h (suc k) (omega arith) (omega arith)))
behind_ends (suc n) (suc len) (x ∷ xs) e h =
    ap (λ (t : List ℕ). x ∷ t) (behind_ends n len xs (omega arith) (λ k l m. h (suc k) (omega arith) (omega arith)))

pub whole_ends : {literals : List ℕ} {len : ℕ} → len ≤ clause_width → length literals ≡ clause_width → Ends clause_width len literals → Whole literals len
whole_ends {literals} {len} l e h = record { room = l; behind = behind_ends clause_width len literals e h }

-- ---- a clause without a literal that it holds

-- the number n is the first of two if that is below l, else the second
abbrev pub Picks : ℕ → ℕ → ℕ → ℕ → Type 0
Picks l x z n = (x < l → n ≡ x) × (l ≤ x → n ≡ z)

-- place k without l is picked of the places k and k + 1
abbrev pub Out : ℕ → Clause → Type 0
Out l c = (k n : ℕ) → Picks l (head_of (drop k c)) (head_of (drop (suc k) c)) n → n ≡ head_of (drop k (without l c))

out_first : (l : ℕ) (c : Clause) → l < head_of c → Rising c → Out l (l ∷ c)
unfolding without
out_first l c h r k n p = rw (eq-eqb l l refl, without_none l c r h) (p.1 (from k))
  where
    from : (k : ℕ) → l ≤ head_of (drop k (l ∷ c))
    from zero = omega arith
    from (suc k) = omega (arith, above_from l k c h r)

out_later : (l x : ℕ) (c : Clause) → x < l → Out l c → Out l (x ∷ c)
unfolding without
out_later l x c h o zero n p = rw (ne_eqb l x (λ e. omega arith)) (p.0 h)
out_later l x c h o (suc k) n p = rw (ne_eqb l x (λ e. omega arith)) (o k n p)

pub place_out : (l : ℕ) (c : Clause) → Rising c → holds l c ≡ true → Out l c
unfolding holds
place_out l [] r h = absurd (true≢false (sym h))
place_out l (x ∷ c) r h =
    by_order x l
    (λ o. out_later l x c o (place_out l c r.1 (sym (holds_more l x c (λ e. omega arith)) ∙ h)))
    (λ o. absurd (true≢false (sym h ∙ not_below l (x ∷ c) r o)))
    (λ e. subst (λ (y : ℕ). Out l (y ∷ c)) (sym e) (out_first l c (omega (arith, r.0)) r.1))
