-- Clauses in the store: what a stored clause has at each place, and a clause put there place by place.
use Prim.Native.Nat.{ℕ, zero, suc, ◌+◌, ◌-◌, ◌%◌, ◌<◌, ◌≤◌}
use mathlib.Core.Path.{◌≡◌, refl}
use mathlib.Core.List.{List, [], ◌∷◌, ◌++◌, map}
use native.Mathlib.Numerals.{add-one}
use native.Mathlib.Omega.{arith}
use lib.ListN.{length, drop, get_or, set, replicate, length-append, length-map, length-replicate}
use lib.Seq.{drop-nil, drop-cons, sets}
use Rattle.model.specs.Limits.{clause_width}
use Rattle.model.specs.Clauses.{Clause}
use Rattle.model.specs.Checker.{stored}
use Rattle.clause.specs.Places.{head_of}
use Rattle.clause.specs.Sets.{Rising}
use Rattle.clause.proofs.SetLaws.{head_below}

pub stored_length : (c : Clause) → length c ≤ clause_width → length (stored c) ≡ clause_width
stored_length c h = simp (length-append, length-map, length-replicate) (omega arith)

-- one number more is stored
pub store_next : (o s : List ℕ) (at i x : ℕ) → i < length s → get_or s i 0 ≡ x
    → sets (set o (at + i) x) (at + (i + 1)) (drop (i + 1) s) ≡ sets o (at + i) (drop i s)
store_next o s at i x h e =
    let k : at + (i + 1) ≡ suc (at + i) = omega arith in rw (k, drop-cons s i 0, add-one, e)

zeros_at : (n i : ℕ) → ◌≡◌ {A = ℕ} (get_or (replicate n 0) i 0) 0
zeros_at zero zero = refl
zeros_at zero (suc i) = refl
zeros_at (suc n) zero = refl
zeros_at (suc n) (suc i) = zeros_at n i

-- the number at a place is the literal there plus one in 16 bits, so that the bound past the end gives 0
pub number_at : (c : Clause) (i : ℕ) → Rising c → get_or (stored c) i 0 ≡ (head_of (drop i c) + 1) % 65536
number_at c i r = go (clause_width - length c) c i r
  where
    go : (n : ℕ) (d : Clause) (k : ℕ) → Rising d → get_or (map suc d ++ replicate n 0) k 0 ≡ (head_of (drop k d) + 1) % 65536
    go n [] k s = rw (drop-nil k) (zeros_at n k)
    go n (x ∷ d) zero s = omega (arith, head_below x d s)
    go n (x ∷ d) (suc k) s = go n d k s.1
