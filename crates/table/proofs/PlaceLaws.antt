-- Numbers stored one behind the other: what stands where they were put, and that all else stays.
use Prim.Native.Nat.{ℕ, zero, suc, ◌+◌, ◌<◌, ◌≤◌}
use mathlib.Core.Path.{◌≡◌, refl, sym, ◌∙◌}
use mathlib.Core.List.{List, [], ◌∷◌}
use native.Mathlib.Omega.{arith}
use lib.ListN.{length, get_or, drop, set, length-set, drop_of_length-le}
use lib.Seq.{sets, get_or-set_same, get_or-set_other}

pub stays_before : (l : List ℕ) (p : ℕ) (xs : List ℕ) (j : ℕ) → j < p → get_or (sets l p xs) j 0 ≡ get_or l j 0
stays_before l p [] j h = refl
stays_before l p (x ∷ xs) j h = stays_before (set l p x) (suc p) xs j (omega arith) ∙ get_or-set_other l p j x 0 (λ e. omega arith)

pub stays_behind : (l : List ℕ) (p : ℕ) (xs : List ℕ) (j : ℕ) → p + length xs ≤ j → get_or (sets l p xs) j 0 ≡ get_or l j 0
stays_behind l p [] j h = refl
stays_behind l p (x ∷ xs) j h = stays_behind (set l p x) (suc p) xs j (omega arith) ∙ get_or-set_other l p j x 0 (λ e. omega arith)

pub stored_at : (l : List ℕ) (p : ℕ) (xs : List ℕ) (i : ℕ) → p + length xs ≤ length l → i < length xs → get_or (sets l p xs) (p + i) 0 ≡ get_or xs i 0
stored_at l p [] i r h = absurd (omega arith)
stored_at l p (x ∷ xs) zero r h =
    let e : p + 0 ≡ p = omega arith in
    rw e (stays_before (set l p x) (suc p) xs p (omega arith) ∙ get_or-set_same l p x 0 (omega arith))
stored_at l p (x ∷ xs) (suc i) r h =
    let e : p + suc i ≡ suc p + i = omega arith in
    rw e (stored_at (set l p x) (suc p) xs i (rw length-set (omega arith)) (omega arith))

-- nothing is left to put
pub put_all : (l old xs : List ℕ) (p i : ℕ) → length xs ≤ i → sets l (p + i) (drop i xs) ≡ sets old p xs → sets old p xs ≡ l
put_all l old xs p i h e = sym (rw (drop_of_length-le xs {i = i} h) at e)
