-- Numbers that hold the values of nets.
use Rattle.std.specs.Prelude.{ℕ, ◌≤◌, ◌<◌, ◌≡◌, Bool, false, List, length, get_or}
use Rattle.model.specs.Nets.{bit}

-- the numbers begin with one for each value of vs, and R says which number stands for which value
pub record HoldsBy {A : Type 0} (R : ℕ → A → Type 0) (none : A) (numbers : List ℕ) (vs : List A) : Type 0 where
  pub room : length vs ≤ length numbers
  pub each : (j : ℕ) → j < length vs → R (get_or numbers j 0) (get_or vs j none)

-- 1 for true and 0 for false
abbrev pub IsBit : ℕ → Bool → Type 0
IsBit n b = n ≡ bit b

abbrev pub HoldsValues : List ℕ → List Bool → Type 0
HoldsValues = HoldsBy IsBit false
