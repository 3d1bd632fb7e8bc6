-- What a net that fits a key is, and what a key's entry is: a link to the first net that keeps the key, or an entry of its own.
use Rattle.std.specs.Prelude.{ℕ, ◌<◌, ◌≡◌, Bool, List}
use Rattle.model.specs.Clauses.{positive}
use Rattle.fold_laws.specs.Signs.{signed}
use Rattle.fold_laws.specs.Table.{Entry, kind_of, linked_entry, own_entry, at}

-- ---- finding

-- a net that fits
pub record Hit (t : List Entry) (k : Bool) (a b u : ℕ) : Type 0 where
  pub kind : (at t u).kind ≡ kind_of k
  pub first : (at t u).ka ≡ a
  pub second : (at t u).kb ≡ b

-- no net below w fits
abbrev pub NoneBelow : List Entry → Bool → ℕ → ℕ → ℕ → Type 0
NoneBelow t k a b w = (u : ℕ) → u < w → Hit t k a b u → ⊥

-- net v of the key a, b: it stands for the first net u that keeps this key, or none does and v keeps it
pub data Entered (t : List Entry) (k s : Bool) (a b v : ℕ) : Type 0 where
  old : (u : ℕ) → u < v → Hit t k a b u → NoneBelow t k a b u → at t v ≡ linked_entry k (signed s (at t u).core) → Entered t k s a b v
  new : NoneBelow t k a b v → at t v ≡ own_entry k v a b (signed s (positive v)) → Entered t k s a b v
