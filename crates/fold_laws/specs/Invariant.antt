-- Literals have the same form exactly if they have the same representative (J): the invariant, of the nets below one, with what the form of a
-- net that represents itself is.
use Rattle.std.specs.Prelude.{ℕ, ◌<◌, ◌≡◌, Bool, List, eqb}
use Rattle.model.specs.Nets.{net_of}
use Rattle.model.specs.Clauses.{positive}
use Rattle.model.specs.Forms.{Form, same_form, literal_form}
use Rattle.model.specs.Forms.Core.{leaf}
use Rattle.fold_laws.specs.Same.{◌≈◌, new_form}
use Rattle.fold_laws.specs.Same.{◌~◌}
use Rattle.fold_laws.specs.Table.{Entry, kind_of, at, rep_of}
use Rattle.fold_laws.specs.Facts.{Operand}

-- ---- the invariant

-- own net u is the AND or XOR of its key, in this order
pub record OfKey (fs : List Form) (t : List Entry) (k : Bool) (u : ℕ) : Type 0 where
  pub kind : (at t u).kind ≡ kind_of k
  pub first : Operand t u k (at t u).ka
  pub second : Operand t u k (at t u).kb
  pub rising : net_of (at t u).ka < net_of (at t u).kb
  pub over : net_of (at t u).core ≡ u
  pub form : literal_form fs (at t u).core ~ new_form k (literal_form fs (at t u).ka) (literal_form fs (at t u).kb)

-- what an own net's form is: that of net 0 or an input, which lie below first, or that of its key
pub data Shape (fs : List Form) (t : List Entry) (first u : ℕ) : Type 0 where
  base : (j : ℕ) → u < first → (literal_form fs (positive u)).core ≈ leaf j → Shape fs t first u
  gate : (k : Bool) → OfKey fs t k u → Shape fs t first u

-- the same form exactly if the same representative
abbrev pub Tells : List Form → List Entry → ℕ → ℕ → Type 0
Tells fs t l m = same_form (literal_form fs l) (literal_form fs m) ≡ eqb (rep_of t l) (rep_of t m)

-- of the nets below v
pub record Inv (fs : List Form) (t : List Entry) (first v : ℕ) : Type 0 where
  pub shapes : (u : ℕ) → u < v → rep_of t (positive u) ≡ positive u → Shape fs t first u
  pub J : (l m : ℕ) → net_of l < v → net_of m < v → Tells fs t l m
