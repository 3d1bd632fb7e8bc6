-- Clauses in arrays: the literals, then the bound. So the struct is known from its clause, which is what contracts see of it.
use Rattle.std.specs.Prelude.{ℕ, zero, suc, ◌≤◌, ◌≡◌, refl, List, [], ◌∷◌, length, take, drop}
use Rattle.std.proofs.Common.{sym, ap, ◌∙◌, subst, length-take-le}
use Rattle.model.specs.Limits.{clause_width}
use Rattle.model.specs.Clauses.{Clause}

-- above every literal that the store can hold, since it holds literals plus one in 16 bits
abbrev pub literal_bound : ℕ
literal_bound = 65535

-- the first literal, and past the end the bound
abbrev pub head_of : Clause → ℕ
head_of [] = literal_bound
head_of (x ∷ c) = x

-- so many places: the literals, and behind the last the bound
abbrev pub filled : ℕ → Clause → List ℕ
filled zero c = []
filled (suc n) c = head_of c ∷ filled n (drop 1 c)

-- what is true of every struct: its literals have room, and the places behind them hold the bound
pub record Whole (literals : List ℕ) (len : ℕ) : Type 0 where
  pub room : len ≤ clause_width
  pub behind : literals ≡ filled clause_width (take len literals)

-- ---- the clause gives back the struct

pub length-filled : (n : ℕ) (c : Clause) → length (filled n c) ≡ n
length-filled zero c = refl
length-filled (suc n) c = ap suc (length-filled n (drop 1 c))

pub same_literals : (literals : List ℕ) (len : ℕ) → Whole literals len → filled clause_width (take len literals) ≡ literals
same_literals literals len h = sym h.behind

pub same_length : (literals : List ℕ) (len : ℕ) → Whole literals len → length (take len literals) ≡ len
same_length literals len h =
    length-take-le len literals
    (subst (λ (n : ℕ). len ≤ n) (sym (ap length h.behind ∙ length-filled clause_width (take len literals))) h.room)

pub width : (literals : List ℕ) (len : ℕ) (c : Clause) → Whole literals len → take len literals ≡ c → length c ≤ clause_width
width literals len c h e = subst (λ (n : ℕ). n ≤ clause_width) (sym (same_length literals len h) ∙ ap length e) h.room
