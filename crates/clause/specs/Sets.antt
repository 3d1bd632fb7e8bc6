-- What structs, arrays and numbers of the store say of clauses, and what a resolution step answers.
use Rattle.std.specs.Prelude.{ℕ, ◌<◌, ◌≤◌, ◌≡◌, Bool, true, false, List, [], ◌∷◌, map, leb, length, Result, Ok, Err}
use Rattle.model.specs.Limits.{clause_width}
use Rattle.model.specs.Answers.{Answer, guard}
use Rattle.model.specs.Answers.Answer.{ok, refused}
use Rattle.model.specs.Clauses as model
use Rattle.model.specs.Clauses.{resolvent}
use Rattle.model.specs.Steps.{can_resolve}
use Rattle.model.specs.Checker.{stored}
use Rattle.clause.specs.Places.{head_of, filled}
use Rattle.literal.specs.declared.Literal.{Literal}
use Rattle.clause.specs.declared.resolution.Unresolved.{Unresolved}
use Rattle.clause.specs.declared.resolution.Unresolved.TheVariants.{Pivot, Length}

-- ---- clauses

-- strictly rising, and every literal below the bound
abbrev pub Rising : model.Clause → Type 0
Rising [] = Unit {0}
Rising (x ∷ c) = (x < head_of c) × Rising c

-- a literal below the first, if there is one
abbrev pub Above : ℕ → model.Clause → Type 0
Above x [] = Unit {0}
Above x (y ∷ c) = x < y

-- strictly rising, whatever the last literal is
abbrev pub Ascending : model.Clause → Type 0
Ascending [] = Unit {0}
Ascending (x ∷ c) = Above x c × Ascending c

-- a clause that the store can hold
pub record Proper (c : model.Clause) : Type 0 where
  pub rising : Rising c
  pub width : length c ≤ clause_width

abbrev pub codes : List Literal → List ℕ
codes = map (λ (l : Literal). l.code)

-- ---- clauses by value, in arrays and in the store

-- the array has the clause's literals, then the bound
pub record Copies (l : List ℕ) (c : model.Clause) : Type 0 where
  pub proper : Proper c
  pub same : l ≡ filled clause_width c

-- the numbers are the clause as it is put into the store
pub record Stores (s : List ℕ) (c : model.Clause) : Type 0 where
  pub proper : Proper c
  pub same : s ≡ stored c

-- ---- a resolution step

-- 11 for a result of too many literals; else the result
unfoldable pub fitted : model.Clause → ℕ → Answer model.Clause
fitted c line = guard (leb (length c) clause_width) 11 line (ok c)

-- 10 unless 'the first clause holds v, the second ¬v'; then the resolvent, or 11
unfoldable pub resolve_of : ℕ → model.Clause → model.Clause → ℕ → Answer model.Clause
resolve_of v first second line = guard (can_resolve v first second) 10 line (fitted (resolvent v first second) line)

-- the number of a refusal
abbrev pub refusal_of : Unresolved → ℕ
refusal_of Pivot = 10
refusal_of Length = 11

-- the answer that a step's result is, on a line
abbrev pub answer_of : Result model.Clause Unresolved → ℕ → Answer model.Clause
answer_of (Ok c) line = ok c
answer_of (Err why) line = refused (refusal_of why) line

-- nothing is refused just where the test holds
abbrev pub Sought : {A : Type 0} → Bool → Result A Unresolved → Type 0
Sought holds (Ok _) = holds ≡ true
Sought holds (Err why) = (holds ≡ false) × (why ≡ Pivot)
