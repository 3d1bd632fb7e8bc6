-- The table as the working numbers have it.
use Rattle.std.specs.Prelude.{ℕ, ◌+◌, ◌*◌, ◌<◌, ◌≤◌, ◌≡◌, List, [], ◌∷◌, length, get_or}
use Rattle.fold_laws.specs.Table as model
use Rattle.table.specs.declared.rows.Entry.{Entry}

abbrev pub row_width : ℕ
row_width = 8

-- those of a row that are in use
abbrev pub row_numbers : ℕ
row_numbers = 5

abbrev pub row : model.Entry → List ℕ
row e = e.rep ∷ e.kind ∷ e.ka ∷ e.kb ∷ e.core ∷ []

abbrev pub entry_of : Entry → model.Entry
entry_of e = record { rep = e.rep.code; kind = e.kind; ka = e.ka.code; kb = e.kb.code; core = e.core.code }

-- the working numbers begin with the rows of t
pub record HoldsTable (work : List ℕ) (t : List model.Entry) : Type 0 where
  pub room : row_width * length t ≤ length work
  pub number : (u i : ℕ) → u < length t → i < row_numbers → get_or work (row_width * u + i) 0 ≡ get_or (row (model.at t u)) i 0
