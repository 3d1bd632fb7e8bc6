-- The index of the table by kind and key, as the working numbers have it: buckets behind the rows and the numbers of clauses, and of each
-- bucket a chain of its nets, from the latest down, by a number of their rows.
use Rattle.std.specs.Prelude.{ℕ, zero, suc, ◌+◌, ◌-◌, ◌*◌, ◌/◌, ◌%◌, ◌<◌, ◌≤◌, ◌≡◌, cond, List, length, get_or, eqb, ltb, Option, Some, None}
use Rattle.model.specs.Limits.{highest_variable, numbers_per_net}
use Rattle.fold_laws.specs.Table as model
use Rattle.table.specs.Rows.{row_width, row_numbers, HoldsTable}
use Rattle.table.specs.Links.{link_width}

-- buckets for each net
abbrev pub bucket_width : ℕ
bucket_width = 4

-- where a bucket's chain begins, among the working numbers for so many nets
abbrev pub head_at : ℕ → ℕ → ℕ
head_at nets h = (row_width + link_width) * nets + h

-- where a net's chain goes on: the first number of its row that is free
abbrev pub next_at : ℕ → ℕ
next_at u = row_width * u + row_numbers

-- kind and key as a number below 2³²
unfoldable pub mixed : ℕ → ℕ → ℕ → ℕ
mixed kind a b = (a * 3242174889 + b * 2447445415 + kind * 1640531527) % 4294967296

-- The bucket of a kind and key. Nets without a key, which nothing searches for, have bucket 0 for themselves.
unfoldable pub bucket_of : ℕ → ℕ → ℕ → ℕ → ℕ
bucket_of nets kind a b = cond (eqb a 0) 0 (1 + mixed kind a b * (bucket_width * nets - 1) / 4294967296)

abbrev pub bucket_at : ℕ → List model.Entry → ℕ → ℕ
bucket_at nets t u = bucket_of nets (model.at t u).kind (model.at t u).ka (model.at t u).kb

-- one more than the latest net below n in this bucket, or 0
unfoldable pub latest : ℕ → List model.Entry → ℕ → ℕ → ℕ
latest nets t h zero = 0
latest nets t h (suc n) = cond (eqb (bucket_at nets t n) h) (suc n) (latest nets t h n)

-- what is stored of a net: one more than it, or 0 for none
abbrev pub after : Option ℕ → ℕ
after None = 0
after (Some u) = suc u

-- the net, if it is one of so many
abbrev pub below : ℕ → ℕ → Option ℕ
below v u = cond (ltb u v) (Some u) None

-- the working numbers have the rows of t and their index
pub record Indexed (work : List ℕ) (nets : ℕ) (t : List model.Entry) : Type 0 where
  pub rows : HoldsTable work t
  pub head : (h : ℕ) → h < bucket_width * nets → get_or work (head_at nets h) 0 ≡ latest nets t h (length t)
  pub next : (u : ℕ) → u < length t → get_or work (next_at u) 0 ≡ latest nets t (bucket_at nets t u) u

-- net v is one of so many, for which there are working numbers
pub record Among (size nets v : ℕ) : Type 0 where
  pub inside : v < nets
  pub few : nets ≤ highest_variable + 1
  pub room : numbers_per_net * nets ≤ size
