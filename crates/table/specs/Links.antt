-- The numbers of clauses as a slice of the working numbers has them.
use Rattle.std.specs.Prelude.{ℕ, ◌+◌, ◌*◌, ◌<◌, ◌≤◌, ◌≡◌, List, [], length, get_or}

abbrev pub link_width : ℕ
link_width = 4

-- the slice has four for each net, from its first on; a net with fewer has zeros behind them
pub record Keeps (slice : List ℕ) (links : List (List ℕ)) : Type 0 where
  pub room : link_width * length links ≤ length slice
  pub number : (u i : ℕ) → u < length links → i < link_width → get_or slice (link_width * u + i) 0 ≡ get_or (get_or links u []) i 0
