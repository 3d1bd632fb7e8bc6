-- What digits of a line mean, over its bytes: the value of each, how many stand in a row, and the number that they spell.
use Rattle.std.specs.Prelude.{ℕ, List, map, take, drop, cond, nat_le, Option, Some, None}
use Rattle.std.specs.List.{prefix_len}
use Rattle.model.specs.Lines.{is_digit, digit_value}
use Rattle.model.specs.Frames.{number}

-- a digit's value, and 0 of any other byte
unfoldable pub value_of : ℕ → ℕ
value_of b = cond (is_digit b) (digit_value b) 0

abbrev pub values : List ℕ → List ℕ
values l = map value_of l

-- how many digits a list of bytes starts with
abbrev pub run : List ℕ → ℕ
run l = prefix_len is_digit l

-- the number that so many digits spell from a place on
unfoldable pub number_at : List ℕ → ℕ → ℕ → ℕ
number_at l at width = number 0 (take width (drop at (values l)))

-- ---- what is read

-- a digit's value
abbrev pub value_at : ℕ → Option ℕ
value_at b = cond (is_digit b) (Some (value_of b)) None

-- the number of so many digits at a place; none where fewer stand there
unfoldable pub spelt : List ℕ → ℕ → ℕ → Option ℕ
spelt text at width = cond (nat_le width (run (drop at text))) (Some (number_at text at width)) None
