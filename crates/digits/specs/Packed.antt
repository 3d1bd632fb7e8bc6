-- Four bytes as one number, the first lowest, and the values of four digits.
use Rattle.std.specs.Prelude.{ℕ, ◌+◌, ◌*◌, ◌^◌, Bool, ◌&&◌, cond, Option, Some, None}
use Rattle.model.specs.Lines.{is_digit}
use Rattle.digits.specs.Digits.{value_of}

abbrev pub packed : ℕ → ℕ → ℕ → ℕ → ℕ
packed a b c d = ((d * 2 ^ 8 + c) * 2 ^ 8 + b) * 2 ^ 8 + a

abbrev pub are_digits : ℕ → ℕ → ℕ → ℕ → Bool
are_digits a b c d = is_digit a && is_digit b && is_digit c && is_digit d

-- the values of four digits; none where one of the bytes is no digit
abbrev pub four_values : ℕ → ℕ → ℕ → ℕ → Option ℕ
four_values a b c d = cond (are_digits a b c d) (Some (packed (value_of a) (value_of b) (value_of c) (value_of d))) None
