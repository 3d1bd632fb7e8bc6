-- What the evaluating program takes for a pattern, and what it prints.
use Rattle.std.specs.Prelude.{ℕ, ◌+◌, Bool, true, ◌&&◌, cond, List, [], ◌∷◌, ◌++◌, map, eqb, length, Option, Some, None}
use Rattle.model.specs.Limits.{most_inputs, most_gates, stream_bytes}
use Rattle.model.specs.Answers.{Answer}
use Rattle.model.specs.Answers.Answer.{ok, refused}
use Rattle.model.specs.Lines.{is_digit, digit_value, line_feed}
use Rattle.model.specs.Frames.{number, hex, line_of}
use Rattle.model.specs.Evaluator.{evaluate}
use Rattle.model.specs.Checker.{limited}
use Rattle.frame.specs.Frames.{report}

-- ---- the argument

-- the digits of 64 bits
abbrev pub word_digits : ℕ
word_digits = 16

abbrev pub all_digits : List ℕ → Bool
all_digits [] = true
all_digits (b ∷ s) = is_digit b && all_digits s

-- 16 digits are the pattern that they spell, and nothing else is one
unfoldable pub pattern_of : List ℕ → Option ℕ
pattern_of bytes = cond (eqb (length bytes) word_digits && all_digits bytes) (Some (number 0 (map digit_value bytes))) None

-- ---- the line that is printed

-- working bytes 'at least 1 + I + gates' for every list, so that 17 does not occur
abbrev pub working_bytes : ℕ
working_bytes = 1 + most_inputs + most_gates

-- the word of a stream's list on a pattern
unfoldable pub evaluated : List ℕ → ℕ → Answer ℕ
evaluated stream pattern = limited stream_bytes stream (evaluate stream pattern working_bytes)

abbrev pub word_line : ℕ → List ℕ
word_line word = hex word_digits word ++ (line_feed ∷ [])

abbrev pub line_for : Answer ℕ → List ℕ
line_for (ok word) = word_line word
line_for (refused number line) = line_of (report number line 0 0)

unfoldable pub program : List ℕ → ℕ → List ℕ
program stream pattern = line_for (evaluated stream pattern)
