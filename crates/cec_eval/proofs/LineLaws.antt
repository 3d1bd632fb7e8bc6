-- The line that is printed: the two ways to an answer, the places of refusals, and a word's line.
use Prim.Native.Nat.{ℕ, ◌≤◌, ◌<◌}
use mathlib.Core.Path.{◌≡◌, sym, ◌∙◌}
use mathlib.Core.List.{List, [], ◌∷◌}
use native.Mathlib.Omega.{arith}
use lib.ListN.{length, length-append, set, take}
use lib.Seq.{sets}
use Rattle.model.specs.Limits.{highest_line, stream_bytes}
use Rattle.model.specs.Answers.{zeros}
use Rattle.model.specs.Answers.Answer.{refused}
use Rattle.model.specs.Lines.{line_feed}
use Rattle.model.specs.Frames.{hex}
use Rattle.model.specs.Evaluator.{evaluate}
use Rattle.laws.specs.Digits.{length_hex}
use Rattle.laws.specs.Places.{evaluate_placed}
use Rattle.laws.specs.Streams.{over_limit, within_limit, limited_placed, placed_line}
use Rattle.frame.proofs.WriteLaws.{sets_append, fill}
use Rattle.printed.specs.Printing.{Whole}
use Rattle.printed.proofs.PrintLaws.{filled_line}
use Rattle.cec_eval.specs.Program.{word_digits, working_bytes, evaluated, word_line}

-- ---- the two ways to an answer

module _ (stream : List ℕ) (pattern : ℕ) where
  pub too_long : stream_bytes < length stream → refused 1 0 ≡ evaluated stream pattern
  unfolding evaluated
  too_long h = sym (over_limit stream_bytes stream _ h)

  pub not_too_long : length stream ≤ stream_bytes → evaluated stream pattern ≡ evaluate stream pattern working_bytes
  unfolding evaluated
  not_too_long h = within_limit stream_bytes stream _ h

  -- a report has digits for the line of a refusal
  pub has_digits : (number line : ℕ) → refused number line ≡ evaluated stream pattern → line ≤ highest_line
  unfolding evaluated
  has_digits number line e = placed_line (limited_placed stream_bytes stream _ (λ short. omega arith) (evaluate_placed stream pattern working_bytes)) (sym e)

-- ---- a word's line

pub word_printed : (word : ℕ) (out : List ℕ) → out ≡ sets (zeros 19) 0 (hex word_digits word)
    → Whole (set out word_digits line_feed) 17 × (take 17 (set out word_digits line_feed) ≡ word_line word)
word_printed word out e =
    let digits = length_hex word_digits word in
    let bytes : length (word_line word) ≡ 17 = rw length-append (omega (arith, digits)) in
    let behind = sets_append (zeros 19) 0 (hex word_digits word) (line_feed ∷ []) in
    let stored : set out word_digits line_feed ≡ sets (zeros 19) 0 (word_line word) = rw (behind, digits, e) in
    filled_line (word_line word) (omega arith) (stored ∙ fill 19 (word_line word) (omega arith)) (sym bytes)
