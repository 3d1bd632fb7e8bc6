-- The two ways to an answer, and what a report has digits for.
use Prim.Native.Nat.{ℕ, ◌≤◌, ◌<◌}
use mathlib.Core.Path.{◌≡◌, sym}
use mathlib.Core.List.{List}
use native.Mathlib.Omega.{arith}
use lib.ListN.{length}
use Rattle.model.specs.Limits.{highest_line, stream_bytes}
use Rattle.model.specs.Answers.Answer.{refused}
use Rattle.model.specs.Lists.{read_one}
use Rattle.laws.specs.Places.{one_placed}
use Rattle.laws.specs.Streams.{over_limit, within_limit, limited_placed, placed_line}
use Rattle.cec_list.specs.Program.{listed}

module _ (stream : List ℕ) where
  -- ---- the two ways to an answer

  pub too_long : stream_bytes < length stream → listed stream ≡ refused 1 0
  unfolding listed
  too_long h = over_limit stream_bytes stream _ h

  pub not_too_long : length stream ≤ stream_bytes → listed stream ≡ read_one stream
  unfolding listed
  not_too_long h = within_limit stream_bytes stream _ h

  -- ---- what there are digits for

  pub has_digits : (number line : ℕ) → refused number line ≡ listed stream → line ≤ highest_line
  unfolding listed
  has_digits number line e = placed_line (limited_placed stream_bytes stream _ (λ short. omega arith) (one_placed stream)) (sym e)
