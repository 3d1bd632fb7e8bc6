-- A program's whole stream: it is too long, or what is due to it is; and where a refusal of it stands.
use Rattle.std.specs.Prelude.{ℕ, ◌≤◌, ◌<◌, ◌≡◌, List, length}
use Rattle.std.proofs.Common.{sym, arith, leb-true, le-leb}
use Rattle.std.proofs.lemmas.Bool.{lt-leb}
use Rattle.model.specs.Limits.{highest_line}
use Rattle.model.specs.Answers.{Answer, guard}
use Rattle.model.specs.Answers.Answer.{refused}
use Rattle.model.specs.Checker.{limited}
use Rattle.laws.specs.Answers.{refused_not_ok}
use Rattle.laws.specs.Places.{Placed, placed_guard, raised}
use Rattle.laws.specs.Places.Placed.{result, place}

module _ {A : Type 0} (bytes : ℕ) (stream : List ℕ) (due : Answer A) where
  pub over_limit : bytes < length stream → limited bytes stream due ≡ refused 1 0
  unfolding guard
  over_limit h = rw (lt-leb _ _ h)

  pub within_limit : length stream ≤ bytes → limited bytes stream due ≡ due
  unfolding guard
  within_limit h = rw (le-leb _ _ h)

  -- a stream that is not too long has few lines
  pub limited_placed : {Good : A → Type 0} {most : ℕ} → (length stream ≤ bytes → most ≤ highest_line) → Placed Good most due → Placed Good highest_line (limited bytes stream due)
  limited_placed few p = placed_guard _ 1 0 _ (omega arith, omega arith) (omega arith) (λ t. raised (few (leb-true _ _ t)) p)

-- the line of a refusal
pub placed_line : {A : Type 0} {Good : A → Type 0} {most : ℕ} {a : Answer A} → Placed Good most a → {number line : ℕ} → a ≡ refused number line → line ≤ most
placed_line (result p) e = absurd (refused_not_ok (sym e))
placed_line (place n l some low) {number} {line} e = let z : l ≡ line = cc in omega arith
