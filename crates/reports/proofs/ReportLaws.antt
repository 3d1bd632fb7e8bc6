-- A verdict within limits: what a report has digits for.
use Prim.Native.Nat.{ℕ, ◌≤◌, ◌<◌}
use mathlib.Core.Path.{◌≡◌, sym, ap}
use mathlib.Core.List.{List}
use native.Mathlib.Omega.{arith}
use lib.ListN.{length}
use Rattle.std.specs.Prelude.{Result, Ok, Err}
use Rattle.model.specs.Limits.{most_clauses, highest_line}
use Rattle.model.specs.Answers.{Answer}
use Rattle.model.specs.Answers.Answer.{refused}
use Rattle.model.specs.Steps.{State}
use Rattle.model.specs.Checker.{check, judge}
use Rattle.laws.specs.Answers.{ok_injective, refused_not_ok}
use Rattle.laws.specs.Places.{Placed, Counts}
use Rattle.laws.specs.Places.Placed.{result, place}
use Rattle.laws.specs.Streams.{over_limit, within_limit}
use Rattle.laws.specs.Printed.{judge_placed}
use Rattle.refusal.specs.declared.Refusal.{Refusal}
use Rattle.refusal.specs.Answers.{answer_of}
use Rattle.checker.specs.declared.Accepted.{Accepted}
use Rattle.checker.specs.Verdicts.{counted_of}
use Rattle.reports.specs.Reports.{Fits}

-- ---- what there are digits for

fit : {room most : ℕ} {a : Answer State} → Placed (Counts room) most a → room ≤ most_clauses → most ≤ highest_line → (c : Result Accepted Refusal) → answer_of c ≡ counted_of a → Fits c
fit (result k) r h (Ok c) e =
    let i = ok_injective e in
    let s = ap (λ (c : Accepted). c.steps) i in
    let m = ap (λ (c : Accepted). c.clauses) i in
    (omega (arith, s, m, k.steps, k.clauses), omega (arith, m, k.clauses))
fit (result k) r h (Err x) e = absurd (refused_not_ok e)
fit (place number line some few) r h (Ok c) e = absurd (refused_not_ok (sym e))
fit (place number line some few) r h (Err x) e = let l : x.line ≡ line = cc in omega arith

-- ---- the two ways to a verdict

module _ (bytes numbers : ℕ) (stream : List ℕ) where
  pub too_long : bytes < length stream → judge bytes numbers stream ≡ refused 1 0
  unfolding judge
  too_long h = over_limit bytes stream _ h

  pub checked : length stream ≤ bytes → judge bytes numbers stream ≡ check stream numbers
  unfolding judge
  checked h = within_limit bytes stream _ h

  pub judge_fits : bytes < highest_line → (c : Result Accepted Refusal) → answer_of c ≡ counted_of (judge bytes numbers stream) → Fits c
  judge_fits few c e = fit (judge_placed bytes numbers stream few) (omega arith) (omega arith) c e
