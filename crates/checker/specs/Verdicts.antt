-- What the verdict on a text says of the definition's, and the reply.
use Rattle.std.specs.Prelude.{ℕ, ◌≤◌, ◌≡◌, List, length, Result, Ok, Err}
use Rattle.model.specs.Limits.{most_clauses}
use Rattle.model.specs.Answers.{Answer, bind}
use Rattle.model.specs.Answers.Answer.{ok}
use Rattle.model.specs.Steps.{State}
use Rattle.laws.specs.Soundness.{AgreeingLists}
use Rattle.refusal.specs.declared.Refusal.{Refusal}
use Rattle.refusal.specs.Answers.{refused_by}
use Rattle.steps.specs.Kept.{Held}
use Rattle.checker.specs.declared.Accepted.{Accepted}

-- the state at the end, whose clauses the store holds and whose counts these are, or the same refusal
abbrev pub VerdictSays : Answer State → List ℕ → Result Accepted Refusal → Type 0
VerdictSays a store (Ok c) = (s : State) × (a ≡ ok s) × Held store s.clauses × (s.steps ≡ c.steps) × (length s.clauses ≡ c.clauses) × (c.clauses ≤ most_clauses)
VerdictSays a store (Err r) = a ≡ refused_by r

-- ---- the reply

-- 'The reply counts proof lines and clauses.'
abbrev pub counted_of : Answer State → Answer Accepted
counted_of a = bind a λ s. ok (record { steps = s.steps; clauses = length s.clauses })

-- where the text is accepted, its two lists agree on every pattern
abbrev pub Agreeing : List ℕ → Result Accepted Refusal → Type 0
Agreeing text (Ok a) = AgreeingLists text
Agreeing text (Err r) = Unit {0}
