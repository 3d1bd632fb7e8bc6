-- What a report has digits for.
use Rattle.std.specs.Prelude.{◌≤◌, Result, Ok, Err}
use Rattle.refusal.specs.declared.Refusal.{Refusal}
use Rattle.checker.specs.declared.Accepted.{Accepted}
use Rattle.model.specs.Limits.{most_clauses, highest_line}

-- counts of two bytes, a line of three
abbrev pub Fits : Result Accepted Refusal → Type 0
Fits (Ok a) = (a.steps ≤ most_clauses) × (a.clauses ≤ most_clauses)
Fits (Err r) = r.line ≤ highest_line
