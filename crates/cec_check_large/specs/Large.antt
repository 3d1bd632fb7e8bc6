-- The checking program for long evidence: the definition of the checking program, with two other limits.
use Rattle.std.specs.Prelude.{ℕ, List}
use Rattle.model.specs.Limits.{most_clauses}
use Rattle.model.specs.Checker.{program_within}

-- 4 MiB; no proof that the engine makes is as long
abbrev pub large_bytes : ℕ
large_bytes = 4194304

-- as many clauses as have a number
unfoldable pub large_program : List ℕ → List ℕ
large_program = program_within large_bytes most_clauses
