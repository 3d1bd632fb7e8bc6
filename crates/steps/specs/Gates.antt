-- The clauses of a gate's definition, and room for them in a store.
use Rattle.std.specs.Prelude.{ℕ, ◌+◌, ◌*◌, ◌≤◌, ◌<◌, List, length}
use Rattle.model.specs.Limits.{clause_width, most_clauses}
use Rattle.model.specs.Clauses.{Clause}
use Rattle.steps.specs.declared.gates.Definition.{Definition}
use Rattle.steps.specs.Kept.{clauses_of}

abbrev pub clauses_for : Definition → List Clause
clauses_for d = clauses_of d.op d.n.code d.x.code d.y.code

-- the store can hold its literals, and their complements too
pub record Low (d : Definition) : Type 0 where
  pub low_n : d.n.code < 65534
  pub low_x : d.x.code < 65534
  pub low_y : d.y.code < 65534

-- room for them behind so many clauses
pub record Room (numbers count : ℕ) (d : Definition) : Type 0 where
  pub numbers_for_all : clause_width * (count + length (clauses_for d)) ≤ numbers
  pub few : count ≤ most_clauses
  pub low : Low d
