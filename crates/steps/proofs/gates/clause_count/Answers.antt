-- Each arm knows its gate.
use Rattle.model.specs.Clauses.{and_clauses, xor_clauses}
use Rattle.steps.proofs.gates.clause_count.Goals as goal

pub returns-in-And : goal.returns-in-And
unfolding and_clauses
returns-in-And c = λ n x y. rw c.in-And.is

pub returns-in-Xor : goal.returns-in-Xor
unfolding xor_clauses
returns-in-Xor c = λ n x y. rw c.in-Xor.is
