-- Each arm knows its gate.
use Rattle.model.specs.Clauses.{and_clauses, xor_clauses}
use Rattle.steps.proofs.gates.gate_clause.Goals as goal

pub and_clause-requires : goal.and_clause-requires
unfolding and_clauses
and_clause-requires c = rw c.in-And.is at c.requires

pub xor_clause-requires : goal.xor_clause-requires
unfolding xor_clauses
xor_clause-requires c = rw c.in-Xor.is at c.requires

pub returns-in-And : goal.returns-in-And
returns-in-And c = rw c.in-And.is c.and_clause.ensures

pub returns-in-Xor : goal.returns-in-Xor
returns-in-Xor c = rw c.in-Xor.is c.xor_clause.ensures
