-- The clause so far is that of the literals so far.
use Rattle.std.proofs.Common.{◌≡◌, take}
use Rattle.model.specs.Clauses.{clause_of}
use Rattle.clause.specs.Sets.{codes}
use Rattle.clause.proofs.Clause.of.Given as goal

abbrev pub invariant-loop-l : goal.invariant-loop-l
invariant-loop-l g l = l.clause ≡ clause_of (codes (take l.l-index l.l-items))
