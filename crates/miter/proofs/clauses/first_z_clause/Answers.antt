-- The invariant: the number behind the clauses of the gates below i, from which the count goes on over the others.
use native.Mathlib.Omega.{arith}
use Rattle.miter.proofs.ClauseLaws.{from_first}
use Rattle.miter.proofs.clauses.first_z_clause.Goals as goal

pub loop-i-init : goal.loop-i-init
loop-i-init c = (omega arith, omega arith, from_first _ _)
