-- The limits of document 01 in the shared report.
use native.Mathlib.Omega.{arith}
use Rattle.model.specs.Limits.{program_clauses}
use Rattle.model.specs.Checker.{program}
use Rattle.cec_check.proofs.report.report.Goals as goal

pub returns : goal.returns
unfolding program
returns c = c.report.ensures program_clauses (omega arith)
