-- The two limits of this program in the shared report.
use native.Mathlib.Omega.{arith}
use Rattle.model.specs.Limits.{most_clauses}
use Rattle.cec_check_large.specs.Large.{large_program}
use Rattle.cec_check_large.proofs.report.report.Goals as goal

pub returns : goal.returns
unfolding large_program
returns c = c.report.ensures most_clauses (omega arith)
