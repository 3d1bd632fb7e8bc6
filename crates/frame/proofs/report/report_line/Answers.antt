-- The buffer has just the room that the line needs.
use mathlib.Core.Path.{◌∙◌}
use native.Mathlib.Omega.{arith}
use Rattle.frame.proofs.WriteLaws.{report_length, whole_buffer}
use Rattle.frame.proofs.report.report_line.Goals as goal

pub write_line-requires : goal.write_line-requires
write_line-requires c = omega (arith, report_length)

pub returns : goal.returns
returns c =
    let a = c.args in
    c.write_line.ensures.1 ∙ whole_buffer _ (report_length a.refusal a.line a.steps a.clauses)
