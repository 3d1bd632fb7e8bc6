-- The verdict has a report, and its line is what is printed.
use lib.ListN.{length}
use Rattle.reports.proofs.ReportLaws.{judge_fits}
use Rattle.reports.proofs.report_within.Goals as goal

pub line_of-requires : goal.line_of-requires
line_of-requires c =
    let a = c.args in
    judge_fits a.bytes (length a.store.now) a.stream.now c.requires c.judge.result c.judge.ensures.replies
