-- Nothing is left, or what is there is refused (`LineLaws`).
use Rattle.std.proofs.lemmas.Result.{err_from_is_err_and}
use Rattle.netlist.specs.Says.{ahead}
use Rattle.netlist.proofs.LineLaws.{end_none, end_other, end_fault}
use Rattle.netlist.proofs.lines.read_end.Goals as goal

pub returns-in_err-read_line : goal.returns-in_err-read_line
returns-in_err-read_line c =
    let p = err_from_is_err_and c.from_residual.result c.from_residual.ensures.1 in
    rw (p.1, p.2) (end_fault (ahead c.args.cursor) c.args.cursor.line c.in_err-read_line.ensures.reads)

pub returns-in-None : goal.returns-in-None
returns-in-None c = end_none (ahead c.args.cursor) c.args.cursor.line (rw c.in-None.is at c.in_ok-read_line.ensures.reads)

pub returns-in-Some : goal.returns-in-Some
returns-in-Some c = rw c.at.ensures (end_other (ahead c.args.cursor) c.args.cursor.line (rw c.in-Some.is at c.in_ok-read_line.ensures.reads))
