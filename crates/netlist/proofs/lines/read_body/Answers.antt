-- The gates' answer and then the outputs', put together to the body's (`ListLaws`).
use Rattle.std.proofs.lemmas.Result.{err_from_is_err_and}
use Rattle.netlist.proofs.ListLaws.{gates_refuse, body_says}
use Rattle.netlist.proofs.lines.read_body.Goals as goal

pub returns-in_err-next : goal.returns-in_err-next
returns-in_err-next c =
    let a = c.args in
    let p = err_from_is_err_and c.from_residual.result c.from_residual.ensures.1 in
    rw (p.1, p.2) (gates_refuse a.cursor a.counts _ c.in_err-next.ensures)

pub returns : goal.returns
returns c =
    let a = c.args in
    body_says a.cursor a.counts c.in_ok-next.next c.in_ok-next.ensures c.read_outputs.result c.read_outputs.ensures
