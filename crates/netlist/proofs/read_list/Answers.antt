-- The list's answer and then the end's (`ListLaws`).
use Rattle.std.proofs.lemmas.Result.{err_from_is_err_and}
use Rattle.netlist.proofs.ListLaws.{one_refused, one_more, one_read}
use Rattle.netlist.proofs.read_list.Goals as goal

pub returns-in_err-list : goal.returns-in_err-list
returns-in_err-list c =
    let p = err_from_is_err_and c.from_residual.result c.from_residual.ensures.1 in
    rw (p.1, p.2, one_refused c.args.text.now c.start.result c.start.ensures _ c.in_err-list.ensures)

pub returns-in_err-read_end : goal.returns-in_err-read_end
returns-in_err-read_end c =
    let p = err_from_is_err_and c.from_residual-in_err-read_end.result c.from_residual-in_err-read_end.ensures.1 in
    rw (p.1, p.2, one_more c.args.text.now c.start.result c.start.ensures _ c.in_ok-list.next c.in_ok-list.ensures _ c.in_err-read_end.ensures)

pub returns : goal.returns
returns c = rw (one_read c.args.text.now c.start.result c.start.ensures _ c.in_ok-list.next c.in_ok-list.ensures c.in_ok-read_end.ensures)
