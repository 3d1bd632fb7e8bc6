-- Both lists' answer and then the end's (`ListLaws`).
use Rattle.std.proofs.lemmas.Result.{err_from_is_err_and}
use Rattle.netlist.proofs.ListLaws.{lists_refused, lists_more, lists_alone}
use Rattle.netlist.proofs.read_lists.Goals as goal

pub returns-in_err-pair : goal.returns-in_err-pair
returns-in_err-pair c =
    let p = err_from_is_err_and c.from_residual.result c.from_residual.ensures.1 in
    rw (p.1, p.2, lists_refused c.args.text.now _ c.in_err-pair.ensures.reads)

pub returns-in_err-read_end : goal.returns-in_err-read_end
returns-in_err-read_end c =
    let p = err_from_is_err_and c.from_residual-in_err-read_end.result c.from_residual-in_err-read_end.ensures.1 in
    rw (p.1, p.2, lists_more c.args.text.now _ c.in_ok-pair.next c.in_ok-pair.ensures.reads _ c.in_err-read_end.ensures)

pub returns : goal.returns
returns c = rw (lists_alone c.args.text.now _ c.in_ok-pair.next c.in_ok-pair.ensures.reads c.in_ok-read_end.ensures)
