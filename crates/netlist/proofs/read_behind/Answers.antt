-- The body's answer behind the header; the list stands from that on (`ListLaws`).
use Rattle.std.proofs.lemmas.Result.{err_from_is_err_and}
use Rattle.netlist.proofs.ListLaws.{list_refused, is_list, list_says}
use Rattle.netlist.proofs.read_behind.Goals as goal

pub returns-in_err-next : goal.returns-in_err-next
returns-in_err-next c =
    let a = c.args in
    let p = err_from_is_err_and c.from_residual.result c.from_residual.ensures.1 in
    rw (p.1, p.2) (list_refused a.header a.counts a.body c.requires _ c.in_err-next.ensures)

pub new-requires : goal.new-requires
new-requires c = let a = c.args in is_list a.header a.counts a.body c.requires c.in_ok-next.next c.in_ok-next.ensures

pub returns : goal.returns
returns c = let a = c.args in rw c.new.ensures (list_says a.header a.counts a.body c.requires c.in_ok-next.next c.in_ok-next.ensures)
