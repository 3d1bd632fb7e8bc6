-- One row more stands (`row_more`).
use Rattle.netlist.proofs.PlainLaws.{row_more}
use Rattle.netlist.proofs.plain.rows.Goals as goal

pub loop-i-preserved : goal.loop-i-preserved
loop-i-preserved g c =
    let l = c.loop-i in
    row_more (λ s i r. g.F.Fn.post c.args.stands (s, (i, tt)) r) c.args.bytes c.args.text.now l.i l.rest l.invariant.0 (rw c.if-not-stands.false at c.stands.ensures) l.invariant.1
