-- The gate's lines and numbers are those of the definition, and the numbers are kept behind the others (`PassLaws`).
use mathlib.Core.Path.{sym, subst}
use Rattle.model.specs.Nets.{Gate}
use Rattle.laws.specs.Literals.{literals_below}
use Rattle.frame.specs.Frames.{op_of}
use Rattle.listing.specs.Gates.{gate_meant}
use Rattle.miter.proofs.MiterLaws.{meant}
use Rattle.emit.specs.Pass.{GateDone}
use Rattle.emit.proofs.PassLaws.{first_next, gate_done}
use Rattle.emit.proofs.pass.one_gate.Goals as goal

pub returns-clause-done : goal.returns-clause-done
returns-clause-done c t kept known long h low =
    let a = c.args in
    let g = a.gate in
    let f = c.gate_lines-numbers in
    let b = literals_below a.v (gate_meant g) low in
    let m : Gate = record { op = op_of g.op; x = g.x; y = g.y } in
    let next = first_next t kept a.v g.x g.y a.k long h b.0 b.1 in
    let own = c.positive.ensures in
    let x = c.from.ensures in
    let y = c.from-2.ensures in
    subst (GateDone a.proof.now f.new.proof a.table.now c.keep.new.links t kept a.k c.behind.result a.v) (sym (meant g.op g.x g.y))
    (gate_done a.proof.now f.new.proof f.result a.table.now a.links.now c.keep.new.links t kept a.k c.behind.result a.v m
    (rw (own, x, y) at (f.ensures.emits t kept known (rw (own, x, y) next))) known long h (λ ns e. c.keep.ensures kept ns known.numbers long e) c.behind.ensures)
