-- A cut, ¬z, and a cut of the two: the lines of the tree in its order.
use Rattle.derivation.proofs.EmitLaws.{emits_cut}
use Rattle.emit.proofs.outputs.next_out.Goals as goal

pub returns-clause-emits : goal.returns-clause-emits
returns-clause-emits c t links known hx hy =
    emits_cut (rw c.positive.ensures at c.resolve-half.ensures.emits) (c.out-one.ensures.emits t links known hx hy)
    (rw c.positive-2.ensures at c.resolve.ensures.emits)
