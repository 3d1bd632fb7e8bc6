-- The literals are those that the gate states, and they are over variables below its own (`MiterLaws`).
use Rattle.miter.proofs.MiterLaws.{gate_defines}
use Rattle.miter.proofs.variables.defined.Goals as goal

pub returns : goal.returns
returns c reads-low =
    let a = c.args in
    gate_defines a.gate a.v _ _ _ c.positive.ensures c.from.ensures c.from-2.ensures c.requires reads-low
