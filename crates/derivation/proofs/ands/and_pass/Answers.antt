-- The links of the gate and of its complement, the second over complemented operands.
use native.Mathlib.Omega.{arith}
use Rattle.emit_laws.specs.CaseTrees.{and_trees}
use Rattle.derivation.proofs.EmitLaws.{emits_two}
use Rattle.derivation.proofs.ands.and_pass.Goals as goal

pub returns-clause-emits : goal.returns-clause-emits
unfolding and_trees
returns-clause-emits c =
    let n = c.complement-not_n.ensures in
    let x = c.complement-not_x.ensures in
    let y = c.complement-not_y.ensures in
    λ t links k h.
    emits_two (c.link2-down.ensures.emits t links k (omega arith) h.y h.y)
    (rw (n, x, y) at (c.link2-up.ensures.emits t links k (omega (arith, n)) (omega (arith, x)) (omega (arith, y))))
