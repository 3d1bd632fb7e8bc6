-- The links of the gate and of its complement, the second over a complemented operand.
use native.Mathlib.Omega.{arith}
use Rattle.emit_laws.specs.CaseTrees.{xor_trees}
use Rattle.derivation.proofs.EmitLaws.{emits_two}
use Rattle.derivation.proofs.xors.xor_pass.Goals as goal

pub returns-clause-emits : goal.returns-clause-emits
unfolding xor_trees
returns-clause-emits c =
    let n = c.complement-not_n.ensures in
    let y = c.complement-not_y.ensures in
    λ t links k h.
    emits_two (c.link2-down.ensures.emits t links k (omega arith) h.x h.y)
    (rw (n, y) at (c.link2-up.ensures.emits t links k (omega (arith, n)) h.x (omega (arith, y))))
