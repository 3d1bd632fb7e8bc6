-- The first and the last clause over the representatives, and their resolvent; the complement stands for true and has no link.
use native.Mathlib.Omega.{arith}
use Rattle.emit_laws.specs.CaseTrees.{xor_trees}
use Rattle.derivation.proofs.EmitLaws.{emits_old, emits_cut, emits_two}
use Rattle.derivation.proofs.xors.xor_same.Goals as goal

pub returns-clause-emits : goal.returns-clause-emits
unfolding xor_trees
returns-clause-emits c =
    let x = c.complement-not_x.ensures in
    let y = c.complement-not_y.ensures in
    λ t links k h.
    emits_two
    (emits_cut (c.subst2-first.ensures.emits t links k h.x h.y)
    (rw (x, y) at (c.subst2-fourth.ensures.emits t links k (omega (arith, x)) (omega (arith, y)))) (rw (c.representative.ensures t k.rows (omega arith)) at c.resolve-down.ensures.emits))
    (emits_old _ 0)
