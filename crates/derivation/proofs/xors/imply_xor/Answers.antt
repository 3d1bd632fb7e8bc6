-- Three resolutions, as the definition has them, each with a clause that is there.
use native.Mathlib.Omega.{arith}
use Rattle.derivation.proofs.EmitLaws.{emits_cut, emits_cut_left, emits_cut_right}
use Rattle.derivation.proofs.xors.imply_xor.Goals as goal

pub returns-clause-emits : goal.returns-clause-emits
returns-clause-emits c =
    let x = c.complement-not_x.ensures in
    let y = c.complement-not_y.ensures in
    λ t links k hx hy.
    let q = c.representative-q.ensures t k.rows (omega (arith, k.nets)) in
    emits_cut
    (emits_cut_right (c.subst2-one.ensures.emits t links k hx hy) (rw q at c.resolve-left.ensures.emits))
    (emits_cut_left (rw (x, y) at (c.subst2-two.ensures.emits t links k (omega (arith, x)) (omega (arith, y)))) (rw q at c.resolve-right.ensures.emits))
    (rw (c.representative.ensures t k.rows (omega (arith, k.nets))) at c.resolve.ensures.emits)
