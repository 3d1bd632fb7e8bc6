-- Two resolutions, as `imply_and` has them, with two clauses that are there.
use native.Mathlib.Omega.{arith}
use Rattle.derivation.proofs.EmitLaws.{emits_cut_left}
use Rattle.derivation.proofs.ands.and_up.Goals as goal

pub returns-clause-emits : goal.returns-clause-emits
returns-clause-emits c =
    let x = c.complement-not_x.ensures in
    let y = c.complement-not_y.ensures in
    λ t links k h u.
    emits_cut_left
    (emits_cut_left (rw (x, y) at (c.subst2-third.ensures.emits t links k (omega (arith, x)) (omega (arith, y)))) (rw (c.number_at.ensures links k.numbers u, c.representative.ensures t k.rows (omega arith)) at c.resolve-half.ensures.emits))
    (rw (c.number_at-2.ensures links k.numbers u, c.representative-2.ensures t k.rows (omega arith)) at c.resolve.ensures.emits)
