-- Two resolutions, as `imply_and` has them: the second clause is emitted first.
use native.Mathlib.Omega.{arith}
use Rattle.derivation.proofs.EmitLaws.{emits_cut, emits_cut_right}
use Rattle.derivation.proofs.ands.and_down.Goals as goal

pub returns-clause-emits : goal.returns-clause-emits
returns-clause-emits c =
    λ t links k h u.
    emits_cut (c.subst2-second.ensures.emits t links k h.y h.y)
    (emits_cut_right (c.subst2-first.ensures.emits t links k h.x h.x) (rw (c.number_at.ensures links k.numbers u, c.representative.ensures t k.rows (omega arith)) at c.resolve-half.ensures.emits))
    (rw (c.representative-2.ensures t k.rows (omega arith)) at c.resolve.ensures.emits)
