-- The clauses one after the other, the third over complemented operands.
use mathlib.Core.Path.{refl}
use native.Mathlib.Omega.{arith}
use Rattle.derivation.proofs.EmitLaws.{none, then, emits_all}
use Rattle.derivation.proofs.ands.and_own.Goals as goal

pub returns-clause-emits : goal.returns-clause-emits
returns-clause-emits c =
    let x = c.complement-not_x.ensures in
    let y = c.complement-not_y.ensures in
    λ t links k h.
    emits_all
    (then (c.subst2-first.ensures.emits t links k h.x h.x)
    (then (c.subst2-second.ensures.emits t links k h.y h.y)
    (then (rw (x, y) at (c.subst2-third.ensures.emits t links k (omega (arith, x)) (omega (arith, y)))) (none _))))
    (refl, λ e. absurd (omega (arith, e)))
