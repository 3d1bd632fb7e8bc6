-- The clauses one after the other, one for each pair of signs.
use mathlib.Core.Path.{refl}
use native.Mathlib.Omega.{arith}
use Rattle.derivation.proofs.EmitLaws.{none, then, emits_all}
use Rattle.derivation.proofs.xors.xor_own.Goals as goal

pub returns-clause-emits : goal.returns-clause-emits
returns-clause-emits c =
    let x = c.complement-not_x.ensures in
    let y = c.complement-not_y.ensures in
    λ t links k h.
    emits_all
    (then (c.subst2-first.ensures.emits t links k h.x h.y)
    (then (rw y at (c.subst2-second.ensures.emits t links k h.x (omega (arith, y))))
    (then (rw x at (c.subst2-third.ensures.emits t links k (omega (arith, x)) h.y))
    (then (rw (x, y) at (c.subst2-fourth.ensures.emits t links k (omega (arith, x)) (omega (arith, y)))) (none _)))))
    (refl, λ e. absurd (omega (arith, e)))
