-- The gate in normal form, its lines, and its numbers in their places (`PassLaws`).
use mathlib.Core.Bool.{true, false}
use native.Mathlib.Omega.{arith}
use Rattle.emit.proofs.PassLaws.{next_normal, normal_is}
use Rattle.emit.proofs.pass.gate_lines.Goals as goal

pub returns-in-And-clause-emits : goal.returns-in-And-clause-emits
returns-in-And-clause-emits c t links k next =
    let n = c.normal-normal in
    let m = n.ensures t k.rows (omega (arith, k.nets, next.x)) (omega (arith, k.nets, next.y)) in
    let all = c.and_gate.ensures.emits t links k (next_normal t links false c.args.d n.result m.0 next) in
    rw c.in-And.is
    (normal_is t links false c.args.d n.result m.0 m.1 (record { adds = all.adds; numbers = rw c.sign.ensures at (c.kept_numbers.ensures _ all.numbers) }))

pub returns-in-Xor-clause-emits : goal.returns-in-Xor-clause-emits
returns-in-Xor-clause-emits c t links k next =
    let n = c.normal-normal-in-Xor in
    let m = n.ensures t k.rows (omega (arith, k.nets, next.x)) (omega (arith, k.nets, next.y)) in
    let all = c.xor_gate.ensures.emits t links k (next_normal t links true c.args.d n.result m.0 next) in
    rw c.in-Xor.is
    (normal_is t links true c.args.d n.result m.0 m.1 (record { adds = all.adds; numbers = rw c.sign-in-Xor.ensures at (c.kept_numbers-in-Xor.ensures _ all.numbers) }))
