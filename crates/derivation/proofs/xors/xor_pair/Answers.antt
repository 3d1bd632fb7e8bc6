-- A gate that represents itself has its clauses, any other two links to the gate of its key, which is done (`hit_done`): the second of them is
-- that of an XOR of x and ¬y (`AlikeLaws`).
use Prim.Native.Nat.{◌<◌}
use mathlib.Core.Path.{◌≡◌}
use native.Mathlib.Omega.{arith}
use lib.ListN.{length}
use Rattle.model.specs.Clauses.{neg}
use Rattle.fold_laws.specs.Table.{rep_of}
use Rattle.emit_laws.specs.CaseTrees.{xor_trees}
use Rattle.derivation.proofs.AlikeLaws.{emits_alike, alike_cut, turned_left, turned_right}
use Rattle.derivation.proofs.EmitLaws.{emits_two}
use Rattle.derivation.proofs.CaseLaws.{hit_done}
use Rattle.derivation.proofs.xors.xor_pair.Goals as goal

pub returns-then-eq-clause-emits : goal.returns-then-eq-clause-emits
unfolding xor_trees
returns-then-eq-clause-emits c = λ t links k h.
    rw (← c.representative-rep.ensures t k.rows (omega arith), ← c.if-eq.ensures) (c.xor_own.ensures.emits t links k h)

pub returns-clause-emits : goal.returns-clause-emits
unfolding xor_trees
returns-clause-emits c = λ t links k h.
    let y = c.args.d.y.code in
    let e = c.representative-rep.ensures t k.rows (omega arith) in
    let v = c.variable-u.ensures in
    let not_y = c.complement-not_y.ensures in
    let twice : neg (neg y) ≡ y = omega arith in
    let done : c.variable-u.result < length links = rw (v, e) (hit_done c.args.d k h (rw (← e, ← c.if-eq.ensures))) in
    let second = rw v at (c.number_at-second.ensures links k.numbers done) in
    let third = rw v at (c.number_at-third.ensures links k.numbers done) in
    let first = rw v at (c.number_at-first.ensures links k.numbers done) in
    let fourth = rw v at (c.number_at-fourth.ensures links k.numbers done) in
    let down = rw (second, third) at (c.imply_xor-down.ensures.emits t links k h.x h.y) in
    let up = rw (first, fourth, not_y, twice, k.laws.flip) at (c.imply_xor-up.ensures.emits t links k h.x (omega (arith, not_y))) in
    rw (← e, ← c.if-eq.ensures)
    (emits_two down (emits_alike (alike_cut (turned_left _ (rep_of t y) _) (turned_right _ (rep_of t y) _) _) up))
