-- The invariant: the outputs before i were emitted, and with what is left they make up the tree of all (`OutputLaws`).
use Prim.Native.Nat.{◌+◌}
use mathlib.Core.Path.{◌≡◌, ap, ◌∙◌}
use native.Mathlib.Omega.{arith}
use lib.ListN.{length}
use Rattle.model.specs.Nets.{Gate}
use Rattle.model.specs.Miter.{z_gates}
use Rattle.laws.specs.MiterOrder.{length_z}
use Rattle.fold_laws.specs.Table.{rep_of}
use Rattle.emit_laws.specs.Gates.{link_of}
use Rattle.emit.proofs.OutputLaws.{up_to_first, up_to_next, up_to_all, z_below, last_tree_lem}
use Rattle.emit.proofs.outputs.outputs.Goals as goal

pub loop-i-preserved : goal.loop-i-preserved
loop-i-preserved c =
    let p = c.args.pair.now in
    let ab = c.parts-parts.ensures.alike in
    let outs = c.parts-parts.ensures.counts.outputs in
    let l = c.loop-i in
    let less = c.loop-i-test.true in
    let gate = c.outputs_of-gate in
    let next = c.next_out-run in (
      omega arith,
      record {
        same_bytes = next.ensures.few.same_bytes ∙ l.invariant.1.same_bytes;
        length_kept = next.ensures.few.length_kept ∙ l.invariant.1.length_kept;
        lines = omega (arith, l.invariant.1.lines, next.ensures.few.lines);
        clauses = omega (arith, l.invariant.1.clauses, next.ensures.few.clauses);
      },
      λ t links known n s whole h.
          let x = ap (λ (g : Gate). g.x) gate.ensures in
          let y = ap (λ (g : Gate). g.y) gate.ensures in
          let below = z_below ab l.i (omega (arith, less, outs)) in
          up_to_next (rep_of t) (link_of links) (z_gates p.left p.right) _ _ _ _ _ gate.result.x gate.result.y
          (omega arith) (omega (arith, less, outs, length_z p.left p.right ab)) x y (l.invariant.2 t links known n s whole h)
          (next.ensures.emits t links known (omega (arith, below.0)) (omega (arith, below.1))),
    )

pub returns-clause-adds : goal.returns-clause-adds
returns-clause-adds c t links known whole =
    let a = c.args in
    let p = a.pair.now in
    let k = a.numbers in
    let ab = c.parts-parts.ensures.alike in
    let n = c.parts-parts.ensures.counts in
    let l = c.loop-i in
    let gate = c.outputs_of-first in
    let gs = z_gates p.left p.right in
    let many = length_z p.left p.right ab in
    let x = ap (λ (g : Gate). g.x) gate.ensures in
    let y = ap (λ (g : Gate). g.y) gate.ensures in
    let below = z_below ab 0 ab.left.some in
    let z : c.first_z-z.result ≡ 1 + p.left.inputs + length p.left.gates + length p.right.gates = omega (arith, c.first_z-z.ensures, n.inputs, n.left, n.right) in
    let w : c.first_w-first_w.result ≡ 1 + p.left.inputs + length p.left.gates + length p.right.gates + length p.left.outs = omega (arith, c.first_w-first_w.ensures, n.inputs, n.left, n.right, n.outputs) in
    let one =
    up_to_first (rep_of t) (link_of links) gs _ _ _ k.first_z k.last gate.result.x gate.result.y
    (omega (arith, many, ab.left.some)) x y (c.out-run.ensures.emits t links known (omega (arith, below.0)) (omega (arith, below.1))) in
    rw (← last_tree_lem (rep_of t) links c.first_z-z.result c.first_w-first_w.result k c.requires.1 z w)
    (up_to_all (rep_of t) (link_of links) gs _ _ _ k.first_z k.last (omega (arith, many, n.outputs, ab.left.some, c.loop-i-test.false))
    (l.invariant.2 t links known whole _ _ one) (rw c.positive.ensures at c.resolve.ensures.emits)).adds
