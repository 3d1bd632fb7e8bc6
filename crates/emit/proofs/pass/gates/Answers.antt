-- The invariant: the lines of the gates below i are written, and what is left of the loop makes up the whole (`PassLaws`).
use Prim.Native.Nat.{◌+◌, ◌<◌}
use mathlib.Core.Path.{◌≡◌, refl, ◌∙◌}
use native.Mathlib.Omega.{arith}
use lib.ListN.{length}
use Rattle.model.specs.Miter.{first_gate, gates_of}
use Rattle.laws.specs.MiterOrder.{length_gates}
use Rattle.emit.proofs.PassLaws.{up_to_none, up_to_next, reads_done, up_to_all}
use Rattle.emit.proofs.pass.gates.Goals as goal

pub loop-i-init : goal.loop-i-init
loop-i-init c =
    let a = c.args in (
      omega arith,
      record { same_bytes = refl; length_kept = refl; lines = omega arith; clauses = omega arith },
      λ t k n. up_to_none a.proof.now a.table.now t a.pair.now.left a.pair.now.right a.links.now k,
    )

pub loop-i-preserved : goal.loop-i-preserved
loop-i-preserved c =
    let o = c.one_gate-k in
    let l = c.loop-i in
    let few = o.ensures.few.0 in
    let so_far = l.invariant.1 in
    let first = c.first_gate-first in
    let a = c.args in
    let p = a.pair.now in
    let ab = c.parts-parts.ensures.alike in
    let n = c.parts-parts.ensures.counts in (
      omega (arith, o.ensures.few.1, l.invariant.0),
      record {
        same_bytes = few.same_bytes ∙ so_far.same_bytes;
        length_kept = few.length_kept ∙ so_far.length_kept;
        lines = omega (arith, few.lines, so_far.lines);
        clauses = omega (arith, few.clauses, so_far.clauses);
      },
      λ t k q.
          let u = l.invariant.2 t k q in
          let h : l.i < length (gates_of p.left p.right) = omega (arith, length_gates p.left p.right ab, n.left, n.right) in
          let e : first.result + l.i ≡ first_gate p.left + l.i = omega (arith, first.ensures, n.inputs) in
          let low = reads_done a.proof.now a.table.now t p.left p.right ab l.i _ _ h c.gate_of-gate.ensures e in
          up_to_next a.proof.now a.table.now t p.left p.right l.proof _ l.links o.new.links l.i _ _ _ _ h c.gate_of-gate.ensures e u
          (o.ensures.done t u.links u.known (omega (arith, u.long, first.ensures, n.inputs)) (omega (arith, first.ensures, n.inputs)) low),
    )

pub returns-clause-done : goal.returns-clause-done
returns-clause-done c t k n =
    let a = c.args in
    let p = a.pair.now in
    let l = c.loop-i in
    up_to_all a.proof.now a.table.now t p.left p.right l.proof l.links l.i _
    (omega (arith, length_gates p.left p.right c.parts-parts.ensures.alike, c.parts-parts.ensures.counts.left, c.parts-parts.ensures.counts.right)) (l.invariant.2 t k n)
