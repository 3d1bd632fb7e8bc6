-- The invariant: the entries of the nets before gate k stand (`PassLaws`).
use mathlib.Core.Path.{◌≡◌, refl, ◌∙◌, subst}
use native.Mathlib.Omega.{arith}
use lib.ListN.{length}
use Rattle.model.specs.Miter.{gates_of}
use Rattle.table.specs.Rows.{entry_of, HoldsTable}
use Rattle.laws.specs.MiterOrder.{length_gates}
use Rattle.listing.specs.Gates.{gate_meant}
use Rattle.fold.proofs.PassLaws.{after_none, after_all, gate_entered}
use borrow.Author.Rules.{rules}
use Rattle.fold.proofs.pass.fold.Goals as goal

pub loop-k-init : goal.loop-k-init
loop-k-init c =
    let p = c.args.pair.now in
    (refl, rw (after_none p.left.inputs (gates_of p.left p.right)) (rw c.parts-parts.ensures.counts.inputs at c.set_bases.ensures))

pub insert-requires : goal.insert-requires
insert-requires c =
    let ab = c.parts-parts.ensures.alike in
    record {
      inside = omega arith;
      few = omega (arith, ab.left.inputs, ab.left.gates, ab.right.gates);
      room = omega (arith, c.requires, c.loop-k.invariant.0);
    }

pub loop-k-preserved : goal.loop-k-preserved
loop-k-preserved c =
    let p = c.args.pair.now in
    let ab = c.parts-parts.ensures.alike in
    let l = c.loop-k in
    let g = c.gate_of in
    let m = c.entry-own in
    let e = c.insert in (
      (let s : length e.new.work ≡ length l.work = search rules in s) ∙ l.invariant.0,
      gate_entered p.left p.right ab _ l.k _ (gate_meant g.result) (entry_of m.result) l.work e.new.work
          (omega (arith, length_gates p.left p.right ab)) (omega arith) g.ensures l.invariant.1 m.ensures e.ensures,
    )

pub returns : goal.returns
returns c =
    let p = c.args.pair.now in
    let ab = c.parts-parts.ensures.alike in
    let l = c.loop-k in
    subst (HoldsTable l.work) (after_all p.left.inputs (gates_of p.left p.right) l.k (omega (arith, length_gates p.left p.right ab))) l.invariant.1.rows
