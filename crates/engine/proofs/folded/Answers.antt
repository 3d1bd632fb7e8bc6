-- Test by test as the definition has them (`AnswerLaws`); the table and the lines are those of both passes.
use mathlib.Core.Path.{refl}
use native.Mathlib.Omega.{arith}
use lib.ListN.{length}
use Rattle.clearing.proofs.ClearLaws.{cleared}
use Rattle.engine.proofs.AnswerLaws.{due_16, due_17, due_18, due_proof, none_written}
use Rattle.engine.proofs.folded.Goals as goal

pub returns-then-proof-bound : goal.returns-then-proof-bound
returns-then-proof-bound c =
    let l = c.args.pair.now in
    let ab = c.parts-parts.ensures.alike in
    let n = c.parts-parts.ensures.counts in
    rw c.at.ensures (due_16 l ab _ _ (omega (arith, n.inputs, n.left, n.right, n.outputs, c.if-proof-bound.true)))

pub returns-then-work-nets : goal.returns-then-work-nets
returns-then-work-nets c =
    let l = c.args.pair.now in
    let ab = c.parts-parts.ensures.alike in
    let n = c.parts-parts.ensures.counts in
    rw c.at-then-work-nets.ensures
    (due_17 l ab _ _ (omega (arith, n.inputs, n.left, n.right, n.outputs, c.if-proof-bound.false)) (omega arith))

pub returns-in-Some : goal.returns-in-Some
returns-in-Some c =
    let l = c.args.pair.now in
    let ab = c.parts-parts.ensures.alike in
    let n = c.parts-parts.ensures.counts in
    rw c.at-in-Some.ensures
    (due_18 l ab _ _ (omega (arith, n.inputs, n.left, n.right, n.outputs, c.if-proof-bound.false)) (omega arith) _ (c.in-Some.ensures c.fold.ensures))

pub returns : goal.returns
returns c =
    let l = c.args.pair.now in
    let ab = c.parts-parts.ensures.alike in
    let n = c.parts-parts.ensures.counts in
    let proof = c.args.proof.now in
    let h = c.fold.ensures in
    let o = c.emit.ensures h (none_written (length proof) (cleared proof _ (length proof) refl c.clear.ensures)) in (
      due_proof l ab _ _ (omega (arith, n.inputs, n.left, n.right, n.outputs, c.if-proof-bound.false)) (omega arith) (c.in_default.ensures h),
      o.0,
      omega (arith, o.1),
    )
