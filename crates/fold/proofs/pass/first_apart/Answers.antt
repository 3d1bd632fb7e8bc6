-- The invariant: the outputs below k have the same representatives, so the comparison goes on from k.
use Prim.Native.Nat.{◌+◌, suc}
use mathlib.Core.Path.{◌≡◌, ap, ◌∙◌}
use mathlib.Core.List.{map}
use native.Mathlib.Omega.{arith}
use Rattle.std.proofs.Common.{Some}
use Rattle.fold_laws.specs.Engine.{moved_to, both_table}
use Rattle.fold.proofs.PassLaws.{from_first, differ_here, differ_later, apart_none}
use Rattle.fold.proofs.pass.first_apart.Goals as goal

pub loop-k-init : goal.loop-k-init
loop-k-init c h = from_first _ _

pub returns-then-ne : goal.returns-then-ne
returns-then-ne c h =
    let p = c.args.pair.now in
    let ab = c.parts-k-end.ensures.alike in
    let l = c.loop-k in
    let g = c.outputs_of-gate in
    let t = both_table p.left p.right in
    let e = differ_here p.left p.right ab l.k _ _ g.result (omega (arith, c.parts-k-end.ensures.counts.outputs)) g.ensures
    (rw c.from.ensures at (c.representative-x.ensures t h)) (rw c.from-in-loop-k.ensures at (c.representative-y.ensures t h)) (λ e. grind (arith, e)) in
    let next : 1 + l.k ≡ suc l.k = omega arith in
    rw (l.invariant h ∙ e ∙ next) (ap Some (omega arith))

pub loop-k-preserved : goal.loop-k-preserved
loop-k-preserved c h =
    let p = c.args.pair.now in
    let ab = c.parts-k-end.ensures.alike in
    let l = c.loop-k in
    let g = c.outputs_of-gate in
    let t = both_table p.left p.right in
    l.invariant h
    ∙ differ_later p.left p.right ab l.k _ _ g.result (omega (arith, c.parts-k-end.ensures.counts.outputs)) g.ensures
    (rw c.from.ensures at (c.representative-x.ensures t h)) (rw c.from-in-loop-k.ensures at (c.representative-y.ensures t h)) (grind arith)

pub returns : goal.returns
returns c h =
    let p = c.args.pair.now in
    let ab = c.parts-k-end.ensures.alike in
    let l = c.loop-k in
    rw (l.invariant h ∙ apart_none (both_table p.left p.right) p.left.outs (map (moved_to p.left) p.right.outs) l.k (omega arith))
