-- A right gate's operands are below its own net, so that they can be moved, and lie where the definition puts them (`MiterLaws`).
use mathlib.Core.Path.{◌∙◌}
use native.Mathlib.Omega.{arith}
use Rattle.model.specs.Miter.{shift}
use Rattle.miter.proofs.MiterLaws.{right_literals, moved, left_gate_of, right_gate_of}
use Rattle.miter.proofs.both.gate_of.Goals as goal

pub returns-then-k-left : goal.returns-then-k-left
returns-then-k-left c = rw (← c.pair.view_is) (c.gate.ensures ∙ left_gate_of c.pair.invariant c.args.k (omega (arith, c.counts-left.ensures.gates)))

pub shift-requires : goal.shift-requires
shift-requires c =
    let ab = c.pair.invariant in
    let k = rw (← c.pair.view_is) at c.requires in
    let s = c.counts-left.ensures in
    ((right_literals ab _ (omega (arith, k, s.gates)) _ c.gate-gate.ensures).0, omega (arith, s.gates, ab.left.gates))

pub shift-requires-2 : goal.shift-requires-2
shift-requires-2 c =
    let ab = c.pair.invariant in
    let k = rw (← c.pair.view_is) at c.requires in
    let s = c.counts-left.ensures in
    ((right_literals ab _ (omega (arith, k, s.gates)) _ c.gate-gate.ensures).1, omega (arith, s.gates, ab.left.gates))

pub returns : goal.returns
returns c =
    let k = rw (← c.pair.view_is) at c.requires in
    let s = c.counts-left.ensures in
    rw (← c.pair.view_is)
    (moved c.gate-gate.result _ c.gate-gate.ensures _ _ (shift _ _) c.shift.ensures c.shift-2.ensures
    ∙ right_gate_of c.pair.invariant c.args.k _ _ s.inputs s.gates (omega arith) (omega (arith, k)))
