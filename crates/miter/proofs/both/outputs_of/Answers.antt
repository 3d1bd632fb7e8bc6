-- The right output's literal is over one of its nets, so that it can be moved (`MiterLaws`).
use Prim.Native.Nat.{ℕ}
use mathlib.Core.Path.{ap₂, ◌∙◌}
use native.Mathlib.Omega.{arith}
use Rattle.model.specs.Nets.{size}
use Rattle.model.specs.Nets.Op.{xor}
use Rattle.laws.specs.ListText.{below_at}
use Rattle.miter.proofs.MiterLaws.{z_gate_of}
use Rattle.miter.proofs.both.outputs_of.Goals as goal

pub shift-requires : goal.shift-requires
shift-requires c =
    let ab = c.pair.invariant in
    let k = rw (← c.pair.view_is) at c.requires in
    let b = c.pair.inside.right in
    let low = below_at (size b) b.outs c.args.k ab.right.below (omega (arith, k, ab.outs)) in
    (omega (arith, low, c.output-y.ensures, ab.right.inputs, ab.right.gates), omega (arith, c.counts-left.ensures.gates, ab.left.gates))

pub returns : goal.returns
returns c =
    let k = rw (← c.pair.view_is) at c.requires in
    let s = c.counts-left.ensures in
    rw (← c.pair.view_is)
    (ap₂ (λ (x y : ℕ). record { op = xor; x = x; y = y }) c.output-x.ensures (rw (c.output-y.ensures, s.inputs, s.gates) at c.shift.ensures)
    ∙ z_gate_of c.pair.invariant c.args.k k)
