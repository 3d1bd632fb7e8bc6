-- Each range of variables is one part of the miter's gates (`MiterLaws`).
use native.Mathlib.Omega.{arith}
use mathlib.Core.Path.{◌∙◌}
use Rattle.miter.proofs.MiterLaws.{gate_total, gate_variable, z_variable, w_variable_lem, read_variable}
use Rattle.miter.proofs.variables.variable.Goals as goal

pub returns-then-v-z : goal.returns-then-v-z
returns-then-v-z c i e =
    let ab = c.parts-parts.ensures.alike in
    let n = c.parts-parts.ensures.counts in
    read_variable ab _ i _ c.gate_of.result e (omega (arith, gate_total ab, n.inputs, n.left, n.right, n.outputs)) (c.gate_of.ensures ∙ gate_variable ab i _ (omega (arith, n.inputs, n.left, n.right, n.outputs)) (omega (arith, n.inputs, n.left, n.right, n.outputs))) c.defined.ensures

pub returns-then-v-w : goal.returns-then-v-w
returns-then-v-w c i e =
    let ab = c.parts-parts.ensures.alike in
    let n = c.parts-parts.ensures.counts in
    read_variable ab _ i _ c.outputs_of.result e (omega (arith, gate_total ab, n.inputs, n.left, n.right, n.outputs)) (c.outputs_of.ensures ∙ z_variable ab i _ (omega (arith, n.inputs, n.left, n.right, n.outputs)) (omega (arith, n.inputs, n.left, n.right, n.outputs))) c.defined-then-v-w.ensures

pub returns : goal.returns
returns c i e =
    let ab = c.parts-parts.ensures.alike in
    let n = c.parts-parts.ensures.counts in
    w_variable_lem ab _ i _ _ _ _ e (omega (arith, n.inputs, n.left, n.right, n.outputs)) (omega (arith, gate_total ab, n.inputs, n.left, n.right, n.outputs)) (omega (arith, n.inputs, n.left, n.right, n.outputs)) (omega (arith, n.inputs, n.left, n.right, n.outputs)) c.w_gate.ensures
