-- The invariant: the bytes hold the nets once the list's first k gates have run (`after`). Each gate reads nets below its own, so its literals have
-- the values of the definition (`gate_stored`).
use Prim.Native.Nat.{ℕ, ◌+◌}
use mathlib.Core.Path.{refl, sym, ◌∙◌, subst}
use native.Mathlib.Omega.{arith}
use lib.ListN.{set, length-set}
use Rattle.model.specs.Nets.{literal, start}
use Rattle.laws.specs.Growing.{after, after_none, after_all}
use Rattle.laws.specs.Values.{truths, gate_over, nets_truths, length_start}
use Rattle.values.specs.Values.{IsBit, HoldsValues}
use Rattle.values.proofs.ValueLaws.{gate_stored}
use Rattle.values.proofs.run_gates.Goals as goal

pub loop-k-init : goal.loop-k-init
loop-k-init c =
    let n = c.args.list.now in
    (omega arith, refl, λ p h. subst (HoldsValues c.args.values.now) (sym (after_none (gate_over truths) (start n.inputs p) n.gates)) h)

pub loop-k-preserved : goal.loop-k-preserved
unfolding literal
loop-k-preserved c =
    let n = c.args.list.now in
    let s = c.counts-counts.ensures in
    let l = c.loop-k in
    let g = c.gate-gate in
    let x = rw c.from.ensures at c.literal_at-a.ensures.value in
    let y = rw c.from-in-loop-k.ensures at c.literal_at-b.ensures.value in
    let v = l.invariant in (
      omega (arith, s.gates),
      simp length-set v.1,
      λ p h.
          subst (λ (i : ℕ). HoldsValues (set l.values (1 + i + l.k) c.gate_value.result) (after (gate_over truths) (start n.inputs p) n.gates (l.k + 1))) (sym s.inputs)
          (gate_stored truths IsBit s.good (start n.inputs p) (length_start n.inputs p) l.k g.result _ _ _ (omega (arith, s.gates)) (v.2 p h) (omega arith) g.ensures x y c.gate_value.ensures),
    )

pub returns : goal.returns
returns c =
    let n = c.args.list.now in
    let s = c.counts-counts.ensures in
    let l = c.loop-k in
    λ p h. subst (HoldsValues l.values) (after_all (gate_over truths) (start n.inputs p) n.gates l.k (omega (arith, s.gates)) ∙ nets_truths n p) (l.invariant.2 p h)
