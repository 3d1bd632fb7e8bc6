-- The invariant: the first clause and those of the variables before v are there.
use Prim.Native.Nat.{ℕ, ◌+◌, ◌-◌}
use mathlib.Core.Path.{◌≡◌, refl, ap, sym, ◌∙◌}
use native.Mathlib.Omega.{arith}
use Rattle.steps.specs.Gates.{clauses_for}
use Rattle.steps.specs.Proofs.{state_of}
use Rattle.miter.specs.Miters.{gate_count, gates_up_to}
use Rattle.steps.proofs.StepLaws.{few}
use Rattle.miter.proofs.MiterLaws.{gate_total}
use Rattle.miter.proofs.BeginLaws.{none_yet, one_more, variable_short, counted, one_put}
use Rattle.miter.proofs.begin.write_variables.Goals as goal

pub loop-v-init : goal.loop-v-init
loop-v-init c = (
  omega arith,
  omega arith,
  (refl, refl),
  λ i e.
      let l = c.args.pair.now in
      let p = c.args.proof.now in
      let n : i ≡ 0 = omega arith in
      let all = c.requires ∙ sym (none_yet l.left l.right) ∙ ap (λ (k : ℕ). gates_up_to l.left l.right k) (sym n) in
      λ j. record { clauses = all j; next = p.next; steps = p.steps; empty = p.empty },
)

pub overflow_add-proof : goal.overflow_add-proof
overflow_add-proof c =
    let d = c.variable-d.result in
    let k = c.loop-v.proof.kept in
    omega (arith, c.clause_count.ensures d.n.code d.x.code d.y.code, (few d.op d.n.code d.x.code d.y.code).1, k.in_room, k.most)

pub returns-then-proof-clause_count-clause-fills : goal.returns-then-proof-clause_count-clause-fills
returns-then-proof-clause_count-clause-fills c =
    let a = c.args in
    let p = a.pair.now in
    let l = c.loop-v in
    let u = c.variable-d in
    let d = u.result in
    let i : ℕ = l.v - (1 + p.left.inputs) in
    let e : l.v ≡ 1 + p.left.inputs + i = omega arith in
    let n = counted l.proof _ (l.invariant.3 i e) in (
      c.at.ensures,
      variable_short p.left p.right l.v i l.proof.clauses d e (omega (arith, gate_total c.parts-parts.ensures.alike)) (u.ensures i e) n a.proof.now.room (gate_count p)
          (omega (arith, c.clause_count.ensures d.n.code d.x.code d.y.code, l.invariant.2.1)) (omega arith),
    )

pub define-requires-clause-low : goal.define-requires-clause-low
define-requires-clause-low c =
    let def = c.variable-d.ensures (c.loop-v.v - (1 + c.args.pair.now.left.inputs)) (omega arith) in
    def.low

pub loop-v-preserved : goal.loop-v-preserved
loop-v-preserved c =
    let l = c.loop-v in
    let d = c.variable-d.result in
    let g = c.define in
    let end = c.variables-v-end.ensures in (
      omega arith,
      omega arith,
      (g.ensures.place.0 ∙ l.invariant.2.0, g.ensures.place.1 ∙ l.invariant.2.1),
      λ i e.
          let p = c.args.pair.now in
          let j : ℕ = i - 1 in
          let next : i ≡ j + 1 = omega arith in
          let at : l.v ≡ 1 + p.left.inputs + j = omega arith in
          let before = l.invariant.3 j at in
          let n = counted l.proof _ before in
          let more = ap (λ (k : ℕ). gates_up_to p.left p.right k) next ∙ one_more p.left p.right l.v j l.proof.clauses d at (omega (arith, gate_total c.parts-parts.ensures.alike)) (c.variable-d.ensures j at) n in
          one_put (state_of c.args.proof.now) (state_of l.proof) (state_of g.new.self) (gates_up_to p.left p.right j) (clauses_for d)
          (gates_up_to p.left p.right i) before g.ensures.state more,
    )
