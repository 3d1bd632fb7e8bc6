-- The invariant: the store holds the clauses from before and the first j of the gate's (`HeldLaws`).
use Prim.Native.Nat.{ℕ, ◌+◌}
use mathlib.Core.Path.{refl, sym, subst}
use mathlib.Core.List.{List, ◌++◌, append-nil}
use native.Mathlib.Omega.{arith}
use lib.ListN.{take}
use lib.Seq.{length-sets, take_all}
use Rattle.model.specs.Clauses.{Clause}
use Rattle.steps.specs.Kept.{Held}
use Rattle.steps.specs.Gates.{clauses_for}
use Rattle.steps.proofs.HeldLaws.{proper_at, gate_proper, gate_saved}
use Rattle.steps.proofs.gates.push_gate.Goals as goal

pub loop-j-init : goal.loop-j-init
loop-j-init c = (omega arith, refl, λ cs h n. subst (Held c.args.store.now) (sym (append-nil cs)) h)

pub overflow_add-count : goal.overflow_add-count
overflow_add-count c =
    let a = c.args in
    let k = c.clause_count-total.ensures a.d.n.code a.d.x.code a.d.y.code in
    omega (arith, c.requires.few)

pub gate_clause-requires : goal.gate_clause-requires
gate_clause-requires c =
    let a = c.args in
    let k = c.clause_count-total.ensures a.d.n.code a.d.x.code a.d.y.code in
    omega arith

pub save-requires : goal.save-requires
save-requires c =
    let a = c.args in
    let k = c.clause_count-total.ensures a.d.n.code a.d.x.code a.d.y.code in
    let r = c.requires in
    let g = c.gate_clause.ensures in
    let l = c.loop-j in
    let q = proper_at (clauses_for a.d) l.j (gate_proper a.d.op a.d.n.code a.d.x.code a.d.y.code r.low.low_n r.low.low_x r.low.low_y) (omega arith) in
    record { room = omega (arith, r.numbers_for_all, l.invariant.1); rising = rw g q.rising }

pub loop-j-preserved : goal.loop-j-preserved
loop-j-preserved c =
    let l = c.loop-j in
    let a = c.args in
    let k = c.clause_count-total.ensures a.d.n.code a.d.x.code a.d.y.code in
    let w = c.save in (
      omega arith,
      rw (w.ensures.stores, length-sets) l.invariant.1,
      λ cs h n.
          subst (λ (t : List ℕ). Held t (cs ++ take (l.j + 1) (clauses_for a.d))) (sym w.ensures.stores)
          (gate_saved l.store cs (clauses_for a.d) l.j _ _
          (gate_proper a.d.op a.d.n.code a.d.x.code a.d.y.code c.requires.low.low_n c.requires.low.low_x c.requires.low.low_y) (omega arith) c.gate_clause.ensures (omega arith)
          (omega (arith, c.requires.numbers_for_all, l.invariant.1)) (l.invariant.2 cs h n)),
    )

pub overflow_add-result : goal.overflow_add-result
overflow_add-result c =
    let a = c.args in
    omega (arith, c.clause_count-total.ensures a.d.n.code a.d.x.code a.d.y.code, c.requires.numbers_for_all)

pub returns : goal.returns
returns c =
    let a = c.args in
    let k = c.clause_count-total.ensures a.d.n.code a.d.x.code a.d.y.code in
    let l = c.loop-j in
    let ds : List Clause = clauses_for a.d in
    (omega arith, λ cs h n. subst (λ (t : List Clause). Held l.store (cs ++ t)) (take_all l.j ds (omega arith)) (l.invariant.2 cs h n))
