-- The tests find the case of the definition.
use mathlib.Core.Path.{◌≡◌}
use mathlib.Core.Bool.{true, false, or-true}
use lib.Dec.{eqb}
use Rattle.fold_laws.specs.Cases.{and_case}
use Rattle.derivation.proofs.CaseLaws.{and_case_lem}
use Rattle.derivation.proofs.ands.and_gate.Goals as goal
use Rattle.derivation.proofs.ands.and_gate.Goals.{then-eq-2-via-then-eq-2, then-eq-2-via-else-eq-2+then-eq-3}

pub returns-then-eq-clause-emits : goal.returns-then-eq-clause-emits
unfolding and_case
returns-then-eq-clause-emits c =
    and_case_lem c.args.nets c.args.d c.representative-p.ensures c.representative-q.ensures (rw (← c.if-eq.ensures)) c.and_false.ensures.emits

pub returns-then-eq-2-clause-emits : goal.returns-then-eq-2-clause-emits
unfolding and_case
returns-then-eq-2-clause-emits c =
    and_case_lem c.args.nets c.args.d c.representative-p.ensures c.representative-q.ensures
    (elim c.then-eq-2.branch [
      | then-eq-2-via-then-eq-2 w ↦ rw (← c.if-eq.ensures, ← w.if-eq-2.ensures)
      | then-eq-2-via-else-eq-2+then-eq-3 w ↦
          let same : eqb c.representative-p.result.code c.representative-q.result.code ≡ true = cc in
          rw (← c.if-eq.ensures, same, or-true)
    ])
    c.and_pass.ensures.emits

pub returns-then-eq-4-clause-emits : goal.returns-then-eq-4-clause-emits
unfolding and_case
returns-then-eq-4-clause-emits c =
    let differ : eqb c.representative-p.result.code c.representative-q.result.code ≡ false = cc in
    and_case_lem c.args.nets c.args.d c.representative-p.ensures c.representative-q.ensures
    (rw (← c.if-eq.ensures, ← c.if-eq-2.ensures, differ, ← c.complement.ensures, ← c.if-eq-4.ensures))
    c.and_opposite.ensures.emits

pub returns-clause-emits : goal.returns-clause-emits
unfolding and_case
returns-clause-emits c =
    let differ : eqb c.representative-p.result.code c.representative-q.result.code ≡ false = cc in
    and_case_lem c.args.nets c.args.d c.representative-p.ensures c.representative-q.ensures
    (rw (← c.if-eq.ensures, ← c.if-eq-2.ensures, differ, ← c.complement.ensures, ← c.if-eq-4.ensures))
    c.and_pair.ensures.emits
