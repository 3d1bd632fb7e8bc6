-- The tests find the case of the definition.
use Rattle.fold_laws.specs.Cases.{xor_case}
use Rattle.derivation.proofs.CaseLaws.{xor_case_lem}
use Rattle.derivation.proofs.xors.xor_gate.Goals as goal

pub returns-then-eq-clause-emits : goal.returns-then-eq-clause-emits
unfolding xor_case
returns-then-eq-clause-emits c =
    xor_case_lem c.args.nets c.args.d c.representative-p.ensures c.representative-q.ensures (rw (← c.if-eq.ensures)) c.xor_pass.ensures.emits

pub returns-then-eq-2-clause-emits : goal.returns-then-eq-2-clause-emits
unfolding xor_case
returns-then-eq-2-clause-emits c =
    xor_case_lem c.args.nets c.args.d c.representative-p.ensures c.representative-q.ensures (rw (← c.if-eq.ensures, ← c.if-eq-2.ensures)) c.xor_same.ensures.emits

pub returns-clause-emits : goal.returns-clause-emits
unfolding xor_case
returns-clause-emits c =
    xor_case_lem c.args.nets c.args.d c.representative-p.ensures c.representative-q.ensures (rw (← c.if-eq.ensures, ← c.if-eq-2.ensures)) c.xor_pair.ensures.emits
