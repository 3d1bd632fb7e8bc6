-- A literal that stands for itself stays; any other is resolved with its link, by the case of the test.
use mathlib.Core.Path.{sym}
use mathlib.Core.Bool.{and-false}
use native.Mathlib.Omega.{arith}
use Rattle.fold_laws.specs.Table.{rep_of}
use Rattle.emit_laws.specs.Trees.Tree.{old}
use Rattle.emit_laws.specs.Gates.{link_of}
use Rattle.derivation.proofs.EmitLaws.{emits_old}
use Rattle.derivation.proofs.SubstLaws.{own_test, emits_own, emits_linked}
use Rattle.derivation.proofs.subst.subst1.Goals as goal
use Rattle.derivation.proofs.subst.subst1.Goals.{else-eq-via-then-eq+else-gt, else-eq-via-else-eq}

pub returns-then-gt-clause-emits : goal.returns-then-gt-clause-emits
returns-then-gt-clause-emits c = λ t links k h.
    let a = c.args in
    emits_own (rep_of t) (link_of links) (old a.c) a.l.code
    (rw (← c.representative.ensures t k.rows (omega arith), ← c.if-eq.ensures, ← own_test a.l.code) (sym c.if-gt.ensures))
    (emits_old _ _)

pub returns-clause-emits : goal.returns-clause-emits
returns-clause-emits c = λ t links k h.
    let a = c.args in
    emits_linked (rep_of t) (link_of links) (old a.c) a.l.code
    (rw (← c.representative.ensures t k.rows (omega arith)) (elim c.else-eq.branch [
      | else-eq-via-then-eq+else-gt w ↦ rw (← own_test a.l.code, ← w.if-gt.ensures, and-false)
      | else-eq-via-else-eq w ↦ rw (← w.if-eq.ensures)
    ]))
    (rw (c.link.ensures links k.numbers h) at c.resolve.ensures.emits)
