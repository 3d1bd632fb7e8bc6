-- One substitution, and a second in its clause where the literals differ.
use mathlib.Core.Path.{sym}
use Rattle.fold_laws.specs.Table.{rep_of}
use Rattle.emit_laws.specs.Trees.Tree.{old}
use Rattle.emit_laws.specs.Gates.{link_of}
use Rattle.derivation.proofs.SubstLaws.{emits_once, emits_twice}
use Rattle.derivation.proofs.subst.subst2.Goals as goal

pub returns-then-eq-clause-emits : goal.returns-then-eq-clause-emits
returns-then-eq-clause-emits c = λ t links k h i.
    let a = c.args in
    emits_once (rep_of t) (link_of links) (old a.c) a.l.code a.m.code (sym c.if-eq.ensures) (c.subst1-one.ensures.emits t links k h)

pub returns-clause-emits : goal.returns-clause-emits
returns-clause-emits c = λ t links k h i.
    let a = c.args in
    emits_twice (rep_of t) (link_of links) (old a.c) a.l.code a.m.code (sym c.if-eq.ensures) (c.subst1-one.ensures.emits t links k h)
    (c.subst1.ensures.emits t links k i)
