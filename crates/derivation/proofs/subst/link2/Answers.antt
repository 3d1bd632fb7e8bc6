-- Nothing where the net stands for true, and a substitution of both literals where it does not.
use mathlib.Core.Path.{sym}
use Rattle.fold_laws.specs.Table.{rep_of}
use Rattle.emit_laws.specs.Trees.Tree.{old}
use Rattle.emit_laws.specs.Gates.{link_of}
use Rattle.derivation.proofs.EmitLaws.{emits_old}
use Rattle.derivation.proofs.SubstLaws.{emits_no_link, emits_link}
use Rattle.derivation.proofs.subst.link2.Goals as goal

pub returns-then-eq-clause-emits : goal.returns-then-eq-clause-emits
returns-then-eq-clause-emits c = λ t links k m h i.
    let a = c.args in
    emits_no_link (rep_of t) (link_of links) (old a.c) a.l.code a.n.code a.m.code (rw (← c.representative.ensures t k.rows m) (sym c.if-eq.ensures))
    (emits_old _ _)

pub returns-clause-emits : goal.returns-clause-emits
returns-clause-emits c = λ t links k m h i.
    let a = c.args in
    emits_link (rep_of t) (link_of links) (old a.c) a.l.code a.n.code a.m.code (rw (← c.representative.ensures t k.rows m) (sym c.if-eq.ensures))
    (c.subst2.ensures.emits t links k h i)
