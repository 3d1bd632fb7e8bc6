-- Each arm knows the gate's kind, and the representatives are those of its operands (`EntryLaws`).
use mathlib.Core.Path.{refl, ap, ◌∙◌}
use mathlib.Core.Bool.{true, false}
use Rattle.model.specs.Nets.{odd}
use Rattle.fold_laws.specs.Table as model
use Rattle.fold.proofs.OperandLaws.{differ}
use Rattle.fold.proofs.EntryLaws.{is_entry}
use Rattle.fold.proofs.entry.entry.Goals as goal

pub returns-in-And : goal.returns-in-And
returns-in-And c t h n low =
    let a = c.args in
    c.entered.ensures t false h n refl
    ∙ ap (model.enter t false false) c.and_of.ensures
    ∙ is_entry t a.gate a.v _ _ n low (rw c.from.ensures at (c.representative-p.ensures t h.rows))
    (rw c.from-2.ensures at (c.representative-q.ensures t h.rows)) _ c.in-And.is

pub returns-in-Xor : goal.returns-in-Xor
returns-in-Xor c t h n low =
    let a = c.args in
    let p = c.representative-p.result.code in
    let q = c.representative-q.result.code in
    c.entered-in-Xor.ensures t true h n refl
    ∙ ap (model.enter t true _) c.xor_of.ensures
    ∙ rw (c.sign.ensures, c.sign-in-Xor.ensures, differ (odd p) (odd q))
    (is_entry t a.gate a.v _ _ n low (rw c.from.ensures at (c.representative-p.ensures t h.rows))
    (rw c.from-2.ensures at (c.representative-q.ensures t h.rows)) _ c.in-Xor.is)
