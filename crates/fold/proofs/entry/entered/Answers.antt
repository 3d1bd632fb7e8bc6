-- Each arm knows what the operands fold to.
use Rattle.fold.proofs.EntryLaws.{linked_is}
use Rattle.fold.proofs.entry.entered.Goals as goal

pub returns-in-Is : goal.returns-in-Is
returns-in-Is c t k h n e = rw (c.in-Is.is, c.keyless.ensures) (linked_is t k _ _ _ _ e c.complement_if.ensures)
