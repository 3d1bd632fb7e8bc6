-- The numbers of the row, one after the other, as the definition tests them (`fits_by`).
use Rattle.std.proofs.Common.{◌≡◌, ◌+◌, ◌*◌, ◌&&◌, eqb, get_or, ◌∙◌, eq-eqb}
use borrow.Author.Tests.{ne_eqb}
use Rattle.table.specs.Rows.{row_width}
use Rattle.table.proofs.RowLaws.{fits_by}
use Rattle.table.proofs.rows.fits.Goals as goal
use Rattle.table.proofs.rows.fits.Goals.{then-work-at, else-work-at}

pub returns-then-work-at-2 : goal.returns-then-work-at-2
returns-then-work-at-2 c t k h n e =
    let a = c.args in
    let key : c.if-work-at.value ≡ eqb (get_or a.work.now (row_width * a.u + 2) 0) a.a.code && eqb (get_or a.work.now (row_width * a.u + 3) 0) a.b.code =
    elim c.if-work-at.branch [
      | then-work-at w ↦ rw (eq-eqb _ _ w.if-work-at.true) w.value-is
      | else-work-at w ↦ let d = ne_eqb _ _ w.if-work-at.false in rw d (w.value-is ∙ d)
    ] in
    rw (← key, c.if-work-at-2.true) at (fits_by h n k a.a.code a.b.code a.kind e)

pub returns-else-work-at-2 : goal.returns-else-work-at-2
returns-else-work-at-2 c t k h n e =
    let a = c.args in
    let key : c.if-work-at.value ≡ eqb (get_or a.work.now (row_width * a.u + 2) 0) a.a.code && eqb (get_or a.work.now (row_width * a.u + 3) 0) a.b.code =
    elim c.if-work-at.branch [
      | then-work-at w ↦ rw (eq-eqb _ _ w.if-work-at.true) w.value-is
      | else-work-at w ↦ let d = ne_eqb _ _ w.if-work-at.false in rw d (w.value-is ∙ d)
    ] in
    c.if-work-at-2.false ∙ rw (← key, c.if-work-at-2.false) at (fits_by h n k a.a.code a.b.code a.kind e)
