-- The first number of the net's row, with the sign of the literal.
use Rattle.std.proofs.Common.{◌∙◌}
use Rattle.table.proofs.RowLaws.{rep_read}
use Rattle.table.proofs.rows.representative.Goals as goal

pub returns-in-Some : goal.returns-in-Some
returns-in-Some c t h n =
    rw (c.sign.ensures, c.from.ensures) at c.complement_if.ensures ∙ rep_read h c.args.l.code n c.in-Some.rep.now (rw c.variable.ensures at (c.in-Some.ensures.lookup.3.1 0))
