-- The line's own refusal, then the kind, then the ranges: each return is the definition's own case (`LineLaws`).
use borrow.Author.Rules.{rules}
use Rattle.std.proofs.lemmas.Result.{err_from_is_err_and}
use Rattle.netlist.specs.Says.{ahead}
use Rattle.netlist.proofs.DueLaws.{due_missing, header_due}
use Rattle.netlist.proofs.LineLaws.{not_header, header_other, header_range, header_read}
use Rattle.netlist.proofs.lines.read_header.Goals as goal

pub returns-in_err-frame : goal.returns-in_err-frame
returns-in_err-frame c =
    let a = c.args in
    let p = err_from_is_err_and c.from_residual.result c.from_residual.ensures.1 in
    rw (p.1, p.2) (λ like. due_missing (header_due like a.cursor.line) (ahead a.cursor) _ c.in_err-frame.ensures)

pub returns-in_default : goal.returns-in_default
returns-in_default c =
    let a = c.args in
    rw c.at.ensures (λ like. header_other (ahead a.cursor) a.cursor.line c.in_ok-frame.frame _ _ c.in_ok-frame.ensures (not_header c.in_ok-frame.frame c.in_default.not-Header) like)

pub returns-then-not-in_range : goal.returns-then-not-in_range
returns-then-not-in_range c =
    let a = c.args in
    rw c.at-then-not-in_range.ensures
    (header_range (ahead a.cursor) a.cursor.line c.in_ok-frame.frame _ _ c.in_ok-frame.ensures _ _ _ c.in-Header.is (search rules))

pub returns : goal.returns
returns c =
    let a = c.args in
    header_read a.cursor c.in_ok-frame.frame c.in_ok-frame.next c.in_ok-frame.ensures _ _ _ c.in-Header.is (search rules)
