-- What stands first is read, and then what stands behind it (`LoneLaws`); each arm knows what was read.
use Rattle.std.specs.Prelude.{Some, None, Ok, Err}
use Rattle.std.proofs.lemmas.Result.{err_from_is_err_and}
use Rattle.frame.proofs.LoneLaws.{lone, lone_behind}
use Rattle.frame.proofs.read_frame.Goals as goal

pub returns-in_err-frame : goal.returns-in_err-frame
returns-in_err-frame c =
    let p = err_from_is_err_and c.from_residual.result c.from_residual.ensures.1 in
    rw (p.1, p.2) (lone c.args.text.now c.start.ensures (Err c.in_err-frame.field-0.0) c.in_err-frame.ensures.reads)

pub returns-in_default : goal.returns-in_default
returns-in_default c = rw c.at.ensures (lone c.args.text.now c.start.ensures (Ok None) (rw c.in_default.is at c.in_ok-frame.ensures.reads))

pub returns-in_err-read_line : goal.returns-in_err-read_line
returns-in_err-read_line c =
    let p = err_from_is_err_and c.from_residual-in_err-read_line.result c.from_residual-in_err-read_line.ensures.1 in
    rw (p.1, p.2)
    (lone_behind c.args.text.now c.start.ensures c.in-Some.frame c.in-Some.next (Err c.in_err-read_line.field-0.0) (rw c.in-Some.is at c.in_ok-frame.ensures.reads) c.in_err-read_line.ensures.reads)

pub returns-in-None : goal.returns-in-None
returns-in-None c =
    lone_behind c.args.text.now c.start.ensures c.in-Some.frame c.in-Some.next (Ok None) (rw c.in-Some.is at c.in_ok-frame.ensures.reads) (rw c.in-None.is at c.in_ok-read_line.ensures.reads)

pub returns-in-Some-2 : goal.returns-in-Some-2
returns-in-Some-2 c =
    rw c.at-in-Some-2.ensures
    (lone_behind c.args.text.now c.start.ensures c.in-Some.frame c.in-Some.next (Ok (Some c.in-Some-2.field-0)) (rw c.in-Some.is at c.in_ok-frame.ensures.reads)
    (rw c.in-Some-2.is at c.in_ok-read_line.ensures.reads))
