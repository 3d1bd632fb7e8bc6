-- Each pivot is sought, and the first that is missing refuses; with both there, the copies are the clauses without them, and their join is the
-- resolvent.
use Rattle.std.proofs.Common.{◌∙◌, sym, ap, arith}
use Rattle.std.proofs.lemmas.Result.{err_from_is_err_and}
use Rattle.model.specs.Clauses.{holds, negative, resolvent}
use Rattle.clause.proofs.SetLaws.{not_above}
use Rattle.clause.proofs.JoinLaws.{no_first, no_second, both_there}
use Rattle.clause.proofs.resolution.resolve.Goals as goal

pub returns-then-v : goal.returns-then-v
returns-then-v c d e line g h =
    let v = c.args.v in
    sym (no_second v d e line (not_above (negative v) e h.proper.rising (omega arith)))

pub returns-in_err-seek : goal.returns-in_err-seek
returns-in_err-seek c d e line g h =
    let p = err_from_is_err_and c.from_residual.result c.from_residual.ensures.1 in
    let z = c.in_err-seek.ensures d g in
    rw (p.1, p.2, z.1) (sym (no_first _ d e line (sym (ap (λ l. holds l d) c.positive-p.ensures) ∙ z.0)))

pub returns-in_err-seek-2 : goal.returns-in_err-seek-2
returns-in_err-seek-2 c d e line g h =
    let p = err_from_is_err_and c.from_residual-in_err-seek-2.result c.from_residual-in_err-seek-2.ensures.1 in
    let z = c.in_err-seek-2.ensures e h in
    rw (p.1, p.2, z.1) (sym (no_second _ d e line (sym (ap (λ l. holds l e) c.negative-q.ensures) ∙ z.0)))

pub returns : goal.returns
unfolding resolvent
returns c d e line g h =
    let p = c.positive-p.ensures in
    let q = c.negative-q.ensures in
    let first = c.in_ok-seek.ensures d g in
    let second = c.in_ok-seek-2.ensures e h in
    let a = rw p at (c.without-a.ensures d g first) in
    let b = rw q at (c.without-b.ensures e h second) in
    c.join.ensures _ _ line a b ∙ both_there _ d e line (rw p at first) (rw q at second)
