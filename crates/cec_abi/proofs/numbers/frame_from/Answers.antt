-- Each arm has its kind, and its call takes as many numbers as the kind has fields. Any other kind is outside the table.
use mathlib.Core.Path.{refl, ◌∙◌}
use mathlib.Core.Bool.{true, false}
use Rattle.std.proofs.lemmas.Result.{err_from_is_err_and}
use Rattle.model.specs.Frames.{widths}
use Rattle.cec_abi.specs.Calls.{limits, fit, frame_from}
use Rattle.cec_abi.proofs.NumberLaws.{no_kind, two_numbers, outside, four}
use borrow.Author.Rules.{rules}
use Rattle.cec_abi.proofs.numbers.frame_from.Goals as goal

pub returns-in-Ok-Header : goal.returns-in-Ok-Header
unfolding limits widths fit frame_from
returns-in-Ok-Header c =
    let kind = rw c.in-Ok-Header.field-0-is at c.in-Ok-Header.ensures in
    rw (kind, ← four c.args.numbers (search rules)) c.header_from.ensures

pub returns-in_err-x-in-Ok-Gate : goal.returns-in_err-x-in-Ok-Gate
returns-in_err-x-in-Ok-Gate c =
    let kind = rw c.in-Ok-Gate.field-0-is at c.in-Ok-Gate.ensures in
    let p = err_from_is_err_and c.from_residual.result c.from_residual.ensures.1 in
    rw (p.1, p.2, kind, ← four c.args.numbers (search rules)) (c.in_err-x-in-Ok-Gate.ensures false c.in-Ok-Gate.op ∙ two_numbers false c.in-Ok-Gate.op _ _ _)

pub returns-in_ok-x-in-Ok-Gate : goal.returns-in_ok-x-in-Ok-Gate
returns-in_ok-x-in-Ok-Gate c =
    let kind = rw c.in-Ok-Gate.field-0-is at c.in-Ok-Gate.ensures in
    rw (kind, ← four c.args.numbers (search rules)) (c.in_ok-x-in-Ok-Gate.ensures false c.in-Ok-Gate.op ∙ two_numbers false c.in-Ok-Gate.op _ _ _)

pub returns-in-Ok-Output : goal.returns-in-Ok-Output
unfolding limits widths fit frame_from
returns-in-Ok-Output c =
    let kind = rw c.in-Ok-Output.field-0-is at c.in-Ok-Output.ensures in
    rw (kind, ← four c.args.numbers (search rules)) c.output_from.ensures

pub returns-in-Ok-Resolve : goal.returns-in-Ok-Resolve
unfolding limits widths fit frame_from
returns-in-Ok-Resolve c =
    let kind = rw c.in-Ok-Resolve.field-0-is at c.in-Ok-Resolve.ensures in
    rw (kind, ← four c.args.numbers (search rules)) c.resolve_from.ensures

pub returns-in_err-x-in-Ok-Extend : goal.returns-in_err-x-in-Ok-Extend
returns-in_err-x-in-Ok-Extend c =
    let kind = rw c.in-Ok-Extend.field-0-is at c.in-Ok-Extend.ensures in
    let p = err_from_is_err_and c.from_residual-in_err-x-in-Ok-Extend.result c.from_residual-in_err-x-in-Ok-Extend.ensures.1 in
    rw (p.1, p.2, kind, ← four c.args.numbers (search rules)) (c.in_err-x-in-Ok-Extend.ensures true c.in-Ok-Extend.op ∙ two_numbers true c.in-Ok-Extend.op _ _ _)

pub returns-in_ok-x-in-Ok-Extend : goal.returns-in_ok-x-in-Ok-Extend
returns-in_ok-x-in-Ok-Extend c =
    let kind = rw c.in-Ok-Extend.field-0-is at c.in-Ok-Extend.ensures in
    rw (kind, ← four c.args.numbers (search rules)) (c.in_ok-x-in-Ok-Extend.ensures true c.in-Ok-Extend.op ∙ two_numbers true c.in-Ok-Extend.op _ _ _)

pub returns-in-Err : goal.returns-in-Err
returns-in-Err c = rw (c.at.ensures, c.in-Err.ensures.0) (no_kind c.args.kind c.args.numbers refl (outside c.args.kind c.in-Err.ensures.1))
