-- Nothing is left, or the line is refused as `fault_of` says.
use mathlib.Core.Path.{refl, sym}
use Rattle.std.proofs.Common.{rules}
use Rattle.frame.proofs.LineLaws.{read_end}
use Rattle.frame.proofs.end_of.Goals as goal

pub returns-then-is_empty : goal.returns-then-is_empty
returns-then-is_empty c =
    let a = c.args in
    λ _. sym (read_end a.cursor.rest.now a.cursor.line _ refl (search rules))
