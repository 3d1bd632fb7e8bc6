-- What the turns that are left make of the places is the clause with the literal (`carry`).
use Rattle.std.proofs.Common.{◌≡◌, length}
use Rattle.model.specs.Limits.{clause_width}
use Rattle.model.specs.Clauses.{insert}
use Rattle.clause.specs.Places.{filled}
use Rattle.clause.proofs.InsertLaws.{carry}
use Rattle.clause.proofs.Clause.insert.Given as goal

abbrev pub invariant-loop-i : goal.invariant-loop-i
invariant-loop-i l =
    (l.self-inside.len ≡ length l.fn.self) × (length l.self-inside.literals ≡ clause_width)
    × (carry l.i l.carried l.self-inside.literals ≡ filled clause_width (insert l.l l.fn.self))
