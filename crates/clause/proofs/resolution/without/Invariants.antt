-- The array has the clause without l up to i, then the bound (`filled_next`): each place keeps its literal or takes the next (`place_out`).
use Rattle.std.proofs.Common.{◌≡◌, true, length, take}
use Rattle.model.specs.Limits.{clause_width}
use Rattle.model.specs.Clauses as model
use Rattle.clause.specs.Places.{filled}
use Rattle.clause.specs.Sets.{Stores}
use Rattle.clause.proofs.resolution.without.Given as goal

abbrev pub invariant-loop-i : goal.invariant-loop-i
invariant-loop-i l =
    (length l.literals ≡ clause_width)
    × ((c : model.Clause) → Stores l.s c → model.holds l.l c ≡ true → l.literals ≡ filled clause_width (take l.i (model.without l.l c)))
