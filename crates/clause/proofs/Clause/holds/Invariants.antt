-- A place so far had the literal, or what is left holds it, just where the clause does.
use Rattle.std.proofs.Common.{◌≡◌, ◌||◌, drop}
use Rattle.model.specs.Clauses.{holds}
use Rattle.clause.proofs.Clause.holds.Given as goal

abbrev pub invariant-loop-i : goal.invariant-loop-i
invariant-loop-i l = l.met || holds l.l (drop l.i l.fn.self) ≡ holds l.l l.fn.self
