-- The invariant: a place so far had the literal, or what is left holds it, just where the clause does.
use Rattle.std.proofs.Common.{◌≡◌, ◌||◌, drop}
use Rattle.model.specs.Clauses.{Clause, holds}
use Rattle.clause.specs.Sets.{Stores}
use Rattle.clause.proofs.resolution.seek.Given as goal

abbrev pub invariant-loop-i : goal.invariant-loop-i
invariant-loop-i l = (c : Clause) → Stores l.s c → l.met || holds l.l (drop l.i c) ≡ holds l.l c
