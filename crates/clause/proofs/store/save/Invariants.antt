-- The invariant: the store with what is left of the stored clause put in is the old store with the whole of it put in.
use Rattle.std.proofs.Common.{◌≡◌, ◌+◌, drop}
use Rattle.std.proofs.lemmas.List.Edits.{sets}
use Rattle.model.specs.Checker.{stored}
use Rattle.clause.proofs.store.save.Given as goal

abbrev pub invariant-loop-i : goal.invariant-loop-i
invariant-loop-i l = sets l.store (l.at + l.i) (drop l.i (stored l.fn.clause)) ≡ sets l.initial.store l.at (stored l.fn.clause)
