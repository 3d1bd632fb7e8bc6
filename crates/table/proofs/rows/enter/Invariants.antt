-- The invariant: what is left of the row put in gives what the whole of it gives.
use Rattle.std.proofs.Common.{◌≡◌, ◌+◌, drop}
use Rattle.std.proofs.lemmas.List.Edits.{sets}
use Rattle.table.proofs.rows.enter.Given as goal

abbrev pub invariant-loop-i : goal.invariant-loop-i
invariant-loop-i l = sets l.work (l.at + l.i) (drop l.i l.row) ≡ sets l.initial.work l.at l.row
