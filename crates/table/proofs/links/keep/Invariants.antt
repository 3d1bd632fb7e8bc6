-- The invariant: what is left of the numbers put in gives what all of them give.
use Rattle.std.proofs.Common.{◌≡◌, ◌+◌, drop}
use Rattle.std.proofs.lemmas.List.Edits.{sets}
use Rattle.table.proofs.links.keep.Given as goal

abbrev pub invariant-loop-i : goal.invariant-loop-i
invariant-loop-i l = sets l.links (l.at + l.i) (drop l.i l.numbers) ≡ sets l.initial.links l.at l.numbers
