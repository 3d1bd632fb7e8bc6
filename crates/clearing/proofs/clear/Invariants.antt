-- The invariant is `Clearing`: what lies before the loop's place and zeros behind it are what is due.
use Rattle.clearing.proofs.ClearLaws.{Clearing}
use Rattle.clearing.proofs.clear.Given as goal

abbrev pub invariant-loop-at : goal.invariant-loop-at
invariant-loop-at g l = Clearing g.T.Number.ZERO l.initial.numbers l.from l.numbers l.at
