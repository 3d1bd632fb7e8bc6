-- The invariant: the lines up to the cursor are replayed (`ReplayLaws`). A turn is a row of resolves and one line of any kind; the measure is what
-- is left of the text.
use lib.ListN.{length}
use Rattle.steps.specs.Proofs.{state_of, SamePlace}
use Rattle.checker.specs.Replays.{RanTo}
use Rattle.checker.proofs.replay.replay.Given as goal

abbrev pub invariant-loop-d : goal.invariant-loop-d
invariant-loop-d l = RanTo l.initial.proof.room l.initial.c (state_of l.initial.proof) l.c (state_of l.proof) × SamePlace l.initial.proof l.proof

abbrev pub decreases-loop-d : goal.decreases-loop-d
decreases-loop-d l = length l.c.rest.now
