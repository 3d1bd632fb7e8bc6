-- The invariant: the lines up to the cursor are replayed (`ReplayLaws`). The measure is what is left of the text.
use Prim.Native.Nat.{◌≤◌}
use lib.ListN.{length}
use Rattle.steps.specs.Proofs.{state_of, SamePlace}
use Rattle.checker.specs.Replays.{RanTo}
use Rattle.checker.proofs.replay.run_resolves.Given as goal

abbrev pub invariant-loop-step : goal.invariant-loop-step
invariant-loop-step l =
    RanTo l.initial.proof.room l.initial.c (state_of l.initial.proof) l.c (state_of l.proof)
    × SamePlace l.initial.proof l.proof
    × (length l.c.rest.now ≤ length l.initial.c.rest.now)

abbrev pub decreases-loop-step : goal.decreases-loop-step
decreases-loop-step l = length l.c.rest.now
