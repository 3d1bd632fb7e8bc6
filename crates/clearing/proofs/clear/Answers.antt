-- Each goal is a law of `ClearLaws`; the loop's place is where the invariant has come to.
use native.Mathlib.Omega.{arith}
use Rattle.clearing.proofs.ClearLaws.{begun, one_more, ended}
use Rattle.clearing.proofs.clear.Goals as goal

pub loop-at-init : goal.loop-at-init
loop-at-init g c = begun

pub loop-at-preserved : goal.loop-at-preserved
loop-at-preserved g c = rw c.ZERO.ensures (one_more c.loop-at.invariant (omega arith))

pub returns : goal.returns
returns g c = ended c.loop-at.invariant (omega arith)
