-- The invariant: so many inputs are stored, and what is left of the pattern has the bits behind theirs (`Stored`).
use mathlib.Core.Path.{◌≡◌, refl, ◌∙◌}
use native.Mathlib.Omega.{arith}
use lib.ListN.{length-set}
use Rattle.values.proofs.BitLaws.{stored_none, stored_more}
use Rattle.values.proofs.set_inputs.Goals as goal

pub loop-k-init : goal.loop-k-init
loop-k-init c = (omega arith, refl, simp length-set (omega arith), stored_none c.args.values.now (omega arith))

pub loop-k-preserved : goal.loop-k-preserved
loop-k-preserved c =
    let v = c.loop-k.invariant in
    (omega arith, simp length-set (v.1 ∙ simp length-set), simp length-set v.2, stored_more (omega arith) v.3)

pub returns : goal.returns
returns c =
    let l = c.loop-k in
    let all : l.k ≡ c.args.inputs = omega arith in
    rw all at l.invariant.3.held
