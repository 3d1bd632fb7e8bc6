-- Digits are stored from the last to the first. The invariant: storing the digits that are left gives what storing all of them gives.
use Prim.Native.Nat.{suc, ◌-◌}
use mathlib.Core.Path.{◌≡◌, refl, ◌∙◌}
use native.Mathlib.Omega.{arith}
use lib.ListN.{length-set}
use Rattle.model.specs.Frames.{hex}
use Rattle.frame.proofs.WriteLaws.{store_digit}
use Rattle.frame.proofs.fields.put_hex.Goals as goal

pub loop-i-preserved : goal.loop-i-preserved
loop-i-preserved c =
    let a = c.args in
    let l = c.loop-i in
    let e : suc (l.i - 1) ≡ l.i = omega arith in
    (simp length-set l.invariant.0, (rw e at (store_digit l.out a.at (l.i - 1) l.rest _ c.digit_of.ensures)) ∙ l.invariant.1)

pub returns : goal.returns
unfolding hex
returns c =
    let l = c.loop-i in
    let z : l.i ≡ 0 = omega arith in
    (refl, rw z at l.invariant.1)
