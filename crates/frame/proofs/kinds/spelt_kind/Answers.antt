-- Each arm has its two digits (`named`, `named_op`); two digits that no arm has spell no number of the table (`not_spelt`).
use Prim.Native.Nat.{◌+◌, ◌*◌}
use mathlib.Core.Path.{◌≡◌, refl}
use mathlib.Core.Bool.{true, false}
use native.Mathlib.Omega.{arith}
use Rattle.model.specs.Frames.{widths}
use Rattle.digits.specs.Digits.{value_of}
use Rattle.frame.proofs.KindLaws.{named, named_op, not_spelt}
use Rattle.frame.proofs.kinds.spelt_kind.Goals as goal

pub returns-in-12592 : goal.returns-in-12592
unfolding value_of
returns-in-12592 c =
    let x = c.args in
    named x.high x.low (omega arith) (omega arith) 48 49 (omega arith) (omega arith) refl c.in-12592.is refl refl refl

pub returns-in-12848 : goal.returns-in-12848
unfolding value_of
returns-in-12848 c =
    let x = c.args in
    named_op x.high x.low (omega arith) (omega arith) false 48 0 c.op_of.ensures (omega arith) refl refl refl refl refl c.in-12848.is

pub returns-in-13360 : goal.returns-in-13360
unfolding value_of
returns-in-13360 c =
    let x = c.args in
    named x.high x.low (omega arith) (omega arith) 48 52 (omega arith) (omega arith) refl c.in-13360.is refl refl refl

pub returns-in-12593 : goal.returns-in-12593
unfolding value_of
returns-in-12593 c =
    let x = c.args in
    named x.high x.low (omega arith) (omega arith) 49 49 (omega arith) (omega arith) refl c.in-12593.is refl refl refl

pub returns-in-12849 : goal.returns-in-12849
unfolding value_of
returns-in-12849 c =
    let x = c.args in
    named_op x.high x.low (omega arith) (omega arith) true 49 1 c.op_of-in-12849.ensures (omega arith) refl refl refl refl refl c.in-12849.is

pub returns-in-12594 : goal.returns-in-12594
unfolding value_of
returns-in-12594 c =
    let x = c.args in
    named x.high x.low (omega arith) (omega arith) 50 49 (omega arith) (omega arith) refl c.in-12594.is refl refl refl

pub returns-in_default : goal.returns-in_default
unfolding widths
returns-in_default c =
    let x = c.args in
    let other = not_spelt x.high x.low (omega arith) (omega arith) in
    λ h l. simp (
      other 0 1 (omega arith) (omega arith) (λ (e : 256 * x.low + x.high ≡ 12592). omega arith) h l,
      other 0 2 (omega arith) (omega arith) (λ (e : 256 * x.low + x.high ≡ 12848). grind arith) h l,
      other 0 3 (omega arith) (omega arith) (λ (e : 256 * x.low + x.high ≡ 13104). grind arith) h l,
      other 0 4 (omega arith) (omega arith) (λ (e : 256 * x.low + x.high ≡ 13360). omega arith) h l,
      other 1 1 (omega arith) (omega arith) (λ (e : 256 * x.low + x.high ≡ 12593). omega arith) h l,
      other 1 2 (omega arith) (omega arith) (λ (e : 256 * x.low + x.high ≡ 12849). grind arith) h l,
      other 1 3 (omega arith) (omega arith) (λ (e : 256 * x.low + x.high ≡ 13105). grind arith) h l,
      other 2 1 (omega arith) (omega arith) (λ (e : 256 * x.low + x.high ≡ 12594). omega arith) h l,
    )
