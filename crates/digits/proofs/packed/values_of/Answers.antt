-- What is tested of four bytes at once is tested of each (`four`, `no_four`).
use native.Mathlib.Omega.{arith}
use Rattle.digits.proofs.PackLaws.{lane, no_wrap, no_four, four}
use Rattle.digits.proofs.packed.values_of.Goals as goal

pub overflow_add-above : goal.overflow_add-above
overflow_add-above c = record { fits = omega (arith, no_wrap c.args.bytes (omega arith)) }

pub overflow_add-above-2 : goal.overflow_add-above-2
overflow_add-above-2 c = record { fits = omega (arith, no_wrap c.args.bytes (omega arith)) }

pub returns-then-both-ne808464432 : goal.returns-then-both-ne808464432
returns-then-both-ne808464432 c = λ p q r s hp hq hr hs e. no_four (lane p hp) (lane q hq) (lane r hr) (lane s hs) (rw e at c.if-both-ne808464432.true)

pub returns : goal.returns
returns c = λ p q r s hp hq hr hs e. rw e (four (lane p hp) (lane q hq) (lane r hr) (lane s hs) (rw e at c.if-both-ne808464432.false))
