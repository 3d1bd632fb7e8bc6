-- The byte is what its two digits spell (`named_byte`).
use native.Mathlib.Omega.{arith}
use Rattle.frame.proofs.KindLaws.{named_byte}
use Rattle.frame.proofs.kinds.KindTryFromU8.try_from.Goals as goal

pub returns : goal.returns
returns c =
    let high = c.digit_of in
    let low = c.digit_of-2 in
    rw c.ok_or.ensures.value (named_byte c.args.byte high.result low.result (omega arith) high.ensures low.ensures c.spelt_kind.result c.spelt_kind.ensures)
