-- Less than two bytes are no kind; the kind of two bytes is that of the line (`kind_says`).
use native.Mathlib.Omega.{arith}
use Rattle.frame.proofs.KindLaws.{unframed_short, kind_says}
use Rattle.frame.proofs.kinds.kind_of.Goals as goal

pub returns-then-text-lt2 : goal.returns-then-text-lt2
returns-then-text-lt2 c = let a = c.args in unframed_short a.text.now (omega arith)

pub returns : goal.returns
returns c = let a = c.args in kind_says a.text.now (omega arith) c.spelt_kind.result c.spelt_kind.ensures
