-- `spelt`; a mask bounds what it leaves.
use Rattle.digits.proofs.PackLaws.{spelt}
use Rattle.digits.proofs.packed.spelling.Goals as goal

pub returns : goal.returns
returns c = λ p q r s hp hq hr hs h. rw h (spelt p q r s hp hq hr hs)
