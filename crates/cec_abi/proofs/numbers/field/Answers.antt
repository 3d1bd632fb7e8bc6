-- The number is what the conversion gives, and 3 at line 0 stands for its error.
use borrow.Author.Rules.{rules}
use Rattle.cec_abi.proofs.numbers.field.Goals as goal

pub returns : goal.returns
returns g c = (c.try_from.result, c.try_from.ensures, search rules)
