-- The four values are spelt at once, and the bytes stand where `hex` has them.
use Rattle.std.proofs.Common.{rules}
use Rattle.frame.proofs.PutLaws.{word_stored}
use Rattle.frame.proofs.resolves.put_word.Goals as goal

pub returns : goal.returns
returns c =
    let a = c.args in
    word_stored a.out.now a.at a.n c.spelling-digits.result c.spelling-digits.ensures (search rules)
