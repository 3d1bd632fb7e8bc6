-- Kind, words and LF one behind the other.
use Rattle.frame.proofs.PutLaws.{resolve_stored}
use Rattle.frame.proofs.resolves.write_resolve.Goals as goal

pub returns : goal.returns
returns c =
    let a = c.args in
    rw (c.put_word-3.ensures, c.put_word-2.ensures, c.put_word.ensures) (resolve_stored a.out.now a.at a.step.first a.step.second a.step.variable)
