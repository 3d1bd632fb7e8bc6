-- The digits and the LF are stored at the start of zeros.
use Rattle.cec_eval.proofs.LineLaws.{word_printed}
use Rattle.cec_eval.proofs.answer.word_line.Goals as goal

pub of-requires : goal.of-requires
of-requires c = (word_printed c.args.word c.put_hex.new.out c.put_hex.ensures.1).0

pub returns : goal.returns
returns c = rw c.of.ensures (word_printed c.args.word c.put_hex.new.out c.put_hex.ensures.1).1
