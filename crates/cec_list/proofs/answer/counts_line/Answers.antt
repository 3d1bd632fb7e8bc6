-- A header states no line, and has digits for the counts.
use Rattle.model.specs.Frames.{stated_line}
use borrow.Author.Rules.{rules}
use Rattle.cec_list.proofs.answer.counts_line.Goals as goal

pub frame_line-requires : goal.frame_line-requires
unfolding stated_line
frame_line-requires c = search rules
