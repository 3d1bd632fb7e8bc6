-- The line that a report states is the refusal's.
use Rattle.model.specs.Frames.{stated_line}
use borrow.Author.Rules.{rules}
use Rattle.printed.proofs.refusal_line.Goals as goal

pub frame_line-requires : goal.frame_line-requires
unfolding stated_line
frame_line-requires c = search rules
