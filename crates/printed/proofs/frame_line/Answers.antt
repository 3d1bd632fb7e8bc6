-- The line is written, since a report has digits for its line number, and each frame's line has its place.
use Rattle.printed.proofs.PrintLaws.{frame_printed}
use Rattle.printed.proofs.frame_line.Goals as goal

pub of-requires : goal.of-requires
of-requires c = (frame_printed c.args.frame c.requires _ _ c.write_frame.ensures.leaves c.line_len.ensures).0

pub returns : goal.returns
returns c = rw c.of.ensures (frame_printed c.args.frame c.requires _ _ c.write_frame.ensures.leaves c.line_len.ensures).1
