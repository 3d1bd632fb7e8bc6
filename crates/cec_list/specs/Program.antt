-- What the reading program prints.
use Rattle.std.specs.Prelude.{ℕ, List, [], ◌∷◌, length}
use Rattle.model.specs.Limits.{stream_bytes}
use Rattle.model.specs.Answers.{Answer}
use Rattle.model.specs.Answers.Answer.{ok, refused}
use Rattle.model.specs.Frames.{Frame, line_of, header_kind}
use Rattle.model.specs.Nets.{Netlist}
use Rattle.model.specs.Lists.{read_one}
use Rattle.model.specs.Checker.{limited}
use Rattle.frame.specs.Frames.{report}

-- the list that a stream is
unfoldable pub listed : List ℕ → Answer Netlist
listed stream = limited stream_bytes stream (read_one stream)

-- the header that states a list's counts
abbrev pub counts_frame : Netlist → Frame
counts_frame n = record { kind = header_kind; fields = n.inputs ∷ length n.gates ∷ length n.outs ∷ [] }

abbrev pub frame_for : Answer Netlist → Frame
frame_for (ok n) = counts_frame n
frame_for (refused number line) = report number line 0 0

unfoldable pub program : List ℕ → List ℕ
program stream = line_of (frame_for (listed stream))
