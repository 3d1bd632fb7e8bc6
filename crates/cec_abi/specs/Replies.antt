-- The replies: an answer as numbers, as include/cec.h has them.
use Rattle.std.specs.Prelude.{ℕ, List, [], ◌∷◌, length}
use Rattle.model.specs.Answers.{Answer, filled}
use Rattle.model.specs.Answers.Answer.{ok, refused}
use Rattle.model.specs.Frames.{Frame}
use Rattle.model.specs.Nets.{Netlist}
use Rattle.model.specs.Lists.{Lists}
use Rattle.model.specs.Steps.{State}

-- refusal number, its line, the kind, and the fields with zeros behind them: seven numbers
abbrev pub frame_reply : Answer Frame → List ℕ
frame_reply (ok f) = filled 7 (0 ∷ 0 ∷ f.kind ∷ f.fields)
frame_reply (refused number line) = filled 7 (number ∷ line ∷ [])

-- refusal number, its line, and the number: a line's length, a word
abbrev pub number_reply : Answer ℕ → List ℕ
number_reply (ok n) = 0 ∷ 0 ∷ n ∷ []
number_reply (refused number line) = number ∷ line ∷ 0 ∷ []

-- refusal number, its line, and the list's inputs, gates and outputs
abbrev pub list_reply : Answer Netlist → List ℕ
list_reply (ok n) = 0 ∷ 0 ∷ n.inputs ∷ length n.gates ∷ length n.outs ∷ []
list_reply (refused number line) = number ∷ line ∷ 0 ∷ 0 ∷ 0 ∷ []

-- refusal number, its line, the inputs of each list, the gates of the left and of the right, and the outputs of each
abbrev pub lists_reply : Answer Lists → List ℕ
lists_reply (ok l) = 0 ∷ 0 ∷ l.left.inputs ∷ length l.left.gates ∷ length l.right.gates ∷ length l.left.outs ∷ []
lists_reply (refused number line) = number ∷ line ∷ 0 ∷ 0 ∷ 0 ∷ 0 ∷ []

-- refusal number, its line, and an accepted proof's lines and clauses
abbrev pub check_reply : Answer State → List ℕ
check_reply (ok s) = 0 ∷ 0 ∷ s.steps ∷ length s.clauses ∷ []
check_reply (refused number line) = number ∷ line ∷ 0 ∷ 0 ∷ []
