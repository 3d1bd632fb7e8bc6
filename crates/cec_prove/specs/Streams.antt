-- What the proving program prints for a stream, and what its memory holds then.
use Rattle.std.specs.Prelude.{ℕ, ◌+◌, ◌*◌, ◌≤◌, ◌≡◌, List, ◌++◌, eqb, length, take, Result, Ok, Err}
use Rattle.model.specs.Limits.{most_inputs, most_gates, most_outputs, stream_bytes, lines_per_gate, lines_per_output, proof_line_bytes, numbers_per_net}
use Rattle.model.specs.Answers.{Answer, guard, bind, zeros, filled}
use Rattle.model.specs.Answers.Answer.{ok, refused}
use Rattle.model.specs.Lists.{Lists, read_lists}
use Rattle.model.specs.Frames.{line_of}
use Rattle.model.specs.Checker.{limited}
use Rattle.model.specs.Forms.{differing}
use Rattle.model.specs.Engine.{Proves}
use Rattle.frame.specs.Frames.{report}
use Rattle.refusal.specs.declared.Refusal.{Refusal}
use Rattle.refusal.specs.Answers.{refused_by}

-- ---- what is due

-- lists whose forms are the same; 18: 'the first such output, from 1, stands as the line'
abbrev pub same_forms : Lists → Answer Lists
same_forms l = guard (eqb (differing l.left l.right) 0) 18 (differing l.left l.right) (ok l)

-- the lists of a stream, to which a proof is due, or the refusal
unfoldable pub due_to : List ℕ → Answer Lists
due_to stream = limited stream_bytes stream (bind (read_lists stream) same_forms)

-- proof bytes and working numbers for the largest lists, so that neither 16 nor 17 is due
abbrev pub proof_bytes : ℕ
proof_bytes = proof_line_bytes * (lines_per_gate * (2 * most_gates) + lines_per_output * most_outputs)

abbrev pub working_numbers : ℕ
working_numbers = numbers_per_net * (1 + most_inputs + 2 * most_gates)

-- ---- the engine's part

-- A proof that is due, with place in the buffer and zeros behind it, or the refusal that is due; the working numbers are zeros.
abbrev pub Answered : List ℕ → Result ℕ Refusal → List ℕ → List ℕ → Type 0
Answered stream (Ok n) out work =
    (l : Lists) × (proof : List ℕ) × (due_to stream ≡ ok l) × Proves stream l n proof × (proof_line_bytes * n ≤ proof_bytes)
    × (out ≡ filled proof_bytes proof) × (work ≡ zeros working_numbers)
Answered stream (Err r) out work = (due_to stream ≡ refused_by r) × (work ≡ zeros working_numbers)

-- ---- what is printed

-- the lists as they came and the lines of a proof for them, or one report frame
abbrev pub Evidence : List ℕ → Answer Lists → List ℕ → Type 0
Evidence stream (ok l) printed = (n : ℕ) × (proof : List ℕ) × Proves stream l n proof × (printed ≡ stream ++ proof)
Evidence stream (refused number line) printed = printed ≡ line_of (report number line 0 0)

-- The first bytes of the stream and the first of the buffer are the evidence. In the buffer zeros stand behind them, and the working numbers
-- are zeros.
pub record Prints (stream lists : List ℕ) (behind : ℕ) (out work : List ℕ) : Type 0 where
  pub printed : Evidence stream (due_to stream) (lists ++ take behind out)
  pub of_stream : lists ≡ take (length lists) stream
  pub of_out : behind ≤ proof_bytes
  pub zeros_behind : out ≡ filled proof_bytes (take behind out)
  pub cleared : work ≡ zeros working_numbers
