-- A line of a proof: the step that its frame means.
use Rattle.std.specs.Prelude.{ℕ, eqb}
use Rattle.model.specs.Answers.{Answer, guard}
use Rattle.model.specs.Frames.{Frame, resolve_kind}
use Rattle.model.specs.Steps.{State, step, is_step, step_of}

-- a line's step: 3 unless its frame is one
unfoldable pub frame_step : ℕ → ℕ → State → Frame → Answer State
frame_step room line s f = guard (is_step f.kind) 3 line (step room line s (step_of (eqb f.kind resolve_kind) f))
