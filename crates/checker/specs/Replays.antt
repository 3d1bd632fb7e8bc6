-- What a row of resolves says of the lines from a cursor on.
use Rattle.std.specs.Prelude.{ℕ, ◌≤◌, ◌≡◌, length, Result, Ok, Err}
use Rattle.model.specs.Steps.{State, replay}
use Rattle.frame.specs.declared.cursor.Cursor.{Cursor}
use Rattle.refusal.specs.declared.Refusal.{Refusal}
use Rattle.refusal.specs.Answers.{refused_by}
use Rattle.netlist.specs.Says.{ahead}

-- the lines up to a cursor are replayed: replaying the others comes to what replaying all comes to
abbrev pub RanTo : ℕ → Cursor → State → Cursor → State → Type 0
RanTo room c₀ s₀ c s = replay room s₀ (ahead c₀) c₀.line ≡ replay room s (ahead c) c.line

abbrev pub RanSays : ℕ → Cursor → State → State → Result Cursor Refusal → Type 0
RanSays room c₀ s₀ s (Ok c) = RanTo room c₀ s₀ c s × (length c.rest.now ≤ length c₀.rest.now)
RanSays room c₀ s₀ s (Err r) = replay room s₀ (ahead c₀) c₀.line ≡ refused_by r
