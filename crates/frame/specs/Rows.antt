-- What the reading of a line as the one that is due says: the first line has this frame in so many bytes, or no such frame.
use Rattle.std.specs.Prelude.{ℕ, ◌≡◌, List, [], ◌∷◌, Option, Some, None}
use Rattle.model.specs.Limits.{proof_line_bytes}
use Rattle.model.specs.Lines.{Line, lines}
use Rattle.model.specs.Frames as model
use Rattle.laws.specs.ListText.{gate_bytes, output_bytes}
use Rattle.frame.specs.declared.Op.{Op}
use Rattle.frame.specs.declared.Gate.{Gate}
use Rattle.frame.specs.declared.Resolve.{Resolve}
use Rattle.frame.specs.Frames.{first, gate_kind, resolve}
use Rattle.frame.specs.Frames.First.{found}
use Rattle.frame.specs.Kinds.{HasKind}
use Rattle.frame.specs.Fields.{HasLine}

abbrev pub gate_frame : Gate → model.Frame
gate_frame g = record { kind = gate_kind g.op; fields = g.x ∷ g.y ∷ [] }

abbrev pub output_frame : ℕ → model.Frame
output_frame l = record { kind = model.output_kind; fields = l ∷ [] }

abbrev pub resolve_frame : Resolve → model.Frame
resolve_frame r = resolve r.first r.second r.variable

-- the first line has not this frame
abbrev pub Lacks : List ℕ → model.Frame → Type 0
Lacks text f = (line next : ℕ) (rest : List Line) → found f rest next ≡ first (lines text) line → ⊥

abbrev pub Says : {A : Type 0} → (A → model.Frame) → ℕ → List ℕ → Option A → Type 0
Says frame bytes text (Some a) = HasLine text bytes (frame a).kind (frame a).fields
Says frame bytes text None = (a : _) → Lacks text (frame a)

-- a gate's line, by its kind alone
abbrev pub OpSays : List ℕ → Option Op → Type 0
OpSays text (Some op) = HasKind text (gate_kind op)
OpSays text None = (g : Gate) → Lacks text (gate_frame g)

abbrev pub GateSays : List ℕ → Option Gate → Type 0
GateSays = Says gate_frame gate_bytes

abbrev pub LiteralSays : List ℕ → Option ℕ → Type 0
LiteralSays = Says output_frame output_bytes

abbrev pub ResolvesSay : List ℕ → Option Resolve → Type 0
ResolvesSay = Says resolve_frame proof_line_bytes
