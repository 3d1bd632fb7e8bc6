-- The paper's kind and fields, number and line, for each case of the enums.
use Rattle.std.specs.Prelude.{ℕ, suc, ◌-◌, ◌≤◌, ◌<◌, ◌≡◌, List, [], ◌∷◌, ◌++◌, map, length, drop, Option, Some, None, Result, Ok, Err}
use Rattle.model.specs.Answers.{Answer, zeros}
use Rattle.model.specs.Answers.Answer.{ok, refused}
use Rattle.model.specs.Lines as model_lines
use Rattle.model.specs.Lines.{lines}
use Rattle.model.specs.Frames as model
use Rattle.model.specs.Nets as nets
use Rattle.refusal.specs.declared.Refusal.{Refusal}
use Rattle.refusal.specs.Answers.{number_of, answer_by, answer_of}
use Rattle.frame.specs.declared.cursor.Cursor.{Cursor}
use Rattle.frame.specs.declared.Op.{Op}
use Rattle.frame.specs.declared.Op.TheVariants.{And, Xor}
use Rattle.frame.specs.declared.Frame.{Frame}
use Rattle.frame.specs.declared.Frame.TheVariants.{Header, Gate, Output, Resolve, Extend, Report}
use Rattle.frame.specs.declared.fields.Field.{Field}
use Rattle.frame.specs.declared.fields.Fields.{Fields}

-- ---- frames

-- the operation of the definitions
abbrev pub op_of : Op → nets.Op
op_of And = nets.Op.and
op_of Xor = nets.Op.xor

abbrev pub gate_kind : Op → ℕ
gate_kind And = model.and_kind
gate_kind Xor = model.xor_kind

abbrev pub extend_kind : Op → ℕ
extend_kind And = model.extend_and_kind
extend_kind Xor = model.extend_xor_kind

-- a resolve's frame, and a report's
abbrev pub resolve : ℕ → ℕ → ℕ → model.Frame
resolve a b v = record { kind = model.resolve_kind; fields = a ∷ b ∷ v ∷ [] }

abbrev pub report : ℕ → ℕ → ℕ → ℕ → model.Frame
report refusal line steps clauses = record { kind = model.report_kind; fields = refusal ∷ line ∷ steps ∷ clauses ∷ [] }

abbrev pub frame_of : Frame → model.Frame
frame_of (Header i g o) = record { kind = model.header_kind; fields = i ∷ g ∷ o ∷ [] }
frame_of (Gate g) = record { kind = gate_kind g.op; fields = g.x ∷ g.y ∷ [] }
frame_of (Output l) = record { kind = model.output_kind; fields = l ∷ [] }
frame_of (Resolve s) = resolve s.first s.second s.variable
frame_of (Extend g) = record { kind = extend_kind g.op; fields = g.x ∷ g.y ∷ [] }
frame_of (Report r n s c) = report r n s c

-- ---- answers

abbrev pub decoded_of : Result Frame Refusal → Answer model.Frame
decoded_of r = answer_by frame_of r

abbrev pub written_of : Result ℕ Refusal → Answer ℕ
written_of r = answer_of r

-- ---- reading by cursor

-- what stands first in a list of lines: nothing; a frame, the lines behind it and the number of the next; or a refusal
pub data First : Type 0 where
  none : First
  found : model.Frame → List model_lines.Line → ℕ → First
  fault : ℕ → ℕ → First

abbrev pub first_in : Answer model.Frame → List model_lines.Line → ℕ → First
first_in (ok f) ls line = found f ls line
first_in (refused number place) ls line = fault number place

-- the first of these lines has this number
unfoldable pub first : List model_lines.Line → ℕ → First
first [] line = none
first (l ∷ ls) line = first_in (model.frame_at l line) ls (suc line)

-- the same of what the reader answers: a cursor stands for the lines that are left
abbrev pub first_of : Result (Option (Frame × Cursor)) Refusal → First
first_of (Ok (Some (f, next))) = found (frame_of f) (lines next.rest.now) next.line
first_of (Ok None) = none
first_of (Err r) = fault (number_of r.reason) r.line

-- and where no frame was read
abbrev pub left_of : Result (Unit {0}) Refusal → First
left_of (Ok _) = none
left_of (Err r) = fault (number_of r.reason) r.line

-- what is left of a text behind some of its bytes
pub record Behind (text rest : List ℕ) : Type 0 where
  pub bytes : ℕ
  pub some : 0 < bytes
  pub within : bytes ≤ length text
  pub cut : rest ≡ drop bytes text

-- the cursor behind a frame that was read is farther on in the text
abbrev pub Ahead : List ℕ → Result (Option (Frame × Cursor)) Refusal → Type 0
Ahead text (Ok (Some (f, next))) = Behind text next.rest.now
Ahead text (Ok None) = Unit {0}
Ahead text (Err r) = Unit {0}

-- ---- writing

abbrev pub values_of : List Field → List ℕ
values_of fields = map (λ (f : Field). f.value) fields

abbrev pub widths_of : List Field → List ℕ
widths_of fields = map (λ (f : Field). f.width) fields

-- The struct holds the frame's kind, its fields and their widths. Behind the last of them it has fields of no digits, up to four.
pub record Spells (w : Fields) (f : model.Frame) : Type 0 where
  pub kind : w.kind ≡ f.kind
  pub values : values_of w.fields ≡ f.fields ++ zeros (4 - length f.fields)
  pub widths : widths_of w.fields ≡ model.widths f.kind ++ zeros (4 - length f.fields)
  pub long : length f.fields ≡ length (model.widths f.kind)
  pub room : length f.fields ≤ 4
