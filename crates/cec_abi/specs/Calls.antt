-- The writer's call: a frame from a kind and numbers, and what becomes of it; and the engine's, whose promise leaves the lines free.
use Rattle.std.specs.Prelude.{ℕ, ◌^◌, ◌≡◌, Bool, true, false, ◌&&◌, cond, List, [], ◌∷◌, eqb, ltb, length, take, Result, Ok, Err}
use Rattle.std.specs.Result.{MatchResult}
use Rattle.model.specs.Answers.{Answer, guard, bind, zeros}
use Rattle.model.specs.Answers.Answer.{ok, refused}
use Rattle.refusal.specs.declared.Reason.TheVariants.{Frame as Wrong}
use Rattle.refusal.specs.declared.Refusal.{Refusal}
use Rattle.refusal.specs.Answers.{answer_by}
use Rattle.frame.specs.declared.Op.{Op}
use Rattle.frame.specs.Kinds.{operands_kind}
use Rattle.cec_abi.specs.Replies.{number_reply}
use Rattle.model.specs.Frames.{Frame, widths, is_kind, report_kind, one_byte, two_bytes, write_frame, written_frame}

-- the digits of a number of 64 bits
abbrev pub any_number : ℕ
any_number = 16

-- The digits that each field may have in a call: those of the table. Only a report's line may be any number of 64 bits, since the writer
-- has its own refusal for one above FFFFFF.
unfoldable pub limits : ℕ → List ℕ
limits kind = cond (eqb kind report_kind) (one_byte ∷ any_number ∷ two_bytes ∷ two_bytes ∷ []) (widths kind)

-- each number has at most the digits that stand for it, and there is a number for each
unfoldable pub fit : List ℕ → List ℕ → Bool
fit [] numbers = true
fit (w ∷ ws) [] = false
fit (w ∷ ws) (n ∷ numbers) = ltb n (16 ^ w) && fit ws numbers

-- a number that has a field's type, or 3 at line 0
abbrev pub FieldOf : {A E : Type 0} → Result A E → Result A Refusal → Type 0
FieldOf t r = MatchResult t (λ a. r ≡ Ok a) (λ e. r ≡ Err (record { reason = Wrong; line = 0 }))

-- The frame of a kind with as many of the numbers as it has fields; 3 at line 0 if the kind is outside the table or a field does not fit.
unfoldable pub frame_from : ℕ → List ℕ → Answer Frame
frame_from kind numbers =
    guard (is_kind (limits kind) && fit (limits kind) numbers) 3 0
    (ok (record { kind = kind; fields = take (length (limits kind)) numbers }))

-- two numbers as the operands of a gate, or of an extension
abbrev pub Operands : ℕ → ℕ → Result (ℕ × ℕ) Refusal → Type 0
Operands x y r = (extends : Bool) (op : Op)
    → answer_by (λ (p : ℕ × ℕ). record { kind = operands_kind extends op; fields = p.0 ∷ p.1 ∷ [] }) r ≡ frame_from (operands_kind extends op) (x ∷ y ∷ [])

-- the reply of writing a frame, where there is one
abbrev pub write_answer : Answer Frame → ℕ → Answer ℕ
write_answer frame room = bind frame λ f. write_frame f room

-- what a buffer holds afterwards: the frame's line with zeros behind it, or zeros
abbrev pub written_answer : Answer Frame → ℕ → List ℕ
written_answer (ok f) room = written_frame f room
written_answer (refused number line) room = zeros room

-- the reply of a call, for a buffer of this room
abbrev pub write_numbers : ℕ → List ℕ → ℕ → Answer ℕ
write_numbers kind numbers room = write_answer (frame_from kind numbers) room

-- what the buffer holds after the call
abbrev pub written_numbers : ℕ → List ℕ → ℕ → List ℕ
written_numbers kind numbers room = written_answer (frame_from kind numbers) room

-- ---- the engine

-- the reply is the numbers of an answer that keeps the promise, with the buffers as they are left
abbrev pub Replied : List ℕ → (Answer ℕ → List ℕ → List ℕ → Type 0) → List ℕ → List ℕ → Type 0
Replied reply promise proof work = (answer : Answer ℕ) × (reply ≡ number_reply answer) × promise answer proof work
