-- The paper's answer for each answer of the code: 'a result, or one refusal number under its stated condition only, with its place'.
use Rattle.std.specs.Prelude.{ℕ, Result, Ok, Err}
use Rattle.model.specs.Answers.{Answer}
use Rattle.model.specs.Answers.Answer.{ok, refused}
use Rattle.refusal.specs.declared.Reason.{Reason}
use Rattle.refusal.specs.declared.Reason.TheVariants as Why
use Rattle.refusal.specs.declared.Refusal.{Refusal}

abbrev pub number_of : Reason → ℕ
number_of Why.Stream = 1
number_of Why.Bytes = 2
number_of Why.Frame = 3
number_of Why.End = 4
number_of Why.Count = 5
number_of Why.Unlike = 6
number_of Why.Net = 7
number_of Why.Miter = 8
number_of Why.Clause = 9
number_of Why.Pivot = 10
number_of Why.Length = 11
number_of Why.Operand = 12
number_of Why.Variable = 13
number_of Why.Store = 14
number_of Why.Empty = 15
number_of Why.Room = 16
number_of Why.Work = 17
number_of Why.Forms = 18

abbrev pub refused_by : {A : Type 0} → Refusal → Answer A
refused_by r = refused (number_of r.reason) r.line

-- a result, seen as what f makes of it, or the refusal
abbrev pub answer_by : {A B : Type 0} → (A → B) → Result A Refusal → Answer B
answer_by f (Ok a) = ok (f a)
answer_by f (Err r) = refused_by r

abbrev pub answer_of : {A : Type 0} → Result A Refusal → Answer A
answer_of (Ok a) = ok a
answer_of (Err r) = refused_by r
