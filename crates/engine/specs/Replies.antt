-- What the engine's answer says.
use Rattle.std.specs.Prelude.{ℕ, ◌*◌, ◌≡◌, List, length, eqb, leb, Result, Ok, Err}
use Rattle.model.specs.Limits.{proof_line_bytes}
use Rattle.model.specs.Answers.{Answer, guard}
use Rattle.model.specs.Answers.Answer.{ok}
use Rattle.model.specs.Lists.{Lists}
use Rattle.model.specs.Forms.{differing}
use Rattle.model.specs.Engine.{line_bound, working, provable}
use Rattle.emit_laws.specs.Proof.{proof_of}
use Rattle.refusal.specs.declared.Refusal.{Refusal}
use Rattle.refusal.specs.Answers.{refused_by}
use Rattle.derivation.specs.Emission.{Written}

-- what is due to lists that were read
unfoldable pub due : ℕ → ℕ → Lists → Answer Lists
due bytes numbers l =
    guard (leb (proof_line_bytes * line_bound l.left l.right) bytes) 16 0
    (guard (leb (working l.left l.right) numbers) 17 0
    (guard (eqb (differing l.left l.right) 0) 18 (differing l.left l.right)
    (ok l)))

-- a proof is due to the lists l, and its lines are written; or the refusal that is due
abbrev pub FoldedSays : Lists → ℕ → ℕ → List ℕ → Result ℕ Refusal → Type 0
FoldedSays l bytes numbers proof (Ok n) = (due bytes numbers l ≡ ok l) × Written proof (proof_of l) × (n ≡ length (proof_of l))
FoldedSays l bytes numbers proof (Err r) = due bytes numbers l ≡ refused_by r

-- the same of a text
abbrev pub AnswerSays : List ℕ → ℕ → ℕ → List ℕ → Result ℕ Refusal → Type 0
AnswerSays text bytes numbers proof (Ok n) = (l : Lists) × (provable text bytes numbers ≡ ok l) × Written proof (proof_of l) × (n ≡ length (proof_of l))
AnswerSays text bytes numbers proof (Err r) = provable text bytes numbers ≡ refused_by r
