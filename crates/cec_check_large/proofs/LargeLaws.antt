-- The checking program of document 01 and this one print the same line, but where the first lacks bytes or room (1, 8 or 14).
use Prim.Native.Nat.{ℕ, ◌*◌}
use mathlib.Core.Path.{◌≡◌, refl, sym, ap, ◌∙◌}
use mathlib.Core.Bool.{false, true≢false}
use mathlib.Core.List.{List}
use native.Mathlib.Omega.{arith}
use Rattle.model.specs.Limits.{clause_width, most_clauses, stream_bytes, program_clauses}
use Rattle.model.specs.Answers.{Answer}
use Rattle.model.specs.Answers.Answer.{refused}
use Rattle.model.specs.Frames.{line_of}
use Rattle.model.specs.Steps.{State}
use Rattle.model.specs.Checker.{judge, program, report_of}
use Rattle.laws.specs.Room.{is_lack, Wider, judge_wider}
use Rattle.laws.specs.Room.Wider.{same, lacked}
use Rattle.cec_check_large.specs.Large.{large_bytes, large_program}

same_answer : {a b : Answer State} → Wider a b → ((number line : ℕ) → a ≡ refused number line → is_lack number ≡ false) → b ≡ a
same_answer (same a) h = refl
same_answer (lacked number line b l) h = absurd (true≢false (sym l ∙ h number line refl))

pub same_line : (stream : List ℕ)
    → ((number line : ℕ) → judge stream_bytes (clause_width * program_clauses) stream ≡ refused number line → is_lack number ≡ false)
    → large_program stream ≡ program stream
unfolding program large_program
same_line stream h =
    let larger = judge_wider stream stream_bytes large_bytes (clause_width * program_clauses) (clause_width * most_clauses) (omega arith) (omega arith) in
    ap (λ (a : Answer State). line_of (report_of a)) (same_answer larger h)
