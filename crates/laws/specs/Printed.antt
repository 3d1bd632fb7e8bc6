-- What a checking program's line says to whoever reads it: it is a report frame, and if its refusal is 0, the two lists that the stream begins with
-- agree on every pattern.
use Rattle.std.specs.Prelude.{ℕ, ◌*◌, ◌≤◌, ◌<◌, ◌≡◌, refl, List, leb, length}
use Rattle.std.proofs.Common.{sym, ap, ◌∙◌, arith}
use Rattle.model.specs.Limits.{clause_width, most_clauses, highest_line}
use Rattle.model.specs.Answers.{Answer}
use Rattle.model.specs.Answers.Answer.{ok, refused}
use Rattle.model.specs.Frames.{Frame, field, widths, lone_line}
use Rattle.model.specs.Steps.{State}
use Rattle.model.specs.Checker.{check, capacity, judge, report_of, program_within}
use Rattle.laws.specs.Answers.{ok_injective, guard_ok}
use Rattle.laws.specs.Places.{Placed, Counts, check_placed}
use Rattle.laws.specs.Places.Placed.{result, place}
use Rattle.laws.specs.Streams.{limited_placed}
use Rattle.laws.specs.RoundTrip.{Proper, lone_written}
use Rattle.laws.specs.Soundness.{AgreeingLists, sound}

-- ---- a report has digits for every verdict

report_proper : {room most : ℕ} (a : Answer State) → Placed (Counts room) most a → room ≤ most_clauses → most ≤ highest_line → Proper (report_of a)
unfolding widths
report_proper (ok s) (result k) r h =
    record { known = refl; fit = (omega arith, (omega arith, (omega (arith, k.steps, k.clauses), (omega (arith, k.clauses), tt)))) }
report_proper (refused number line) (place n l some few) r h =
    record { known = refl; fit = (omega (arith, some.1), (omega arith, (omega arith, (omega arith, tt)))) }

pub judge_placed : (bytes numbers : ℕ) (stream : List ℕ) → bytes < highest_line → Placed (Counts (capacity numbers)) highest_line (judge bytes numbers stream)
unfolding judge
judge_placed bytes numbers stream few = limited_placed bytes stream _ (λ short. omega arith) (check_placed stream numbers)

-- ---- what acceptance means

judge_sound : (bytes numbers : ℕ) (stream : List ℕ) (s : State) → judge bytes numbers stream ≡ ok s → AgreeingLists stream
unfolding judge
judge_sound bytes numbers stream s e = sound stream numbers s (guard_ok (leb (length stream) bytes) 1 0 (check stream numbers) e).1

module _ (bytes clauses : ℕ) (stream : List ℕ) (few : bytes < highest_line) where
  abbrev verdict : Answer State
  verdict = judge bytes (clause_width * clauses) stream

  placed : Placed (Counts (capacity (clause_width * clauses))) highest_line verdict
  placed = judge_placed bytes (clause_width * clauses) stream few

  -- the line is read back as the report of the verdict
  pub printed_read : lone_line (program_within bytes clauses stream) ≡ ok (report_of verdict)
  printed_read = lone_written _ (report_proper _ placed (omega arith) (omega arith))

  -- a report whose first field, the refusal, is 0 is that of a stream whose two lists agree on every pattern
  pub printed_sound : (f : Frame) → lone_line (program_within bytes clauses stream) ≡ ok f → field f 0 ≡ 0 → AgreeingLists stream
  printed_sound f e none = go verdict refl placed
    where
      go : (a : Answer State) → verdict ≡ a → Placed (Counts (capacity (clause_width * clauses))) highest_line a → AgreeingLists stream
      go (ok s) same p = judge_sound bytes (clause_width * clauses) stream s same
      go (refused number line) same (place n l some low) =
          let read : report_of (refused number line) ≡ f = ap report_of (sym same) ∙ ok_injective (sym printed_read ∙ e) in
          let zero : number ≡ 0 = ap (λ (g : Frame). field g 0) read ∙ none in
          absurd (omega (arith, zero, some.0))
