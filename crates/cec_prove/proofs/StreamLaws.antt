-- The two ways to an answer, and what is printed of each answer: a proof stands at the buffer's start with zeros behind it, and so does a
-- report, which has digits for the line of every refusal that is due.
use Prim.Native.Nat.{ℕ, ◌+◌, ◌-◌, ◌*◌, ◌≤◌, ◌<◌}
use mathlib.Core.Path.{◌≡◌, refl, sym, ap, ◌∙◌}
use mathlib.Core.List.{List, [], ◌++◌}
use native.Mathlib.Omega.{arith}
use lib.ListN.{length, take, length-append, length-replicate}
use Rattle.std.specs.Prelude.{Result, Ok, Err}
use lib.Seq.{take_at, take-length}
use borrow.Author.Tests.{le-leb}
use Rattle.model.specs.Limits.{stream_bytes, highest_line, proof_line_bytes}
use Rattle.model.specs.Answers.{Answer, guard, bind, zeros, filled}
use Rattle.model.specs.Answers.Answer.{ok, refused}
use Rattle.model.specs.Lists.{Lists, read_lists}
use Rattle.model.specs.Frames.{Frame, stated_line, line_of, write_frame, written_frame}
use Rattle.model.specs.Engine.{line_bound, working, provable, Outcome, Engine}
use Rattle.laws.specs.Answers.{ok_injective, refused_not_ok}
use Rattle.laws.specs.Reading.{lists_good}
use Rattle.laws.specs.Places.{provable_placed}
use Rattle.laws.specs.Streams.{over_limit, within_limit, limited_placed, placed_line}
use Rattle.frame.specs.Frames.{report}
use Rattle.frame.proofs.WriteLaws.{report_length}
use Rattle.refusal.specs.declared.Refusal.{Refusal}
use Rattle.refusal.specs.Answers.{answer_of}
use Rattle.cec_prove.specs.Streams.{same_forms, due_to, proof_bytes, working_numbers, Answered, Prints}

-- the engine's refusal is the one that is due
same_refusal : {number line n l : ℕ} → ◌≡◌ {A = Answer ℕ} (refused n l) (refused number line) → ◌≡◌ {A = Answer Lists} (refused number line) (refused n l)
same_refusal e = cc

-- a report's line in a buffer that has room for it
report_filled : (number line room : ℕ) → line ≤ highest_line → 19 ≤ room → written_frame (report number line 0 0) room ≡ filled room (line_of (report number line 0 0))
unfolding write_frame guard stated_line
report_filled number line room h r =
    let long = report_length number line 0 0 in
    rw (le-leb line highest_line h, long, le-leb 19 room r) (ap (λ (n : ℕ). line_of (report number line 0 0) ++ zeros (room - n)) long)

module _ (stream : List ℕ) where
  -- ---- the two ways to an answer

  pub too_long : stream_bytes < length stream → due_to stream ≡ refused 1 0
  unfolding due_to
  too_long h = over_limit stream_bytes stream _ h

  -- the memory is enough for every list
  enough : (a : Answer Lists) → read_lists stream ≡ a → provable stream proof_bytes working_numbers ≡ bind a same_forms
  unfolding provable guard
  enough (ok l) e =
      let p = lists_good stream l e in
      let bytes : proof_line_bytes * line_bound l.left l.right ≤ proof_bytes = omega (arith, p.left.gates, p.right.gates, p.left.outs) in
      let numbers : working l.left l.right ≤ working_numbers = omega (arith, p.left.inputs, p.left.gates, p.right.gates) in
      rw (e, le-leb _ proof_bytes bytes, le-leb _ working_numbers numbers)
  enough (refused number line) e = rw e

  not_too_long : length stream ≤ stream_bytes → due_to stream ≡ provable stream proof_bytes working_numbers
  unfolding due_to
  not_too_long h = within_limit stream_bytes stream _ h ∙ sym (enough (read_lists stream) refl)

  pub answered : length stream ≤ stream_bytes → (r : Result ℕ Refusal) (out work : List ℕ) → length out ≡ proof_bytes → Engine stream proof_bytes working_numbers (answer_of r) out work
      → Answered stream r out work
  answered h r out work long = go (provable stream proof_bytes working_numbers) (not_too_long h) r
    where
      go : (a : Answer Lists) → due_to stream ≡ a → (r : Result ℕ Refusal) → Outcome stream proof_bytes working_numbers a (answer_of r) out work → Answered stream r out work
      go (ok l) e (Ok n) (m, proof, reply, v, o, w) =
          let fits : length proof + (proof_bytes - length proof) ≡ proof_bytes = simp (length-append, length-replicate) at (sym (ap length o) ∙ long) in
          let c = ok_injective reply in
          (l, proof, e, rw c v, omega (arith, fits, c, v.bytes), o, w)
      go (ok l) e (Err r) (m, proof, reply, v, o, w) = absurd (refused_not_ok reply)
      go (refused number line) e (Ok n) (reply, o, w) = absurd (refused_not_ok (sym reply))
      go (refused number line) e (Err r) (reply, o, w) = (e ∙ same_refusal reply, w)

  -- ---- what is printed

  -- a report has digits for the line of a refusal
  has_digits : (number line : ℕ) → due_to stream ≡ refused number line → line ≤ highest_line
  unfolding due_to
  has_digits number line e =
      let placed = rw (enough (read_lists stream) refl) at (provable_placed stream proof_bytes working_numbers) in
      placed_line (limited_placed stream_bytes stream _ (λ short. omega arith) placed) e

  pub proof_printed : (n behind : ℕ) {lists out work : List ℕ} → lists ≡ stream → behind ≡ proof_line_bytes * n → Answered stream (Ok n) out work
      → Prints stream lists behind out work
  proof_printed n behind {lists} {out} all long (l, proof, e, v, fits, o, w) =
      let whole : take behind out ≡ proof = rw o (take_at proof (zeros (proof_bytes - length proof)) behind (v.bytes ∙ sym long)) in
      record {
        printed = rw e (n, proof, v, rw (all, whole));
        of_stream = rw (all, take-length stream);
        of_out = omega (arith, long, fits);
        zeros_behind = rw whole o;
        cleared = w;
      }

  pub report_printed : (number line behind : ℕ) {frame : Frame} {lists out work : List ℕ} → lists ≡ [] → behind ≡ 19 → due_to stream ≡ refused number line → work ≡ zeros working_numbers
      → frame ≡ report number line 0 0 → out ≡ written_frame frame proof_bytes → Prints stream lists behind out work
  report_printed number line behind {frame} {lists} {out} none long e w h o =
      let text = line_of (report number line 0 0) in
      let stands : out ≡ filled proof_bytes text = rw h at o ∙ report_filled number line proof_bytes (has_digits number line e) (omega arith) in
      let whole : take behind out ≡ text = rw stands (take_at text (zeros (proof_bytes - length text)) behind (report_length number line 0 0 ∙ sym long)) in
      record {
        printed = rw (e, none) whole;
        of_stream = rw none refl;
        of_out = omega (arith, long);
        zeros_behind = rw whole stands;
        cleared = w;
      }
