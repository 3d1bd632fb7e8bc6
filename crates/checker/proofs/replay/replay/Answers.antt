-- The invariant: the lines up to the cursor are replayed (`ReplayLaws`). A turn is a row of resolves and one line of any kind; the measure is what
-- is left of the text.
use Prim.Native.Nat.{ℕ}
use mathlib.Core.Path.{ap, sym, ◌∙◌, subst}
use Rattle.std.proofs.lemmas.Result.{err_from_is_err_and}
use Rattle.steps.specs.Proofs.{state_of}
use Rattle.frame.specs.Frames.{frame_of}
use Rattle.checker.specs.Lines.{frame_step}
use Rattle.checker.specs.Replays.{RanTo}
use Rattle.checker.proofs.ReplayLaws.{replay_ended, replay_fault, ran_line, line_refused}
use Rattle.checker.proofs.replay.replay.Goals as goal

pub returns-in-Err-clause-replays : goal.returns-in-Err-clause-replays
returns-in-Err-clause-replays c =
    let l = c.loop-d in
    let d = c.in_ok-d.d in
    let q = state_of c.run_resolves.new.proof in
    let ran = subst (λ (k : ℕ). RanTo k l.c (state_of l.proof) d q) l.invariant.1.1 c.in_ok-d.ensures.ran.0 in
    sym (l.invariant.0 ∙ ran ∙ replay_fault c.args.proof.now.room q d (rw c.in-Err.is at c.read_line.ensures.reads))

pub returns-in-Ok-None-clause-replays : goal.returns-in-Ok-None-clause-replays
returns-in-Ok-None-clause-replays c =
    let l = c.loop-d in
    let d = c.in_ok-d.d in
    let q = state_of c.run_resolves.new.proof in
    let ran = subst (λ (k : ℕ). RanTo k l.c (state_of l.proof) d q) l.invariant.1.1 c.in_ok-d.ensures.ran.0 in
    sym (l.invariant.0 ∙ ran ∙ replay_ended c.args.proof.now.room q d (rw (c.in-Ok-None.is, c.in-Ok-None.field-0-is) at c.read_line.ensures.reads))

pub returns-in_err-frame_step-in-Ok-Some-clause-replays : goal.returns-in_err-frame_step-in-Ok-Some-clause-replays
returns-in_err-frame_step-in-Ok-Some-clause-replays c =
    let l = c.loop-d in
    let d = c.in_ok-d.d in
    let q = state_of c.run_resolves.new.proof in
    let ran = subst (λ (k : ℕ). RanTo k l.c (state_of l.proof) d q) l.invariant.1.1 c.in_ok-d.ensures.ran.0 in
    let reads = rw (c.in-Ok-Some.is, c.in-Ok-Some.field-0-is) at c.read_line.ensures.reads in
    let room = c.run_resolves.ensures.place.1 ∙ l.invariant.1.1 in
    let does = c.in_err-frame_step-in-Ok-Some.ensures.step ∙ ap (λ (k : ℕ). frame_step k d.line q (frame_of c.in-Ok-Some.frame)) room in
    let p = err_from_is_err_and c.from_residual-in_err-frame_step-in-Ok-Some.result c.from_residual-in_err-frame_step-in-Ok-Some.ensures.1 in
    rw (p.1, p.2) (sym (l.invariant.0 ∙ ran ∙ line_refused c.args.proof.now.room d c.in-Ok-Some.frame q reads does))

pub loop-d-preserved : goal.loop-d-preserved
loop-d-preserved c =
    let l = c.loop-d in
    let d = c.in_ok-d.d in
    let q = state_of c.run_resolves.new.proof in
    let ran = subst (λ (k : ℕ). RanTo k l.c (state_of l.proof) d q) l.invariant.1.1 c.in_ok-d.ensures.ran.0 in
    let reads = rw (c.in-Ok-Some.is, c.in-Ok-Some.field-0-is) at c.read_line.ensures.reads in
    let rows = c.run_resolves.ensures.place in
    let place = c.frame_step.ensures.place in
    let does = c.in_ok-frame_step-in-Ok-Some.ensures.step ∙ ap (λ (k : ℕ). frame_step k d.line q (frame_of c.in-Ok-Some.frame)) (rows.1 ∙ l.invariant.1.1) in
    let line = ran_line c.args.proof.now.room d c.in-Ok-Some.frame q c.in-Ok-Some.next reads (state_of c.frame_step.new.proof) does in
    (l.invariant.0 ∙ ran ∙ line, (place.0 ∙ rows.0 ∙ l.invariant.1.0, place.1 ∙ rows.1 ∙ l.invariant.1.1))
