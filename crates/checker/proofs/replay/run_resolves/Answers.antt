-- The invariant: the lines up to the cursor are replayed (`ReplayLaws`). The measure is what is left of the text.
use Prim.Native.Nat.{ℕ}
use mathlib.Core.Path.{ap, ◌∙◌}
use native.Mathlib.Omega.{arith}
use Rattle.std.proofs.lemmas.Result.{err_from_is_err_and}
use Rattle.model.specs.Steps.{step}
use Rattle.model.specs.Steps.Step.{resolve}
use Rattle.steps.specs.Proofs.{state_of}
use Rattle.checker.proofs.ReplayLaws.{past_shorter, ran_resolve, resolve_refused}
use Rattle.checker.proofs.replay.run_resolves.Goals as goal

pub returns-in_err-resolve-clause-ran : goal.returns-in_err-resolve-clause-ran
returns-in_err-resolve-clause-ran c =
    let l = c.loop-step in
    let f = c.in-Some.step in
    let p = err_from_is_err_and c.from_residual.result c.from_residual.ensures.1 in
    let does = c.in_err-resolve.ensures.step ∙ ap (λ (k : ℕ). step k l.c.line (state_of l.proof) (resolve f.first f.second f.variable)) l.invariant.1.1 in
    rw (p.1, p.2) (l.invariant.0 ∙ resolve_refused c.args.proof.now.room l.c c.in-Some.ensures (state_of l.proof) does)

pub loop-step-preserved : goal.loop-step-preserved
loop-step-preserved c =
    let l = c.loop-step in
    let f = c.in-Some.step in
    let q = c.resolve.new.self in
    let next = c.past-c in
    let does = c.in_ok-resolve.ensures.step ∙ ap (λ (k : ℕ). step k l.c.line (state_of l.proof) (resolve f.first f.second f.variable)) l.invariant.1.1 in
    let ran = ran_resolve c.args.proof.now.room l.c c.in-Some.ensures (state_of l.proof) next.result next.ensures (state_of q) does in
    let place = c.resolve.ensures.place in
    let shorter = past_shorter l.c.rest.now next.ensures.0 in
    (l.invariant.0 ∙ ran, (place.0 ∙ l.invariant.1.0, place.1 ∙ l.invariant.1.1), omega (arith, l.invariant.2, shorter))
