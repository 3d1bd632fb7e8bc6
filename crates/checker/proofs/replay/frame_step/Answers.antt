-- A resolve, an extension, or any other frame (`ReplayLaws`).
use mathlib.Core.Path.{sym}
use Rattle.steps.specs.Proofs.{state_of}
use Rattle.checker.proofs.ReplayLaws.{frame_resolve, frame_extend, frame_other}
use Rattle.checker.proofs.replay.frame_step.Goals as goal

pub returns-in-Resolve-clause-step : goal.returns-in-Resolve-clause-step
returns-in-Resolve-clause-step c =
    let a = c.args in
    let p = a.proof.now in
    rw (c.in-Resolve.is, frame_resolve p.room a.line (state_of p) c.in-Resolve.step) c.resolve.ensures.step

pub returns-in-Extend-clause-step : goal.returns-in-Extend-clause-step
returns-in-Extend-clause-step c =
    let a = c.args in
    let p = a.proof.now in
    rw (c.in-Extend.is, frame_extend p.room a.line (state_of p) c.in-Extend.gate) c.extend.ensures.step

pub returns-in_default-clause-step : goal.returns-in_default-clause-step
returns-in_default-clause-step c =
    let a = c.args in
    let p = a.proof.now in
    rw c.at.ensures (sym (frame_other p.room a.line (state_of p) a.frame c.in_default.not-Resolve c.in_default.not-Extend))
