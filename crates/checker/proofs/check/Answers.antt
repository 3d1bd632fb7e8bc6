-- The verdict's clauses stay and zeros come behind them, or zeros come everywhere; acceptance is sound by `laws/Soundness`.
use native.Mathlib.Omega.{arith}
use lib.ListN.{length}
use Rattle.laws.specs.Soundness.{sound}
use Rattle.clearing.proofs.ClearLaws.{cleared}
use Rattle.checker.proofs.VerdictLaws.{kept}
use borrow.Author.Rules.{rules}
use Rattle.checker.proofs.check.Goals as goal

pub overflow_mul-accepted : goal.overflow_mul-accepted
overflow_mul-accepted c = omega (arith, c.in-Ok.ensures.5)

pub returns-in-Ok : goal.returns-in-Ok
returns-in-Ok c =
    let v = c.verdict in
    let h = c.in-Ok.ensures in
    let n = length c.args.store.now in
    record { replies = rw (h.1, h.3, h.4); leaves = rw h.1 (kept v.new.store _ h.0 _ n h.2 h.4 (search rules) c.clear.ensures); agrees = sound _ n h.0 h.1 }

pub returns-in-Err : goal.returns-in-Err
returns-in-Err c =
    let v = c.verdict in
    let h = c.in-Err.ensures in
    record { replies = rw h; leaves = rw h (cleared v.new.store _ (length c.args.store.now) (search rules) c.clear-in-Err.ensures); agrees = tt }
