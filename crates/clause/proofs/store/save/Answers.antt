-- The number for each place is the stored clause's there: the place of the struct, plus one (`struct_at`, `number_at`).
use Rattle.std.proofs.Common.{◌+◌, ◌%◌, sym, ap, ◌∙◌, arith}
use Rattle.model.specs.Checker.{stored}
use Rattle.clause.specs.Places.{width}
use Rattle.clause.proofs.PlaceLaws.{struct_at}
use Rattle.clause.proofs.StoreLaws.{stored_length, store_next, number_at}
use Rattle.clause.proofs.store.save.Goals as goal

pub loop-i-preserved : goal.loop-i-preserved
loop-i-preserved c =
    let a = c.args in
    let l = c.loop-i in
    let d = c.clause in
    let w = width d.inside.literals d.inside.len a.clause d.invariant d.view_is in
    let place = struct_at d.inside.literals d.inside.len a.clause l.i d.invariant d.view_is (omega arith) in
    store_next l.store (stored a.clause) _ l.i _ (omega (arith, stored_length a.clause w)) (number_at a.clause l.i c.requires.rising ∙ ap (λ x. (x + 1) % 65536) (sym place)) ∙ l.invariant

pub returns-clause-proper : goal.returns-clause-proper
returns-clause-proper c =
    let d = c.clause in
    record { rising = c.requires.rising; width = width d.inside.literals d.inside.len c.args.clause d.invariant d.view_is }
