-- One number more of the row is put in (`store_next`).
use Rattle.std.proofs.Common.{refl, ◌∙◌, arith}
use Rattle.clause.proofs.StoreLaws.{store_next}
use Rattle.table.proofs.rows.enter.Goals as goal

pub loop-i-preserved : goal.loop-i-preserved
loop-i-preserved c =
    let l = c.loop-i in
    store_next l.work _ _ l.i _ (omega arith) refl ∙ l.invariant
