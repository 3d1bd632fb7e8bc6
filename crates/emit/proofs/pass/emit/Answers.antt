-- The gates' lines, and then those of the outputs, are the definition's (`PassLaws`).
use native.Mathlib.Omega.{arith}
use mathlib.Core.Path.{refl, ◌∙◌}
use Rattle.model.specs.Miter.{gates_of}
use Rattle.laws.specs.MiterOrder.{length_gates}
use Rattle.fold_laws.proofs.Entries.{length_table}
use Rattle.fold_laws.specs.Engine.{both_table}
use Rattle.table.specs.Rows.{HoldsTable}
use Rattle.table.proofs.RowLaws.{front}
use Rattle.emit.proofs.PassLaws.{known_first, emitted}
use borrow.Author.Rules.{rules}
use Rattle.emit.proofs.pass.emit.Goals as goal

pub returns : goal.returns
returns c h b =
    let p = c.args.pair.now in
    let ab = c.parts-parts.ensures.alike in
    let t = both_table p.left p.right in
    let n = length_table p.left.inputs (gates_of p.left p.right) in
    let m = length_gates p.left p.right ab in
    let k = c.clause_numbers-numbers.ensures in
    let counts = c.parts-parts.ensures.counts in
    let halves = c.split_at_mut-table.ensures in
    let table = c.split_at_mut-table.result.0.now in
    let rows : HoldsTable table t = front c.split_at_mut-table.result.1.now h halves.value (omega (arith, n, m, c.nets.ensures, counts.inputs, counts.left, counts.right, halves.front_len)) in
    let s = c.start_links in
    let first = known_first p.left p.right ab table s.new.links rows (rw counts.inputs at s.ensures) in
    let all = c.gates.ensures.done t first (omega (arith, n, m)) in
    emitted _ _ _ table _ t p.left p.right refl (omega (arith, k.last, k.behind)) all
    (c.outputs.ensures.adds t _ all.known (all.nets ∙ omega (arith, m))) b (search rules)
