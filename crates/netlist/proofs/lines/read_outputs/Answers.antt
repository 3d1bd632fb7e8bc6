-- The row, and the refusal of the line that ends it; or the row is all (`LoopLaws`).
use native.Mathlib.Omega.{arith}
use Rattle.std.proofs.Common.{rules}
use Rattle.netlist.proofs.LoopLaws.{outputs_refuse}
use Rattle.netlist.proofs.PlainLaws.{outputs_known, output_stop, all_outputs, refused_at, output_refused}
use Rattle.netlist.proofs.lines.read_outputs.Goals as goal

pub past-next-requires : goal.past-next-requires
past-next-requires c =
    let a = c.args in
    (omega arith, (outputs_known a.cursor.rest.now a.nets a.count c.rows-known.result c.rows-known.ensures (λ s j r p. search rules)).0)

pub returns-then-known-count : goal.returns-then-known-count
returns-then-known-count c =
    let a = c.args in
    let known = c.rows-known in
    let row = outputs_known a.cursor.rest.now a.nets a.count known.result known.ensures (λ s j r p. search rules) in
    let stop = output_stop a.cursor.rest.now a.nets a.count known.result known.ensures (λ s j r p. search rules) c.if-known-count.true in
    outputs_refuse _ a.cursor.line a.nets a.count known.result _ _ (row.1 a.cursor.line) c.if-known-count.true c.refuse.result
    (output_refused _ _ (λ f r p. search rules) stop c.refuse.result (refused_at c.past-next.result c.past-next.ensures c.refuse.ensures))

pub returns : goal.returns
returns c =
    let a = c.args in
    let known = c.rows-known in
    let row = outputs_known a.cursor.rest.now a.nets a.count known.result known.ensures (λ s j r p. search rules) in
    rw (c.past-next.ensures.0, c.past-next.ensures.1) (all_outputs _ _ _ _ (omega (arith, known.ensures.few)) (row.1 a.cursor.line))
