-- The header's answer, its comparison with the left list's, and the rest's answer, put together (`ListLaws`).
use mathlib.Core.Path.{sym, ◌∙◌}
use Rattle.model.specs.Lists.{like_left}
use Rattle.netlist.proofs.ListLaws.{unlike_inputs, unlike_outputs, alike}
use Rattle.netlist.proofs.read_right.Goals as goal
use Rattle.netlist.proofs.read_right.Goals.{then-counts-due-via-then-counts-due, then-counts-due-via-else-counts-due+then-counts-due-2}

pub returns-then-counts-due : goal.returns-then-counts-due
returns-then-counts-due c =
    let a = c.args in
    let s = c.counts-due.ensures in
    let k = c.in_ok-counts in
    rw c.at.ensures
    (elim c.then-counts-due.branch [
      | then-counts-due-via-then-counts-due w ↦ unlike_inputs a.left.now a.middle k.counts k.body k.ensures (λ e. w.if-counts-due.true (e ∙ sym s.inputs))
      | then-counts-due-via-else-counts-due+then-counts-due-2 w ↦ unlike_outputs a.left.now a.middle k.counts k.body k.ensures (λ e. w.if-counts-due-2.true (e ∙ sym s.outputs))
    ])

pub returns : goal.returns
returns c =
    let a = c.args in
    let s = c.counts-due.ensures in
    let k = c.in_ok-counts in
    c.read_behind.ensures (like_left a.left.now) (alike a.left.now k.counts (c.if-counts-due.false ∙ s.inputs) (c.if-counts-due-2.false ∙ s.outputs))
