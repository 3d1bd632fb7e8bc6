-- The invariant: the bytes hold the nets once the list's first k gates have run (`after`). Each gate reads nets below its own, so its literals have
-- the values of the definition (`gate_stored`).
use Prim.Native.Nat.{ℕ, ◌≤◌}
use mathlib.Core.Path.{◌≡◌}
use lib.ListN.{length}
use Rattle.model.specs.Nets.{start}
use Rattle.laws.specs.Growing.{after}
use Rattle.laws.specs.Values.{truths, gate_over}
use Rattle.values.specs.Values.{HoldsValues}
use Rattle.values.proofs.run_gates.Given as goal

abbrev pub invariant-loop-k : goal.invariant-loop-k
invariant-loop-k l =
    (l.k ≤ length l.list.gates)
    × (length l.values ≡ length l.initial.values)
    × ((p : ℕ) → HoldsValues l.initial.values (start l.list.inputs p) → HoldsValues l.values (after (gate_over truths) (start l.list.inputs p) l.list.gates l.k))
