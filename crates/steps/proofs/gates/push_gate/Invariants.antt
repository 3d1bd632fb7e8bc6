-- The invariant: the store holds the clauses from before and the first j of the gate's (`HeldLaws`).
use Prim.Native.Nat.{◌≤◌}
use mathlib.Core.Path.{◌≡◌}
use mathlib.Core.List.{List, ◌++◌}
use lib.ListN.{length, take}
use Rattle.model.specs.Clauses.{Clause}
use Rattle.steps.specs.Kept.{Held}
use Rattle.steps.specs.Gates.{clauses_for}
use Rattle.steps.proofs.gates.push_gate.Given as goal

abbrev pub invariant-loop-j : goal.invariant-loop-j
invariant-loop-j l =
    (l.j ≤ l.total)
    × (length l.store ≡ length l.initial.store)
    × ((cs : List Clause) → Held l.initial.store cs → length cs ≡ l.count → Held l.store (cs ++ take l.j (clauses_for l.d)))
