-- The invariant: so many inputs are stored, and what is left of the pattern has the bits behind theirs (`Stored`).
use Prim.Native.Nat.{◌+◌, ◌≤◌}
use mathlib.Core.Path.{◌≡◌}
use lib.ListN.{length}
use Rattle.values.proofs.BitLaws.{Stored}
use Rattle.values.proofs.set_inputs.Given as goal

abbrev pub invariant-loop-k : goal.invariant-loop-k
invariant-loop-k l = (l.k ≤ l.inputs) × (length l.values ≡ length l.initial.values) × (1 + l.inputs ≤ length l.values) × Stored l.values l.pattern l.k l.rest
