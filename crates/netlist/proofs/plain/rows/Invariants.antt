-- The invariant: the rows before i stand, and what is left begins behind them.
use Prim.Native.Nat.{ℕ, ◌*◌, ◌<◌}
use mathlib.Core.Path.{◌≡◌}
use mathlib.Core.Bool.{true}
use lib.ListN.{drop}
use Rattle.netlist.specs.Plain.{At}
use Rattle.netlist.proofs.plain.rows.Given as goal

abbrev pub invariant-loop-i : goal.invariant-loop-i
invariant-loop-i g l = (l.rest ≡ drop (l.bytes * l.i) l.text) × ((j : ℕ) → j < l.i → At (goal.F-post g l.stands) l.bytes l.text j true)
