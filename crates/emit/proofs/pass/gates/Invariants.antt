-- The invariant: the lines of the gates below i are written, and what is left of the loop makes up the whole (`PassLaws`).
use Prim.Native.Nat.{◌+◌, ◌*◌, ◌≤◌}
use mathlib.Core.Path.{◌≡◌}
use mathlib.Core.List.{List}
use lib.ListN.{length}
use Rattle.model.specs.Limits.{lines_per_gate}
use Rattle.fold_laws.specs.Table.{Entry}
use Rattle.emit_laws.specs.Emit.{start_links}
use Rattle.derivation.specs.Emission.{Few}
use Rattle.derivation.specs.Known.{Known}
use Rattle.emit.proofs.PassLaws.{UpTo}
use Rattle.emit.proofs.pass.gates.Given as goal

abbrev pub invariant-loop-i : goal.invariant-loop-i
invariant-loop-i l =
    (l.k ≤ 2 + 4 * l.i)
    × Few l.initial.proof (lines_per_gate * l.i) l.proof
    × ((t : List Entry) → Known l.table l.initial.links t (start_links l.pair.left.inputs)
    → length t ≡ 1 + l.pair.left.inputs + length l.pair.left.gates + length l.pair.right.gates → UpTo l.initial.proof l.proof l.table l.links t l.pair.left l.pair.right l.i l.k)
