-- The invariant: the outputs before i were emitted, and with what is left they make up the tree of all (`OutputLaws`).
use Prim.Native.Nat.{◌+◌, ◌*◌, ◌-◌, ◌≤◌}
use mathlib.Core.Path.{◌≡◌}
use lib.ListN.{length}
use Rattle.model.specs.Miter.{z_gates}
use Rattle.fold_laws.specs.Table.{rep_of}
use Rattle.emit_laws.specs.Trees.{Tree}
use Rattle.emit_laws.specs.Gates.{link_of}
use Rattle.derivation.specs.declared.lines.Proof.{Proof}
use Rattle.derivation.specs.Emission.{Few}
use Rattle.derivation.specs.Known.{OfNets}
use Rattle.emit.proofs.OutputLaws.{UpTo}
use Rattle.emit.proofs.outputs.outputs.Given as goal

abbrev pub invariant-loop-i : goal.invariant-loop-i
invariant-loop-i l =
    let a = l.pair.left in
    let b = l.pair.right in
    let k = l.numbers in
    (l.w ≤ l.first_w + l.i)
    × Few l.initial.proof (7 * (l.i - 1)) l.proof
    × OfNets l.nets (λ t links. length links ≡ 1 + a.inputs + length a.gates + length b.gates
    → (s : Proof) (whole : Tree)
    → UpTo (rep_of t) (link_of links) (z_gates a b) l.first_w k.first_w l.z k.first_z k.last s whole l.initial.i l.initial.proof l.initial.run l.initial.w
    → UpTo (rep_of t) (link_of links) (z_gates a b) l.first_w k.first_w l.z k.first_z k.last s whole l.i l.proof l.run l.w)
