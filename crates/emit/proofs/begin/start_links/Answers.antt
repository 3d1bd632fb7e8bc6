-- The invariant: the numbers of net 0 and of the inputs below k stand.
use Prim.Native.Nat.{ℕ}
use mathlib.Core.Path.{refl}
use mathlib.Core.List.{List, [], ◌∷◌}
use native.Mathlib.Omega.{arith}
use lib.ListN.{length-replicate}
use Rattle.emit_laws.specs.Emit.{start_links}
use Rattle.emit.proofs.BeginLaws.{keeps_none, start_more}
use Rattle.emit.proofs.begin.start_links.Goals as goal

pub loop-k-init : goal.loop-k-init
loop-k-init c = c.keep.ensures [] (1 ∷ 0 ∷ []) (keeps_none c.args.links.now) refl refl

pub loop-k-preserved : goal.loop-k-preserved
loop-k-preserved c =
    let l = c.loop-k in
    rw (start_more l.k) at (c.keep-in-loop-k.ensures (start_links l.k) [] l.invariant (omega (arith, length-replicate {A = List ℕ} l.k [])) refl)
