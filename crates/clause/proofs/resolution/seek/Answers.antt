-- A place has the literal, or what is left behind it holds it, where what was left did (`holds_here`).
use Rattle.std.proofs.Common.{drop, refl, sym, arith}
use mathlib.Core.Bool.{or_assoc}
use lib.ListN.{drop_of_length-le}
use lib.Seq.{drop-drop}
use Rattle.model.specs.Clauses.{holds}
use Rattle.clause.proofs.SetLaws.{holds_here}
use Rattle.clause.proofs.resolution.seek.Goals as goal

pub loop-i-preserved : goal.loop-i-preserved
loop-i-preserved c d g =
    let l = c.loop-i in
    let e = holds_here c.args.l c.head.result (drop l.i d) (c.head.ensures d g) c.requires in
    rw (or_assoc, ← drop-drop 1 l.i d, ← e) (l.invariant d g)

pub returns-else-met : goal.returns-else-met
unfolding holds
returns-else-met c d g =
    let l = c.loop-i in
    let gone = drop_of_length-le d {i = l.i} (omega (arith, g.proper.width)) in
    (sym (rw (c.if-met.false, gone) at (l.invariant d g)), refl)
