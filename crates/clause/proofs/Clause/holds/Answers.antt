-- A place in use has the literal, or what is left behind it holds it, where what was left did (`holds_head`); behind the last nothing is left.
use Rattle.std.proofs.Common.{◌≡◌, ◌+◌, length, drop, sym, ap, ◌∙◌, arith}
use mathlib.Core.Bool.{or_assoc, or-false}
use lib.ListN.{drop_of_length-le, length-drop}
use lib.Seq.{drop-drop}
use borrow.Author.Tests.{le-ltb}
use Rattle.model.specs.Clauses.{holds}
use Rattle.clause.specs.Places.{same_length, width}
use Rattle.clause.proofs.InsertLaws.{holds_head}
use Rattle.clause.proofs.PlaceLaws.{struct_at}
use Rattle.clause.proofs.Clause.holds.Goals as goal
use Rattle.clause.proofs.Clause.holds.Goals.{then-i-self, else-i-self}

pub loop-i-preserved : goal.loop-i-preserved
loop-i-preserved c =
    let l = c.loop-i in
    let d = c.self in
    let all : length c.args.self ≡ d.inside.len = sym (ap length d.view_is) ∙ same_length d.inside.literals d.inside.len d.invariant in
    elim c.if-i-self.branch [
      | then-i-self w ↦
          let s = struct_at d.inside.literals d.inside.len c.args.self l.i d.invariant d.view_is (omega arith) in
          let e = holds_head c.args.l (drop l.i c.args.self) (omega (arith, length-drop l.i c.args.self)) in
          rw (w.met-is, or_assoc, s, ← drop-drop 1 l.i c.args.self, ← e) l.invariant
      | else-i-self w ↦
          let gone = drop_of_length-le c.args.self {i = l.i} (omega arith) in
          let next = drop_of_length-le c.args.self {i = l.i + 1} (omega arith) in
          rw (w.met-is, le-ltb l.i d.inside.len w.if-i-self.false, or_assoc, next, ← gone) l.invariant
    ]

pub returns : goal.returns
unfolding holds
returns c =
    let d = c.self in
    let all = width d.inside.literals d.inside.len c.args.self d.invariant d.view_is in
    let gone = drop_of_length-le c.args.self {i = c.loop-i.i} (omega arith) in
    sym (or-false c.loop-i.met) ∙ (rw gone at c.loop-i.invariant)
