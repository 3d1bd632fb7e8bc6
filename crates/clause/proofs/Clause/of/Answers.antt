-- One literal more is put in (`of_more`); a clause of literals rises, and has at most as many as these are.
use Rattle.std.proofs.Common.{◌≡◌, refl, ap, ◌∙◌, length, take, rules, arith}
use Rattle.model.specs.Clauses.{join, insert}
use Rattle.clause.specs.Sets.{codes}
use Rattle.clause.proofs.SetLaws.{ascending_clause}
use Rattle.clause.proofs.InsertLaws.{of_length, of_more}
use Rattle.clause.proofs.Clause.of.Goals as goal

pub loop-l-init : goal.loop-l-init
unfolding join
loop-l-init g c = refl

pub insert-requires-clause-room : goal.insert-requires-clause-room
insert-requires-clause-room g c = omega (arith, ap length c.loop-l.invariant, of_length c.args.literals c.loop-l.l-index)

pub insert-requires-clause-ascending : goal.insert-requires-clause-ascending
insert-requires-clause-ascending g c = rw c.loop-l.invariant (ascending_clause (codes (take c.loop-l.l-index c.args.literals)))

pub loop-l-preserved : goal.loop-l-preserved
loop-l-preserved g c =
    let n : length c.args.literals ≡ g.row.N = search rules in
    c.insert.ensures ∙ ap (insert _) c.loop-l.invariant ∙ of_more c.args.literals c.loop-l.l-index _ (omega arith)
