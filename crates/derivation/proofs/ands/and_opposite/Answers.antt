-- The two clauses over the representatives, and their resolvent; the complement stands for true and has no link.
use native.Mathlib.Omega.{arith}
use Rattle.emit_laws.specs.CaseTrees.{and_trees}
use Rattle.derivation.proofs.EmitLaws.{emits_old, emits_cut, emits_two}
use Rattle.derivation.proofs.ands.and_opposite.Goals as goal

pub returns-clause-emits : goal.returns-clause-emits
unfolding and_trees
returns-clause-emits c =
    λ t links k h.
    emits_two
    (emits_cut (c.subst2-first.ensures.emits t links k h.x h.x) (c.subst2-second.ensures.emits t links k h.y h.y) (rw (c.representative.ensures t k.rows (omega arith)) at c.resolve-down.ensures.emits))
    (emits_old _ 0)
