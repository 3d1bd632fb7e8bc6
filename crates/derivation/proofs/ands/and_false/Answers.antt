-- The link of the gate; its complement stands for true and has none.
use native.Mathlib.Omega.{arith}
use Rattle.emit_laws.specs.CaseTrees.{and_trees}
use Rattle.derivation.proofs.EmitLaws.{emits_old, emits_two}
use Rattle.derivation.proofs.ands.and_false.Goals as goal

pub returns-clause-emits : goal.returns-clause-emits
unfolding and_trees
returns-clause-emits c =
    λ t links k h. emits_two (c.link2-down.ensures.emits t links k (omega arith) h.x h.x) (emits_old _ 0)
