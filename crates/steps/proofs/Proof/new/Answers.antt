-- Before the first clause nothing is there.
use mathlib.Core.Path.{refl}
use native.Mathlib.Omega.{arith}
use Rattle.steps.specs.Kept.{clauses_in}
use Rattle.steps.proofs.HeldLaws.{none_held}
use Rattle.steps.proofs.Proof.new.Goals as goal

pub invariant_of-result : goal.invariant_of-result
invariant_of-result c =
    record {
      kept = record {
        held = none_held c.args.store.now;
        numbers_for_all = c.requires.0;
        most = c.requires.1;
        in_room = omega arith;
        few_steps = omega arith;
        low_next = omega arith;
      };
    }

pub returns-clause-state : goal.returns-clause-state
unfolding clauses_in
returns-clause-state c = refl
