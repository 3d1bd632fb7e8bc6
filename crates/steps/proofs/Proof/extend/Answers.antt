-- Each return is the definition's own case, in the same order (`StepLaws`).
use Prim.Native.Nat.{◌+◌}
use mathlib.Core.Path.{◌≡◌, ap, sym, ◌∙◌}
use native.Mathlib.Omega.{arith}
use lib.ListN.{length, length-append}
use Rattle.model.specs.Answers.Answer.{ok}
use Rattle.model.specs.Clauses.{positive}
use Rattle.model.specs.Steps.{State}
use Rattle.steps.specs.Kept.{clauses_of, clauses_in}
use Rattle.steps.specs.Proofs.{state_of}
use mathlib.Core.List.{◌++◌}
use Rattle.steps.proofs.HeldLaws.{clauses_count}
use Rattle.steps.proofs.StepLaws.{few, first_unused, second_unused, no_variable, no_space, extends, extends_to}
use Rattle.steps.proofs.Proof.extend.Goals as goal

pub returns-then-self-variable-clause-step : goal.returns-then-self-variable-clause-step
returns-then-self-variable-clause-step c =
    let a = c.args in
    rw c.at.ensures (sym (first_unused a.self.now.room a.line (state_of a.self.now) a.op a.x a.y (omega arith)))

pub returns-then-self-variable-2-clause-step : goal.returns-then-self-variable-2-clause-step
returns-then-self-variable-2-clause-step c =
    let a = c.args in
    rw c.at-then-self-variable-2.ensures (sym (second_unused a.self.now.room a.line (state_of a.self.now) a.op a.x a.y (omega arith)))

pub returns-then-self-gt-HIGHEST_VARIABLE-clause-step : goal.returns-then-self-gt-HIGHEST_VARIABLE-clause-step
returns-then-self-gt-HIGHEST_VARIABLE-clause-step c =
    let a = c.args in
    rw c.at-then-self-gt-HIGHEST_VARIABLE.ensures (sym (no_variable a.self.now.room a.line (state_of a.self.now) a.op a.x a.y (omega arith) (omega arith) (omega arith)))

pub overflow_add-self : goal.overflow_add-self
overflow_add-self c =
    let a = c.args in
    let k = a.self.now.kept in
    omega (arith, c.clause_count.ensures 0 a.x a.y, (few a.op 0 a.x a.y).1, k.in_room, k.most)

pub returns-then-self-clause_count-clause-step : goal.returns-then-self-clause_count-clause-step
returns-then-self-clause_count-clause-step c =
    let a = c.args in
    let p = a.self.now in
    rw c.at-then-self-clause_count.ensures (sym (no_space p.room a.line (state_of p) a.op a.x a.y (omega arith) (omega arith) (omega arith)
    (omega (arith, clauses_count p.clauses p.store.now, c.clause_count.ensures (positive p.next) a.x a.y))))

pub define-requires : goal.define-requires
define-requires c =
    let a = c.args in
    let e = c.clause_count.ensures c.positive.result.code c.from-left.result.code c.from-right.result.code in
    record {
      room = omega (arith, e);
      low = record { low_n = omega (arith, c.positive.ensures); low_x = omega (arith, c.from-left.ensures, c); low_y = omega (arith, c.from-right.ensures, c) };
    }

pub invariant_of-self : goal.invariant_of-self
invariant_of-self c =
    let a = c.args in
    let p = a.self.now in
    let d = c.define.new.self in
    let k = d.kept in
    let e = c.define.ensures.state in
    let x = c.from-left.result.code in
    let y = c.from-right.result.code in
    let n = c.positive.result.code in
    let cs : clauses_in d.clauses d.store.now ≡ clauses_in p.clauses p.store.now ++ clauses_of a.op n x y = ap (λ (s : State). s.clauses) e in
    let steps : d.steps ≡ p.steps = ap (λ (s : State). s.steps) e in
    let next : d.next ≡ p.next = ap (λ (s : State). s.next) e in
    let count : d.clauses ≡ p.clauses + length (clauses_of a.op n x y) =
    sym (clauses_count d.clauses d.store.now) ∙ ap length cs ∙ length-append (clauses_in p.clauses p.store.now) (clauses_of a.op n x y) ∙ omega (arith, clauses_count p.clauses p.store.now) in
    record {
      kept = record {
        held = k.held;
        numbers_for_all = k.numbers_for_all;
        most = k.most;
        in_room = k.in_room;
        few_steps = omega (arith, steps, count, (few a.op n x y).0, p.kept.few_steps);
        low_next = omega (arith, next);
      };
    }

pub returns-clause-step : goal.returns-clause-step
returns-clause-step c =
    let a = c.args in
    let p = a.self.now in
    let d = c.define.new.self in
    let n = c.positive.result.code in
    let e = rw (c.from-left.ensures, c.from-right.ensures) at c.define.ensures.state in
    ap ok (extends_to a.op a.x a.y n (state_of p) (state_of d) c.positive.ensures e)
    ∙ sym (extends p.room a.line (state_of p) a.op a.x a.y (omega arith) (omega arith) (omega arith)
    (omega (arith, clauses_count p.clauses p.store.now, c.clause_count.ensures (positive p.next) a.x a.y)))
