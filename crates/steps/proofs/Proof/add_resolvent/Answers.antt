-- Both numbers are tested, then the step on the two clauses answers for 10, 11 and the resolvent (`StepLaws`).
use mathlib.Core.Path.{◌≡◌, sym, ◌∙◌}
use Rattle.std.proofs.lemmas.Result.{err_from_is_err_and}
use Rattle.steps.specs.Kept.{clauses_in}
use Rattle.steps.specs.Proofs.{state_of}
use Rattle.steps.proofs.HeldLaws.{clauses_count}
use native.Mathlib.Omega.{arith}
use lib.ListN.{length, length-append}
use borrow.Author.Rules.{rules}
use mathlib.Core.Path.{ap}
use mathlib.Core.Bool.{true}
use mathlib.Core.List.{[], ◌∷◌, ◌++◌}
use Prim.Native.Nat.{◌+◌}
use Rattle.model.specs.Answers.Answer.{ok}
use Rattle.model.specs.Steps.{State, is_clause}
use Rattle.steps.proofs.StepLaws.{full, joins, joins_to, rising_at, resolvent_rising, first_missing, second_missing, step_on, number}
use Rattle.steps.proofs.Proof.add_resolvent.Goals as goal

pub returns-then-not-is_clause-clause-step : goal.returns-then-not-is_clause-clause-step
returns-then-not-is_clause-clause-step c line =
    let a = c.args in
    let p = a.self.now in
    sym (first_missing p.room line (state_of p) a.a a.b a.v (rw (clauses_count p.clauses p.store.now) (sym c.is_clause.ensures ∙ c.if-not-is_clause.true)))

pub returns-then-not-is_clause-2-clause-step : goal.returns-then-not-is_clause-2-clause-step
returns-then-not-is_clause-2-clause-step c line =
    let a = c.args in
    let p = a.self.now in
    sym (second_missing p.room line (state_of p) a.a a.b a.v (rw (clauses_count p.clauses p.store.now) (sym c.is_clause-2.ensures ∙ c.if-not-is_clause-2.true)))

pub resolve_at-requires : goal.resolve_at-requires
resolve_at-requires c =
    let a = c.args in
    let p = a.self.now in
    let first = number p.clauses a.a (sym c.is_clause.ensures ∙ c.if-not-is_clause.false) in
    let second = number p.clauses a.b (sym c.is_clause-2.ensures ∙ c.if-not-is_clause-2.false) in
    (omega (arith, first), omega (arith, second))

pub returns-in_err-resolvent-clause-step : goal.returns-in_err-resolvent-clause-step
returns-in_err-resolvent-clause-step c line =
    let a = c.args in
    let p = a.self.now in
    let n = clauses_count p.clauses p.store.now in
    let first : is_clause (state_of p).clauses a.a ≡ true = rw n (sym c.is_clause.ensures ∙ c.if-not-is_clause.false) in
    let second : is_clause (state_of p).clauses a.b ≡ true = rw n (sym c.is_clause-2.ensures ∙ c.if-not-is_clause-2.false) in
    let r = err_from_is_err_and c.from_residual.result c.from_residual.ensures.1 in
    rw (r.1, r.2) (sym (step_on p.room line (state_of p) a.a a.b a.v first second _ (c.in_err-resolvent.ensures line)))

pub returns-then-self-clause-step : goal.returns-then-self-clause-step
returns-then-self-clause-step c line =
    let a = c.args in
    let p = a.self.now in
    let n = clauses_count p.clauses p.store.now in
    let first : is_clause (state_of p).clauses a.a ≡ true = rw n (sym c.is_clause.ensures ∙ c.if-not-is_clause.false) in
    let second : is_clause (state_of p).clauses a.b ≡ true = rw n (sym c.is_clause-2.ensures ∙ c.if-not-is_clause-2.false) in
    sym (step_on p.room line (state_of p) a.a a.b a.v first second _ (c.in_ok-resolvent.ensures line)
    ∙ full p.room line (state_of p) c.in_ok-resolvent.resolvent (omega (arith, n)))

pub push-requires : goal.push-requires
push-requires c =
    let a = c.args in
    let p = a.self.now in
    let n = clauses_count p.clauses p.store.now in
    let first : is_clause (state_of p).clauses a.a ≡ true = rw n (sym c.is_clause.ensures ∙ c.if-not-is_clause.false) in
    let second : is_clause (state_of p).clauses a.b ≡ true = rw n (sym c.is_clause-2.ensures ∙ c.if-not-is_clause-2.false) in (
      omega (arith, p.kept.in_room),
      resolvent_rising _ _ _ _ 0 (rising_at _ a.a p.kept.held.proper first) (rising_at _ a.b p.kept.held.proper second) (c.in_ok-resolvent.ensures 0),
    )

pub invariant_of-self : goal.invariant_of-self
invariant_of-self c =
    let p = c.args.self.now in
    let d = c.push.new.self in
    let k = d.kept in
    let e = c.push.ensures.state in
    let r = c.in_ok-resolvent.resolvent in
    let steps : d.steps ≡ p.steps = ap (λ (s : State). s.steps) e in
    let cs : clauses_in d.clauses d.store.now ≡ clauses_in p.clauses p.store.now ++ (r ∷ []) = ap (λ (s : State). s.clauses) e in
    let count : d.clauses ≡ p.clauses + 1 =
    sym (clauses_count d.clauses d.store.now) ∙ ap length cs ∙ length-append (clauses_in p.clauses p.store.now) (r ∷ []) ∙ omega (arith, clauses_count p.clauses p.store.now) in
    record {
      kept = record {
        held = k.held;
        numbers_for_all = k.numbers_for_all;
        most = k.most;
        in_room = k.in_room;
        few_steps = omega (arith, steps, count, p.kept.few_steps);
        low_next = k.low_next;
      };
    }

pub returns-clause-step : goal.returns-clause-step
returns-clause-step c line =
    let a = c.args in
    let p = a.self.now in
    let d = c.push.new.self in
    let n = clauses_count p.clauses p.store.now in
    let r = c.in_ok-resolvent.resolvent in
    let first : is_clause (state_of p).clauses a.a ≡ true = rw n (sym c.is_clause.ensures ∙ c.if-not-is_clause.false) in
    let second : is_clause (state_of p).clauses a.b ≡ true = rw n (sym c.is_clause-2.ensures ∙ c.if-not-is_clause-2.false) in
    ap ok (joins_to r (state_of p) (state_of d) _ (search rules) c.push.ensures.state)
    ∙ sym (step_on p.room line (state_of p) a.a a.b a.v first second _ (c.in_ok-resolvent.ensures line)
    ∙ joins p.room line (state_of p) r (omega (arith, n, p.kept.in_room)))
