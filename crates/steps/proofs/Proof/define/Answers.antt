-- A gate's clauses written behind those that are there (`HeldLaws`).
use mathlib.Core.Path.{◌≡◌, ◌∙◌}
use mathlib.Core.List.{List, ◌++◌}
use native.Mathlib.Omega.{arith}
use borrow.Author.Rules.{rules}
use lib.ListN.{length, length-append}
use Rattle.model.specs.Clauses.{Clause}
use Rattle.steps.specs.Kept.{clauses_in}
use Rattle.steps.specs.Gates.{clauses_for}
use Rattle.steps.proofs.HeldLaws.{held_in, in_held, clauses_count}
use Rattle.steps.proofs.Proof.define.Goals as goal

pub push_gate-self-requires : goal.push_gate-self-requires
push_gate-self-requires c =
    let k = c.args.self.now.kept in
    record {
      numbers_for_all = omega (arith, k.numbers_for_all, c.requires.room);
      few = omega (arith, k.most, k.in_room);
      low = c.requires.low;
    }

pub invariant_of-self : goal.invariant_of-self
invariant_of-self c =
    let a = c.args in
    let p = a.self.now in
    let k = p.kept in
    let g = c.push_gate-self in
    let l : length g.new.store ≡ length p.store.now = search rules in
    let ds : List Clause = clauses_for a.d in
    let n : length (clauses_in p.clauses p.store.now ++ ds) ≡ g.result = length-append (clauses_in p.clauses p.store.now) ds ∙ omega (arith, clauses_count p.clauses p.store.now, g.ensures.0) in
    record {
      kept = record {
        held = held_in _ _ g.result (g.ensures.1 (clauses_in p.clauses p.store.now) k.held (clauses_count p.clauses p.store.now)) n;
        numbers_for_all = omega (arith, l, k.numbers_for_all);
        most = k.most;
        in_room = omega (arith, g.ensures.0, c.requires.room);
        few_steps = omega (arith, g.ensures.0, k.few_steps);
        low_next = k.low_next;
      };
    }

pub returns-clause-state : goal.returns-clause-state
returns-clause-state c =
    let a = c.args in
    let p = a.self.now in
    let k = p.kept in
    let g = c.push_gate-self in
    let ds : List Clause = clauses_for a.d in
    let cs : List Clause = clauses_in p.clauses p.store.now ++ ds in
    let n : length cs ≡ g.result = length-append (clauses_in p.clauses p.store.now) ds ∙ omega (arith, clauses_count p.clauses p.store.now, g.ensures.0) in
    let e : clauses_in g.result g.new.store ≡ cs = in_held g.new.store cs g.result (g.ensures.1 (clauses_in p.clauses p.store.now) k.held (clauses_count p.clauses p.store.now)) n in
    λ i. record { clauses = e i; next = p.next; steps = p.steps; empty = p.empty }
