-- A clause saved behind those that are there (`HeldLaws`).
use mathlib.Core.Path.{◌≡◌, ◌∙◌}
use mathlib.Core.List.{List, [], ◌∷◌, ◌++◌}
use Prim.Native.Nat.{◌+◌}
use native.Mathlib.Omega.{arith}
use lib.ListN.{length, length-append}
use borrow.Author.Rules.{rules}
use Rattle.model.specs.Clauses.{Clause}
use Rattle.steps.specs.Kept.{clauses_in, Held}
use Rattle.steps.proofs.HeldLaws.{held_saved, held_in, in_held, clauses_count}
use Rattle.steps.proofs.Proof.push.Goals as goal

pub save-requires : goal.save-requires
save-requires c = let k = c.args.self.now.kept in record { room = omega (arith, k.numbers_for_all, c.requires.0); rising = c.requires.1 }

pub invariant_of-self : goal.invariant_of-self
invariant_of-self c =
    let a = c.args in
    let p = a.self.now in
    let k = p.kept in
    let w = c.save in
    let l : length w.new.store ≡ length p.store.now = search rules in
    let held : Held w.new.store (clauses_in p.clauses p.store.now ++ (a.clause ∷ [])) = rw w.ensures.stores (held_saved p.store.now p.clauses a.clause k.held w.ensures.proper (omega (arith, k.numbers_for_all, c.requires.0))) in
    record {
      kept = record {
        held = held_in _ _ (p.clauses + 1) held (length-append (clauses_in p.clauses p.store.now) (a.clause ∷ []) ∙ omega (arith, clauses_count p.clauses p.store.now));
        numbers_for_all = omega (arith, l, k.numbers_for_all);
        most = k.most;
        in_room = omega (arith, c.requires.0);
        few_steps = omega (arith, k.few_steps);
        low_next = k.low_next;
      };
    }

pub returns-clause-state : goal.returns-clause-state
returns-clause-state c =
    let a = c.args in
    let p = a.self.now in
    let k = p.kept in
    let w = c.save in
    let held : Held w.new.store (clauses_in p.clauses p.store.now ++ (a.clause ∷ [])) = rw w.ensures.stores (held_saved p.store.now p.clauses a.clause k.held w.ensures.proper (omega (arith, k.numbers_for_all, c.requires.0))) in
    let cs : List Clause = clauses_in p.clauses p.store.now ++ (a.clause ∷ []) in
    let n : length cs ≡ p.clauses + 1 = length-append (clauses_in p.clauses p.store.now) (a.clause ∷ []) ∙ omega (arith, clauses_count p.clauses p.store.now) in
    let e : clauses_in (p.clauses + 1) w.new.store ≡ cs = in_held w.new.store cs (p.clauses + 1) held n in
    λ i. record { clauses = e i; next = p.next; steps = p.steps; empty = p.empty }
