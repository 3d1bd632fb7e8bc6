-- The two clauses are parts of the store, which has them there as they are stored (`held_stored`).
use native.Mathlib.Omega.{arith}
use Rattle.steps.specs.Kept.{clauses_in}
use Rattle.steps.proofs.HeldLaws.{bounds, held_stored, clauses_count}
use Rattle.steps.proofs.Proof.resolve_at.Goals as goal

pub returns : goal.returns
returns c line =
    let a = c.args in
    let p = a.self.now in
    let r = c.requires in
    let k = p.kept in
    let answers = rw (bounds a.a, bounds a.b) at c.resolve.ensures in
    answers _ _ line (held_stored p.store.now (clauses_in p.clauses p.store.now) k.held a.a (omega (arith, clauses_count p.clauses p.store.now, r.0)))
    (held_stored p.store.now (clauses_in p.clauses p.store.now) k.held a.b (omega (arith, clauses_count p.clauses p.store.now, r.1)))
