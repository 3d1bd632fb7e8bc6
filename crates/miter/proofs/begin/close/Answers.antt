-- Without room for the last clause it is 8; else the miter is whole (`BeginLaws`).
use Prim.Native.Nat.{◌+◌}
use mathlib.Core.Path.{◌≡◌, ap, sym, ◌∙◌}
use mathlib.Core.List.{[], ◌∷◌}
use native.Mathlib.Omega.{arith}
use lib.ListN.{length}
use Rattle.model.specs.Answers.Answer.{ok}
use Rattle.model.specs.Miter.{miter_gates}
use Rattle.steps.specs.Proofs.{state_of}
use Rattle.miter.specs.Miters.{gates_up_to}
use Rattle.miter.proofs.BeginLaws.{unit_clause, unit_proper, begin_short, begins, begins_with, counted, last_put}
use Rattle.miter.proofs.begin.close.Goals as goal

pub returns-then-proof-clause-begins : goal.returns-then-proof-clause-begins
returns-then-proof-clause-begins c a b e v =
    let p = c.args.proof.now in
    rw c.at.ensures (sym (begin_short p.room a b p.clauses (counted p _ e) (omega arith)))

pub push-requires : goal.push-requires
push-requires c =
    let l = c.positive.result.code in
    (omega (arith, c.args.proof.now.kept.in_room), rw (c.of.ensures, unit_clause l) (unit_proper l (omega (arith, c.positive.ensures, c.requires))).rising)

pub returns-clause-begins : goal.returns-clause-begins
returns-clause-begins c a b e v =
    let p = c.args.proof.now in
    let l = c.positive.result.code in
    let u : c.of.result ≡ l ∷ [] = c.of.ensures ∙ unit_clause l in
    ap ok (c.use_variables.ensures.state ∙ last_put (state_of p) (state_of c.push.new.self) (gates_up_to a b (length (miter_gates a b))) _ l (c.args.last + 1) e c.push.ensures.state u
    ∙ begins_with a b c.args.last l c.positive.ensures v)
    ∙ sym (begins p.room a b p.clauses (counted p _ e) (omega (arith, p.kept.in_room)))
