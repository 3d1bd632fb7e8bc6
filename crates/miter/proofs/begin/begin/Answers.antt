-- The first clause, those of every variable, the last one: each contract takes up where the one before ends, and every way out is 8 or the
-- state before the first step (`BeginLaws`).
use Prim.Native.Nat.{ℕ}
use mathlib.Core.Path.{ap, sym, ◌∙◌}
use mathlib.Core.List.{[], ◌∷◌, ◌++◌}
use native.Mathlib.Omega.{arith}
use Rattle.std.proofs.lemmas.Result.{err_from_is_err_and}
use Rattle.model.specs.Clauses.{Clause}
use Rattle.model.specs.Steps.{State}
use Rattle.steps.specs.Proofs.{state_of}
use Rattle.miter.specs.Miters.{begin_of}
use Rattle.miter.proofs.MiterLaws.{gate_total}
use Rattle.miter.proofs.BeginLaws.{unit_clause, unit_proper, counted, all_put, variables_are, all_short, no_space}
use Rattle.miter.proofs.begin.begin.Goals as goal

pub returns-then-proof-eq0-clause-begins : goal.returns-then-proof-eq0-clause-begins
returns-then-proof-eq0-clause-begins c = rw c.at.ensures (sym (no_space c.args.proof.now.room _ _ (omega arith)))

pub push-requires : goal.push-requires
push-requires c =
    let l = c.negative.result.code in
    let none = counted c.args.proof.now _ c.requires in
    (omega (arith, none, c.if-proof-eq0.false), rw (c.of.ensures, unit_clause l) (unit_proper l (omega (arith, c.negative.ensures))).rising)

pub write_variables-requires : goal.write_variables-requires
write_variables-requires c =
    let l = c.negative.result.code in
    let first = c.of.ensures ∙ unit_clause l ∙ ap (λ (x : ℕ). x ∷ []) c.negative.ensures in
    ap (λ (s : State). s.clauses) c.push.ensures.state ∙ ap (λ (s : State). s.clauses ++ (c.of.result ∷ [])) c.requires ∙ ap (λ (d : Clause). d ∷ []) first

pub returns-in_err-write_variables-clause-begins : goal.returns-in_err-write_variables-clause-begins
returns-in_err-write_variables-clause-begins c =
    let p = err_from_is_err_and c.from_residual.result c.from_residual.ensures.1 in
    let short = c.in_err-write_variables.ensures.fills in
    rw (p.1, p.2, short.0) (sym (all_short c.parts.ensures.alike c.args.proof.now.room (omega (arith, short.1, c.push.ensures.place.1))))

pub returns-clause-begins : goal.returns-clause-begins
returns-clause-begins c =
    let l = c.args.pair.now in
    let ab = c.parts.ensures.alike in
    let n = c.parts.ensures.counts in
    let room = c.write_variables.ensures.place.1 ∙ c.push.ensures.place.1 in
    let fills = rw (sym (gate_total ab)) at c.in_ok-write_variables.ensures.fills in
    let all = all_put (state_of c.args.proof.now) (state_of c.push.new.self) (state_of c.write_variables.new.proof) _ _ c.requires c.push.ensures.state fills in
    c.close.ensures.begins l.left l.right all (variables_are ab _ (omega (arith, c.variables-last.ensures, n.inputs, n.left, n.right, n.outputs))) ∙ ap (λ (k : ℕ). begin_of k l.left l.right) room
