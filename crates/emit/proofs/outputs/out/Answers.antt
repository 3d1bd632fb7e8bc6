-- By the representative of x, the lines are those of the tree's case (`OutputLaws`).
use Rattle.model.specs.Clauses.{neg}
use mathlib.Core.Path.{◌≡◌, ◌∙◌}
use native.Mathlib.Omega.{arith}
use Rattle.emit_laws.specs.Gates.{link_of}
use Rattle.fold_laws.specs.Table.{rep_of}
use Rattle.derivation.proofs.EmitLaws.{emits_cut}
use Rattle.emit.proofs.OutputLaws.{out_false, out_true, out_both}
use Rattle.emit.proofs.outputs.out.Goals as goal

pub returns-then-eq-clause-emits : goal.returns-then-eq-clause-emits
returns-then-eq-clause-emits c t links known hx hy =
    let a = c.args in
    let x = c.from-left.ensures in
    let not_x : c.complement-not_x.result.code ≡ neg a.x = c.complement-not_x.ensures ∙ rw x in
    let not_y : c.complement-not_y.result.code ≡ neg a.y = c.complement-not_y.ensures ∙ rw c.from-right.ensures in
    let e : c.representative-p.result.code ≡ rep_of t a.x = rw x at (c.representative-p.ensures t known.rows (omega (arith, x, known.nets))) in
    rw (← out_true (rep_of t) (link_of links) a.k a.x a.y (rw (← e) (grind arith)) not_x not_y)
    (c.subst2.ensures.emits t links known (omega (arith, not_x)) (omega (arith, not_y)))

pub returns-then-eq-2-clause-emits : goal.returns-then-eq-2-clause-emits
returns-then-eq-2-clause-emits c t links known hx hy =
    let a = c.args in
    let x = c.from-left.ensures in
    let y = c.from-right.ensures in
    let e : c.representative-p.result.code ≡ rep_of t a.x = rw x at (c.representative-p.ensures t known.rows (omega (arith, x, known.nets))) in
    rw (← out_false (rep_of t) (link_of links) a.k a.x a.y (rw (← e) (grind arith)))
    (rw (x, y) at (c.subst2-first.ensures.emits t links known (rw x hx) (rw y hy)))

pub returns-clause-emits : goal.returns-clause-emits
returns-clause-emits c t links known hx hy =
    let a = c.args in
    let y = c.from-right.ensures in
    let x = c.from-left.ensures in
    let not_x : c.complement-not_x.result.code ≡ neg a.x = c.complement-not_x.ensures ∙ rw x in
    let not_y : c.complement-not_y.result.code ≡ neg a.y = c.complement-not_y.ensures ∙ rw y in
    let e : c.representative-p.result.code ≡ rep_of t a.x = rw x at (c.representative-p.ensures t known.rows (omega (arith, x, known.nets))) in
    rw (← out_both (rep_of t) (link_of links) a.k a.x a.y (λ r. grind (arith, e, r)) (λ r. grind (arith, e, r)) not_x not_y, ← e)
    (emits_cut (rw (x, y) at (c.subst2-first.ensures.emits t links known (rw x hx) (rw y hy)))
    (c.subst2-fourth.ensures.emits t links known (omega (arith, not_x)) (omega (arith, not_y)))
    c.resolve.ensures.emits)
