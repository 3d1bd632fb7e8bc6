-- The invariant: the walk along the chain has come to `next` (`Walk`).
use Rattle.std.proofs.Common.{◌≡◌, ℕ, ◌-◌, ◌≤◌, suc, sym, ap, ◌∙◌, arith}
use Rattle.std.specs.Prelude.{Option}
use Rattle.std.specs.Option.{unwrap_or}
use Rattle.fold_laws.specs.Table as model
use Rattle.table.specs.Buckets.{after}
use Rattle.table.proofs.RowLaws.{search_next, search_here}
use Rattle.table.proofs.BucketLaws.{Walk, walk_begins, walk_on, found_is}
use Rattle.table.proofs.buckets.find.Goals as goal
use Rattle.table.proofs.buckets.find.Goals.{then-fits, else-fits}

pub loop-next-init : goal.loop-next-init
loop-next-init c =
    let a = c.args in
    let g = c.bucket.ensures in
    let m = c.net_at-next.ensures in
    (m.0, tt, λ t k x n e. walk_begins a.nets t k a.a.code a.b.code a.v a.work.now x n (after c.net_at-next.result) _ (g.0 ∙ rw e) g.1 m.1)

pub loop-next-preserved : goal.loop-next-preserved
loop-next-preserved c =
    let a = c.args in
    let l = c.loop-next in
    let u = c.in-Some.u in
    let below : suc u ≤ a.v = rw c.in-Some.is at l.invariant.0 in
    let m = c.net_at-next-in-Some.ensures in
    let f = c.fits.ensures in (
      omega arith,
      elim c.if-fits.branch [
        | then-fits q ↦ rw q.found-is below
        | else-fits q ↦ rw q.found-is l.invariant.1
      ],
      λ t k x n e.
          let w : Walk a.nets t k a.a.code a.b.code a.v (suc u) (unwrap_or l.found a.v) = rw c.in-Some.is at (l.invariant.2 t k x n e) in
          walk_on a.nets t k a.a.code a.b.code a.v a.work.now x n (after c.net_at-next-in-Some.result) u (unwrap_or l.found a.v) (unwrap_or c.if-fits.found a.v) (omega arith) w
          (elim c.if-fits.branch [
            | then-fits q ↦ ap (λ (f : Option ℕ). unwrap_or f a.v) q.found-is ∙ sym (search_here k a.a.code a.b.code t a.v u (omega arith) (sym (f t k x.rows (omega arith) e) ∙ q.if-fits.true))
            | else-fits q ↦ ap (λ (f : Option ℕ). unwrap_or f a.v) q.found-is ∙ w.first ∙ sym (search_next k a.a.code a.b.code t a.v u (omega arith) (sym (f t k x.rows (omega arith) e) ∙ q.if-fits.false))
          ])
          m.1,
    )

pub returns : goal.returns
returns c t k x n e =
    let a = c.args in
    let l = c.loop-next in
    let w : Walk a.nets t k a.a.code a.b.code a.v 0 (unwrap_or l.found a.v) = rw c.in_default.is at (l.invariant.2 t k x n e) in
    let whole : a.v - 0 ≡ a.v = omega arith in
    found_is a.v _ l.found l.invariant.1 (w.first ∙ ap (λ (i : ℕ). model.find k a.a.code a.b.code t i 0) whole)
