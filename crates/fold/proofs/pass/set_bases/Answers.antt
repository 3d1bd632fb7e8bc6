-- The invariant: the entries of the nets below k stand.
use Rattle.table.specs.Rows.{entry_of}
use Prim.Native.Nat.{ℕ, ◌+◌}
use mathlib.Core.Path.{◌≡◌, refl, sym, ◌∙◌, subst}
use native.Mathlib.Omega.{arith}
use lib.ListN.{length}
use Rattle.fold_laws.specs.Table as model
use Rattle.fold_laws.proofs.Entries.{length_bases}
use Rattle.table.specs.Buckets.{Indexed}
use Rattle.fold.proofs.PassLaws.{bases_none, bases_more}
use borrow.Author.Rules.{rules}
use Rattle.fold.proofs.pass.set_bases.Goals as goal

pub loop-k-init : goal.loop-k-init
loop-k-init c = (refl, rw bases_none c.empty.ensures)

pub loop-k-preserved : goal.loop-k-preserved
loop-k-preserved c =
    let l = c.loop-k in
    let is : entry_of c.keyless.result ≡ model.base_entry l.k = c.keyless.ensures ∙ rw c.positive.ensures in (
      (let s : length c.insert.new.work ≡ length l.work = search rules in s) ∙ l.invariant.0,
      subst (Indexed c.insert.new.work _) (sym (bases_more l.k)) (rw is at (c.insert.ensures (model.bases 0 l.k) l.invariant.1 (length_bases 0 l.k))),
    )

pub returns : goal.returns
returns c =
    let l = c.loop-k in
    let a = c.args in
    let e : l.k ≡ 1 + a.inputs = omega arith in
    subst (λ (k : ℕ). Indexed l.work a.nets (model.bases 0 k)) e l.invariant.1
