-- The net that the search finds, or the gate itself (`EntryLaws`).
use mathlib.Core.Path.{sym, ◌∙◌}
use native.Mathlib.Omega.{arith}
use Rattle.std.specs.Option.{IfSome}
use Prim.Native.Nat.{ℕ, ◌≤◌}
use Rattle.fold.proofs.EntryLaws.{enters_found, enters_own}
use Rattle.fold.proofs.entry.found.Goals as goal
use Rattle.fold.proofs.entry.found.Goals.{in_default-via-in-Some+else-u-v, in_default-via-in_default}

pub returns-in-Some : goal.returns-in-Some
returns-in-Some c t k h n e =
    let a = c.args in
    let core = c.core_of.ensures t h.rows (omega arith) in
    rw (c.keyless.ensures, e) (enters_found t k a.sign a.a.code a.b.code a.v n _ _ (sym c.in-Some.is ∙ c.find.ensures t k h n e) (rw core at c.complement_if.ensures))

pub returns-in_default : goal.returns-in_default
returns-in_default c t k h n e =
    let a = c.args in
    let own = c.positive-own.ensures in
    let none : IfSome c.find.result (λ (u : ℕ). a.v ≤ u) = elim c.in_default.branch [
      | in_default-via-in-Some+else-u-v w ↦ rw w.in-Some.is w.if-u-v.false
      | in_default-via-in_default w ↦ rw w.in_default.is tt
    ] in
    rw (e, own) (enters_own t k a.sign a.a.code a.b.code a.v n _ _ (c.find.ensures t k h n e) none (rw own at c.complement_if-in_default.ensures))
