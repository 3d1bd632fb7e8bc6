-- A literal that is there changes nothing. From the first place on the turns make the array of the clause with the literal (`begins`); each turn
-- leaves the same for those behind it (`carry_turn`), and the last leaves that array.
use Rattle.std.proofs.Common.{◌≡◌, ◌<◌, ℕ, true, false, length, get_or, sym, ap, ◌∙◌, rules, arith}
use native.Mathlib.Numerals.{add-one}
use lib.ListN.{length-set}
use Rattle.model.specs.Clauses.{holds}
use Rattle.clause.specs.Places.{same_length}
use Rattle.clause.proofs.InsertLaws.{insert_there, carry_turn, carry_end, Bounded, Ended, begins, ends}
use Rattle.clause.proofs.Clause.insert.Goals as goal

pub returns-then-holds : goal.returns-then-holds
returns-then-holds c =
    let there : holds c.args.l c.args.self.now ≡ true = cc in
    sym (insert_there c.args.l c.args.self.now c.requires.ascending there)

pub loop-i-init : goal.loop-i-init
loop-i-init c =
    let d = c.self in
    let lacks : holds c.args.l c.args.self.now ≡ false = cc in
    let fits : (k : ℕ) → get_or d.inside.literals k 0 < 65536 = search rules in
    let bounded : Bounded d.inside.literals = λ k. omega (arith, fits k) in (
      sym (same_length d.inside.literals d.inside.len d.invariant) ∙ ap length d.view_is,
      d.told,
      begins c.args.l d.inside.len c.args.self.now d.inside.literals lacks d.invariant d.view_is (omega arith) c.requires.ascending bounded,
    )

pub loop-i-preserved : goal.loop-i-preserved
loop-i-preserved c =
    let l = c.loop-i in (
      l.invariant.0,
      length-set _ l.i _ ∙ l.invariant.1,
      rw add-one (carry_turn l.i l.carried _ (omega arith) (omega arith) (omega arith) ∙ l.invariant.2),
    )

ended : (c : goal.After-self-1) → Ended c.args.l c.loop-i.self-inside.len c.args.self.now c.loop-i.self-inside.literals
ended c =
    let l = c.loop-i in
    let lacks : holds c.args.l c.args.self.now ≡ false = cc in
    ends c.args.l l.self-inside.len c.args.self.now l.self-inside.literals lacks l.invariant.0 (omega (arith, c.requires.room))
    (sym (carry_end l.i l.carried l.self-inside.literals (omega arith)) ∙ l.invariant.2)

pub invariant_of-self : goal.invariant_of-self
invariant_of-self c = (ended c).0

pub returns : goal.returns
returns c = (ended c).1
