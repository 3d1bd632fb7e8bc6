-- The invariant is `Joining` for every two clauses that the arrays copy: after k turns the array has the first k literals of their join.
use Rattle.std.proofs.Common.{◌≤◌, ◌+◌, ◌∙◌, arith, length-set}
use native.Mathlib.Nat.{min_comm}
use Rattle.clause.proofs.JoinLaws.{Counts, least_min, goes_past, goes_one, counted_most, ends_turn, joining_turn, joining_end, joining_long}
use Rattle.clause.proofs.resolution.join.Goals as goal
use Rattle.clause.proofs.resolution.join.Goals.{then-lowest-lt-BOUND, else-lowest-lt-BOUND}

pub returns-then-lowest : goal.returns-then-lowest
returns-then-lowest c d e line g h =
    let l = c.loop-k in
    let least = least_min (c.min-lowest.ensures ∙ min_comm c.at-y.result c.at-x.result) in
    joining_end g.proper.rising h.proper.rising (l.invariant.5 d e g h) (c.at-x.ensures d g) (c.at-y.ensures e h) least (omega arith) (omega arith) line

pub loop-k-preserved : goal.loop-k-preserved
loop-k-preserved c =
    let l = c.loop-k in
    let x = c.at-x.result in
    let y = c.at-y.result in
    let counts : Counts l.k c.min-lowest.result l.len c.if-lowest-lt-BOUND.len =
    elim c.if-lowest-lt-BOUND.branch [
      | then-lowest-lt-BOUND w ↦ (λ _. w.len-is, λ h. absurd (omega arith))
      | else-lowest-lt-BOUND w ↦ (λ h. absurd (omega arith), λ _. w.len-is)
    ] in
    let least = least_min (c.min-lowest.ensures ∙ min_comm y x) in
    let left = goes_past c.from-i.ensures in
    let right = goes_past c.from-j.ensures in
    let p : c.from-i.result ≤ 1 = goes_one left in
    let q : c.from-j.result ≤ 1 = goes_one right in
    let n : c.if-lowest-lt-BOUND.len ≤ l.k + 1 = counted_most counts l.invariant.0 in (
      n,
      omega (arith, l.invariant.1),
      omega (arith, l.invariant.2),
      simp length-set l.invariant.3,
      ends_turn l.literals l.k l.len (omega arith) l.invariant.0 (omega arith) l.invariant.3 l.invariant.4 counts,
      λ d e g h.
          joining_turn g.proper.rising h.proper.rising (l.invariant.5 d e g h) (c.at-x.ensures d g) (c.at-y.ensures e h) least _ _ _ left right counts
          (omega arith),
    )

pub returns-then-min : goal.returns-then-min
returns-then-min c d e line g h =
    let l = c.loop-k in
    joining_end g.proper.rising h.proper.rising (l.invariant.5 d e g h) (c.at.ensures d g) (c.at-2.ensures e h) (least_min c.min.ensures) (omega arith)
    (omega arith) line

pub returns : goal.returns
returns c d e line g h =
    let l = c.loop-k in
    joining_long g.proper.rising h.proper.rising (l.invariant.5 d e g h) (c.at.ensures d g) (c.at-2.ensures e h) (least_min c.min.ensures) c.if-min.false
    (omega arith) line
