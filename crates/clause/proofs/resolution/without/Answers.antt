-- The array has the clause without l up to i, then the bound (`filled_next`): each place keeps its literal or takes the next (`place_out`).
use Rattle.std.proofs.Common.{◌≤◌, ◌+◌, length, drop, ap, ◌∙◌, arith, length-set, add-one}
use lib.Seq.{take_all}
use Rattle.model.specs.Limits.{clause_width}
use Rattle.model.specs.Clauses as model
use Rattle.clause.specs.Places.{head_of, filled}
use Rattle.clause.specs.Sets.{Stores}
use Rattle.clause.proofs.SetLaws.{rising_without, length_without}
use Rattle.clause.proofs.PlaceLaws.{Picks, place_out, filled_next}
use Rattle.clause.proofs.resolution.without.Goals as goal
use Rattle.clause.proofs.resolution.without.Goals.{then-x-l, else-x-l}

pub loop-i-preserved : goal.loop-i-preserved
loop-i-preserved c =
    let l = c.loop-i in
    let l₀ = c.args.l in
    let picked : (d : model.Clause) → Stores c.args.s.now d → Picks l₀ (head_of (drop l.i d)) (head_of (drop (l.i + 1) d)) c.if-x-l.literals =
    λ d g. let x = c.head-x.ensures d g in
    elim c.if-x-l.branch [
      | then-x-l w ↦ (λ _. w.literals-is ∙ x, λ h. absurd (omega arith))
      | else-x-l w ↦ (λ h. absurd (omega arith), λ _. w.literals-is ∙ w.head.ensures d g)
    ] in (
      simp length-set l.invariant.0,
      λ d g h.
          rw (l.invariant.1 d g h, place_out l₀ d g.proper.rising h l.i _ (rw add-one at (picked d g)), add-one l.i)
          (filled_next clause_width l.i (model.without l₀ d) (omega arith)),
    )

pub returns : goal.returns
returns c d g h =
    let l = c.loop-i in
    let l₀ = c.args.l in
    let w : length (model.without l₀ d) ≤ clause_width = omega (arith, length_without l₀ d, g.proper.width) in
    record {
      proper = record { rising = rising_without l₀ d g.proper.rising; width = w };
      same = l.invariant.1 d g h ∙ ap (filled clause_width) (take_all l.i (model.without l₀ d) (omega arith));
    }
