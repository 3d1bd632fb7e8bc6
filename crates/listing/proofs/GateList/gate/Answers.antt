-- Where a list stands, the frame of gate k is read at its place (`PlaceLaws`). That the gate read there is the one returned is searched for, so that
-- it may pass through another call.
use native.Mathlib.Omega.{arith}
use borrow.Author.Rules.{rules}
use Rattle.listing.proofs.PlaceLaws.{rest_is, gate_inside, gate_there, gate_is}
use Rattle.listing.proofs.GateList.gate.Goals as goal

pub slice_bounds-gate_line-count : goal.slice_bounds-gate_line-count
slice_bounds-gate_line-count c = let l = c.self in omega (arith, gate_inside l.inside.lines.now l.invariant.stands c.args.k (rw (← l.view_is) at c.requires))

pub slice_bounds-gate_line-start : goal.slice_bounds-gate_line-start
slice_bounds-gate_line-start c = let l = c.self in omega (arith, gate_inside l.inside.lines.now l.invariant.stands c.args.k (rw (← l.view_is) at c.requires))

pub unwrap-requires : goal.unwrap-requires
unwrap-requires c =
    let l = c.self in
    let there = gate_there l.inside.lines.now l.invariant.stands c.args.k (rw (← l.view_is) at c.requires) c.gate_line.result (rw (rest_is) at c.gate_line.ensures) in
    search (rules, there)

pub returns : goal.returns
returns c =
    let l = c.self in
    rw (← l.view_is)
    (gate_is l.inside.lines.now l.invariant.stands c.args.k (rw (← l.view_is) at c.requires) c.unwrap.result c.gate_line.result (rw (rest_is) at c.gate_line.ensures) (search rules))
