-- Where a list stands, the kind of gate k is read at its place (`PlaceLaws`).
use native.Mathlib.Omega.{arith}
use Rattle.listing.proofs.PlaceLaws.{rest_is, gate_inside, kind_there, op_is}
use Rattle.listing.proofs.GateList.op.Goals as goal

pub slice_bounds-op_line-count : goal.slice_bounds-op_line-count
slice_bounds-op_line-count c = let l = c.self in omega (arith, gate_inside l.inside.lines.now l.invariant.stands c.args.k (rw (← l.view_is) at c.requires))

pub slice_bounds-op_line-start : goal.slice_bounds-op_line-start
slice_bounds-op_line-start c = let l = c.self in omega (arith, gate_inside l.inside.lines.now l.invariant.stands c.args.k (rw (← l.view_is) at c.requires))

pub unwrap-requires : goal.unwrap-requires
unwrap-requires c =
    let l = c.self in
    kind_there l.inside.lines.now l.invariant.stands c.args.k (rw (← l.view_is) at c.requires) c.op_line.result (rw (rest_is) at c.op_line.ensures)

pub returns : goal.returns
returns c =
    let l = c.self in
    rw (← l.view_is)
    (op_is l.inside.lines.now l.invariant.stands c.args.k (rw (← l.view_is) at c.requires) c.unwrap.result c.op_line.result (rw (rest_is) at c.op_line.ensures) c.unwrap.ensures)
