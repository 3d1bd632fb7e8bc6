-- Where a list stands, the frame of output k is read at its place (`PlaceLaws`).
use native.Mathlib.Omega.{arith}
use Rattle.listing.proofs.PlaceLaws.{rest_is, output_inside, output_there, output_is}
use Rattle.listing.proofs.GateList.output.Goals as goal

pub slice_bounds-output_line-count : goal.slice_bounds-output_line-count
slice_bounds-output_line-count c = let l = c.self in omega (arith, l.invariant.counted.gates, output_inside l.inside.lines.now l.invariant.stands c.args.k (rw (← l.view_is) at c.requires))

pub slice_bounds-output_line-start : goal.slice_bounds-output_line-start
slice_bounds-output_line-start c = let l = c.self in omega (arith, l.invariant.counted.gates, output_inside l.inside.lines.now l.invariant.stands c.args.k (rw (← l.view_is) at c.requires))

pub unwrap-requires : goal.unwrap-requires
unwrap-requires c =
    let l = c.self in
    output_there l.inside.lines.now l.invariant.stands c.args.k (rw (← l.view_is) at c.requires) c.output_line.result (rw (rest_is, l.invariant.counted.gates) at c.output_line.ensures)

pub returns : goal.returns
returns c =
    let l = c.self in
    rw (← l.view_is)
    (output_is l.inside.lines.now l.invariant.stands c.args.k (rw (← l.view_is) at c.requires) c.unwrap.result c.output_line.result (rw (rest_is, l.invariant.counted.gates) at c.output_line.ensures) c.unwrap.ensures)
