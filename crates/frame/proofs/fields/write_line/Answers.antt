-- The kind is stored, then field by field. The invariant: storing the fields that are left, and the LF, gives what storing all of them gives.
use mathlib.Core.Path.{refl, ap, ◌∙◌}
use native.Mathlib.Omega.{arith}
use Rattle.std.proofs.Common.{rules}
use lib.ListN.{length}
use lib.Seq.{length-sets}
use Rattle.model.specs.Frames.{hex, one_byte}
use Rattle.frame.proofs.WriteLaws.{field_room, field_stored, fields_stored, line_long, line_stored}
use Rattle.frame.proofs.fields.write_line.Goals as goal

pub put_hex-p-requires : goal.put_hex-p-requires
put_hex-p-requires c = omega (arith, line_long c.fields_of-w.result _ c.fields_of-w.ensures)

pub loop-field-init : goal.loop-field-init
loop-field-init c =
    let a = c.args in
    let w = c.fields_of-w in
    let h = c.put_hex-p.ensures in
    (omega (arith, line_long w.result _ w.ensures, h.0, ap length h.1, length-sets a.out.now a.at (hex one_byte w.result.kind)), record { long = refl; place = refl; same = refl })

pub put_hex-p-requires-in-loop-field : goal.put_hex-p-requires-in-loop-field
put_hex-p-requires-in-loop-field c = field_room _ _ _ _ _ _ c.loop-field.invariant.1 (search rules) c.loop-field.invariant.0

pub loop-field-preserved : goal.loop-field-preserved
loop-field-preserved c =
    let g = c.put_hex-p-in-loop-field in
    (c.loop-field.invariant.0, field_stored _ _ _ _ _ _ c.loop-field.invariant.1 (search rules) g.new.out g.result g.ensures.1 g.ensures.0)

pub returns : goal.returns
returns c =
    let w = c.fields_of-w in
    let h = c.put_hex-p.ensures in
    let z = fields_stored _ _ _ _ _ _ c.loop-field.invariant.1 (search rules) in
    (omega (arith, z.0, line_long w.result _ w.ensures, h.0), z.1 ∙ rw (h.0, h.1) (line_stored w.result _ w.ensures c.args.out.now c.args.at))
