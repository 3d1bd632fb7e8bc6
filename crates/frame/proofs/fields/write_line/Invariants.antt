-- The kind is stored, then field by field. The invariant: storing the fields that are left, and the LF, gives what storing all of them gives.
use Prim.Native.Nat.{◌+◌, ◌≤◌}
use lib.ListN.{length}
use Rattle.model.specs.Frames.{total}
use Rattle.frame.specs.Frames.{widths_of}
use Rattle.frame.proofs.WriteLaws.{Storing}
use Rattle.frame.proofs.fields.write_line.Given as goal

abbrev pub invariant-loop-field : goal.invariant-loop-field
invariant-loop-field l =
    (l.initial.p + total (widths_of l.field-items) + 1 ≤ length l.initial.out) × Storing l.field-items l.initial.out l.initial.p l.field-index l.out l.p
