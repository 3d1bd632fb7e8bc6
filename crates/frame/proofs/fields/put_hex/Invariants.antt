-- Digits are stored from the last to the first. The invariant: storing the digits that are left gives what storing all of them gives.
use Prim.Native.Nat.{◌+◌, ◌≤◌}
use mathlib.Core.Path.{◌≡◌}
use lib.ListN.{length}
use lib.Seq.{sets}
use Rattle.model.specs.Frames.{hex}
use Rattle.frame.proofs.fields.put_hex.Given as goal

abbrev pub invariant-loop-i : goal.invariant-loop-i
invariant-loop-i l =
    (l.at + l.width ≤ length l.out) × (sets l.out l.at (hex l.i l.rest) ≡ sets l.initial.out l.at (hex l.width l.n))
