-- The line's own refusal, or that of the frame that stands there.
use mathlib.Core.Path.{refl}
use mathlib.Core.Bool.{true, false}
use Rattle.netlist.specs.Plain.Refused.{other}
use Rattle.netlist.proofs.lines.refuse.Goals as goal

pub returns-then-due : goal.returns-then-due
returns-then-due g c = rw c.at.ensures (other c.in-Ok.frame _ _ c.in-Ok.ensures true (rw c.if-due.true at c.due.ensures) refl refl)

pub returns : goal.returns
returns g c = rw c.at-2.ensures (other c.in-Ok.frame _ _ c.in-Ok.ensures false (rw c.if-due.false at c.due.ensures) refl refl)
