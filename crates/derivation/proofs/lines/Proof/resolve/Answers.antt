-- The line of the resolution, behind the lines that stand (`emits_line`).
use mathlib.Core.Path.{refl}
use Rattle.derivation.proofs.LineLaws.{emits_line}
use Rattle.derivation.proofs.lines.Proof.resolve.Goals as goal

pub returns-clause-emits : goal.returns-clause-emits
returns-clause-emits c = emits_line _ _ _ _ _ c.requires c.resolution-step.ensures c.write_resolve.ensures refl refl refl
