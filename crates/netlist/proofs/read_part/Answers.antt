-- The header's answer and then the rest's (`ListLaws`); a first list is held to no other.
use mathlib.Core.Path.{refl}
use Rattle.model.specs.Lists.{any_header}
use Rattle.netlist.proofs.read_part.Goals as goal

pub returns : goal.returns
returns c = c.read_behind.ensures any_header refl
