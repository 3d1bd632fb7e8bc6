-- The counts of a list that was read, which are within the limits.
use Rattle.std.specs.Prelude.{◌≡◌, length}
use Rattle.model.specs.Nets.{Netlist}
use Rattle.laws.specs.Pairs.{Good}
use Rattle.listing.specs.declared.Counts.{Counts}

pub record Counted (k : Counts) (n : Netlist) : Type 0 where
  pub good : Good n
  pub inputs : k.inputs ≡ n.inputs
  pub gates : k.gates ≡ length n.gates
  pub outputs : k.outputs ≡ length n.outs
