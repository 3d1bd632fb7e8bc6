-- The counts of two lists.
use Rattle.std.specs.Prelude.{◌≡◌, length}
use Rattle.model.specs.Nets.{Netlist}
use Rattle.netlist.specs.declared.pair.Parts.{Parts}

pub record CountsOf (p : Parts) (a b : Netlist) : Type 0 where
  pub inputs : p.inputs ≡ a.inputs
  pub left : p.left ≡ length a.gates
  pub right : p.right ≡ length b.gates
  pub outputs : p.outputs ≡ length a.outs
