-- A gate of a list, as it is read by its place.
use Rattle.model.specs.Frames.{xor_kind}
use Rattle.model.specs.Nets as nets
use Rattle.model.specs.Lists.{gate_of}
use Rattle.frame.specs.declared.Frame.TheVariants as FrameCase
use Rattle.frame.specs.Frames.{frame_of}
use Rattle.frame.specs.declared.Gate.{Gate}

-- the gate of the definitions that it is: that of its frame
abbrev pub gate_meant : Gate → nets.Gate
gate_meant g = gate_of xor_kind (frame_of (FrameCase.Gate g))

-- what stands for a gate that a list does not have
abbrev pub no_gate : nets.Gate
no_gate = record { op = nets.Op.and; x = 0; y = 0 }
