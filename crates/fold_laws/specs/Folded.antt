-- The forms of a whole list's nets.
use Rattle.std.specs.Prelude.{ℕ, ◌+◌, List}
use Rattle.model.specs.Nets.{Gate, grow}
use Rattle.model.specs.Forms.{Form, gate_form, leaves}

-- ---- a list's forms

-- of net 0, n inputs and the gates
abbrev pub forms_of : ℕ → List Gate → List Form
forms_of n gs = grow gate_form (leaves 0 (1 + n)) gs
