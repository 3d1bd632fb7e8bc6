-- Sameness of cores and of forms as relations, and folding by kind, with what a kind compares its operands by.
use Rattle.std.specs.Prelude.{◌≡◌, Bool, true, false}
use Rattle.model.specs.Nets.{xorb}
use Rattle.model.specs.Forms.{Core, Form, form, and_core, xor_core, same, same_form, fold_and, fold_xor}

-- ---- cores

-- the same core
infix 40 ◌≈◌
abbrev pub ◌≈◌ : Core → Core → Type 0
◌≈◌ c d = same c d ≡ true

-- ---- forms

-- the same form
infix 40 ◌~◌
pub record ◌~◌ (f g : Form) : Type 0 where
  pub eq : same_form f g ≡ true

-- ---- folding, by kind: AND, or XOR where k

abbrev pub fold : Bool → Form → Form → Form
fold false f g = fold_and f g
fold true f g = fold_xor f g

-- 'else a new core'
abbrev pub new_form : Bool → Form → Form → Form
new_form false f g = form false (and_core f g)
new_form true f g = form (xorb f.sign g.sign) (xor_core f.core g.core)

-- what a kind compares its operands by: an XOR takes their signs off
unfoldable pub same_by : Bool → Form → Form → Bool
same_by false f g = same_form f g
same_by true f g = same f.core g.core
