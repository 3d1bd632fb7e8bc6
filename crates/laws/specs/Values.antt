-- Values of nets over any type of values that has a complement and an operation for each kind of gate. The definition's values are those over
-- the truth values; what is proved over every such type serves words of many patterns too.
use Rattle.std.specs.Prelude.{ℕ, zero, suc, ◌+◌, ◌/◌, ◌≡◌, refl, Bool, false, List, length, get_or}
use Rattle.std.proofs.Common.{ap, arith}
use Rattle.model.specs.Nets.{Op, Gate, Netlist, net_of, odd, xorb, literal, apply, gate, grow, bits, start, nets}
use Rattle.laws.specs.Growing.{length_grow}

pub record Operations (A : Type 0) : Type 0 where
  -- of a net that is not there
  pub none : A
  -- a value, complemented where the sign is true
  pub signed : Bool → A → A
  pub apply : Op → A → A → A

module _ {A : Type 0} (o : Operations A) where
  abbrev pub literal_over : List A → ℕ → A
  literal_over vs l = o.signed (odd l) (get_or vs (net_of l) o.none)

  abbrev pub gate_over : List A → Gate → A
  gate_over vs g = o.apply g.op (literal_over vs g.x) (literal_over vs g.y)

-- ---- the truth values

abbrev pub truths : Operations Bool
truths = record { none = false; signed = xorb; apply = apply }

pub nets_truths : (n : Netlist) (p : ℕ) → grow (gate_over truths) (start n.inputs p) n.gates ≡ nets n p
unfolding nets gate literal
nets_truths n p = refl

pub length_bits : (n p : ℕ) → length (bits n p) ≡ n
unfolding bits
length_bits zero p = refl
length_bits (suc n) p = ap suc (length_bits n (p / 2))

pub length_start : (i p : ℕ) → length (start i p) ≡ 1 + i
length_start i p = rw length_bits (omega arith)

-- one value for each net
pub length_nets : (n : Netlist) (p : ℕ) → length (nets n p) ≡ 1 + n.inputs + length n.gates
unfolding nets
length_nets n p = rw (length_grow, length_start)
