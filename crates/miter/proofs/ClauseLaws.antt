-- The number behind the clauses of the gates gone through.
use Prim.Native.Nat.{ℕ, ◌+◌, ◌≤◌, ◌<◌}
use mathlib.Core.Path.{◌≡◌, refl}
use mathlib.Core.List.{List}
use native.Mathlib.Omega.{arith}
use native.Mathlib.Numerals.{add-one}
use lib.ListN.{length, drop, get_or, drop_of_length-le}
use lib.Seq.{drop-cons}
use Rattle.model.specs.Nets.{Gate, Netlist}
use Rattle.model.specs.Clauses.{and_clauses, xor_clauses}
use Rattle.model.specs.Miter.{gates_of, clause_count, behind, first_gate_clause, first_z_clause}
use Rattle.frame.specs.declared.Op.{Op}
use Rattle.frame.specs.declared.Op.TheVariants.{And, Xor}
use Rattle.frame.specs.Frames.{op_of}
use Rattle.listing.specs.Gates.{no_gate}
use Rattle.steps.specs.Kept.{clauses_of}

-- as many as the gate's definition has
pub count_of : (op : Op) → length (clauses_of op 0 0 0) ≡ clause_count (op_of op)
unfolding and_clauses xor_clauses
count_of And = refl
count_of Xor = refl

pub few_each : (op : Op) → clause_count (op_of op) ≤ 4
few_each And = omega arith
few_each Xor = omega arith

pub from_first : (a b : Netlist) → first_z_clause a b ≡ behind first_gate_clause (drop 0 (gates_of a b))
unfolding first_z_clause
from_first a b = refl

module _ (gs : List Gate) (k n : ℕ) where
  pub behind_one : (op : Op) → k < length gs → op_of op ≡ (get_or gs k no_gate).op → behind n (drop k gs) ≡ behind (n + clause_count (op_of op)) (drop (k + 1) gs)
  behind_one op h is = rw (add-one, drop-cons gs k no_gate h, is)

  pub behind_all : length gs ≤ k → behind n (drop k gs) ≡ n
  behind_all h = rw (drop_of_length-le gs h)
