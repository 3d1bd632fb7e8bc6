-- The definitions of the variables of two lists' miter, and its clauses.
use Rattle.std.specs.Prelude.{ℕ, zero, suc, ◌+◌, ◌-◌, ◌*◌, ◌≤◌, ◌<◌, ◌≡◌, List, ◌∷◌, leb, length, take, get_or, Result, Ok, Err}
use Rattle.model.specs.Nets.{Gate, Netlist}
use Rattle.model.specs.Nets.Op.{xor, or}
use Rattle.model.specs.Clauses.{Clause, positive, gate_clauses, all_clauses}
use Rattle.model.specs.Miter.{shift, first_gate, first_clause, miter_gates, miter, first_z_clause, first_w_clause, last_number, first_behind}
use Rattle.model.specs.Answers.{Answer, guard}
use Rattle.model.specs.Answers.Answer.{ok}
use Rattle.model.specs.Steps.{State}
use Rattle.model.specs.Checker.{begin}
use Rattle.model.specs.Lists.{Lists}
use Rattle.refusal.specs.declared.Refusal.{Refusal}
use Rattle.refusal.specs.declared.Reason.TheVariants.{Miter}
use Rattle.miter.specs.declared.clauses.ClauseNumbers.{ClauseNumbers}
use Rattle.steps.specs.declared.gates.Definition.{Definition}
use Rattle.steps.specs.Gates.{clauses_for, Low}

-- the variables that are gates, z and w
abbrev pub gate_count : Lists → ℕ
gate_count l = length l.left.gates + length l.right.gates + length l.left.outs + (length l.left.outs - 1)

-- z of output k, from 0
abbrev pub z_gate : ℕ → ℕ → List ℕ → List ℕ → ℕ → Gate
z_gate i left xs ys k = record { op = xor; x = get_or xs k 0; y = shift i left (get_or ys k 0) }

-- the variable of w of output k, from 0, where z is the first z and w the first w
abbrev pub w_variable : ℕ → ℕ → ℕ → ℕ
w_variable z w zero = z
w_variable z w (suc k) = w + k

-- w of output k + 1
abbrev pub w_gate : ℕ → ℕ → ℕ → Gate
w_gate z w k = record { op = or; x = positive (w_variable z w k); y = positive (z + 1 + k) }

-- the clauses of the definition are those of variable t as this gate, and the store can hold its literals
pub record Defines (d : Definition) (t : ℕ) (g : Gate) : Type 0 where
  pub same : clauses_for d ≡ gate_clauses t g
  pub low : Low d

-- the numbers of the clauses behind those of the gates, where so many z begin with number z
abbrev pub numbers_of : ℕ → ℕ → ClauseNumbers
numbers_of outputs z = record {
  first_z = z;
  first_w = z + 4 * outputs;
  last = z + 4 * outputs + 3 * (outputs - 1);
  behind = z + 4 * outputs + 3 * (outputs - 1) + 1;
}

-- the numbers of the clauses where the parts begin, of the last, and of the first behind them: all are small
pub record Numbered (k : ClauseNumbers) (a b : Netlist) : Type 0 where
  pub first_z : k.first_z ≡ first_z_clause a b
  pub first_w : k.first_w ≡ first_w_clause a b
  pub last : k.last ≡ last_number a b
  pub behind : k.behind ≡ first_behind a b
  pub few : k.behind ≤ 9000

-- ---- the clauses in the store

-- the first clause, and those of the first i variables
abbrev pub gates_up_to : Netlist → Netlist → ℕ → List Clause
gates_up_to a b i = first_clause ∷ all_clauses (first_gate a) (take i (miter_gates a b))

-- the clauses are there, and else the state is as it was; or there is no room for them, which is 8 at line 0
abbrev pub FilledSays : {A : Type 0} → ℕ → List Clause → State → State → Result A Refusal → Type 0
FilledSays room cs s t (Ok _) = t ≡ record s { clauses = cs }
FilledSays room cs s t (Err r) = (r ≡ record { reason = Miter; line = 0 }) × (room < length cs)

-- before the first step: 8 if the store is too short for the miter's clauses
unfoldable pub begin_of : ℕ → Netlist → Netlist → Answer State
begin_of room a b = guard (leb (length (miter a b)) room) 8 0 (ok (begin a b))
