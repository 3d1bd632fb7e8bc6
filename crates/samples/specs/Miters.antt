-- Miters by their clauses, and how many clauses a store holds.
use Rattle.std.specs.Prelude.{ℕ, ◌+◌, ◌*◌, ◌≤◌, ◌<◌, ◌≡◌, refl, List, [], ◌∷◌, take, drop}
use Prim.Native.String.{String}
use Rattle.std.proofs.Common.{arith}
use Rattle.model.specs.Answers.{Answer, bind}
use Rattle.model.specs.Answers.Answer.{ok}
use Rattle.model.specs.Nets.{Netlist}
use Rattle.model.specs.Lists.{read_lists}
use Rattle.model.specs.Miter.{first_gate, first_right, first_z, first_w, miter_vars, miter, first_gate_clause, first_right_clause, first_z_clause, first_w_clause, last_number, first_behind}
use Rattle.model.specs.Checker.{capacity, check}
use Rattle.samples.specs.Definitions.{definitions, bytes}

-- ---- the miter of two lists

-- what f makes of the two lists of a text
abbrev of : {A : Type 0} → (Netlist → Netlist → A) → String → Answer A
of f text = bind (read_lists (bytes text)) λ l. ok (f l.left l.right)

-- One input and two outputs. Left: AND of true and the input; the input. Right, with no gate: the input; true.
abbrev small : String
small = "0101000102\n0200010002\n040004\n040002\n0101000002\n040002\n040001\n"

-- One input and three outputs. Left: one gate, the input, false. Right: the second of two gates, the input complemented, the first gate
-- complemented.
abbrev larger : String
larger = "0101000103\n0200020002\n040004\n040002\n040000\n0101000203\n0300020001\n0200040002\n040006\n040003\n040005\n"

record Miters : Type 0 where
  -- Variables: the input is 1, the left gate 2, z(1) and z(2) are 3 and 4, w(2) is 5; 6 is the next.
  -- 'first: not variable 0; each left gate, then each right gate, then each z', 'each w', 'last: the single literal w of the last output'
  clauses :
      of miter small
      ≡ ok (
      (1 ∷ [])
      -- the left gate: (¬n, x), (¬n, y), (n, ¬x, ¬y)
      ∷ (1 ∷ 5 ∷ [])
      ∷ (2 ∷ 5 ∷ [])
      ∷ (0 ∷ 3 ∷ 4 ∷ [])
      -- z(1) is XOR of 4 and 2: (x, y, ¬n), (x, ¬y, n), (¬x, y, n), (¬x, ¬y, ¬n)
      ∷ (2 ∷ 4 ∷ 7 ∷ [])
      ∷ (3 ∷ 4 ∷ 6 ∷ [])
      ∷ (2 ∷ 5 ∷ 6 ∷ [])
      ∷ (3 ∷ 5 ∷ 7 ∷ [])
      -- z(2) is XOR of 2 and 1
      ∷ (1 ∷ 2 ∷ 9 ∷ [])
      ∷ (0 ∷ 2 ∷ 8 ∷ [])
      ∷ (1 ∷ 3 ∷ 8 ∷ [])
      ∷ (0 ∷ 3 ∷ 9 ∷ [])
      -- w(2): (w(2), ¬z(1)), (w(2), ¬z(2)), (¬w(2), z(1), z(2))
      ∷ (7 ∷ 10 ∷ [])
      ∷ (9 ∷ 10 ∷ [])
      ∷ (6 ∷ 8 ∷ 11 ∷ [])
      ∷ (10 ∷ [])
      ∷ []
      )
  variables : of miter_vars small ≡ ok 6
  -- Variables: the left gate is 2, the right gates 3 and 4, the z's 5, 6 and 7, the w's 8 and 9.
  -- The right gates: XOR of 2 and 1, then AND of the first, whose literal is 6 and no longer 4, and 2.
  right_gates_lem :
      of (λ a b. take 7 (drop 4 (miter a b))) larger
      ≡ ok (
      (1 ∷ 2 ∷ 7 ∷ [])
      ∷ (0 ∷ 2 ∷ 6 ∷ [])
      ∷ (1 ∷ 3 ∷ 6 ∷ [])
      ∷ (0 ∷ 3 ∷ 7 ∷ [])
      ∷ (6 ∷ 9 ∷ [])
      ∷ (2 ∷ 9 ∷ [])
      ∷ (3 ∷ 7 ∷ 8 ∷ [])
      ∷ []
      )
  -- 'w(k) is w(k−1) OR z(k), where w(1) means z(1)': w(2) of z(1) and z(2), w(3) of w(2) and z(3)
  ws :
      of (λ a b. drop 23 (miter a b)) larger
      ≡ ok (
      (11 ∷ 16 ∷ [])
      ∷ (13 ∷ 16 ∷ [])
      ∷ (10 ∷ 12 ∷ 17 ∷ [])
      ∷ (17 ∷ 18 ∷ [])
      ∷ (15 ∷ 18 ∷ [])
      ∷ (14 ∷ 16 ∷ 19 ∷ [])
      ∷ (18 ∷ [])
      ∷ []
      )

miter_samples : Miters
unfolding definitions
miter_samples = record { clauses = refl; variables = refl; right_gates_lem = refl; ws = refl }

-- ---- its numbers

-- the variables of the first left gate, right gate, z and w, and the first not in use
abbrev variables_of : Netlist → Netlist → List ℕ
variables_of a b = first_gate a ∷ first_right a ∷ first_z a b ∷ first_w a b ∷ miter_vars a b ∷ []

-- the numbers of the first clause of each, of the last clause, and the first behind
abbrev numbers_of : Netlist → Netlist → List ℕ
numbers_of a b = first_gate_clause ∷ first_right_clause a ∷ first_z_clause a b ∷ first_w_clause a b ∷ last_number a b ∷ first_behind a b ∷ []

-- the lists of 'Bench samples': a AND a, and a. No right gate, and no w
abbrev paper : String
paper = "0101000101\n0200020002\n040004\n0101000001\n040002\n"

record Numbers : Type 0 where
  paper_variables : of variables_of paper ≡ ok (2 ∷ 3 ∷ 3 ∷ 4 ∷ 4 ∷ [])
  -- P4: 'clause 9 exists', 10 does not
  paper_clauses : of numbers_of paper ≡ ok (2 ∷ 5 ∷ 5 ∷ 9 ∷ 9 ∷ 10 ∷ [])
  larger_variables : of variables_of larger ≡ ok (2 ∷ 3 ∷ 5 ∷ 8 ∷ 10 ∷ [])
  larger_clauses : of numbers_of larger ≡ ok (2 ∷ 5 ∷ 12 ∷ 24 ∷ 30 ∷ 31 ∷ [])

numbers : Numbers
unfolding definitions
numbers = record { paper_variables = refl; paper_clauses = refl; larger_variables = refl; larger_clauses = refl }

-- ---- 'It holds as many clauses as there are whole eights, at most 65,535.'

record Capacities : Type 0 where
  none : capacity 0 ≡ 0
  seven : capacity 7 ≡ 0
  eight : capacity 8 ≡ 1
  fifteen : capacity 15 ≡ 1
  most_but_one : capacity 524279 ≡ 65534
  most : capacity 524280 ≡ 65535
  past_most : capacity 524288 ≡ 65535
  far_past_most : capacity 16777216 ≡ 65535

capacities : Capacities
capacities = record {
  none = refl;
  seven = refl;
  eight = refl;
  fifteen = refl;
  most_but_one = refl;
  most = refl;
  past_most = refl;
  far_past_most = refl;
}

-- so numbers past the last whole eight are of no use to the checker, nor are those past 65,535 eights
part_of_eight : (text : List ℕ) (k r : ℕ) → r < 8 → check text (8 * k + r) ≡ check text (8 * k)
unfolding check
part_of_eight text k r h = let whole : capacity (8 * k + r) ≡ capacity (8 * k) = omega arith in rw whole

past_most : (text : List ℕ) (n : ℕ) → 524280 ≤ n → check text n ≡ check text 524280
unfolding check
past_most text n h = let most : capacity n ≡ 65535 = omega arith in rw most
