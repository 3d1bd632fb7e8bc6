-- A sample for each refusal number that the bench samples do not reach, with the neighbour that is not refused; and points of the rules
-- that are easy to miss (each is named).
use Rattle.std.specs.Prelude.{ℕ, ◌≡◌, refl, false, List, [], ◌∷◌, ◌++◌, length, drop}
use Prim.Native.String.{String}
use Rattle.model.specs.Answers.{guard, zeros}
use Rattle.model.specs.Answers.Answer.{ok, refused}
use Rattle.model.specs.Frames.{Frame, lone_line, line_of, write_frame, written_frame}
use Rattle.model.specs.Nets.{Gate}
use Rattle.model.specs.Nets.Op.{and, xor, or}
use Rattle.model.specs.Lists.{read_one, read_lists}
use Rattle.model.specs.Evaluator.{evaluate}
use Rattle.model.specs.Clauses.{Clause, gate_clauses}
use Rattle.model.specs.Steps.{State, step}
use Rattle.model.specs.Steps.Step.{resolve, extend}
use Rattle.model.specs.Checker.{check, report_of, judge, program, store_after}
use Rattle.model.specs.Engine.{provable}
use Rattle.samples.specs.Definitions.{definitions, bytes, says_of}

-- ---- 1: any stream over 65,536 bytes, and none of that length

over_stream : (t : List ℕ) → length t ≡ 65537 → program t ≡ bytes "210100000000000000\n"
unfolding definitions
over_stream t n = rw n

whole_stream : (t : List ℕ) → length t ≡ 65536 → program t ≡ line_of (report_of (check t 32768))
unfolding program judge guard
whole_stream t n = rw n

-- ---- 2 and 3: lines

abbrev lone : String → ℕ × ℕ
lone s = says_of (lone_line (bytes s))

record Lines : Type 0 where
  empty_text : lone "" ≡ (2, 1)
  whole : lone "040002\n" ≡ (0, 0)
  no_range_checks : lone "01FFFFFF00\n" ≡ (0, 0)
  unended : lone "040002" ≡ (2, 1)
  small_letter : lone "04000a\n" ≡ (2, 1)
  -- the bytes before 0, behind 9, before A and behind F
  slash : lone "04000/\n" ≡ (2, 1)
  colon : lone "04000:\n" ≡ (2, 1)
  at_sign : lone "04000@\n" ≡ (2, 1)
  letter_g : lone "04000G\n" ≡ (2, 1)
  carriage_return : lone "040002\r\n" ≡ (2, 1)
  byte_before_kind : lone "99000G\n" ≡ (2, 1)
  empty_line : lone "\n" ≡ (3, 1)
  one_digit : lone "0\n" ≡ (3, 1)
  odd_digits : lone "0400020\n" ≡ (3, 1)
  overlong : lone "04000200\n" ≡ (3, 1)
  no_kind : lone "05000200\n" ≡ (3, 1)
  second_line : lone "040002\n040002\n" ≡ (3, 2)
  second_line_empty : lone "040002\n\n" ≡ (3, 2)
  second_line_unended : lone "040002\n0" ≡ (2, 2)
  first_fault : lone "0\nG" ≡ (3, 1)
  fields : lone_line (bytes "010203FF04\n") ≡ ok (record { kind = 1; fields = 2 ∷ 1023 ∷ 4 ∷ [] })
  report_fields : lone_line (bytes "2112ABCDEF00010002\n") ≡ ok (record { kind = 33; fields = 18 ∷ 11259375 ∷ 1 ∷ 2 ∷ [] })

lines_samples : Lines
unfolding definitions
lines_samples = record {
  empty_text = refl;
  whole = refl;
  no_range_checks = refl;
  unended = refl;
  small_letter = refl;
  slash = refl;
  colon = refl;
  at_sign = refl;
  letter_g = refl;
  carriage_return = refl;
  byte_before_kind = refl;
  empty_line = refl;
  one_digit = refl;
  odd_digits = refl;
  overlong = refl;
  no_kind = refl;
  second_line = refl;
  second_line_empty = refl;
  second_line_unended = refl;
  first_fault = refl;
  fields = refl;
  report_fields = refl;
}

-- ---- 3, 4, 6: lists

abbrev one : String → ℕ × ℕ
one s = says_of (read_one (bytes s))

abbrev two : String → ℕ × ℕ
two s = says_of (read_lists (bytes s))

-- two lists of four lines, and this behind them
abbrev behind_lists : String → ℕ × ℕ
behind_lists s = says_of (check (bytes "0101000001\n040002\n0101000001\n040002\n" ++ bytes s) 32768)

record ListTexts : Type 0 where
  whole : one "0101000001\n040003\n" ≡ (0, 0)
  behind : one "0101000001\n040003\n0101000001\n" ≡ (3, 3)
  behind_unended : one "0101000001\n040003\n0" ≡ (2, 3)
  not_due : one "0101000001\n0200020002\n" ≡ (3, 2)
  output_missing : one "0101000002\n040003\n" ≡ (4, 3)
  pair : two "0101000001\n040002\n0101000001\n040002\n" ≡ (0, 0)
  inputs_unlike : two "0101000001\n040002\n0102000001\n040002\n" ≡ (6, 3)
  outputs_unlike : two "0101000001\n040002\n0101000002\n040002\n040002\n" ≡ (6, 3)
  range_before_unlike : two "0101000001\n040002\n0141000001\n040002\n" ≡ (5, 3)
  gates_may_differ : two "0101000001\n040002\n0101000101\n0200020002\n040002\n" ≡ (0, 0)
  own_nets : two "0101000101\n0200020002\n040004\n0101000001\n040004\n" ≡ (7, 5)
  -- no kind but 11, 12 and 13 is a proof line's
  header_in_proof : behind_lists "0101000001\n" ≡ (3, 5)
  and_in_proof : behind_lists "0200020002\n" ≡ (3, 5)
  xor_in_proof : behind_lists "0300020002\n" ≡ (3, 5)
  output_in_proof : behind_lists "040002\n" ≡ (3, 5)
  report_in_proof : behind_lists "210000000000000000\n" ≡ (3, 5)
  -- each of these three is one, though none here ends the proof
  resolve_in_proof : behind_lists "11000400010000\n" ≡ (10, 5)
  extend_and_in_proof : behind_lists "1200020002\n" ≡ (15, 0)
  extend_xor_in_proof : behind_lists "1300020002\n" ≡ (15, 0)
  -- the next extension has a variable of its own, and may read the one before, which is 3
  extension_read : behind_lists "1200020002\n1300060002\n" ≡ (15, 0)
  extension_not_yet : behind_lists "1200020002\n1300080002\n" ≡ (12, 6)
  no_proof_line : behind_lists "" ≡ (15, 0)

list_samples : ListTexts
unfolding definitions
list_samples = record {
  whole = refl;
  behind = refl;
  behind_unended = refl;
  not_due = refl;
  output_missing = refl;
  pair = refl;
  inputs_unlike = refl;
  outputs_unlike = refl;
  range_before_unlike = refl;
  gates_may_differ = refl;
  own_nets = refl;
  header_in_proof = refl;
  and_in_proof = refl;
  xor_in_proof = refl;
  output_in_proof = refl;
  report_in_proof = refl;
  resolve_in_proof = refl;
  extend_and_in_proof = refl;
  extend_xor_in_proof = refl;
  extension_read = refl;
  extension_not_yet = refl;
  no_proof_line = refl;
}

-- ---- 9 to 14: steps

abbrev after : List Clause → ℕ → State
after cs t = record { clauses = cs; next = t; steps = 0; empty = false }

abbrev gate : ℕ → ℕ → Gate
gate x y = record { op = and; x = x; y = y }

-- 2 .. 10 with 3, 12 .. 18: eight literals; a ninth by 20
abbrev five : Clause
five = 2 ∷ 4 ∷ 6 ∷ 8 ∷ 10 ∷ []

abbrev eight : List Clause
eight = five ∷ (3 ∷ 12 ∷ 14 ∷ 16 ∷ 18 ∷ []) ∷ []

abbrev nine : List Clause
nine = five ∷ (3 ∷ 12 ∷ 14 ∷ 16 ∷ 18 ∷ 20 ∷ []) ∷ []

-- a tautology serves as both
abbrev tautology : List Clause
tautology = (2 ∷ 3 ∷ []) ∷ []

record Steps : Type 0 where
  clauses_are_sets : gate_clauses 2 (gate 2 2) ≡ (2 ∷ 5 ∷ []) ∷ (2 ∷ 5 ∷ []) ∷ (3 ∷ 4 ∷ []) ∷ []
  xor_order : gate_clauses 3 (record { op = xor; x = 2; y = 4 }) ≡ (2 ∷ 4 ∷ 7 ∷ []) ∷ (2 ∷ 5 ∷ 6 ∷ []) ∷ (3 ∷ 4 ∷ 6 ∷ []) ∷ (3 ∷ 5 ∷ 7 ∷ []) ∷ []
  w_order : gate_clauses 5 (record { op = or; x = 6; y = 8 }) ≡ (7 ∷ 10 ∷ []) ∷ (9 ∷ 10 ∷ []) ∷ (6 ∷ 8 ∷ 11 ∷ []) ∷ []
  eight_literals : says_of (step 9 1 (after eight 20) (resolve 1 2 1)) ≡ (0, 0)
  nine_literals : says_of (step 9 1 (after nine 20) (resolve 1 2 1)) ≡ (11, 1)
  clause_zero : says_of (step 9 1 (after eight 20) (resolve 0 2 1)) ≡ (9, 1)
  both_ways : says_of (step 9 1 (after tautology 20) (resolve 1 1 1)) ≡ (0, 0)
  strict_order : says_of (step 9 1 (after eight 20) (resolve 2 1 1)) ≡ (10, 1)
  no_wrap : says_of (step 9 1 (after eight 20) (resolve 1 2 32769)) ≡ (10, 1)
  width_before_room : says_of (step 2 1 (after nine 20) (resolve 1 2 1)) ≡ (11, 1)
  last_variable : says_of (step 9 1 (after [] 16383) (extend (gate 2 4))) ≡ (0, 0)
  past_last_variable : says_of (step 9 1 (after [] 16384) (extend (gate 2 4))) ≡ (13, 1)
  operand_in_use : says_of (step 9 1 (after [] 5) (extend (gate 2 9))) ≡ (0, 0)
  operand_not_in_use : says_of (step 9 1 (after [] 5) (extend (gate 2 10))) ≡ (12, 1)
  operand_before_variable : says_of (step 2 1 (after [] 16384) (extend (gate 2 32768))) ≡ (12, 1)
  room_for_three : says_of (step 3 1 (after [] 5) (extend (gate 2 4))) ≡ (0, 0)
  no_room_for_three : says_of (step 2 1 (after [] 5) (extend (gate 2 4))) ≡ (14, 1)
  no_room_for_four : says_of (step 3 1 (after [] 5) (extend (record { op = xor; x = 2; y = 4 }))) ≡ (14, 1)

step_samples : Steps
unfolding definitions
step_samples = record {
  clauses_are_sets = refl;
  xor_order = refl;
  w_order = refl;
  eight_literals = refl;
  nine_literals = refl;
  clause_zero = refl;
  both_ways = refl;
  strict_order = refl;
  no_wrap = refl;
  width_before_room = refl;
  last_variable = refl;
  past_last_variable = refl;
  operand_in_use = refl;
  operand_not_in_use = refl;
  operand_before_variable = refl;
  room_for_three = refl;
  no_room_for_three = refl;
  no_room_for_four = refl;
}

-- ---- 16 and 17: what is lent; and buffers afterwards

-- two inputs; outputs: the second complemented, the first, true
abbrev wires : List ℕ
wires = bytes "0102000003\n040005\n040002\n040001\n"

abbrev and_pair : List ℕ
and_pair = bytes "0101000101\n0200020002\n040004\n0101000001\n040002\n"

abbrev and_proof : List ℕ
and_proof = bytes "11000500020002\n11000400080002\n11000A000B0001\n110009000C0003\n"

abbrev output : Frame
output = record { kind = 4; fields = 171 ∷ [] }

abbrev report : ℕ → Frame
report line = record { kind = 33; fields = 2 ∷ line ∷ 0 ∷ 0 ∷ [] }

record Lent : Type 0 where
  working_bytes_lem : evaluate wires 0 3 ≡ ok 5
  working_bytes_short : evaluate wires 0 2 ≡ refused 17 0
  pattern : evaluate wires 3 3 ≡ ok 6
  pattern_bits_ignored : evaluate wires 7 3 ≡ ok 6
  working_numbers_lem : says_of (provable and_pair 420 48) ≡ (0, 0)
  working_numbers_short : says_of (provable and_pair 420 47) ≡ (17, 0)
  bytes_before_numbers : says_of (provable and_pair 419 47) ≡ (16, 0)
  line_fits : write_frame output 7 ≡ ok 7
  line_short : write_frame output 6 ≡ refused 16 0
  written : written_frame output 9 ≡ bytes "0400AB\n" ++ zeros 2
  not_written : written_frame output 6 ≡ zeros 6
  highest_line_lem : write_frame (report 16777215) 19 ≡ ok 19
  above_highest_line : write_frame (report 16777216) 19 ≡ refused 16 0
  store_after_acceptance : drop 88 (store_after 105 (check (and_pair ++ and_proof) 105)) ≡ 8 ∷ zeros 16
  store_after_refusal : store_after 9 (check [] 9) ≡ zeros 9

lent_samples : Lent
unfolding definitions
lent_samples = record {
  working_bytes_lem = refl;
  working_bytes_short = refl;
  pattern = refl;
  pattern_bits_ignored = refl;
  working_numbers_lem = refl;
  working_numbers_short = refl;
  bytes_before_numbers = refl;
  line_fits = refl;
  line_short = refl;
  written = refl;
  not_written = refl;
  highest_line_lem = refl;
  above_highest_line = refl;
  store_after_acceptance = refl;
  store_after_refusal = refl;
}
