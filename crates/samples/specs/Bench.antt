-- The samples marked P of document 01, 'Bench samples', proved together as one table, by computing the definitions where nothing is left open.
use Rattle.std.specs.Prelude.{ℕ, ◌/◌, ◌≡◌, refl, Bool, true, false, List, [], ◌∷◌, ◌++◌, map}
use Prim.Native.String.{String}
use Rattle.model.specs.Answers.Answer.{ok}
use Rattle.model.specs.Nets.{Netlist, odd, literal, run, word, Agree}
use Rattle.model.specs.Nets.Op.{and, xor}
use Rattle.model.specs.Lists.{read_one, read_lists}
use Rattle.model.specs.Evaluator.{evaluate}
use Rattle.model.specs.Clauses.{positive, negative, clause_of, resolvent}
use Rattle.model.specs.Checker.{check, program}
use Rattle.model.specs.Forms.{fold_xor, form, flip}
use Rattle.model.specs.Forms.Core.{leaf}
use Rattle.model.specs.Engine.{provable}
use Rattle.samples.specs.Definitions.{definitions, bytes, says_of}
use Rattle.samples.specs.Resolvents.{Beside, both_signs}

-- a AND a on the left, a on the right, and the proof that they agree
abbrev lists : List ℕ
lists = bytes "0101000101\n0200020002\n040004\n0101000001\n040002\n"

abbrev proof : List ℕ
proof = bytes "11000500020002\n11000400080002\n11000A000B0001\n110009000C0003\n"

-- its second to fourth line
abbrev behind : List ℕ
behind = bytes "11000400080002\n11000A000B0001\n110009000C0003\n"

-- 4,096 clauses
abbrev store : ℕ
store = 32768

-- what the checker says of this proof with another first step, what it says of a list alone, and what the engine says
abbrev on_first : String → ℕ × ℕ
on_first s = says_of (check (lists ++ bytes s ++ behind) store)

abbrev on_text : String → ℕ × ℕ
on_text s = says_of (check (bytes s) 0)

abbrev on_pair : String → ℕ × ℕ
on_pair s = says_of (provable (bytes s) 60000 1000)

-- XOR of two inputs from three ANDs, and by one gate
abbrev three_ands : List ℕ
three_ands = bytes "0102000301\n0200020004\n0200030005\n0200070009\n04000A\n"

abbrev one_xor : List ℕ
one_xor = bytes "0102000101\n0300020004\n040006\n"

-- what these texts are read to
abbrev ands : Netlist
ands =
    record {
      inputs = 2;
      gates = record { op = and; x = 2; y = 4 } ∷ record { op = and; x = 3; y = 5 } ∷ record { op = and; x = 7; y = 9 } ∷ [];
      outs = 10 ∷ [];
    }

abbrev gate : Netlist
gate = record { inputs = 2; gates = record { op = xor; x = 2; y = 4 } ∷ []; outs = 6 ∷ [] }

-- the word of a list of two inputs, by their values
abbrev word_at : Netlist → Bool → Bool → ℕ
word_at n a b = word (map (literal (run (false ∷ a ∷ b ∷ []) n.gates)) n.outs)

-- every pattern gives the two inputs one of four pairs of values
agree : (a b : Bool) → word_at ands a b ≡ word_at gate a b
unfolding definitions
agree true true = refl
agree true false = refl
agree false true = refl
agree false false = refl

record Samples : Type 0 where
  -- the report frame: accepted, line 0, 4 steps, 13 clauses
  P1 : program (lists ++ proof) ≡ bytes "21000000000004000D\n"
  -- without the last proof line
  P2 : program (lists ++ bytes "11000500020002\n11000400080002\n11000A000B0001\n") ≡ bytes "210F00000000000000\n"
  -- an empty clause counts only as the last step, and lines behind it must be valid
  P2-not-last : says_of (check (lists ++ proof ++ bytes "11000500020002\n") store) ≡ (15, 0)
  P2-faulty-behind : says_of (check (lists ++ proof ++ bytes "11000500020001\n") store) ≡ (10, 10)
  -- first step with variable 1
  P3 : on_first "11000500020001\n" ≡ (10, 6)
  -- first step naming clause 10; clause 9 exists
  P4 : on_first "11000A00020002\n" ≡ (9, 6)
  P4-exists : on_first "11000900020002\n" ≡ (10, 6)
  -- (v, ¬v, c) with (¬v, d) on v gives (¬v, c, d): for every v and all literals c and d, those of c over other variables; and as variables 3,
  -- 5, 6
  P5 : (v : ℕ) (c d : List ℕ) → Beside v c
      → resolvent v (clause_of (positive v ∷ negative v ∷ c)) (clause_of (negative v ∷ d)) ≡ clause_of (negative v ∷ c ++ d)
  P5-computed : resolvent 3 (6 ∷ 7 ∷ 10 ∷ []) (7 ∷ 12 ∷ []) ≡ 7 ∷ 10 ∷ 12 ∷ []
  -- 104 store numbers suffice, 72 get past the miter
  P6-suffice : says_of (check (lists ++ proof) 104) ≡ (0, 0)
  P6-short : says_of (check (lists ++ proof) 103) ≡ (14, 9)
  P6-past : says_of (check (lists ++ proof) 72) ≡ (14, 6)
  P6-miter : says_of (check (lists ++ proof) 71) ≡ (8, 0)
  -- 420 proof bytes suffice for the engine
  P7-suffice : says_of (provable lists 420 1000) ≡ (0, 0)
  P7-short : says_of (provable lists 419 1000) ≡ (16, 0)
  -- a header that passes leaves the next frame due
  P8-inputs : on_text "0140000001\n" ≡ (4, 2)
  P8-inputs-over : on_text "0141000001\n" ≡ (5, 1)
  P8-outputs : on_text "0101000040\n" ≡ (4, 2)
  P8-outputs-over : on_text "0101000041\n" ≡ (5, 1)
  P8-no-outputs : on_text "0101000000\n" ≡ (5, 1)
  P8-gates : on_text "0101040001\n" ≡ (4, 2)
  P8-gates-over : on_text "0101040101\n" ≡ (5, 1)
  -- one input, first gate: literal 3, then 4
  P9 : on_text "0101000101\n0200030003\n" ≡ (4, 3)
  P9-over : on_text "0101000101\n0200040002\n" ≡ (7, 2)
  P9-over-second : on_text "0101000101\n0200020004\n" ≡ (7, 2)
  P10 : on_text "" ≡ (4, 1)
  -- AND of a, b against AND of b, a
  P11 : on_pair "0102000101\n0200020004\n040006\n0102000101\n0200040002\n040006\n" ≡ (0, 0)
  P11-xor : fold_xor (form true (leaf 1)) (form false (leaf 2)) ≡ flip true (fold_xor (form false (leaf 1)) (form false (leaf 2)))
  -- 18 at output 1, though the lists that are read agree on every pattern
  P12 : says_of (provable (three_ands ++ one_xor) 60000 1000) ≡ (18, 1)
  P12-lists : read_lists (three_ands ++ one_xor) ≡ ok (record { left = ands; right = gate })
  P12-left : read_one three_ands ≡ ok ands
  P12-right : read_one one_xor ≡ ok gate
  P12-agree : Agree ands gate
  P12-xor-of-1 : evaluate one_xor 1 4 ≡ ok 1

samples : Samples
unfolding definitions
samples = record {
  P1 = refl;
  P2 = refl;
  P2-not-last = refl;
  P2-faulty-behind = refl;
  P3 = refl;
  P4 = refl;
  P4-exists = refl;
  P5 = both_signs;
  P5-computed = refl;
  P6-suffice = refl;
  P6-short = refl;
  P6-past = refl;
  P6-miter = refl;
  P7-suffice = refl;
  P7-short = refl;
  P8-inputs = refl;
  P8-inputs-over = refl;
  P8-outputs = refl;
  P8-outputs-over = refl;
  P8-no-outputs = refl;
  P8-gates = refl;
  P8-gates-over = refl;
  P9 = refl;
  P9-over = refl;
  P9-over-second = refl;
  P10 = refl;
  P11 = refl;
  P11-xor = refl;
  P12 = refl;
  P12-lists = refl;
  P12-left = refl;
  P12-right = refl;
  P12-agree = λ p. agree (odd p) (odd (p / 2));
  P12-xor-of-1 = refl;
}
