-- A sample for each rule of folding, and for each part of what makes two forms the same.
use Rattle.std.specs.Prelude.{ℕ, ◌≡◌, refl, true, false, ◌++◌}
use Prim.Native.String.{String}
use Rattle.model.specs.Forms.{Core, Form, form, never, always, and_core, xor_core, same_form, fold_and, fold_xor}
use Rattle.model.specs.Forms.Core.{leaf}
use Rattle.model.specs.Engine.{provable}
use Rattle.samples.specs.Definitions.{definitions, bytes, says_of}

-- three inputs as cores, and as forms
abbrev core_a : Core
core_a = leaf 1

abbrev core_b : Core
core_b = leaf 2

abbrev core_c : Core
core_c = leaf 3

abbrev a : Form
a = form false core_a

abbrev b : Form
b = form false core_b

abbrev c : Form
c = form false core_c

abbrev not_a : Form
not_a = form true core_a

abbrev not_b : Form
not_b = form true core_b

abbrev and : Form → Form → Form
and f g = form false (and_core f g)

abbrev xor : Core → Core → Form
xor k m = form false (xor_core k m)

-- ---- sameness

-- 'Two forms are the same if sign and core are, cores compared by how they are built.' 'Pairs are unordered.'
record Sameness : Type 0 where
  input : same_form a a ≡ true
  other_input : same_form a b ≡ false
  other_sign : same_form a not_a ≡ false
  input_and_pair : same_form a (and a b) ≡ false
  pair_and_input : same_form (and a b) a ≡ false
  pair : same_form (and a b) (and a b) ≡ true
  exchanged : same_form (and a b) (and b a) ≡ true
  exchanged_xor : same_form (xor core_a core_b) (xor core_b core_a) ≡ true
  exchanged_inside : same_form (and (and a b) c) (and c (and b a)) ≡ true
  and_and_xor : same_form (and a b) (xor core_a core_b) ≡ false
  -- one of four parts differs, in order
  first_core : same_form (and a b) (and c b) ≡ false
  first_sign : same_form (and a b) (and not_a b) ≡ false
  second_core : same_form (and a b) (and a c) ≡ false
  second_sign : same_form (and a b) (and a not_b) ≡ false
  -- one of four parts differs, exchanged
  first_core_exchanged : same_form (and a b) (and b c) ≡ false
  first_sign_exchanged : same_form (and a b) (and b not_a) ≡ false
  second_core_exchanged : same_form (and a b) (and c a) ≡ false
  second_sign_exchanged : same_form (and a b) (and not_b a) ≡ false

same_samples : Sameness
unfolding definitions
same_samples = record {
  input = refl;
  other_input = refl;
  other_sign = refl;
  input_and_pair = refl;
  pair_and_input = refl;
  pair = refl;
  exchanged = refl;
  exchanged_xor = refl;
  exchanged_inside = refl;
  and_and_xor = refl;
  first_core = refl;
  first_sign = refl;
  second_core = refl;
  second_sign = refl;
  first_core_exchanged = refl;
  first_sign_exchanged = refl;
  second_core_exchanged = refl;
  second_sign_exchanged = refl;
}

-- ---- AND

-- the fold of two forms is the same as a third
abbrev AndGives : Form → Form → Form → Type 0
AndGives f g h = same_form (fold_and f g) h ≡ true

-- 'AND: either form false gives false; either true gives the other; equal forms give that form; opposite forms give false; else a new core.'
record Ands : Type 0 where
  first_false : AndGives never b never
  second_false : AndGives a never never
  false_and_true : AndGives never always never
  true_and_false : AndGives always never never
  first_true : AndGives always b b
  second_true : AndGives a always a
  equal : AndGives a a a
  equal_complemented : AndGives not_a not_a not_a
  equal_exchanged : AndGives (and a b) (and b a) (and a b)
  opposite : AndGives a not_a never
  opposite_first : AndGives not_a a never
  opposite_exchanged : AndGives (and a b) (form true (and_core b a)) never
  new_core : AndGives a b (and a b)
  new_core_complemented : AndGives not_a not_b (and not_a not_b)
  -- no rule looks into an operand's core
  new_core_within : AndGives a (and a b) (and a (and a b))

and_samples : Ands
unfolding definitions
and_samples = record {
  first_false = refl;
  second_false = refl;
  false_and_true = refl;
  true_and_false = refl;
  first_true = refl;
  second_true = refl;
  equal = refl;
  equal_complemented = refl;
  equal_exchanged = refl;
  opposite = refl;
  opposite_first = refl;
  opposite_exchanged = refl;
  new_core = refl;
  new_core_complemented = refl;
  new_core_within = refl;
}

-- ---- XOR

abbrev XorGives : Form → Form → Form → Type 0
XorGives f g h = same_form (fold_xor f g) h ≡ true

-- 'XOR: signs are taken off first and combined; a false core gives the other; equal cores give false; else a new core; the combined sign goes
-- on the result.'
record Xors : Type 0 where
  first_false : XorGives never b b
  second_false : XorGives a never a
  first_true : XorGives always b not_b
  second_true : XorGives a always not_a
  equal : XorGives a a never
  equal_complemented : XorGives not_a not_a never
  equal_exchanged : XorGives (xor core_a core_b) (xor core_b core_a) never
  opposite : XorGives a not_a always
  new_core : XorGives a b (xor core_a core_b)
  first_complemented : XorGives not_a b (form true (xor_core core_a core_b))
  second_complemented : XorGives a not_b (form true (xor_core core_a core_b))
  both_complemented : XorGives not_a not_b (xor core_a core_b)

xor_samples : Xors
unfolding definitions
xor_samples = record {
  first_false = refl;
  second_false = refl;
  first_true = refl;
  second_true = refl;
  equal = refl;
  equal_complemented = refl;
  equal_exchanged = refl;
  opposite = refl;
  new_core = refl;
  first_complemented = refl;
  second_complemented = refl;
  both_complemented = refl;
}

-- ---- pairs of lists

abbrev pair : String → String → ℕ × ℕ
pair left right = says_of (provable (bytes left ++ bytes right) 60000 1000)

record Outputs : Type 0 where
  -- 'the first such output, from 1'
  both_alike : pair "0102000002\n040002\n040005\n" "0102000002\n040002\n040005\n" ≡ (0, 0)
  second_differs : pair "0102000002\n040002\n040004\n" "0102000002\n040002\n040005\n" ≡ (18, 2)
  both_differ : pair "0102000002\n040002\n040004\n" "0102000002\n040003\n040005\n" ≡ (18, 1)
  -- 'Net 0 has the form false, input k the form input k in both lists'; 'True is false complemented.'
  false_is_net_zero : pair "0101000101\n0200020003\n040004\n" "0101000001\n040000\n" ≡ (0, 0)
  true_is_complemented : pair "0101000101\n0300020003\n040004\n" "0101000001\n040001\n" ≡ (0, 0)
  -- 'a gate the fold below of its operands' forms'
  gate_on_gate : pair "0102000201\n0200020004\n0300060005\n040008\n" "0102000201\n0200040002\n0300040006\n040009\n" ≡ (0, 0)

output_samples : Outputs
unfolding definitions
output_samples = record {
  both_alike = refl;
  second_differs = refl;
  both_differ = refl;
  false_is_net_zero = refl;
  true_is_complemented = refl;
  gate_on_gate = refl;
}
