-- Two lists: the first output whose forms differ is the first whose representatives differ, in the table of both lists' gates. So the engine's
-- refusal 18 is found by comparing numbers after the first pass. A right list's literal has behind the left list's gates the form that it
-- has in its own list.
use Prim.Native.Nat.{ℕ, suc, ◌+◌, ◌<◌}
use Rattle.std.specs.Prelude.{◌≡◌, length, eqb}
use Rattle.std.proofs.Math.Path.{refl, sym, ap₂}
use Rattle.std.proofs.Common.{ap, ◌∙◌, arith}
use mathlib.Core.List.{List, [], ◌∷◌, ◌++◌, map}
use Rattle.model.specs.Nets.{Gate, Netlist, size, net_of}
use Rattle.model.specs.Miter.{shift, shift_gate, right_gates, gates_of}
use Rattle.model.specs.Forms.{Form, never, same_form, literal_form, gate_form, leaves, net_forms, first_apart, differing}
use Rattle.laws.specs.Growing.{growth, grow_is, length_growth, length_grow, grow_front, grow_append, odd_shift, get_d_shift, grow_right}
use Rattle.laws.specs.Pairs.{Below, Pair}
use Rattle.laws.specs.MiterOrder.{shift_below, length_gates, ordered_gates, plain_gates}
use Rattle.fold_laws.specs.Table.{rep_of}
use Rattle.fold_laws.proofs.Facts.{table_facts}
use Rattle.fold_laws.specs.Folded.{forms_of}
use Rattle.fold_laws.proofs.Folded.{length_leaves, folded}
use Rattle.fold_laws.specs.Engine.{moved_to, both_table, reps_apart, by_reps}

-- ---- the forms of each list among those of both

left_form : (n : ℕ) (gs hs : List Gate) (l : ℕ) → net_of l < 1 + n + length gs → literal_form (forms_of n (gs ++ hs)) l ≡ literal_form (forms_of n gs) l
unfolding literal_form
left_form n gs hs l h =
    let long : net_of l < length (forms_of n gs) = omega (arith, length_grow gate_form (leaves 0 (1 + n)) gs, length_leaves 0 (1 + n)) in
    rw (grow_append gate_form (leaves 0 (1 + n)) gs hs, grow_front gate_form never (forms_of n gs) hs (net_of l) long)

-- b is the forms of net 0 and n inputs, l those of the left list's gates
module _ (n : ℕ) (b : List Form) (long : length b ≡ 1 + n) where
  form_shift : (l m : List Form) (x : ℕ) → literal_form (b ++ l ++ m) (shift n (length l) x) ≡ literal_form (b ++ m) x
  unfolding literal_form
  form_shift l m x = rw (odd_shift n (length l) x, get_d_shift n b l long never m x)

  gate_shift : (l m : List Form) (g : Gate) → gate_form (b ++ l ++ m) (shift_gate n (length l) g) ≡ gate_form (b ++ m) g
  unfolding gate_form
  gate_shift l m g = rw (form_shift l m g.x, form_shift l m g.y)

right_form : (n : ℕ) (gs hs : List Gate) (l : ℕ)
    → literal_form (forms_of n (gs ++ map (shift_gate n (length gs)) hs)) (shift n (length gs) l) ≡ literal_form (forms_of n hs) l
right_form n gs hs l =
    let b : List Form = leaves 0 (1 + n) in
    let long : length b ≡ 1 + n = length_leaves 0 (1 + n) in
    rw (grow_right n b gate_form (gate_shift n b long) gs hs, grow_is gate_form b hs, ← length_growth gate_form b gs)
    (form_shift n b long (growth gate_form b gs) (growth gate_form b hs) l)

-- ---- outputs

module _ (a b : Netlist) (ab : Pair a b) where
  -- a left and a right literal
  same_rep : (x y : ℕ) → net_of x < size a → net_of y < size b
      → same_form (literal_form (net_forms a) x) (literal_form (net_forms b) y) ≡ eqb (rep_of (both_table a b) x) (rep_of (both_table a b) (moved_to a y))
  unfolding net_forms
  same_rep x y h i =
      let n : ℕ = a.inputs in
      let e = ab.inputs in
      let m = length_gates a b ab in
      let o = ordered_gates a b ab in
      ap₂ same_form (sym (left_form n a.gates (right_gates a b) x h))
      (ap (λ (j : ℕ). literal_form (forms_of j b.gates) y) e ∙ sym (right_form n a.gates b.gates y))
      ∙ (folded n (gates_of a b) o (plain_gates a b ab) (table_facts n (gates_of a b) o)).J x (moved_to a y)
      (omega arith) (omega (arith, shift_below n (length a.gates) y (size b) i))

  apart_reps : (k : ℕ) (xs ys : List ℕ) → Below (size a) xs → Below (size b) ys
      → first_apart k (net_forms a) (net_forms b) xs ys ≡ reps_apart k (both_table a b) xs (map (moved_to a) ys)
  unfolding first_apart reps_apart
  apart_reps k [] ys h i = refl
  apart_reps k (x ∷ xs) [] h i = refl
  apart_reps k (x ∷ xs) (y ∷ ys) h i = rw (same_rep x y h.0 i.0, apart_reps (suc k) xs ys h.1 i.1)

  -- what the definition says of forms is computed by representatives
  pub differing_by_reps : differing a b ≡ by_reps a b
  unfolding differing by_reps
  differing_by_reps = apart_reps 1 a.outs b.outs ab.left.below ab.right.below
