-- The table as far as it goes: net 0 and the inputs one by one, then gate after gate; and the outputs compared so far.
use Prim.Native.Nat.{ℕ, zero, suc, ◌+◌, ◌≤◌, ◌<◌}
use mathlib.Core.Path.{◌≡◌, refl, sym, ap, ◌∙◌, subst}
use mathlib.Core.Bool.{true, cond}
use mathlib.Core.List.{List, [], ◌∷◌, ◌++◌, map}
use native.Mathlib.Omega.{arith}
use native.Mathlib.Numerals.{add-one}
use lib.ListN.{length, drop, get_or, length-map, drop_of_length-le}
use lib.Seq.{drop-cons}
use lib.Dec.{eqb}
use borrow.Author.Tests.{eq-eqb, ne_eqb}
use Rattle.model.specs.Nets.{Gate, Netlist, net_of, reads_below, size}
use Rattle.model.specs.Miter.{gates_of, z_gates}
use Rattle.laws.specs.Growing as growing
use Rattle.laws.specs.ListText.{ordered_at, below_at}
use Rattle.laws.specs.Pairs as pairs
use Rattle.laws.specs.MiterOrder.{length_gates, ordered_gates, shift_below}
use Rattle.fold_laws.specs.Table as model
use Rattle.fold_laws.proofs.Entries.{length_bases, length_table}
use Rattle.fold_laws.specs.Engine.{moved_to, both_table, reps_apart, by_reps}
use Rattle.frame.specs.declared.Gate as listing
use Rattle.listing.specs.Gates.{gate_meant, no_gate}
use Rattle.miter.specs.Miters.{z_gate}
use Rattle.miter.proofs.MiterLaws.{z_of_lem}
use Rattle.table.specs.Buckets.{Indexed}

-- ---- net 0 and the inputs

pub bases_none : model.bases 0 0 ≡ []
unfolding model.bases
bases_none = refl

bases_next : (j k : ℕ) → model.bases j (suc k) ≡ model.bases j k ++ (model.base_entry (j + k) ∷ [])
unfolding model.bases
bases_next j zero = let e : j + 0 ≡ j = omega arith in rw e
bases_next j (suc k) = let e : j + suc k ≡ suc j + k = omega arith in rw e (ap (λ (t : List model.Entry). model.base_entry j ∷ t) (bases_next (suc j) k))

pub bases_more : (k : ℕ) → model.bases 0 (k + 1) ≡ model.bases 0 k ++ (model.base_entry k ∷ [])
bases_more k = let e : 0 + k ≡ k = omega arith in rw add-one (bases_next 0 k ∙ rw e)

-- ---- gates

-- the table once the first k gates are entered
abbrev pub after : ℕ → List Gate → ℕ → List model.Entry
after i = growing.after model.entry (model.bases 0 (1 + i))

pub after_none : (i : ℕ) (gs : List Gate) → after i gs 0 ≡ model.bases 0 (1 + i)
after_none i = growing.after_none model.entry (model.bases 0 (1 + i))

pub after_all : (i : ℕ) (gs : List Gate) (k : ℕ) → length gs ≤ k → after i gs k ≡ model.table_of i gs
unfolding model.table_of
after_all i = growing.after_all model.entry (model.bases 0 (1 + i))

-- gate k entered behind the nets before it
pub gate_entered : (a b : Netlist) → pairs.Pair a b → (nets k v : ℕ) (g : Gate) (e : model.Entry) (work more : List ℕ) → k < length (gates_of a b)
    → v ≡ 1 + a.inputs + k → g ≡ get_or (gates_of a b) k no_gate → Indexed work nets (after a.inputs (gates_of a b) k)
    → ((t : List model.Entry) → Indexed work nets t → length t ≡ v → reads_below v g ≡ true → e ≡ model.entry t g)
    → ((t : List model.Entry) → Indexed work nets t → length t ≡ v → Indexed more nets (t ++ (e ∷ [])))
    → Indexed more nets (after a.inputs (gates_of a b) (k + 1))
gate_entered a b ab nets k v g e work more h n is held make put =
    let t : List model.Entry = after a.inputs (gates_of a b) k in
    let long : length t ≡ v = rw (growing.after_length model.entry (model.bases 0 (1 + a.inputs)) (gates_of a b) k (omega arith), length_bases) (sym n) in
    let low : reads_below v g ≡ true = rw (n, is) (ordered_at (1 + a.inputs) (gates_of a b) k no_gate (ordered_gates a b ab) h) in
    rw (growing.after_more model.entry (model.bases 0 (1 + a.inputs)) (gates_of a b) k no_gate h, ← is)
    (subst (λ (x : model.Entry). Indexed more nets (t ++ (x ∷ []))) (make t held long low) (put t held long))

-- ---- outputs

module _ (t : List model.Entry) (xs ys : List ℕ) (k : ℕ) where
  module _ (h : k < length xs) (i : k < length ys) where
    parted : reps_apart (1 + k) t (drop k xs) (drop k ys)
        ≡ cond (eqb (model.rep_of t (get_or xs k 0)) (model.rep_of t (get_or ys k 0))) (reps_apart (1 + (k + 1)) t (drop (k + 1) xs) (drop (k + 1) ys)) (1 + k)
    unfolding reps_apart
    parted = let e : 1 + suc k ≡ suc (1 + k) = omega arith in rw (drop-cons xs k 0 h, drop-cons ys k 0 i, add-one, e)

    apart_here : (model.rep_of t (get_or xs k 0) ≡ model.rep_of t (get_or ys k 0) → ⊥) → reps_apart (1 + k) t (drop k xs) (drop k ys) ≡ 1 + k
    apart_here d = parted ∙ rw (ne_eqb _ _ d)

    apart_next : model.rep_of t (get_or xs k 0) ≡ model.rep_of t (get_or ys k 0)
        → reps_apart (1 + k) t (drop k xs) (drop k ys) ≡ reps_apart (1 + (k + 1)) t (drop (k + 1) xs) (drop (k + 1) ys)
    apart_next e = parted ∙ rw (eq-eqb _ _ e)

  pub apart_none : length xs ≤ k → reps_apart (1 + k) t (drop k xs) (drop k ys) ≡ 0
  unfolding reps_apart
  apart_none h = rw (drop_of_length-le xs h)

pub from_first : (a b : Netlist) → by_reps a b ≡ reps_apart (1 + 0) (both_table a b) (drop 0 a.outs) (drop 0 (map (moved_to a) b.outs))
unfolding by_reps
from_first a b = refl

-- the outputs k of both lists, as the XOR that compares them
record OutputsAt (a b : Netlist) (k : ℕ) (g : listing.Gate) : Type 0 where
  left : g.x ≡ get_or a.outs k 0
  right : g.y ≡ get_or (map (moved_to a) b.outs) k 0
  left_inside : net_of g.x < length (both_table a b)
  right_inside : net_of g.y < length (both_table a b)

map_number : (f : ℕ → ℕ) (l : List ℕ) (k : ℕ) → k < length l → get_or (map f l) k 0 ≡ f (get_or l k 0)
map_number f [] k h = absurd (omega arith)
map_number f (x ∷ l) zero h = refl
map_number f (x ∷ l) (suc k) h = map_number f l k (omega arith)

outputs_at : (a b : Netlist) → pairs.Pair a b → (k : ℕ) (g : listing.Gate) → k < length a.outs → gate_meant g ≡ get_or (z_gates a b) k no_gate → OutputsAt a b k g
outputs_at a b ab k g h e =
    let m : gate_meant g ≡ z_gate a.inputs (length a.gates) a.outs b.outs k = e ∙ z_of_lem a b ab k no_gate h in
    let x : g.x ≡ get_or a.outs k 0 = ap (λ (g : Gate). g.x) m in
    let y : g.y ≡ moved_to a (get_or b.outs k 0) = ap (λ (g : Gate). g.y) m in
    let i : k < length b.outs = omega (arith, ab.outs) in
    let n = length_table a.inputs (gates_of a b) in
    let m = length_gates a b ab in
    let l = below_at (size a) a.outs k ab.left.below h in
    let r = shift_below a.inputs (length a.gates) (get_or b.outs k 0) (size b) (below_at (size b) b.outs k ab.right.below i) in
    record {
      left = x;
      right = y ∙ sym (map_number (moved_to a) b.outs k i);
      left_inside = omega (arith, ap net_of x);
      right_inside = omega (arith, ap net_of y, ab.inputs);
    }

-- their representatives, read from the table, and where the comparison goes on
module _ (a b : Netlist) (ab : pairs.Pair a b) (k x y : ℕ) (g : listing.Gate) (h : k < length a.outs) (is : gate_meant g ≡ get_or (z_gates a b) k no_gate)
    (fx : net_of g.x < length (both_table a b) → x ≡ model.rep_of (both_table a b) g.x) (fy : net_of g.y < length (both_table a b) → y ≡ model.rep_of (both_table a b) g.y) where
  abbrev left : List ℕ
  left = a.outs

  abbrev right : List ℕ
  right = map (moved_to a) b.outs

  o : OutputsAt a b k g
  o = outputs_at a b ab k g h is

  x_is : x ≡ model.rep_of (both_table a b) (get_or left k 0)
  x_is = fx o.left_inside ∙ ap (model.rep_of (both_table a b)) o.left

  y_is : y ≡ model.rep_of (both_table a b) (get_or right k 0)
  y_is = fy o.right_inside ∙ ap (model.rep_of (both_table a b)) o.right

  both_long : k < length right
  both_long = rw length-map (omega (arith, ab.outs))

  pub differ_here : (x ≡ y → ⊥) → reps_apart (1 + k) (both_table a b) (drop k left) (drop k right) ≡ 1 + k
  differ_here d = apart_here (both_table a b) left right k h both_long (λ e. d (x_is ∙ e ∙ sym y_is))

  pub differ_later : x ≡ y
      → reps_apart (1 + k) (both_table a b) (drop k left) (drop k right) ≡ reps_apart (1 + (k + 1)) (both_table a b) (drop (k + 1) left) (drop (k + 1) right)
  differ_later e = apart_next (both_table a b) left right k h both_long (sym x_is ∙ e ∙ y_is)
