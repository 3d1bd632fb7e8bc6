-- The miter's variables, one by one: what the code builds for each has the clauses of the definition's gate.
use Prim.Native.Nat.{ℕ, zero, suc, ◌+◌, ◌-◌, ◌*◌, ◌/◌, ◌≤◌, ◌<◌}
use mathlib.Core.Path.{◌≡◌, refl, sym, ap, ◌∙◌, subst}
use mathlib.Core.Bool.{true}
use mathlib.Core.List.{List, [], ◌∷◌, ◌++◌, map}
use native.Mathlib.Omega.{arith}
use lib.ListN.{length, get_or, length-append, get_or-append}
use lib.Seq.{get_or-append-add}
use borrow.Author.Tests.{le-leb, lt-leb}
use Rattle.model.specs.Limits.{highest_variable}
use Rattle.model.specs.Nets as nets
use Rattle.model.specs.Nets.{Gate, Netlist, reads_below}
use Rattle.model.specs.Clauses.{positive, negative, neg, op_clauses, gate_clauses}
use Rattle.model.specs.Miter.{shift, shift_gate, zs, ws, first_gate, first_z, first_w, right_gates, gates_of, z_gates, w_gates, miter_gates}
use Rattle.laws.specs.Literals.{literals_below}
use Rattle.laws.specs.ListText.{ordered_at}
use Rattle.laws.specs.Pairs as pairs
use Rattle.laws.specs.MiterOrder.{length_gates, length_z, length_miter, ordered_miter}
use Rattle.frame.specs.declared.Op.{Op}
use Rattle.frame.specs.declared.Op.TheVariants.{And, Xor}
use Rattle.frame.specs.Frames.{op_of}
use Rattle.literal.specs.declared.Literal.{Literal}
use Rattle.frame.specs.declared.Gate as listing
use Rattle.listing.specs.Gates.{gate_meant, no_gate}
use Rattle.steps.specs.declared.gates.Definition.{Definition}
use Rattle.miter.specs.Miters.{Defines, gate_count, z_gate, w_variable, w_gate}
use Rattle.steps.proofs.StepLaws.{gate_in_room}

-- ---- literals

pub shift_input : (i k l : ℕ) → l / 2 ≤ i → l ≡ shift i k l
unfolding shift
shift_input i k l h = rw (le-leb (l / 2) i h)

pub shift_gate_lem : (i k l : ℕ) → i < l / 2 → l + 2 * k ≡ shift i k l
unfolding shift
shift_gate_lem i k l h = rw (lt-leb (l / 2) i h)

-- ---- gates of the lists

pub meant : (op : Op) (x y : ℕ) → gate_meant (record { op = op; x = x; y = y }) ≡ record { op = op_of op; x = x; y = y }
meant And x y = refl
meant Xor x y = refl

module _ (g : listing.Gate) (m : Gate) (is : gate_meant g ≡ m) where
  op_is : m.op ≡ op_of g.op
  op_is = ap (λ (k : Gate). k.op) (sym is ∙ meant g.op g.x g.y)

  x_is : m.x ≡ g.x
  x_is = ap (λ (k : Gate). k.x) (sym is)

  y_is : m.y ≡ g.y
  y_is = ap (λ (k : Gate). k.y) (sym is)

  -- moved as a right gate's literals are
  pub moved : (x y : ℕ) (f : ℕ → ℕ) → x ≡ f g.x → y ≡ f g.y
      → gate_meant (record { op = g.op; x = x; y = y }) ≡ record { op = m.op; x = f m.x; y = f m.y }
  moved x y f ex ey = meant g.op x y ∙ rw (op_is, x_is, y_is, ex, ey)

-- ---- definitions

-- variable t as a gate over variables below it
pub gate_defines : (g : listing.Gate) (t : ℕ) (n x y : Literal) → n.code ≡ positive t → x.code ≡ g.x → y.code ≡ g.y → t ≤ highest_variable
    → reads_below t (gate_meant g) ≡ true → Defines (record { op = g.op; n = n; x = x; y = y }) t (gate_meant g)
gate_defines g t n x y en ex ey low r =
    let b = literals_below t (gate_meant g) r in
    record {
      same = rw (en, ex, ey) (sym (ap (gate_clauses t) (meant g.op g.x g.y) ∙ gate_in_room g.op t g.x g.y));
      low = record { low_n = omega arith; low_x = omega (arith, b.0); low_y = omega (arith, b.1) };
    }

neg_positive : (v : ℕ) → neg (positive v) ≡ negative v
neg_positive v = omega arith

pub w_behind : (z w k : ℕ) → (k ≡ 0 → ⊥) → w + (k - 1) ≡ w_variable z w k
w_behind z w zero h = absurd (h refl)
w_behind z w (suc k) h = omega arith

pub w_low : (z w k : ℕ) → z ≤ w → w_variable z w k ≤ w + k
w_low z w zero h = omega arith
w_low z w (suc k) h = omega arith

pub w_defines : (z w k : ℕ) (n x y : Literal) → z ≤ w → w + k < highest_variable → n.code ≡ negative (w + k)
    → x.code ≡ negative (w_variable z w k) → y.code ≡ negative (z + 1 + k)
    → Defines (record { op = And; n = n; x = x; y = y }) (w + k) (w_gate z w k)
unfolding op_clauses
w_defines z w k n x y h low en ex ey =
    record {
      same = rw (en, ex, ey, neg_positive (w_variable z w k), neg_positive (z + 1 + k));
      low = record { low_n = omega arith; low_x = omega (arith, w_low z w k h); low_y = omega arith };
    }

-- ---- the variable of each

map_at : (f : Gate → Gate) (gs : List Gate) (j : ℕ) (d e : Gate) → j < length gs → get_or (map f gs) j d ≡ f (get_or gs j e)
map_at f [] j d e h = absurd (omega arith)
map_at f (g ∷ gs) zero d e h = refl
map_at f (g ∷ gs) (suc j) d e h = map_at f gs j d e (omega arith)

zs_at : (i k : ℕ) (xs ys : List ℕ) (j : ℕ) (d : Gate) → j < length xs → j < length ys → get_or (zs i k xs ys) j d ≡ z_gate i k xs ys j
unfolding zs
zs_at i k [] ys j d h g = absurd (omega arith)
zs_at i k (x ∷ xs) [] j d h g = absurd (omega arith)
zs_at i k (x ∷ xs) (y ∷ ys) zero d h g = refl
zs_at i k (x ∷ xs) (y ∷ ys) (suc j) d h g = zs_at i k xs ys j d (omega arith) (omega arith)

abbrev or_of : ℕ → ℕ → Gate
or_of x y = record { op = nets.Op.or; x = positive x; y = positive y }

or_gate : (x x' y y' : ℕ) → x ≡ x' → y ≡ y' → or_of x y ≡ or_of x' y'
or_gate x x' y y' e f = rw (e, f)

ws_at : (n t w z j : ℕ) (d : Gate) → j < n → get_or (ws n t w z) j d ≡ or_of (w_variable w t j) (z + j)
unfolding ws
ws_at zero t w z j d h = absurd (omega arith)
ws_at (suc n) t w z zero d h = or_gate w w z (z + 0) refl (omega arith)
ws_at (suc n) t w z (suc zero) d h = ws_at n (suc t) t (suc z) zero d (omega arith) ∙ or_gate t (t + 0) (suc z + 0) (z + 1) (omega arith) (omega arith)
ws_at (suc n) t w z (suc (suc j)) d h =
    ws_at n (suc t) t (suc z) (suc j) d (omega arith) ∙ or_gate (suc t + j) (t + suc j) (suc z + suc j) (z + suc (suc j)) (omega arith) (omega arith)

module _ (a b : Netlist) (ab : pairs.Pair a b) where
  pub left_of : (i : ℕ) (d : Gate) → i < length a.gates → get_or (gates_of a b) i d ≡ get_or a.gates i d
  left_of i d h = get_or-append a.gates (right_gates a b) d i h

  pub right_of : (j : ℕ) (d : Gate) → j < length b.gates
      → get_or (gates_of a b) (length a.gates + j) d ≡ shift_gate a.inputs (length a.gates) (get_or b.gates j d)
  right_of j d h = get_or-append-add a.gates (right_gates a b) j d ∙ map_at (shift_gate a.inputs (length a.gates)) b.gates j d d h

  -- the XOR of two outputs
  pub z_of_lem : (j : ℕ) (d : Gate) → j < length a.outs → get_or (z_gates a b) j d ≡ z_gate a.inputs (length a.gates) a.outs b.outs j
  z_of_lem j d h = zs_at a.inputs (length a.gates) a.outs b.outs j d h (omega (arith, ab.outs))

  -- the miter's gates, part by part
  gates_at : (i : ℕ) (d : Gate) → i < length (gates_of a b) → get_or (miter_gates a b) i d ≡ get_or (gates_of a b) i d
  unfolding miter_gates
  gates_at i d h =
      get_or-append (gates_of a b ++ z_gates a b) (w_gates a b) d i (omega (arith, length-append (gates_of a b) (z_gates a b)))
      ∙ get_or-append (gates_of a b) (z_gates a b) d i h

  z_at : (j : ℕ) (d : Gate) → j < length (z_gates a b) → get_or (miter_gates a b) (length (gates_of a b) + j) d ≡ get_or (z_gates a b) j d
  unfolding miter_gates
  z_at j d h =
      get_or-append (gates_of a b ++ z_gates a b) (w_gates a b) d (length (gates_of a b) + j) (omega (arith, length-append (gates_of a b) (z_gates a b)))
      ∙ get_or-append-add (gates_of a b) (z_gates a b) j d

  w_at : (j : ℕ) (d : Gate) → j + 1 < length a.outs
      → get_or (miter_gates a b) (length (gates_of a b ++ z_gates a b) + j) d ≡ w_gate (first_z a b) (first_w a b) j
  unfolding miter_gates
  w_at j d h =
      get_or-append-add (gates_of a b ++ z_gates a b) (w_gates a b) j d
      ∙ ws_at (length a.outs - 1) (first_w a b) (first_z a b) (suc (first_z a b)) j d (omega arith)
      ∙ or_gate _ (w_variable (first_z a b) (first_w a b) j) (suc (first_z a b) + j) (first_z a b + 1 + j) refl (omega arith)

-- ---- two lists that were read

module _ {a b : Netlist} (ab : pairs.Pair a b) where
  pub right_literals : (k : ℕ) → k < length b.gates → (g : listing.Gate) → gate_meant g ≡ get_or b.gates k no_gate → (g.x < 4096) × (g.y < 4096)
  right_literals k h g is =
      let m : Gate = get_or b.gates k no_gate in
      let r = literals_below (1 + b.inputs + k) m (ordered_at (1 + b.inputs) b.gates k no_gate ab.right.ordered h) in
      (omega (arith, x_is g m is, r.0, ab.right.inputs, ab.right.gates), omega (arith, y_is g m is, r.1, ab.right.inputs, ab.right.gates))

  -- gate k of both lists: of the left, or behind those
  pub left_gate_of : (k : ℕ) → k < length a.gates → get_or a.gates k no_gate ≡ get_or (gates_of a b) k no_gate
  left_gate_of k h = sym (left_of a b ab k no_gate h)

  pub right_gate_of : (k inputs left : ℕ) → inputs ≡ a.inputs → left ≡ length a.gates → left ≤ k → k < length a.gates + length b.gates
      → shift_gate inputs left (get_or b.gates (k - left) no_gate) ≡ get_or (gates_of a b) k no_gate
  right_gate_of k inputs left i l h m =
      let e : length a.gates + (k - length a.gates) ≡ k = omega arith in
      rw (i, l) (sym (right_of a b ab (k - length a.gates) no_gate (omega arith)) ∙ ap (λ (x : ℕ). get_or (gates_of a b) x no_gate) e)

  pub z_gate_of : (k : ℕ) → k < length a.outs → z_gate a.inputs (length a.gates) a.outs b.outs k ≡ get_or (z_gates a b) k no_gate
  z_gate_of k h = sym (z_of_lem a b ab k no_gate h)

  -- ---- the miter's variables

  -- how many there are
  pub gate_total : length (miter_gates a b) ≡ gate_count (record { left = a; right = b })
  gate_total = length_miter a b ab

  -- variable i of them is a gate of both lists, or a z
  pub gate_variable : (i j : ℕ) → i ≡ j → j < length a.gates + length b.gates → get_or (gates_of a b) j no_gate ≡ get_or (miter_gates a b) i no_gate
  gate_variable i j e h = rw e (sym (gates_at a b ab j no_gate (omega (arith, length_gates a b ab))))

  pub z_variable : (i j : ℕ) → i ≡ length a.gates + length b.gates + j → j < length a.outs → get_or (z_gates a b) j no_gate ≡ get_or (miter_gates a b) i no_gate
  z_variable i j e h =
      let n : length (gates_of a b) + j ≡ i = omega (arith, length_gates a b ab) in
      rw (← n) (sym (z_at a b ab j no_gate (omega (arith, length_z a b ab))))

  -- it reads variables below its own; so its definition is that of the gate that was read for it
  pub read_variable : (v i : ℕ) (d : Definition) (g : listing.Gate) → v ≡ 1 + a.inputs + i → i < length (miter_gates a b) → gate_meant g ≡ get_or (miter_gates a b) i no_gate
      → (reads_below v (gate_meant g) ≡ true → Defines d v (gate_meant g)) → Defines d v (get_or (miter_gates a b) i no_gate)
  read_variable v i d g e h is def =
      let at : first_gate a + i ≡ v = omega arith in
      let low : reads_below v (get_or (miter_gates a b) i no_gate) ≡ true =
      rw (← at) (ordered_at (first_gate a) (miter_gates a b) i no_gate (ordered_miter a b ab) h) in
      subst (Defines d v) is (def (ap (reads_below v) is ∙ low))

  -- behind those it is a w
  pub w_variable_lem : (v i j z first : ℕ) (d : Definition) → v ≡ 1 + a.inputs + i → v ≡ first + j → i < length (miter_gates a b)
      → z ≡ 1 + a.inputs + length a.gates + length b.gates → first ≡ z + length a.outs
      → Defines d (first + j) (w_gate z first j) → Defines d v (get_or (miter_gates a b) i no_gate)
  unfolding first_z
  w_variable_lem v i j z first d e is h ez ew def =
      let n : length (gates_of a b ++ z_gates a b) + j ≡ i =
      omega (arith, length-append (gates_of a b) (z_gates a b), length_gates a b ab, length_z a b ab) in
      let fz : z ≡ first_z a b = omega arith in
      let fw : first ≡ first_w a b = omega arith in
      rw (is, ← n, w_at a b ab j no_gate (omega (arith, gate_total)), ← fw, ← fz) def
