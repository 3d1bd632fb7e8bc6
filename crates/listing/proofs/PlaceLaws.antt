-- Where a list stands, the frame of each gate and output is read at its place; so the line there is of that kind and no other, it is not refused,
-- and its fields are those of the frame.
use Prim.Native.Nat.{ℕ, ◌+◌, ◌-◌, ◌*◌, ◌<◌, ◌≤◌}
use mathlib.Core.Path.{◌≡◌, refl, sym, ap, ◌∙◌}
use mathlib.Core.Bool.{Bool, true, false, cond}
use mathlib.Core.List.{List, [], ◌∷◌}
use native.Mathlib.Omega.{arith}
use Rattle.std.specs.Prelude.{Option, Some, None}
use Rattle.std.specs.Option.{IsSome}
use lib.ListN.{length, take, drop, get_or, length-drop}
use lib.Seq.{take_all}
use lib.Dec.{eqb}
use Rattle.model.specs.Lines.{lines}
use Rattle.model.specs.Frames as model
use Rattle.model.specs.Frames.{and_kind, xor_kind, field}
use Rattle.model.specs.Nets as nets
use Rattle.model.specs.Nets.{Netlist}
use Rattle.model.specs.Lists.{gate_of}
use Rattle.laws.specs.Pairs.{is_xor}
use Rattle.laws.specs.ListText.{Stands, list_length, FirstReads, gate_frame as model_gate, header_bytes, gate_bytes, output_bytes, gate_again}
use Rattle.frame.specs.declared.Gate.{Gate}
use Rattle.frame.specs.declared.Op.{Op}
use Rattle.frame.specs.declared.Op.TheVariants.{And, Xor}
use Rattle.frame.specs.Frames.{op_of, first, gate_kind}
use Rattle.frame.specs.Frames.First.{found}
use Rattle.frame.specs.Rows.{gate_frame, output_frame, Says, OpSays, GateSays, LiteralSays}
use Rattle.frame.proofs.FirstLaws.{found_same}
use Rattle.frame.proofs.KindLaws.{found_kind}
use Rattle.listing.specs.Gates.{gate_meant, no_gate}

-- a slice to the end is what the definitions drop to
pub rest_is : (text : List ℕ) (place : ℕ) → take (length text - place) (drop place text) ≡ drop place text
rest_is text place = take_all (length text - place) (drop place text) (omega (arith, length-drop place text))

-- ---- a text's first line

module _ (text : List ℕ) {f : model.Frame} (r : FirstReads text 1 f) where
  found_there : found f r.1 2 ≡ first (lines text) 1
  unfolding first
  found_there = sym (rw (r.2, r.3))

  -- what is read there as the line that is due is the frame
  module _ {A : Type 0} (frame : A → model.Frame) (bytes : ℕ) (due : A) (is : frame due ≡ f) where
    pub there : (r : Option A) → Says frame bytes text r → IsSome r
    there (Some a) l = refl
    there None lacks = absurd (lacks due 1 2 r.1 (rw is found_there))

    pub said : (a : A) (r : Option A) → Says frame bytes text r → r ≡ Some a → frame a ≡ f
    said a r l e = let h = rw e at l in found_same (h.framed 1 ∙ sym found_there)

  -- and so is the operation that the kind tells
  pub op_there : (due : Gate) → gate_frame due ≡ f → (r : Option Op) → OpSays text r → IsSome r
  op_there due is (Some op) k = refl
  op_there due is None lacks = absurd (lacks due 1 2 r.1 (rw is found_there))

  pub op_said : (due : Gate) → gate_frame due ≡ f → (op : Op) (r : Option Op) → OpSays text r → r ≡ Some op → op ≡ due.op
  op_said due is op r k e = let h = rw e at k in same_op op due.op (sym (found_kind text 1 found_there h) ∙ ap (λ (f : model.Frame). f.kind) (sym is))
    where
      same_op : (op due : Op) → gate_kind op ≡ gate_kind due → op ≡ due
      same_op And And e = refl
      same_op And Xor e = absurd (omega arith)
      same_op Xor And e = absurd (omega arith)
      same_op Xor Xor e = refl

-- ---- gates and outputs of a list

module _ (text : List ℕ) {n : Netlist} (s : Stands text n) (k : ℕ) where
  module _ (h : k < length n.gates) where
    abbrev gate : nets.Gate
    gate = get_or n.gates k no_gate

    abbrev due : Gate
    due = record { op = cond (is_xor gate.op) Xor And; x = gate.x; y = gate.y }

    is_due : gate_frame due ≡ model_gate gate
    is_due = by_op (is_xor gate.op)
      where
        by_op : (b : Bool) → ◌≡◌ {A = model.Frame} (record { kind = gate_kind (cond b Xor And); fields = gate.x ∷ gate.y ∷ [] }) (record { kind = cond b xor_kind and_kind; fields = gate.x ∷ gate.y ∷ [] })
        by_op true = refl
        by_op false = refl

    -- its place is in the text
    pub gate_inside : header_bytes + gate_bytes * k ≤ length text
    gate_inside = omega (arith, list_length s)

    -- the gate is what is read there
    pub gate_there : (r : Option Gate) → GateSays (drop (header_bytes + gate_bytes * k) text) r → IsSome r
    gate_there r says = there _ (s.gate_frame_read k no_gate h 1) gate_frame gate_bytes due is_due r says

    pub gate_is : (g : Gate) (r : Option Gate) → GateSays (drop (header_bytes + gate_bytes * k) text) r → r ≡ Some g → gate_meant g ≡ gate
    gate_is g r says e = ap (gate_of xor_kind) (said _ (s.gate_frame_read k no_gate h 1) gate_frame gate_bytes due is_due g r says e) ∙ gate_again s k no_gate h

    -- and its operation what its kind tells
    pub kind_there : (r : Option Op) → OpSays (drop (header_bytes + gate_bytes * k) text) r → IsSome r
    kind_there r says = op_there _ (s.gate_frame_read k no_gate h 1) due is_due r says

    pub op_is : (op : Op) (r : Option Op) → OpSays (drop (header_bytes + gate_bytes * k) text) r → r ≡ Some op → op_of op ≡ gate.op
    op_is op r says e =
        ap op_of (op_said _ (s.gate_frame_read k no_gate h 1) due is_due op r says e)
        ∙ meant (is_xor gate.op)
        ∙ ap (λ (g : nets.Gate). g.op) (gate_again s k no_gate h)
      where
        meant : (b : Bool) → op_of (cond b Xor And) ≡ cond (eqb (cond b xor_kind and_kind) xor_kind) nets.Op.xor nets.Op.and
        meant true = refl
        meant false = refl

  module _ (h : k < length n.outs) where
    pub output_inside : header_bytes + gate_bytes * length n.gates + output_bytes * k ≤ length text
    output_inside = omega (arith, list_length s)

    -- the output is what is read there
    pub output_there : (r : Option ℕ) → LiteralSays (drop (header_bytes + gate_bytes * length n.gates + output_bytes * k) text) r → IsSome r
    output_there r says = there _ (s.output_frame_read k h 1) output_frame output_bytes (get_or n.outs k 0) refl r says

    pub output_is : (l : ℕ) (r : Option ℕ) → LiteralSays (drop (header_bytes + gate_bytes * length n.gates + output_bytes * k) text) r → r ≡ Some l → l ≡ get_or n.outs k 0
    output_is l r says e =
        ap (λ (f : model.Frame). field f 0) (said _ (s.output_frame_read k h 1) output_frame output_bytes (get_or n.outs k 0) refl l r says e)
