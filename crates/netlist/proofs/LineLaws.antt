-- One line of a list, by what the cursor's reader answers: the reader's tests are the tests of the definition, in the same order.
use Prim.Native.Nat.{ℕ, suc}
use mathlib.Core.Path.{◌≡◌, refl, ◌∙◌}
use mathlib.Core.Bool.{Bool, true, false, ◌&&◌}
use mathlib.Core.List.{List, [], ◌∷◌}
use borrow.Author.Tests.{ltb-true, leb-true}
use lib.Dec.{ltb, leb}
use Rattle.model.specs.Limits.{most_inputs, most_gates, most_outputs}
use Rattle.model.specs.Answers.{Answer, guard, bind}
use Rattle.model.specs.Answers.Answer.{ok, refused}
use Rattle.model.specs.Lines.{Line}
use Rattle.model.specs.Frames as model
use Rattle.model.specs.Frames.{field, end_at, header_kind, xor_kind}
use Rattle.model.specs.Nets.{Netlist, size, is_below}
use Rattle.model.specs.Lists.{is_header, is_gate, is_output, in_range, gate_of, add_gate, add_output, empty_list, read_outputs, read_gates, read_list}
use Rattle.frame.specs.declared.cursor.Cursor.{Cursor}
use Rattle.frame.specs.declared.Gate.{Gate as GateLine}
use Rattle.frame.specs.declared.Frame.{Frame}
use Rattle.frame.specs.declared.Frame.TheVariants.{Header, Gate, Output, Resolve, Extend, Report}
use Rattle.frame.specs.Frames.{frame_of, first}
use Rattle.frame.specs.Frames.First.{none, found, fault}
use Rattle.frame.proofs.FirstLaws.{first_none, first_fault, first_found, Framed}
use Rattle.frame.proofs.OpLaws.{by_gate, by_extend}
use Rattle.netlist.specs.Says.{ahead, HeaderRead, GateRead, OutputRead}
use Rattle.netlist.proofs.DueLaws.{guard_passed, guard_failed, due_other, due_read, header_due, gate_due, output_due}

-- what follows a test follows inside it
bind_guard : {A B : Type 0} (b : Bool) (number line : ℕ) (o : Answer A) (f : A → Answer B) → bind (guard b number line o) f ≡ guard b number line (bind o f)
unfolding guard
bind_guard true number line o f = refl
bind_guard false number line o f = refl

-- ---- kinds

pub not_header : (f : Frame) → ((i g o : ℕ) → f ≡ Header i g o → ⊥) → is_header (frame_of f).kind ≡ false
not_header (Header i g o) other = absurd (other i g o refl)
not_header (Gate g) other = by_gate (λ k. is_header k ≡ false) refl refl g.op
not_header (Output l) other = refl
not_header (Resolve s) other = refl
not_header (Extend g) other = by_extend (λ k. is_header k ≡ false) refl refl g.op
not_header (Report r n s c) other = refl

pub not_gate : (f : Frame) → ((g : GateLine) → f ≡ Gate g → ⊥) → is_gate (frame_of f).kind ≡ false
not_gate (Header i g o) other = refl
not_gate (Gate g) other = absurd (other g refl)
not_gate (Output l) other = refl
not_gate (Resolve s) other = refl
not_gate (Extend g) other = by_extend (λ k. is_gate k ≡ false) refl refl g.op
not_gate (Report r n s c) other = refl

pub not_output : (f : Frame) → ((l : ℕ) → f ≡ Output l → ⊥) → is_output (frame_of f).kind ≡ false
not_output (Header i g o) other = refl
not_output (Gate g) other = by_gate (λ k. is_output k ≡ false) refl refl g.op
not_output (Output l) other = absurd (other l refl)
not_output (Resolve s) other = refl
not_output (Extend g) other = by_extend (λ k. is_output k ≡ false) refl refl g.op
not_output (Report r n s c) other = refl

-- ---- a line that was read

module _ (ls : List Line) (line : ℕ) (f : Frame) (rest : List Line) (next : ℕ) (e : found (frame_of f) rest next ≡ first ls line) where
  framed : Framed ls line (frame_of f) rest next
  framed = first_found ls line e

  -- another frame than the due one
  pub header_other : is_header (frame_of f).kind ≡ false → (like : ℕ → ℕ → Bool) → read_list like ls line ≡ refused 3 line
  header_other h like = due_other (header_due like line) ls framed h

  pub gate_other : is_gate (frame_of f).kind ≡ false → (k m : ℕ) (n : Netlist) → read_gates (suc k) m n ls line ≡ refused 3 line
  gate_other h k m n = due_other (gate_due k m n line) ls framed h

  pub output_other : is_output (frame_of f).kind ≡ false → (k : ℕ) (n : Netlist) → read_outputs (suc k) n ls line ≡ refused 3 line
  output_other h k n = due_other (output_due k n line) ls framed h

  -- a gate
  module _ (g : GateLine) (gate : f ≡ Gate g) where
    gate_next : (k m : ℕ) (n : Netlist)
        → read_gates (suc k) m n ls line
        ≡ bind (guard (is_below (size n) g.x && is_below (size n) g.y) 7 line (ok (gate_of xor_kind (frame_of f)))) (λ g. read_gates k m (add_gate n g) rest (suc line))
    gate_next k m n = due_read (gate_due k m n line) ls framed (rw gate (by_gate (λ k. is_gate k ≡ true) refl refl g.op)) ∙ rw gate

    pub gate_over_lem : (net : ℕ) → is_below net g.x && is_below net g.y ≡ false → (k m : ℕ) (n : Netlist) → size n ≡ net
        → read_gates (suc k) m n ls line ≡ refused 7 line
    gate_over_lem net h k m n s = gate_next k m n ∙ rw (s, guard_failed (is_below net g.x && is_below net g.y) 7 line (ok (gate_of xor_kind (frame_of f))) h)

    pub gate_read : (net : ℕ) → is_below net g.x && is_below net g.y ≡ true → GateRead ls line net rest next
    gate_read net h = record {
      gate = gate_of xor_kind (frame_of f);
      reads = λ k m n s. gate_next k m n ∙ rw (s, guard_passed (is_below net g.x && is_below net g.y) 7 line (ok (gate_of xor_kind (frame_of f))) h, framed.next_is);
    }

  -- an output
  module _ (l : ℕ) (output : f ≡ Output l) where
    output_next : (k : ℕ) (n : Netlist)
        → read_outputs (suc k) n ls line
        ≡ bind (guard (is_below (size n) l) 7 line (ok l)) (λ o. read_outputs k (add_output n o) rest (suc line))
    output_next k n = due_read (output_due k n line) ls framed (rw output) ∙ rw output

    pub output_over : (nets : ℕ) → is_below nets l ≡ false → (k : ℕ) (n : Netlist) → size n ≡ nets → read_outputs (suc k) n ls line ≡ refused 7 line
    output_over nets h k n s = output_next k n ∙ rw (s, guard_failed (is_below nets l) 7 line (ok l) h)

    pub output_read : (nets : ℕ) → is_below nets l ≡ true → OutputRead ls line nets rest next
    output_read nets h = record {
      literal = l;
      reads = λ k n s. output_next k n ∙ rw (s, guard_passed (is_below nets l) 7 line (ok l) h, framed.next_is);
    }

  -- a header
  module _ (i g o : ℕ) (header : f ≡ Header i g o) where
    header_next : (like : ℕ → ℕ → Bool)
        → read_list like ls line
        ≡ bind (guard (in_range (frame_of f)) 5 line (guard (like i o) 6 line (ok (frame_of f)))) (λ h. read_gates (field h 1) (field h 2) (empty_list (field h 0)) rest (suc line))
    header_next like = due_read (header_due like line) ls framed (rw header) ∙ rw header

    pub header_range : leb i most_inputs && leb g most_gates && ltb 0 o && leb o most_outputs ≡ false → (like : ℕ → ℕ → Bool)
        → read_list like ls line ≡ refused 5 line
    header_range h like = header_next like ∙ rw (guard_failed (in_range (frame_of f)) 5 line (guard (like i o) 6 line (ok (frame_of f))) (rw header h))

-- a header at a cursor
pub header_read : (c : Cursor) (f : Frame) (next : Cursor) → found (frame_of f) (ahead next) next.line ≡ first (ahead c) c.line → (i g o : ℕ) → f ≡ Header i g o
    → leb i most_inputs && leb g most_gates && ltb 0 o && leb o most_outputs ≡ true → HeaderRead c (record { inputs = i; gates = g; outputs = o }) next
unfolding guard
header_read c f next e i g o header h =
    let outs = both (leb i most_inputs && leb g most_gates && ltb 0 o) h in
    let one = both (leb i most_inputs && leb g most_gates) outs.0 in
    let gates = both (leb i most_inputs) one.0 in
    let n = (framed (ahead c) c.line f (ahead next) next.line e).next_is in
    record {
      inputs = leb-true i most_inputs gates.0;
      gates = leb-true g most_gates gates.1;
      some = ltb-true 0 o one.1;
      outputs = leb-true o most_outputs outs.1;
      reads = λ like.
          header_next (ahead c) c.line f (ahead next) next.line e i g o header like
          ∙ rw (guard_passed (in_range (frame_of f)) 5 c.line (guard (like i o) 6 c.line (ok (frame_of f))) (rw header h), n, header)
          (bind_guard (like i o) 6 c.line (ok (record { kind = header_kind; fields = i ∷ g ∷ o ∷ [] })) _);
    }
  where
    both : (a : Bool) {b : Bool} → a && b ≡ true → (a ≡ true) × (b ≡ true)
    both true e = (refl, e)
    both false e = cc

-- ---- the end

module _ (ls : List Line) (line : ℕ) where
  pub end_none : none ≡ first ls line → end_at ls line ≡ ok tt
  unfolding end_at
  end_none e = rw (first_none ls line e)

  -- a frame is 3
  pub end_other : {f : model.Frame} {rest : List Line} {next : ℕ} → found f rest next ≡ first ls line → end_at ls line ≡ refused 3 line
  unfolding end_at
  end_other e = let r = first_found ls line e in rw (r.cut, r.frame)

  pub end_fault : {number place : ℕ} → fault number place ≡ first ls line → end_at ls line ≡ refused number place
  unfolding end_at
  end_fault e = let r = first_fault ls line e in rw (r.cut, r.refusal)
