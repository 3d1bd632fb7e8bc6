-- A text begins with one list only: the list that stands in it is the one that is read there, whatever the line and whatever a header was held to.
use Prim.Native.Nat.{ℕ, suc, ◌+◌, ◌*◌, ◌<◌}
use mathlib.Core.Path.{◌≡◌, refl, subst, ◌∙◌}
use mathlib.Core.Bool.{Bool, true, false, cond}
use mathlib.Core.List.{List, [], ◌∷◌, ◌++◌}
use native.Mathlib.Omega.{arith}
use borrow.Author.Tests.{lt-ltb, le-leb}
use lib.ListN.{length, drop, get_or, length-append}
use lib.Seq.{drop-drop, append_snoc}
use Rattle.std.proofs.Common.{append-nil}
use Rattle.model.specs.Answers.{guard}
use Rattle.model.specs.Answers.Answer.{ok}
use Rattle.model.specs.Lines.{Line, lines}
use Rattle.model.specs.Frames.{Frame, frame_at, due_at, widths, total, and_kind, xor_kind}
use Rattle.model.specs.Nets.{Gate, Netlist, size, net_of, reads_below}
use Rattle.model.specs.Lists.{is_header, is_gate, is_output, gate_of, header_at, gate_at, output_at, add_gate, add_output, empty_list, read_outputs, read_gates, read_list, any_header}
use Rattle.laws.specs.Pairs.{is_xor, Ordered, Below, Good}
use Rattle.laws.specs.RoundTrip.{line_taken}
use Rattle.laws.specs.ListText.{Stands, Reads, header_frame, gate_frame, output_frame, header_bytes, gate_bytes, output_bytes, gate_bytes_lem, gate_again}
use Rattle.listing.specs.Listing.{list_or_none, list_in}

-- ---- a line that is read as the frame that is due

due_here : (due : ℕ → Bool) (l : Line) (line : ℕ) (f : Frame) → frame_at l line ≡ ok f → due f.kind ≡ true → due_at due l line ≡ ok f
unfolding due_at guard
due_here due l line f e d = rw (e, d) refl

output_here : (n : Netlist) (l : Line) (line o : ℕ) → frame_at l line ≡ ok (output_frame o) → net_of o < size n → output_at n l line ≡ ok o
unfolding output_at guard
output_here n l line o e below = rw (due_here is_output l line (output_frame o) e refl, lt-ltb _ _ below) refl

gate_due : (g : Gate) → is_gate (gate_frame g).kind ≡ true
gate_due g = by_op (is_xor g.op)
  where
    by_op : (b : Bool) → is_gate (cond b xor_kind and_kind) ≡ true
    by_op true = refl
    by_op false = refl

gate_here : (n : Netlist) (l : Line) (line : ℕ) (g : Gate) → frame_at l line ≡ ok (gate_frame g) → gate_of xor_kind (gate_frame g) ≡ g → reads_below (size n) g ≡ true
    → gate_at n l line ≡ ok g
unfolding gate_at guard
gate_here n l line g e again below = rw (due_here is_gate l line (gate_frame g) e (gate_due g)) (passed _ again)
  where
    passed : (h : Gate) → h ≡ g → guard (reads_below (size n) h) 7 line (ok h) ≡ ok g
    passed h same = rw (same, below) refl

header_here : (n : Netlist) (l : Line) (line : ℕ) → Good n → frame_at l line ≡ ok (header_frame n) → header_at any_header l line ≡ ok (header_frame n)
unfolding header_at guard
header_here n l line g e =
    rw (due_here is_header l line (header_frame n) e refl, le-leb _ _ g.inputs, le-leb _ _ g.gates, lt-ltb _ _ g.some, le-leb _ _ g.outs) refl

-- ---- lines one behind the other

-- what stands behind the first of lines of w bytes
behind : {A : Type 0} (f : A → Frame) (w : ℕ) (a : A) (rest : List A) (d : A) (t : List ℕ)
    → ((k : ℕ) → k < suc (length rest) → Reads (drop (w * k) t) (f (get_or (a ∷ rest) k d)))
    → (k : ℕ) → k < length rest → Reads (drop (w * k) (drop w t)) (f (get_or rest k d))
behind f w a rest d t each k h =
    let next : w + w * k ≡ w * suc k = omega arith in
    rw (drop-drop (w * k) w t, next) (each (suc k) (omega arith))

outputs_in : (os : List ℕ) (n : Netlist) (t : List ℕ) (line : ℕ) → ((k : ℕ) → k < length os → Reads (drop (output_bytes * k) t) (output_frame (get_or os k 0)))
    → Below (size n) os → list_or_none (read_outputs (length os) n (lines t) line) ≡ record { inputs = n.inputs; gates = n.gates; outs = n.outs ++ os }
unfolding read_outputs widths total
outputs_in [] n t line each below = rw append-nil refl
outputs_in (o ∷ os) n t line each below =
    let r = each 0 (omega arith) line in
    let s = line_taken line (output_frame o) r.2 r.3 in
    let rest = outputs_in os (add_output n o) (drop output_bytes t) (suc line) (behind output_frame output_bytes o os 0 t each) below.1 in
    rw (r.2, output_here n r.0 line o r.3 below.0, ← s.behind) (rest ∙ rw append_snoc refl)

gates_in : (gs : List Gate) (os : List ℕ) (n : Netlist) (t : List ℕ) (line : ℕ)
    → ((k : ℕ) (d : Gate) → k < length gs → Reads (drop (gate_bytes * k) t) (gate_frame (get_or gs k d)))
    → ((k : ℕ) (d : Gate) → k < length gs → gate_of xor_kind (gate_frame (get_or gs k d)) ≡ get_or gs k d)
    → ((k : ℕ) → k < length os → Reads (drop (gate_bytes * length gs + output_bytes * k) t) (output_frame (get_or os k 0)))
    → Ordered (size n) gs → Below (size n + length gs) os
    → list_or_none (read_gates (length gs) (length os) n (lines t) line) ≡ record { inputs = n.inputs; gates = n.gates ++ gs; outs = n.outs ++ os }
unfolding read_gates widths total
gates_in [] os n t line each again outs ordered below =
    let here : (k : ℕ) → k < length os → Reads (drop (output_bytes * k) t) (output_frame (get_or os k 0)) =
    λ k h. subst (λ (p : ℕ). Reads (drop p t) (output_frame (get_or os k 0))) (omega arith) (outs k h) in
    outputs_in os n t line here (subst (λ (k : ℕ). Below k os) (omega arith) below) ∙ rw append-nil refl
gates_in (g ∷ gs) os n t line each again outs ordered below =
    let r = each 0 g (omega arith) line in
    let s = line_taken line (gate_frame g) r.2 r.3 in
    let behind_it : lines (drop gate_bytes t) ≡ r.1 = subst (λ (k : ℕ). lines (drop k t) ≡ r.1) (gate_bytes_lem g) s.behind in
    let more : size (add_gate n g) ≡ suc (size n) = omega (arith, length-append n.gates (g ∷ [])) in
    let rest =
    gates_in gs os (add_gate n g) (drop gate_bytes t) (suc line) (λ k d. behind gate_frame gate_bytes g gs d t (λ j. each j d) k)
    (λ k d h. again (suc k) d (omega arith))
    (λ k h.
    let next : gate_bytes + (gate_bytes * length gs + output_bytes * k) ≡ gate_bytes * suc (length gs) + output_bytes * k = omega arith in
    rw (drop-drop (gate_bytes * length gs + output_bytes * k) gate_bytes t, next) (outs k h))
    (rw more ordered.1) (subst (λ (k : ℕ). Below k os) (omega (arith, more)) below) in
    rw (r.2, gate_here n r.0 line g r.3 (again 0 g (omega arith)) ordered.0, ← behind_it) (rest ∙ rw append_snoc refl)

-- ---- a list

pub list_in_stands : {t : List ℕ} {n : Netlist} → Stands t n → list_in t ≡ n
unfolding list_in read_list widths total
list_in_stands {t} {n} s =
    let r = s.header_frame_read 1 in
    let h = line_taken 1 (header_frame n) r.2 r.3 in
    rw (r.2, header_here n r.0 1 s.good r.3, ← h.behind)
    (gates_in n.gates n.outs (empty_list n.inputs) (drop header_bytes t) 2 (λ k d q. rw (drop-drop (gate_bytes * k) header_bytes t) (s.gate_frame_read k d q))
    (λ k d q. gate_again s k d q)
    (λ k q.
    let next : header_bytes + (gate_bytes * length n.gates + output_bytes * k) ≡ header_bytes + gate_bytes * length n.gates + output_bytes * k = omega arith in
    rw (drop-drop (gate_bytes * length n.gates + output_bytes * k) header_bytes t, next) (s.output_frame_read k q))
    (subst (λ (k : ℕ). Ordered k n.gates) (omega arith) s.good.ordered) (subst (λ (k : ℕ). Below k n.outs) (omega arith) s.good.below))
