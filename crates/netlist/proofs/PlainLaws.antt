-- Lines that are gates or outputs: what such a line says of its list, a row of them, and the refusal of the line that ends it.
use Prim.Native.Nat.{ℕ, zero, suc, ◌+◌, ◌-◌, ◌*◌, ◌<◌, ◌≤◌}
use mathlib.Core.Path.{◌≡◌, refl, sym, ap, ◌∙◌}
use mathlib.Core.Bool.{Bool, true, false, ◌&&◌, cond}
use mathlib.Core.List.{List, [], ◌∷◌}
use native.Mathlib.Omega.{arith}
use Rattle.std.proofs.Common.{true≢false}
use lib.ListN.{length, take, drop, length-drop}
use lib.Seq.{drop-drop}
use Rattle.std.specs.Borrow.{Bor}
use Rattle.std.proofs.lemmas.List.{take_all}
use Rattle.laws.specs.Bools.{below_or_at}
use Rattle.laws.specs.ListText.{gate_bytes, output_bytes}
use Rattle.model.specs.Frames as model
use Rattle.model.specs.Frames.{output_kind, field}
use Rattle.model.specs.Lines.{Line, lines}
use Rattle.model.specs.Nets.{Netlist, size, is_below}
use Rattle.model.specs.Lists.{is_gate, is_output, read_gates, read_outputs}
use Rattle.frame.specs.declared.Op.{Op}
use Rattle.frame.specs.declared.Frame.{Frame}
use Rattle.frame.specs.declared.Frame.TheVariants.{Header, Gate, Output, Resolve, Extend, Report}
use Rattle.frame.specs.Frames.{frame_of, gate_kind}
use Rattle.frame.specs.declared.Gate.{Gate as GateLine}
use Rattle.frame.specs.Fields.{HasLine}
use Rattle.frame.specs.Rows.{Lacks, gate_frame}
use Rattle.frame.proofs.FirstLaws.{found_same}
use Rattle.frame.proofs.OpLaws.{by_gate, by_extend}
use Rattle.refusal.specs.declared.Refusal.{Refusal}
use Rattle.refusal.specs.Answers.{number_of, refused_by}
use Rattle.frame.specs.declared.cursor.Cursor.{Cursor}
use Rattle.netlist.specs.Says.{ahead, GatesRead, OutputsRead}
use Rattle.netlist.specs.Plain.{NoGate, PlainGate, NoOutput, PlainOutput, At, Rows, Refused}
use Rattle.netlist.specs.Plain.Refused.{missing, other}
use Rattle.netlist.proofs.DueLaws.{due_missing, gate_due, output_due}
use Rattle.netlist.proofs.LineLaws.{gate_read, gate_other, gate_over_lem, output_read, output_other, output_over}
use Rattle.netlist.proofs.LoopLaws.{gates_none, gates_more, outputs_none, outputs_more}

-- ---- one line

module _ (text : List ℕ) where
  -- no gate
  pub no_gate : ((g : GateLine) → Lacks text (gate_frame g)) → (net : ℕ) → NoGate (lines text) net
  no_gate lacks net line next g rest e = absurd (lacks g line next rest e)

  -- a gate, and an output, whether or not it reads nets that it may
  pub plain_gate : (op : Op) (x y : ℕ) → HasLine text gate_bytes (gate_kind op) (x ∷ y ∷ []) → (net : ℕ) (r : Bool) → r ≡ is_below net x && is_below net y → PlainGate text net r
  plain_gate op x y l net true e = (l.room, λ line. gate_read (lines text) line (Gate (record { op = op; x = x; y = y })) (lines (drop gate_bytes text)) (suc line) (l.framed line) _ refl net (sym e))
  plain_gate op x y l net false e =
      λ line next h rest f. ap (λ (g : model.Frame). is_below net (field g 0) && is_below net (field g 1)) (found_same (f ∙ sym (l.framed line))) ∙ sym e

  pub plain_output : (x : ℕ) → HasLine text output_bytes output_kind (x ∷ []) → (nets : ℕ) (r : Bool) → r ≡ is_below nets x → PlainOutput text nets r
  plain_output x l nets true e = (l.room, λ line. output_read (lines text) line (Output x) (lines (drop output_bytes text)) (suc line) (l.framed line) x refl nets (sym e))
  plain_output x l nets false e =
      λ line next u rest f. ap (λ (g : model.Frame). is_below nets (field g 0)) (found_same (f ∙ sym (l.framed line))) ∙ sym e

-- ---- a row

-- what is left behind one row more
one_more : (bytes i : ℕ) (text : List ℕ) → drop bytes (drop (bytes * i) text) ≡ drop (bytes * suc i) text
one_more bytes i text =
    let z : bytes * i + bytes ≡ bytes * suc i = grind arith in
    rw (drop-drop bytes (bytes * i) text, z)

-- one row more stands, and what is left begins behind it
module _ (P : Bor (List ℕ) → ℕ → Bool → Type 0) (bytes : ℕ) (text : List ℕ) (i : ℕ) where
  pub row_more : (s : Bor (List ℕ)) → s.now ≡ drop (bytes * i) text → P s i true → ((j : ℕ) → j < i → At P bytes text j true)
      → (take (length s.now - bytes) (drop bytes s.now) ≡ drop (bytes * (i + 1)) text) × ((j : ℕ) → j < i + 1 → At P bytes text j true)
  row_more s e p before =
      let n : i + 1 ≡ suc i = omega arith in (
        take_all (length s.now - bytes) (drop bytes s.now) (rw length-drop (omega arith)) ∙ rw (e, n) (one_more bytes i text),
        λ j h. below_or_at j i (rw n at h) (before j) (λ (q : j ≡ i). rw q (s, e, p)),
      )

module _ (text : List ℕ) (first count : ℕ) where
  pub gates_read : (i : ℕ) → i ≤ count → ((j : ℕ) → j < i → PlainGate (drop (gate_bytes * j) text) (first + j) true)
      → (gate_bytes * i ≤ length text) × ((line : ℕ) → GatesRead (lines text) line first count i (lines (drop (gate_bytes * i) text)) (line + i))
  gates_read zero h f = (omega arith, λ line. let z : line + 0 ≡ line = omega arith in rw z (gates_none (lines text) line first count))
  gates_read (suc i) h f =
      let before = gates_read i (omega arith) (λ j k. f j (omega arith)) in
      let last = f i (omega arith) in (
        omega (arith, before.0, rw length-drop at last.0),
        λ line.
            let z : suc (line + i) ≡ line + suc i = omega arith in
            rw (one_more gate_bytes i text, z) at (gates_more (lines text) line first count i _ _ (before.1 line) (omega arith) (last.1 (line + i))),
      )

module _ (text : List ℕ) (nets count : ℕ) where
  pub outputs_read : (i : ℕ) → i ≤ count → ((j : ℕ) → j < i → PlainOutput (drop (output_bytes * j) text) nets true)
      → (output_bytes * i ≤ length text) × ((line : ℕ) → OutputsRead (lines text) line nets count i (lines (drop (output_bytes * i) text)) (line + i))
  outputs_read zero h f = (omega arith, λ line. let z : line + 0 ≡ line = omega arith in rw z (outputs_none (lines text) line nets count))
  outputs_read (suc i) h f =
      let before = outputs_read i (omega arith) (λ j k. f j (omega arith)) in
      let last = f i (omega arith) in (
        omega (arith, before.0, rw length-drop at last.0),
        λ line.
            let z : suc (line + i) ≡ line + suc i = omega arith in
            rw (one_more output_bytes i text, z) at (outputs_more (lines text) line nets count i _ _ (before.1 line) (omega arith) (last.1 (line + i))),
      )

-- of rows that were counted by a test that says this
module _ {P : Bor (List ℕ) → ℕ → Bool → Type 0} (text : List ℕ) (first count i : ℕ) (rows : Rows P gate_bytes text count i) (says : (s : Bor (List ℕ)) (j : ℕ) (r : Bool) → P s j r → PlainGate s.now (first + j) r) where
  pub gates_known : (gate_bytes * i ≤ length text) × ((line : ℕ) → GatesRead (lines text) line first count i (lines (drop (gate_bytes * i) text)) (line + i))
  gates_known = gates_read text first count i rows.few (λ j h. let a = rows.stand j h in rw a.1 at (says a.0 j true a.2))

  pub gate_stop : i < count → NoGate (lines (drop (gate_bytes * i) text)) (first + i)
  gate_stop h = let a = rows.stop h in rw a.1 at (says a.0 i false a.2)

module _ {P : Bor (List ℕ) → ℕ → Bool → Type 0} (text : List ℕ) (nets count i : ℕ) (rows : Rows P output_bytes text count i) (says : (s : Bor (List ℕ)) (j : ℕ) (r : Bool) → P s j r → PlainOutput s.now nets r) where
  pub outputs_known : (output_bytes * i ≤ length text) × ((line : ℕ) → OutputsRead (lines text) line nets count i (lines (drop (output_bytes * i) text)) (line + i))
  outputs_known = outputs_read text nets count i rows.few (λ j h. let a = rows.stand j h in rw a.1 at (says a.0 j true a.2))

  pub output_stop : i < count → NoOutput (lines (drop (output_bytes * i) text)) nets
  output_stop h = let a = rows.stop h in rw a.1 at (says a.0 i false a.2)

-- a row that goes to the end
pub all_gates : (ls rest : List Line) (line next : ℕ) {first count i : ℕ} → i ≡ count → GatesRead ls line first count i rest next → GatesRead ls line first count count rest next
all_gates ls rest line next e r = rw e at r

pub all_outputs : (ls rest : List Line) (line next : ℕ) {nets count i : ℕ} → i ≡ count → OutputsRead ls line nets count i rest next → OutputsRead ls line nets count count rest next
all_outputs ls rest line next e r = rw e at r

-- ---- the line that ends a row

-- a frame of a kind that is a gate's, or an output's
as_gate : (f : Frame) → is_gate (frame_of f).kind ≡ true → (g : GateLine) × (f ≡ Gate g)
as_gate (Header i g o) e = cc
as_gate (Gate g) e = (g, refl)
as_gate (Output l) e = cc
as_gate (Resolve s) e = cc
as_gate (Extend g) e = absurd (true≢false (sym e ∙ by_extend (λ k. is_gate k ≡ false) refl refl g.op))
as_gate (Report r n s c) e = cc

as_output : (f : Frame) → is_output (frame_of f).kind ≡ true → (l : ℕ) × (f ≡ Output l)
as_output (Header i g o) e = cc
as_output (Gate g) e = absurd (true≢false (sym e ∙ by_gate (λ k. is_output k ≡ false) refl refl g.op))
as_output (Output l) e = (l, refl)
as_output (Resolve s) e = cc
as_output (Extend g) e = absurd (true≢false (sym e ∙ by_extend (λ k. is_output k ≡ false) refl refl g.op))
as_output (Report r n s c) e = cc

-- the refusal at a cursor, which stands behind the row
pub refused_at : {P : Frame → Bool → Type 0} (next : Cursor) {text : List ℕ} {line : ℕ} {r : Refusal} → (next.rest.now ≡ text) × (next.line ≡ line) → Refused P (ahead next) next.line r → Refused P (lines text) line r
refused_at next is x = rw (is.0, is.1) at x

module _ {P : Frame → Bool → Type 0} (ls : List Line) (line : ℕ) where
  pub gate_refused : ((f : Frame) (b : Bool) → P f b → b ≡ is_gate (frame_of f).kind) → {net : ℕ} → NoGate ls net → (r : Refusal) → Refused P ls line r
      → (k m : ℕ) (n : Netlist) → size n ≡ net → read_gates (suc k) m n ls line ≡ refused_by r
  gate_refused is none r (missing m) k l n s = due_missing (gate_due k l n line) ls r m
  gate_refused is {net} none r (other f rest next e due p number place) k m n s = go due (sym (is f due p)) number
    where
      go : (b : Bool) → is_gate (frame_of f).kind ≡ b → number_of r.reason ≡ cond b 7 3 → read_gates (suc k) m n ls line ≡ refused_by r
      go true q w =
          let g = as_gate f q in
          rw (w, place) (gate_over_lem ls line f rest next e g.0 g.1 net (none line next g.0 rest (rw g.1 at e)) k m n s)
      go false q w = rw (w, place) (gate_other ls line f rest next e q k m n)

  pub output_refused : ((f : Frame) (b : Bool) → P f b → b ≡ is_output (frame_of f).kind) → {nets : ℕ} → NoOutput ls nets → (r : Refusal) → Refused P ls line r
      → (k : ℕ) (n : Netlist) → size n ≡ nets → read_outputs (suc k) n ls line ≡ refused_by r
  output_refused is none r (missing m) k n s = due_missing (output_due k n line) ls r m
  output_refused is {nets} none r (other f rest next e due p number place) k n s = go due (sym (is f due p)) number
    where
      go : (b : Bool) → is_output (frame_of f).kind ≡ b → number_of r.reason ≡ cond b 7 3 → read_outputs (suc k) n ls line ≡ refused_by r
      go true q w =
          let o = as_output f q in
          rw (w, place) (output_over ls line f rest next e o.0 o.1 nets (none line next o.0 rest (rw o.1 at e)) k n s)
      go false q w = rw (w, place) (output_other ls line f rest next e q k n)
