-- A reader that takes one due frame from the front of the lines: what it comes to where no line is left, where the line is refused, where
-- another kind stands there, and where the frame does. Headers, gates and outputs are read so, each with its own test behind it.
use Prim.Native.Nat.{ℕ, suc}
use mathlib.Core.Path.{◌≡◌, refl}
use mathlib.Core.Bool.{Bool, true, false}
use mathlib.Core.List.{List, [], ◌∷◌}
use Rattle.model.specs.Answers.{Answer, guard, bind}
use Rattle.model.specs.Answers.Answer.{ok, refused}
use Rattle.model.specs.Lines.{Line}
use Rattle.model.specs.Frames.{Frame, field, due_at, xor_kind}
use Rattle.model.specs.Nets.{Netlist, size, is_below, reads_below}
use Rattle.model.specs.Lists.{is_header, is_gate, is_output, in_range, gate_of, header_at, gate_at, output_at, add_gate, add_output, empty_list, read_outputs, read_gates, read_list}
use Rattle.frame.specs.Frames.{First, first}
use Rattle.frame.specs.Frames.First.{none, found, fault}
use Rattle.refusal.specs.declared.Refusal.{Refusal}
use Rattle.refusal.specs.Answers.{refused_by}
use Rattle.frame.proofs.FirstLaws.{first_none, first_fault, Framed}
use Rattle.netlist.specs.Says.{MissingBy}

-- ---- answers

bind_assoc : {A B C : Type 0} (o : Answer A) (f : A → Answer B) (g : B → Answer C) → bind (bind o f) g ≡ bind o (λ a. bind (f a) g)
bind_assoc (ok a) f g = refl
bind_assoc (refused number line) f g = refl

-- a test that is passed, and one that is not
pub guard_passed : {A : Type 0} (b : Bool) (number line : ℕ) (o : Answer A) → b ≡ true → guard b number line o ≡ o
unfolding guard
guard_passed b number line o e = rw e

pub guard_failed : {A : Type 0} (b : Bool) (number line : ℕ) (o : Answer A) → b ≡ false → guard b number line o ≡ refused number line
unfolding guard
guard_failed b number line o e = rw e

-- ---- one due frame

-- R reads lines of which the first has this number: 4 where none is left, else a due frame, and K goes on from it
pub record Due {A : Type 0} (due : ℕ → Bool) (line : ℕ) (R : List Line → Answer A) (K : Frame → List Line → Answer A) : Type 0 where
  pub ended : R [] ≡ refused 4 line
  pub next : (l : Line) (ls : List Line) → R (l ∷ ls) ≡ bind (due_at due l line) (λ f. K f ls)

module _ {A : Type 0} {due : ℕ → Bool} {line : ℕ} {R : List Line → Answer A} {K : Frame → List Line → Answer A} (d : Due due line R K) (ls : List Line) where
  -- no frame stands there
  pub due_missing : (r : Refusal) → MissingBy (first ls line) line r → R ls ≡ refused_by r
  unfolding due_at
  due_missing r m = go (first ls line) refl m
    where
      go : (x : First) → x ≡ first ls line → MissingBy x line r → R ls ≡ refused_by r
      go none e k = rw (first_none ls line e, k.0, k.1) d.ended
      go (found f rest next) e k = absurd k
      go (fault number place) e k =
          let f = first_fault ls line e in
          rw (f.cut, d.next f.line_is f.rest, f.refusal, k.0, k.1)

  -- a frame of another kind
  pub due_other : {f : Frame} {rest : List Line} {next : ℕ} → Framed ls line f rest next → due f.kind ≡ false → R ls ≡ refused 3 line
  unfolding due_at
  due_other {f} r e = rw (r.cut, d.next r.line_is _, r.frame, guard_failed (due f.kind) 3 line (ok f) e)

  -- a due frame
  pub due_read : {f : Frame} {rest : List Line} {next : ℕ} → Framed ls line f rest next → due f.kind ≡ true → R ls ≡ K f rest
  unfolding due_at
  due_read {f} r e = rw (r.cut, d.next r.line_is _, r.frame, guard_passed (due f.kind) 3 line (ok f) e)

-- ---- headers, gates and outputs

pub header_due : (like : ℕ → ℕ → Bool) (line : ℕ)
    → Due is_header line (λ ls. read_list like ls line)
    (λ f ls.
    bind (guard (in_range f) 5 line (guard (like (field f 0) (field f 2)) 6 line (ok f))) λ h.
    read_gates (field h 1) (field h 2) (empty_list (field h 0)) ls (suc line))
unfolding read_list header_at
header_due like line = record {
  ended = refl;
  next = λ l ls. bind_assoc (due_at is_header l line) _ _;
}

pub gate_due : (k m : ℕ) (n : Netlist) (line : ℕ)
    → Due is_gate line (λ ls. read_gates (suc k) m n ls line)
    (λ f ls. bind (guard (reads_below (size n) (gate_of xor_kind f)) 7 line (ok (gate_of xor_kind f))) λ g. read_gates k m (add_gate n g) ls (suc line))
unfolding read_gates gate_at
gate_due k m n line = record {
  ended = refl;
  next = λ l ls. bind_assoc (due_at is_gate l line) _ _;
}

pub output_due : (k : ℕ) (n : Netlist) (line : ℕ)
    → Due is_output line (λ ls. read_outputs (suc k) n ls line)
    (λ f ls. bind (guard (is_below (size n) (field f 0)) 7 line (ok (field f 0))) λ o. read_outputs k (add_output n o) ls (suc line))
unfolding read_outputs output_at
output_due k n line = record {
  ended = refl;
  next = λ l ls. bind_assoc (due_at is_output l line) _ _;
}
