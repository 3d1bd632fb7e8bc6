-- The replay of a proof, by what the cursor's reader answers at a line.
use Prim.Native.Nat.{ℕ, suc, ◌+◌, ◌-◌}
use mathlib.Core.Path.{◌≡◌, refl, sym, ◌∙◌}
use mathlib.Core.Bool.{Bool, true, false}
use mathlib.Core.List.{List, [], ◌∷◌}
use native.Mathlib.Omega.{arith}
use lib.Dec.{eqb}
use lib.ListN.{length, drop, length-drop}
use Rattle.model.specs.Answers.{Answer, guard, bind}
use Rattle.model.specs.Answers.Answer.{ok, refused}
use Rattle.model.specs.Limits.{proof_line_bytes}
use Rattle.model.specs.Lines.{Line}
use Rattle.model.specs.Frames as frames
use Rattle.model.specs.Frames.{due_at, resolve_kind}
use Rattle.model.specs.Steps.{State, step, is_step, step_of, step_at, replay}
use Rattle.model.specs.Steps.Step.{resolve}
use Rattle.frame.specs.declared.Op.{Op}
use Rattle.frame.specs.declared.Op.TheVariants.{And, Xor}
use Rattle.frame.specs.declared.Frame.{Frame}
use Rattle.frame.specs.declared.Gate.{Gate as GateLine}
use Rattle.frame.specs.declared.Resolve.{Resolve as ResolveLine}
use Rattle.frame.specs.declared.Frame.TheVariants.{Header, Gate, Output, Resolve, Extend, Report}
use Rattle.frame.specs.declared.cursor.Cursor.{Cursor}
use Rattle.frame.specs.Fields.{HasLine}
use Rattle.frame.specs.Frames.{frame_of, extend_kind, first}
use Rattle.frame.specs.Frames.First.{none, found, fault}
use Rattle.frame.proofs.FirstLaws.{first_none, first_fault, first_found}
use Rattle.frame.proofs.OpLaws.{by_gate}
use Rattle.netlist.specs.Says.{ahead}
use Rattle.steps.specs.Kept.{extension}
use Rattle.checker.specs.Lines.{frame_step}
use Rattle.checker.specs.Replays.{RanTo}

-- ---- the step of a frame

pub frame_resolve : (room line : ℕ) (s : State) (r : ResolveLine) → frame_step room line s (frame_of (Resolve r)) ≡ step room line s (resolve r.first r.second r.variable)
unfolding frame_step guard
frame_resolve room line s r = refl

pub frame_extend : (room line : ℕ) (s : State) (g : GateLine) → frame_step room line s (frame_of (Extend g)) ≡ step room line s (extension g.op g.x g.y)
unfolding frame_step guard
frame_extend room line s g = by_op g.op
  where
    by_op : (op : Op) → frame_step room line s (record { kind = extend_kind op; fields = g.x ∷ g.y ∷ [] }) ≡ step room line s (extension op g.x g.y)
    by_op And = refl
    by_op Xor = refl

pub frame_other : (room line : ℕ) (s : State) (f : Frame) → ((r : ResolveLine) → f ≡ Resolve r → ⊥) → ((g : GateLine) → f ≡ Extend g → ⊥)
    → frame_step room line s (frame_of f) ≡ refused 3 line
unfolding frame_step guard
frame_other room line s (Header i g o) r e = refl
frame_other room line s (Gate g) r e = by_gate (λ k. frame_step room line s (record { kind = k; fields = g.x ∷ g.y ∷ [] }) ≡ refused 3 line) refl refl g.op
frame_other room line s (Output l) r e = refl
frame_other room line s (Resolve t) r e = absurd (r t refl)
frame_other room line s (Extend g) r e = absurd (e g refl)
frame_other room line s (Report r n t c) r' e = refl

-- ---- the lines

-- a line that was read
by_frame : (room line : ℕ) (s : State) (b : Bool) (f : frames.Frame) (go : State → Answer State)
    → bind (bind (guard b 3 line (ok f)) (λ g. ok (step_of (eqb g.kind resolve_kind) g))) (λ p. bind (step room line s p) go)
    ≡ bind (guard b 3 line (step room line s (step_of (eqb f.kind resolve_kind) f))) go
unfolding guard
by_frame room line s true f go = refl
by_frame room line s false f go = refl

replay_read : (room : ℕ) (s : State) (ls : List Line) (line : ℕ) (f : Frame) (rest : List Line) (next : ℕ) → found (frame_of f) rest next ≡ first ls line
    → replay room s ls line ≡ bind (frame_step room line s (frame_of f)) (λ s'. replay room s' rest next)
unfolding replay step_at due_at frame_step
replay_read room s ls line f rest next e =
    let r = first_found ls line e in
    rw (r.cut, r.frame, r.next_is) (by_frame room line s (is_step (frame_of f).kind) (frame_of f) _)

-- no line is left
pub replay_ended : (room : ℕ) (s : State) (c : Cursor) → none ≡ first (ahead c) c.line → replay room s (ahead c) c.line ≡ ok s
unfolding replay
replay_ended room s c e = rw (first_none (ahead c) c.line e)

-- or the line is refused
pub replay_fault : (room : ℕ) (s : State) (c : Cursor) {number place : ℕ} → fault number place ≡ first (ahead c) c.line
    → replay room s (ahead c) c.line ≡ refused number place
unfolding replay step_at due_at
replay_fault room s c e = let r = first_fault (ahead c) c.line e in rw (r.cut, r.refusal)

-- ---- one line: its step is done, or is refused

module _ (room : ℕ) (c : Cursor) (f : Frame) (s : State) where
  pub ran_line : (next : Cursor) → found (frame_of f) (ahead next) next.line ≡ first (ahead c) c.line → (s' : State) → ok s' ≡ frame_step room c.line s (frame_of f)
      → RanTo room c s next s'
  ran_line next e s' step = replay_read room s (ahead c) c.line f (ahead next) next.line e ∙ rw (sym step) refl

  pub line_refused : {rest : List Line} {next : ℕ} → found (frame_of f) rest next ≡ first (ahead c) c.line → {number line : ℕ}
      → refused number line ≡ frame_step room c.line s (frame_of f) → replay room s (ahead c) c.line ≡ refused number line
  line_refused {rest} {next} e step = replay_read room s (ahead c) c.line f rest next e ∙ rw (sym step) refl

-- ---- a resolve, read without a frame, and the cursor behind it

pub past_shorter : (text : List ℕ) {rest : List ℕ} → rest ≡ drop proof_line_bytes text → length rest ≡ length text - proof_line_bytes
past_shorter text e = rw (e, length-drop) refl

module _ (room : ℕ) (c : Cursor) {a b v : ℕ} (l : HasLine c.rest.now proof_line_bytes resolve_kind (a ∷ b ∷ v ∷ [])) (s : State) where
  pub ran_resolve : (next : Cursor) → (next.rest.now ≡ drop proof_line_bytes c.rest.now) × (next.line ≡ c.line + 1) → (s' : State)
      → ok s' ≡ step room c.line s (resolve a b v) → RanTo room c s next s'
  ran_resolve next behind s' does =
      let n : next.line ≡ suc c.line = omega (arith, behind.1) in
      ran_line room c (Resolve (record { first = a; second = b; variable = v })) s next (rw (behind.0, n) (l.framed c.line)) s' (does ∙ sym (frame_resolve room c.line s (record { first = a; second = b; variable = v })))

  pub resolve_refused : {number line : ℕ} → refused number line ≡ step room c.line s (resolve a b v) → replay room s (ahead c) c.line ≡ refused number line
  resolve_refused does = line_refused room c (Resolve (record { first = a; second = b; variable = v })) s (l.framed c.line) (does ∙ sym (frame_resolve room c.line s (record { first = a; second = b; variable = v })))
