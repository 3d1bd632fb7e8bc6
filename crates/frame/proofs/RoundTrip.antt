-- Round trips through the two calls, from their contracts alone: a frame that `write_frame` wrote is what `read_frame` reads from those
-- bytes, and a line that `read_frame` read is what `write_frame` leaves. A frame of the enum is proper, since its fields have the ranges of
-- their types and a line number above FFFFFF is not written; and no two frames of the enum are the same kind and fields (`frame_back`).
use Prim.Native.Nat.{ℕ, ◌≤◌, ◌<◌}
use mathlib.Core.Path.{◌≡◌, refl, sym, ap, ◌∙◌}
use mathlib.Core.Bool.{◌&&◌, cond}
use mathlib.Core.List.{List, [], ◌∷◌}
use native.Mathlib.Omega.{arith}
use lib.Dec.{eqb, leb}
use lib.ListN.{length, take}
use borrow.Author.Tests.{leb-true}
use Rattle.model.specs.Limits.{highest_line}
use Rattle.model.specs.Answers.{filled}
use Rattle.model.specs.Answers.Answer.{ok}
use Rattle.model.specs.Frames as model
use Rattle.laws.specs.Answers.{ok_injective, refused_not_ok, guard_ok}
use Rattle.laws.specs.Bools.{both}
use Rattle.laws.specs.RoundTrip.{Proper, buffer_read, buffer_written}
use Rattle.frame.specs.declared.Op.{Op}
use Rattle.frame.specs.declared.Op.TheVariants.{And, Xor}
use Rattle.frame.specs.declared.Gate.{Gate as GateLine}
use Rattle.frame.specs.declared.Frame.{Frame}
use Rattle.frame.specs.declared.Frame.TheVariants.{Header, Gate, Output, Resolve, Extend, Report}
use Rattle.std.specs.Prelude.{Result, Ok, Err}
use Rattle.refusal.specs.declared.Refusal.{Refusal}
use Rattle.frame.specs.Frames.{frame_of, gate_kind, extend_kind, decoded_of, written_of}
use Rattle.frame.proofs.OpLaws.{by_gate, by_extend}

-- ---- frames of the enum

-- the fields have the ranges of their types
abbrev pub Ranged : Frame → Type 0
Ranged (Header i g o) = (i < 256) × (g < 65536) × (o < 256)
Ranged (Gate g) = (g.x < 65536) × (g.y < 65536)
Ranged (Output l) = l < 65536
Ranged (Resolve s) = (s.first < 65536) × (s.second < 65536) × (s.variable < 65536)
Ranged (Extend g) = (g.x < 65536) × (g.y < 65536)
Ranged (Report r n s c) = (r < 256) × (s < 65536) × (c < 65536)

ranged_proper : (f : Frame) → Ranged f → model.stated_line (frame_of f) ≤ highest_line → Proper (frame_of f)
unfolding model.widths model.stated_line
ranged_proper (Header i g o) h l = record { known = refl; fit = (h.0, (h.1, (h.2, tt))) }
ranged_proper (Gate g) h l =
    by_gate (λ k. Proper (record { kind = k; fields = g.x ∷ g.y ∷ [] })) (record { known = refl; fit = (h.0, (h.1, tt)) }) (record { known = refl; fit = (h.0, (h.1, tt)) }) g.op
ranged_proper (Output o) h l = record { known = refl; fit = (h, tt) }
ranged_proper (Resolve s) h l = record { known = refl; fit = (h.0, (h.1, (h.2, tt))) }
ranged_proper (Extend g) h l =
    by_extend (λ k. Proper (record { kind = k; fields = g.x ∷ g.y ∷ [] })) (record { known = refl; fit = (h.0, (h.1, tt)) }) (record { known = refl; fit = (h.0, (h.1, tt)) }) g.op
ranged_proper (Report r n s c) h l = record { known = refl; fit = (h.0, (omega arith, (h.1, (h.2, tt)))) }

abbrev operands : Op → model.Frame → GateLine
operands op f = record { op = op; x = model.field f 0; y = model.field f 1 }

-- the frame of the enum that has this kind and these fields
abbrev frame_back : model.Frame → Frame
frame_back f =
    cond (eqb f.kind model.header_kind) (Header (model.field f 0) (model.field f 1) (model.field f 2))
    (cond (eqb f.kind model.and_kind) (Gate (operands And f))
    (cond (eqb f.kind model.xor_kind) (Gate (operands Xor f))
    (cond (eqb f.kind model.output_kind) (Output (model.field f 0))
    (cond (eqb f.kind model.resolve_kind) (Resolve (record { first = model.field f 0; second = model.field f 1; variable = model.field f 2 }))
    (cond (eqb f.kind model.extend_and_kind) (Extend (operands And f))
    (cond (eqb f.kind model.extend_xor_kind) (Extend (operands Xor f))
    (Report (model.field f 0) (model.field f 1) (model.field f 2) (model.field f 3))))))))

frame_back_lem : (f : Frame) → frame_back (frame_of f) ≡ f
frame_back_lem (Header i g o) = refl
frame_back_lem (Gate g) = gate g.op
  where
    gate : (op : Op) → frame_back (record { kind = gate_kind op; fields = g.x ∷ g.y ∷ [] }) ≡ Gate (record { op = op; x = g.x; y = g.y })
    gate And = refl
    gate Xor = refl
frame_back_lem (Output l) = refl
frame_back_lem (Resolve s) = refl
frame_back_lem (Extend g) = extension g.op
  where
    extension : (op : Op) → frame_back (record { kind = extend_kind op; fields = g.x ∷ g.y ∷ [] }) ≡ Extend (record { op = op; x = g.x; y = g.y })
    extension And = refl
    extension Xor = refl
frame_back_lem (Report r n s c) = refl

framed : (r : Result Frame Refusal) (f : Frame) → decoded_of r ≡ ok (frame_of f) → r ≡ Ok f
framed (Ok g) f e = ap Ok (sym (frame_back_lem g) ∙ ap frame_back (ok_injective e) ∙ frame_back_lem f)
framed (Err why) f e = absurd (refused_not_ok e)

-- ---- the calls

-- What `write_frame` wrote into a buffer of this length, with this reply, `read_frame` reads from the bytes that it wrote.
pub written_is_read : (f : Frame) (room n : ℕ) (buffer : List ℕ) (r : Result Frame Refusal) → Ranged f
    → written_of (Ok n) ≡ model.write_frame (frame_of f) room → buffer ≡ model.written_frame (frame_of f) room
    → decoded_of r ≡ model.lone_line (take n buffer) → r ≡ Ok f
unfolding model.write_frame
written_is_read f room n buffer r h replied left read =
    let g = guard_ok (leb (model.stated_line (frame_of f)) highest_line && leb (length (model.line_of (frame_of f))) room) 16 0 (ok (length (model.line_of (frame_of f)))) (sym replied) in
    let t = both (leb (model.stated_line (frame_of f)) highest_line) (leb (length (model.line_of (frame_of f))) room) g.0 in
    let p : Proper (frame_of f) = ranged_proper f h (leb-true (model.stated_line (frame_of f)) highest_line t.0) in
    framed r f (read ∙ rw left (buffer_read (frame_of f) room n p (sym replied)))

-- What `read_frame` read, `write_frame` writes back into every buffer that has room: the same bytes, and zeros behind.
pub read_is_written : (text : List ℕ) (f : Frame) (room : ℕ) (w : Result ℕ Refusal) (buffer : List ℕ)
    → decoded_of (Ok f) ≡ model.lone_line text → length text ≤ room
    → written_of w ≡ model.write_frame (frame_of f) room → buffer ≡ model.written_frame (frame_of f) room
    → (written_of w ≡ ok (length text)) × (buffer ≡ filled room text)
read_is_written text f room w buffer read fits replied left =
    let b = buffer_written text (frame_of f) room (sym read) fits in
    (replied ∙ b.0, left ∙ b.1)
