-- One line more behind those that the proof has, and what a function that writes it emits.
use Prim.Native.Nat.{ℕ, ◌+◌, ◌-◌, ◌*◌, ◌≤◌}
use mathlib.Core.Path.{◌≡◌, refl, sym, ap, ◌∙◌}
use mathlib.Core.List.{List, [], ◌∷◌, ◌++◌, append-nil, map-append}
use native.Mathlib.Omega.{arith}
use lib.ListN.{length, length-append, length-replicate}
use lib.Seq.{sets, sets-eq, length-sets, take-append_seam, drop-append-add}
use Rattle.model.specs.Limits.{proof_line_bytes}
use Rattle.model.specs.Answers.{filled}
use Rattle.model.specs.Frames.{Frame, line_of, widths, total}
use Rattle.laws.specs.ListText.{text_of, text_append}
use Rattle.laws.specs.RoundTrip.{line_length}
use Rattle.frame.proofs.WriteLaws.{drop_zeros}
use Rattle.emit_laws.specs.Replay.{Resolution, pivot}
use Rattle.emit_laws.specs.Fields.{frame_of}
use Rattle.emit_laws.specs.Trees.{lay}
use Rattle.emit_laws.specs.Trees.Tree.{old, cut}
use Rattle.emit_laws.specs.Text.{proof_text}
use Rattle.emit_laws.proofs.Text.{proof_bytes_lem}
use Rattle.derivation.specs.declared.lines.Proof.{Proof}
use Rattle.derivation.specs.Emission.{Written, Room, Emits}

-- a resolution's line
line_bytes_lem : (r : Resolution) → length (line_of (frame_of r)) ≡ proof_line_bytes
unfolding widths total
line_bytes_lem r = line_length (frame_of r) refl

-- content stored behind content, in a buffer with zeros behind
store_behind : (n : ℕ) (xs ys : List ℕ) → length xs + length ys ≤ n → sets (filled n xs) (length xs) ys ≡ filled n (xs ++ ys)
store_behind n xs ys h =
    let room : length xs + length ys ≤ length (filled n xs) = rw (length-append, length-replicate) (omega arith) in
    let m : n - (length xs + length ys) ≡ n - length xs - length ys = omega arith in
    rw (sets-eq ys (filled n xs) (length xs) room, take-append_seam, drop-append-add, drop_zeros, length-append, m)

text_more : (rs : List Resolution) (r : Resolution) → proof_text (rs ++ (r ∷ [])) ≡ proof_text rs ++ line_of (frame_of r)
unfolding text_of
text_more rs r = rw (map-append, text_append) (rw append-nil)

-- one line more
line_more : (p : List ℕ) (rs : List Resolution) (r : Resolution) {k : ℕ} → k ≡ proof_line_bytes * length rs → k + proof_line_bytes ≤ length p → Written p rs
    → Written (sets p k (line_of (frame_of r))) (rs ++ (r ∷ []))
line_more p rs r e h w =
    let b = e ∙ sym (proof_bytes_lem rs) in
    rw (length-sets, text_more rs r, b)
    (ap (λ (x : List ℕ). sets x (length (proof_text rs)) (line_of (frame_of r))) w
    ∙ store_behind (length p) (proof_text rs) (line_of (frame_of r)) (omega (arith, line_bytes_lem r, proof_bytes_lem rs)))

-- the resolvent of two clauses that are there
pub emits_line : (s r : Proof) (a b l : ℕ) {c : ℕ} {f : Frame} → Room s 1 → f ≡ frame_of (pivot a b l)
    → r.bytes.now ≡ sets s.bytes.now (proof_line_bytes * s.lines) (line_of f) → r.lines ≡ s.lines + 1 → r.clauses ≡ s.clauses + 1 → c ≡ s.clauses + 1
    → Emits s r c (cut (old a) (old b) l)
unfolding lay
emits_line s r a b l room f q ls cs n =
    record {
      adds =
          record {
            written = λ rs w n. rw (q, f) (line_more s.bytes.now rs (pivot a b l) (omega arith) (omega arith) w);
            lines = omega arith;
            clauses = omega arith;
          };
      number = omega arith;
    }
