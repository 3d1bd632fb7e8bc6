-- A refutation of the miter, as text behind the lists' text, is accepted: it is a valid text in the sense of the acceptance rule, and the
-- largest store has room for its clauses.
use Rattle.std.specs.Prelude.{ℕ, suc, ◌+◌, ◌-◌, ◌*◌, ◌≤◌, ◌<◌, ◌≡◌, refl, List, [], ◌∷◌, ◌++◌, map, length}
use Rattle.std.proofs.Common.{sym, ◌∙◌, subst, arith, length-append}
use Rattle.std.proofs.lemmas.List.{length-map, get_or_at}
use Rattle.model.specs.Limits.{clause_width, most_clauses, proof_line_bytes}
use Rattle.model.specs.Answers.Answer.{ok}
use Rattle.model.specs.Lines.{Line, lines}
use Rattle.model.specs.Frames.{total, widths}
use Rattle.model.specs.Lists.{Lists, read_lists}
use Rattle.model.specs.Clauses.{Clause, join}
use Rattle.model.specs.Miter.{miter, miter_vars}
use Rattle.model.specs.Steps.{Step}
use Rattle.model.specs.Steps.Step.{resolve}
use Rattle.model.specs.Engine.{line_bound, Proves}
use Rattle.laws.specs.RoundTrip.{read_written, line_length}
use Rattle.laws.specs.Pairs.{Pair}
use Rattle.laws.specs.Reading.{lists_good}
use Rattle.laws.specs.Appending.{lists_append}
use Rattle.laws.specs.ListText.{text_of}
use Rattle.laws.specs.Acceptance.{clauses_after, AllValid, EndsEmpty, StepLines, ValidLines, ValidText, final, ends_later, text_accepted}
use Rattle.laws.specs.Acceptance.Means.{resolves}
use Rattle.emit_laws.specs.Replay.{Has, Resolution, result, after, Fine, Refutes}
use Rattle.emit_laws.proofs.Replay.{length_after}
use Rattle.emit_laws.proofs.Place.{few_clauses}
use Rattle.emit_laws.specs.Fields.{frame_of, AllProper}
use Rattle.emit_laws.proofs.Fields.{lines_proper}
use Rattle.emit_laws.specs.Text.{proof_text}

-- 15 a line
pub proof_bytes_lem : (rs : List Resolution) → length (proof_text rs) ≡ proof_line_bytes * length rs
unfolding text_of widths total
proof_bytes_lem [] = refl
proof_bytes_lem (r ∷ rs) = rw (length-append, line_length (frame_of r) refl, proof_bytes_lem rs) (omega arith)

-- ---- resolutions as steps

abbrev as_step : Resolution → Step
as_step r = resolve r.first r.second r.variable

step_lines : (rs : List Resolution) (line : ℕ) → AllProper rs → StepLines (lines (proof_text rs)) line (map as_step rs)
unfolding text_of lines
step_lines [] line h = tt
step_lines (r ∷ rs) line h =
    let w = read_written (frame_of r) h.0 (proof_text rs) in
    subst (λ (ls : List Line). StepLines ls line (map as_step (r ∷ rs))) (sym w.1)
    (record { frame = frame_of r; read = w.2 line; means = resolves refl }, step_lines rs (suc line) h.1)

all_valid : (K : List Clause) (t : ℕ) (rs : List Resolution) → Fine K rs → AllValid K t (map as_step rs)
all_valid K t [] f = tt
all_valid K t (r ∷ rs) f = (f.0, all_valid (K ++ (result K r ∷ [])) t rs f.1)

clauses_after_lem : (K : List Clause) (t : ℕ) (rs : List Resolution) → clauses_after K t (map as_step rs) ≡ after K rs
unfolding after
clauses_after_lem K t [] = refl
clauses_after_lem K t (r ∷ rs) = clauses_after_lem (K ++ (result K r ∷ [])) t rs

-- the last clause is that of the last resolution
ends_empty : (K : List Clause) (t : ℕ) (rs : List Resolution) → 0 < length rs → Has (after K rs) (length K + length rs) []
    → EndsEmpty K t (map as_step rs)
unfolding after join
ends_empty K t [] n h = absurd (omega arith)
ends_empty K t (r ∷ []) n h =
    record {
      before = [];
      a = r.first;
      b = r.second;
      v = r.variable;
      last = refl;
      empty = sym (get_or_at K (result K r) [] [] (length K + 1 - 1) (omega arith)) ∙ h.eq;
    }
ends_empty K t (r ∷ s ∷ rs) n h =
    let L : List Clause = K ++ (result K r ∷ []) in
    let e : length K + suc (suc (length rs)) ≡ length L + suc (length rs) = rw length-append (omega arith) in
    ends_later (as_step r) (ends_empty L t (s ∷ rs) (omega arith) (subst (λ (m : ℕ). Has (after L (s ∷ rs)) m []) e h))

-- ---- behind the lists' text

-- A refutation of the miter within the line bound is a proof for the two lists of a text.
pub refutation_proves : (text : List ℕ) (l : Lists) → read_lists text ≡ ok l → (rs : List Resolution)
    → Refutes (miter l.left l.right) rs → length rs ≤ line_bound l.left l.right
    → Proves text l (length rs) (proof_text rs)
refutation_proves text l read rs h few =
    record {
      final = final valid;
      accepted = text_accepted (text ++ proof_text rs) (clause_width * most_clauses) valid (rw (clauses_after_lem K t rs, length_after K rs) room);
      counted = simp length-map;
      bytes = proof_bytes_lem rs;
      bound = omega (arith, few);
    }
  where
    K : List Clause
    K = miter l.left l.right

    t : ℕ
    t = miter_vars l.left l.right

    ab : Pair l.left l.right
    ab = lists_good text l read

    room : length K + length rs ≤ most_clauses
    room = omega (arith, few_clauses l.left l.right ab, ab.left.gates, ab.right.gates, ab.left.outs)

    every : ValidLines (text ++ proof_text rs)
    every =
        let q = lists_append text l read in
        record {
          read = record { lists = l; line = q.line; rest = lines (proof_text rs) };
          first = q.read (proof_text rs);
          steps = map as_step rs;
          lines = step_lines rs q.line (lines_proper l.left l.right ab rs h.fine room);
          valid = all_valid K t rs h.fine;
        }

    valid : ValidText (text ++ proof_text rs)
    valid = record { every = every; last = ends_empty K t rs h.some h.ends }
