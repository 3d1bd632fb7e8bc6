-- What is due to two lists, test by test, and to a text; and the promise from both.
use Prim.Native.Nat.{ℕ, zero, suc, ◌+◌, ◌-◌, ◌*◌, ◌≤◌, ◌<◌}
use mathlib.Core.Path.{◌≡◌, refl, sym, ap, ◌∙◌, subst}
use mathlib.Core.List.{List, []}
use native.Mathlib.Omega.{arith}
use lib.Dec.{eqb}
use lib.ListN.{length, length-replicate}
use Rattle.std.specs.Prelude.{Some, None, Result, Ok, Err}
use mathlib.Core.Bool.{false}
use Rattle.std.specs.Result.{is_err}
use Rattle.refusal.specs.declared.Refusal.{Refusal}
use Rattle.refusal.specs.Answers.{answer_of}
use Rattle.fold.specs.Entries.{numbered}
use borrow.Author.Tests.{le-leb, lt-leb, ne_eqb}
use Rattle.model.specs.Limits.{lines_per_gate, lines_per_output, proof_line_bytes, numbers_per_net}
use Rattle.model.specs.Answers.{guard, bind, zeros, filled}
use Rattle.model.specs.Answers.Answer.{ok, refused}
use Rattle.model.specs.Lists.{Lists, read_lists}
use Rattle.model.specs.Engine.{working, provable, Outcome, Engine}
use Rattle.fold_laws.specs.Engine.{by_reps}
use Rattle.fold_laws.proofs.Engine.{differing_by_reps}
use Rattle.emit_laws.specs.Text.{proof_text}
use Rattle.emit_laws.specs.Proof.{proof_of}
use Rattle.emit_laws.proofs.ProofLaws.{promised}
use Rattle.laws.specs.ListText.{text_of}
use Rattle.laws.specs.Pairs as pairs
use Rattle.derivation.specs.Emission.{Written}
use Rattle.engine.specs.Replies.{due, FoldedSays, AnswerSays}

-- ---- two lists

module _ (l : Lists) (ab : pairs.Pair l.left l.right) (bytes numbers : ℕ) where
  abbrev bound : ℕ
  bound = proof_line_bytes * (lines_per_gate * (length l.left.gates + length l.right.gates) + lines_per_output * length l.left.outs)

  abbrev nets : ℕ
  nets = 1 + l.left.inputs + length l.left.gates + length l.right.gates

  working_is : working l.left l.right ≡ numbers_per_net * nets
  working_is = omega arith

  pub due_16 : bytes < bound → due bytes numbers l ≡ refused 16 0
  unfolding due guard
  due_16 h = rw (lt-leb bound bytes h)

  module _ (enough : bound ≤ bytes) where
    pub due_17 : numbers < numbers_per_net * nets → due bytes numbers l ≡ refused 17 0
    unfolding due guard
    due_17 h = rw (le-leb bound bytes enough, working_is, lt-leb _ _ h)

    module _ (wide : numbers_per_net * nets ≤ numbers) where
      by_number : due bytes numbers l ≡ guard (eqb (by_reps l.left l.right) 0) 18 (by_reps l.left l.right) (ok l)
      unfolding due guard
      by_number = rw (le-leb bound bytes enough, working_is, le-leb _ _ wide, differing_by_reps l.left l.right ab)

      pub due_18 : (k : ℕ) → Some k ≡ numbered (by_reps l.left l.right) → due bytes numbers l ≡ refused 18 k
      unfolding guard
      due_18 k e = by_number ∙ go (by_reps l.left l.right) e
        where
          go : (n : ℕ) → Some k ≡ numbered n → guard (eqb n 0) 18 n (ok l) ≡ refused 18 k
          go zero e = cc
          go (suc n) e = let same : k ≡ suc n = cc in rw (same, ne_eqb (suc n) 0 (λ z. absurd (omega arith)))

      pub due_proof : None ≡ numbered (by_reps l.left l.right) → due bytes numbers l ≡ ok l
      unfolding guard
      due_proof e = by_number ∙ go (by_reps l.left l.right) e
        where
          go : (n : ℕ) → None ≡ numbered n → guard (eqb n 0) 18 n (ok l) ≡ ok l
          go zero e = refl
          go (suc n) e = cc

-- ---- a text

pub of_text : (text : List ℕ) (bytes numbers : ℕ) → provable text bytes numbers ≡ bind (read_lists text) (due bytes numbers)
unfolding provable due
of_text text bytes numbers = refl

-- where the lists are refused
pub unread : (text : List ℕ) (bytes numbers : ℕ) {number line : ℕ} → refused number line ≡ read_lists text → provable text bytes numbers ≡ refused number line
unread text bytes numbers e = of_text text bytes numbers ∙ rw (← e)

-- where they are read
pub answered : (text : List ℕ) (bytes numbers : ℕ) (l : Lists) → ok l ≡ read_lists text → (proof : List ℕ) (r : Result ℕ Refusal)
    → FoldedSays l bytes numbers proof r → AnswerSays text bytes numbers proof r
answered text bytes numbers l e proof (Ok n) h = (l, of_text text bytes numbers ∙ rw (← e) h.0, h.1, h.2)
answered text bytes numbers l e proof (Err r) h = of_text text bytes numbers ∙ rw (← e) h

-- proof bytes that were cleared have no line
pub none_written : {proof : List ℕ} (n : ℕ) → proof ≡ zeros n → Written proof []
unfolding text_of
none_written n e = let z : n - 0 ≡ n = omega arith in rw (e, length-replicate {A = ℕ} n 0) (rw z)

-- ---- the promise

module _ (text : List ℕ) (bytes numbers : ℕ) {proof work : List ℕ} (z : work ≡ zeros numbers) where
  pub keeps_proof : (l : Lists) (n : ℕ) → provable text bytes numbers ≡ ok l → Written proof (proof_of l) → length proof ≡ bytes → n ≡ length (proof_of l)
      → Engine text bytes numbers (ok n) proof work
  keeps_proof l n e w m c =
      let q = rw e at (promised text bytes numbers) in
      let b : proof ≡ filled bytes (proof_text (proof_of l)) = w ∙ ap (λ (k : ℕ). filled k (proof_text (proof_of l))) m in
      rw (e, c, z) (subst (λ (x : List ℕ). Outcome text bytes numbers (ok l) (ok (length (proof_of l))) x (zeros numbers)) (sym b) q)

-- an answer that is no refusal
pub keeps_answer : (text : List ℕ) (bytes numbers : ℕ) (proof work : List ℕ) → work ≡ zeros numbers → (r : Result ℕ Refusal) → is_err r ≡ false
    → AnswerSays text bytes numbers proof r → length proof ≡ bytes → Engine text bytes numbers (answer_of r) proof work
keeps_answer text bytes numbers proof work z (Ok n) e h m = keeps_proof text bytes numbers z h.0 n h.1 h.2 m h.3
keeps_answer text bytes numbers proof work z (Err r) e h m = cc
