-- More bytes and more room for clauses: the answer stays as it is, but where one was lacking (1, 8 or 14).
use Rattle.std.specs.Prelude.{ℕ, suc, ◌+◌, ◌≤◌, ◌≡◌, Bool, ◌||◌, eqb, leb}
use Rattle.std.proofs.Math.Path.{refl}
use Rattle.std.proofs.Math.Bool.{true, false}
use mathlib.Core.List.{List, [], ◌∷◌}
use Rattle.std.proofs.Common.{arith, leb-true, le-leb}
use Rattle.std.proofs.Math.ListN.{length}
use Rattle.model.specs.Answers.{Answer, guard, bind}
use Rattle.model.specs.Answers.Answer.{ok, refused}
use Rattle.model.specs.Lines.{Line}
use Rattle.model.specs.Lists.{Lists, read_both}
use Rattle.model.specs.Clauses.{Clause}
use Rattle.model.specs.Steps.{Step, State, added, resolved, step, step_at, replay}
use Rattle.model.specs.Steps.Step.{resolve, extend}
use Rattle.model.specs.Checker.{begin, verdict_on, capacity, check, judge}

-- ---- two answers, the second with more room

-- the refusals that are about limits, and not about the text
abbrev pub is_lack : ℕ → Bool
is_lack number = eqb number 1 || eqb number 8 || eqb number 14

pub data Wider {A : Type 0} : Answer A → Answer A → Type 0 where
  same : (a : Answer A) → Wider a a
  lacked : (number line : ℕ) (b : Answer A) → is_lack number ≡ true → Wider (refused number line) b

module _ {A : Type 0} where
  -- behind a test that room does not enter
  wider_guard : (test : Bool) (number line : ℕ) {a b : Answer A} → Wider a b → Wider (guard test number line a) (guard test number line b)
  unfolding guard
  wider_guard true number line w = w
  wider_guard false number line w = same (refused number line)

  -- behind a test for room
  room_guard : (t u : Bool) (number line : ℕ) {a b : Answer A} → (t ≡ true → u ≡ true) → is_lack number ≡ true → Wider a b → Wider (guard t number line a) (guard u number line b)
  unfolding guard
  room_guard true u number line {a} {b} more l w = rw (more refl) w
  room_guard false u number line more l w = lacked number line _ l

  -- behind another answer
  wider_bind : {B : Type 0} {o p : Answer B} {f g : B → Answer A} → Wider o p → ((b : B) → Wider (f b) (g b)) → Wider (bind o f) (bind p g)
  wider_bind (same (ok b)) h = h b
  wider_bind (same (refused number line)) h = same (refused number line)
  wider_bind (lacked number line p l) h = lacked number line _ l

-- ---- from a step to the verdict

module _ {room more : ℕ} (m : room ≤ more) where
  -- what fits still fits
  fits : (n : ℕ) → leb n room ≡ true → leb n more ≡ true
  fits n t = le-leb n more (omega (arith, leb-true n room t))

  added_wider : (line : ℕ) (s : State) (cs : List Clause) (next : ℕ) (empty : Bool) → Wider (added room line s cs next empty) (added more line s cs next empty)
  unfolding added
  added_wider line s cs next empty = room_guard _ _ 14 line (fits (length s.clauses + length cs)) refl (same _)

  step_wider : (line : ℕ) (s : State) (p : Step) → Wider (step room line s p) (step more line s p)
  unfolding step resolved
  step_wider line s (resolve a b v) =
      wider_guard _ 9 line (wider_guard _ 10 line (wider_guard _ 11 line (added_wider line s _ _ _)))
  step_wider line s (extend g) = wider_guard _ 12 line (wider_guard _ 13 line (added_wider line s _ _ _))

  replay_wider : (s : State) (ls : List Line) (line : ℕ) → Wider (replay room s ls line) (replay more s ls line)
  unfolding replay
  replay_wider s [] line = same (ok s)
  replay_wider s (l ∷ ls) line =
      wider_bind (same (step_at l line)) (λ p. wider_bind (step_wider line s p) (λ s'. replay_wider s' ls (suc line)))

  verdict_wider : (both : Lists) (ls : List Line) (line : ℕ) → Wider (verdict_on room both ls line) (verdict_on more both ls line)
  unfolding verdict_on
  verdict_wider both ls line =
      room_guard _ _ 8 0 (fits _) refl
      (wider_bind (replay_wider (begin both.left both.right) ls line) (λ s. same _))

-- ---- texts and streams

check_wider : (text : List ℕ) (n m : ℕ) → capacity n ≤ capacity m → Wider (check text n) (check text m)
unfolding check
check_wider text n m h = wider_bind (same (read_both text)) (λ r. verdict_wider h r.lists r.rest r.line)

-- The verdict within limits, and within larger ones: the same, or the first is about a limit.
pub judge_wider : (stream : List ℕ) (bytes more n m : ℕ) → bytes ≤ more → capacity n ≤ capacity m → Wider (judge bytes n stream) (judge more m stream)
unfolding judge
judge_wider stream bytes more n m b h = room_guard _ _ 1 0 (fits b (length stream)) refl (check_wider stream n m h)
