-- The join of two copies, turn by turn. The lowest of two heads is the head of the join, and behind it the join goes on with what is left; so
-- after k turns the array has the first k literals of the join (`Joining`), also where the join ended before.
use Prim.Native.Nat.{ℕ, zero, suc, ◌+◌, ◌<◌, ◌≤◌, min}
use native.Mathlib.Nat.{min-eq_left, min-eq_right}
use mir.Val.{bool_byte}
use lib.Dec.{leb}
use mathlib.Core.Path.{◌≡◌, refl, sym, ap, ◌∙◌}
use mathlib.Core.Bool.{true, false, and-false}
use mathlib.Core.List.{List, [], ◌∷◌}
use native.Mathlib.Numerals.{add-one}
use native.Mathlib.Omega.{arith}
use borrow.Author.Tests.{lt-leb, le-leb}
use lib.ListN.{length, get_or, take, drop, set}
use lib.Seq.{drop-drop, take_all, length-take-le, get_or-set_same, get_or-set_other}
use Rattle.model.specs.Limits.{clause_width}
use Rattle.model.specs.Answers.{guard}
use Rattle.model.specs.Answers.Answer.{ok, refused}
use Rattle.model.specs.Clauses.{Clause, positive, negative, holds, join, resolvent}
use Rattle.laws.specs.Bools.{below_or_at}
use Rattle.clause.specs.Places.{literal_bound, head_of, filled}
use Rattle.clause.specs.Sets.{Rising, fitted, resolve_of}
use Rattle.clause.proofs.SetLaws.{by_order, head_below, join_left, join_right, join_both, rising_join}
use Rattle.clause.proofs.PlaceLaws.{head_most, rising_from, filled_next, filled_front, Ends}

-- ---- a turn

-- the lowest of two heads
abbrev pub Least : ℕ → ℕ → ℕ → Type 0
Least x y lowest = (x ≤ y → lowest ≡ x) × (y < x → lowest ≡ y)

-- how far a turn goes where x stands: past it, if it is at most y
abbrev pub Goes : ℕ → ℕ → ℕ → Type 0
Goes x y p = (x ≤ y → p ≡ 1) × (y < x → p ≡ 0)

pub least_min : {x y lowest : ℕ} → lowest ≡ min x y → Least x y lowest
least_min e = (λ h. e ∙ min-eq_left h, λ h. e ∙ min-eq_right (omega arith))

pub goes_past : {x y p : ℕ} → p ≡ bool_byte (leb x y) → Goes x y p
goes_past {x} {y} {p} e = (λ h. e ∙ ap bool_byte (le-leb x y h), λ h. e ∙ ap bool_byte (lt-leb x y h))

pub goes_one : {x y p : ℕ} → Goes x y p → p ≤ 1
goes_one {x} {y} {p} g = by_order x y (λ o. omega (arith, g.0 (omega arith))) (λ o. omega (arith, g.1 o)) (λ e. omega (arith, g.0 (omega arith)))

-- a join begins with this number, and is this behind it
record Begins (c : Clause) (x : ℕ) (rest : Clause) : Type 0 where
  head : x ≡ head_of c
  behind : rest ≡ drop 1 c

from_left : (c d : Clause) → Rising c → Rising d → head_of c < head_of d → Begins (join c d) (head_of c) (join (drop 1 c) d)
from_left [] d r s h = absurd (omega (arith, head_most d s))
from_left (x ∷ c) d r s h = rw (join_left x c d h s) (record { head = refl; behind = refl })

from_right : (c d : Clause) → Rising c → Rising d → head_of d < head_of c → Begins (join c d) (head_of d) (join c (drop 1 d))
from_right c [] r s h = absurd (omega (arith, head_most c r))
from_right c (y ∷ d) r s h = rw (join_right y c d h s) (record { head = refl; behind = refl })

from_both : (c d : Clause) → Rising c → Rising d → head_of c ≡ head_of d → Begins (join c d) (head_of c) (join (drop 1 c) (drop 1 d))
unfolding join
from_both [] [] r s e = record { head = refl; behind = refl }
from_both [] (y ∷ d) r s e = absurd (omega (arith, head_below y d s))
from_both (x ∷ c) [] r s e = absurd (omega (arith, head_below x c r))
from_both (x ∷ c) (y ∷ d) r s e = rw (← e, join_both x c d (rw (← e) at s)) (record { head = refl; behind = refl })

turn_begins : (c d : Clause) (lowest p q : ℕ) → Rising c → Rising d → Least (head_of c) (head_of d) lowest → Goes (head_of c) (head_of d) p → Goes (head_of d) (head_of c) q
    → Begins (join c d) lowest (join (drop p c) (drop q d))
turn_begins c d lowest p q r s t g h =
    by_order (head_of c) (head_of d)
    (λ o. rw (t.0 (omega arith), g.0 (omega arith), h.1 o) (from_left c d r s o))
    (λ o. rw (t.1 o, g.1 o, h.0 (omega arith)) (from_right c d r s o))
    (λ o. rw (t.0 (omega arith), g.0 (omega arith), h.0 (omega arith)) (from_both c d r s o))

-- ---- a count of literals

-- the bound stands at a place just where the clause has ended
ended : (k : ℕ) (c : Clause) → Rising c → head_of (drop k c) ≡ literal_bound → length c ≤ k
ended k [] r e = omega arith
ended zero (x ∷ c) r e = absurd (omega (arith, head_below x c r))
ended (suc k) (x ∷ c) r e = omega (arith, ended k c r.1 e)

not_ended : (k : ℕ) (c : Clause) → (head_of (drop k c) ≡ literal_bound → ⊥) → k < length c
not_ended zero [] h = absurd (h refl)
not_ended (suc k) [] h = absurd (h refl)
not_ended zero (x ∷ c) h = omega arith
not_ended (suc k) (x ∷ c) h = omega (arith, not_ended k c h)

-- the count after place k: all places up to there, if that has a literal
abbrev pub Counts : ℕ → ℕ → ℕ → ℕ → Type 0
Counts k lowest len next = (lowest < literal_bound → next ≡ k + 1) × (literal_bound ≤ lowest → next ≡ len)

pub counted_most : {k lowest len next : ℕ} → Counts k lowest len next → len ≤ k → next ≤ k + 1
counted_most {k} {lowest} {len} {next} c h =
    by_order lowest literal_bound (λ o. omega (arith, c.0 o)) (λ o. omega (arith, c.1 (omega arith))) (λ e. omega (arith, c.1 (omega arith)))

-- behind the places that count each has the bound, whatever was put at place k
pub ends_turn : (literals : List ℕ) (k len : ℕ) {lowest next : ℕ} → k < clause_width → len ≤ k → lowest ≤ literal_bound → length literals ≡ clause_width
    → Ends clause_width len literals → Counts k lowest len next → Ends clause_width next (set literals k lowest)
ends_turn literals k len {lowest} {next} m n t e h c j o p =
    by_order j k
    (λ a. kept j (λ d. omega arith) (by_order lowest literal_bound (λ b. omega (arith, c.0 b)) (λ b. omega arith) (λ b. omega (arith, c.1 (omega arith)))) p)
    (λ a. kept j (λ d. omega arith) (omega arith) p)
    (λ d. rw d (get_or-set_same literals k lowest 0 (omega arith) ∙ by_order lowest literal_bound (λ b. absurd (omega (arith, c.0 b))) (λ b. absurd (omega arith)) (λ b. b)))
  where
    kept : (i : ℕ) → (i ≡ k → ⊥) → len ≤ i → i < clause_width → get_or (set literals k lowest) i 0 ≡ literal_bound
    kept i d l q = get_or-set_other literals k i lowest 0 d ∙ h i l q

taken_more : (k len next : ℕ) (c : Clause) → Rising c → Counts k (head_of (drop k c)) len next → len ≡ length (take k c) → next ≡ length (take (suc k) c)
taken_more k len next c r h e =
    let most : head_of (drop k c) ≤ literal_bound = head_most (drop k c) (rising_from k c r) in
    below_or_at (head_of (drop k c)) literal_bound (omega arith)
    (λ o. let there : k < length c = not_ended k c (λ d. omega arith) in omega (arith, h.0 o, length-take-le (suc k) c there))
    (λ d. let gone : length c ≤ k = ended k c r d in h.1 (omega arith) ∙ e ∙ ap length (take_all k c gone ∙ sym (take_all (suc k) c (omega arith))))

-- ---- the join

-- after k turns i and j places are taken from the two; so many of the literals in the array count
pub record Joining (c d : Clause) (literals : List ℕ) (len i j k : ℕ) : Type 0 where
  pub left : join (drop i c) (drop j d) ≡ drop k (join c d)
  pub done : literals ≡ filled clause_width (take k (join c d))
  pub size : len ≡ length (take k (join c d))

module _ {c d : Clause} {literals : List ℕ} {len i j k x y lowest : ℕ} (r : Rising c) (s : Rising d) (h : Joining c d literals len i j k)
    (e : x ≡ head_of (drop i c)) (f : y ≡ head_of (drop j d)) (least : Least x y lowest) where
  -- what the turn takes is the join's literal at k, whatever it leaves
  begins : (p q : ℕ) → Goes x y p → Goes y x q → Begins (drop k (join c d)) lowest (join (drop p (drop i c)) (drop q (drop j d)))
  begins p q g₁ g₂ =
      rw (← h.left)
      (turn_begins (drop i c) (drop j d) lowest p q (rising_from i c r) (rising_from j d s) (rw (e, f) at least) (rw (e, f) at g₁) (rw (e, f) at g₂))

  at_place : lowest ≡ head_of (drop k (join c d))
  at_place =
      by_order x y
      (λ o. (begins 1 0 (λ _. refl, λ z. absurd (omega arith)) (λ z. absurd (omega arith), λ _. refl)).head)
      (λ o. (begins 0 1 (λ z. absurd (omega arith), λ _. refl) (λ _. refl, λ z. absurd (omega arith))).head)
      (λ o. (begins 1 1 (λ _. refl, λ z. absurd (omega arith)) (λ _. refl, λ z. absurd (omega arith))).head)

  pub joining_turn : (p q next : ℕ) → Goes x y p → Goes y x q → Counts k lowest len next → k < clause_width
      → Joining c d (set literals k lowest) next (i + p) (j + q) (k + 1)
  joining_turn p q next g₁ g₂ count n =
      record {
        left = rw (← drop-drop p i c, ← drop-drop q j d, ← drop-drop 1 k (join c d)) (begins p q g₁ g₂).behind;
        done = rw (h.done, at_place, add-one k) (filled_next clause_width k (join c d) n);
        size = rw add-one (taken_more k len next (join c d) (rising_join c d r s) (rw at_place at count) h.size);
      }

  -- where both have ended within k turns, the literals that count are the join, and it has room
  pub joining_end : lowest ≡ literal_bound → k ≤ clause_width → (line : ℕ) → ok (take len literals) ≡ fitted (join c d) line
  unfolding fitted guard
  joining_end z n line =
      let m : length (join c d) ≤ k = ended k (join c d) (rising_join c d r s) (sym at_place ∙ z) in
      let w : take k (join c d) ≡ join c d = take_all k (join c d) m in
      rw (le-leb (length (join c d)) clause_width (omega arith), h.size, h.done, w)
      (ap ok (filled_front clause_width (join c d) (omega arith)))

  pub joining_long : (lowest ≡ literal_bound → ⊥) → clause_width ≤ k → (line : ℕ) → refused 11 line ≡ fitted (join c d) line
  unfolding fitted guard
  joining_long z n line =
      let m : k < length (join c d) = not_ended k (join c d) (λ g. z (at_place ∙ g)) in
      rw (lt-leb (length (join c d)) clause_width (omega arith))

-- ---- what a step answers

module _ (v : ℕ) (a b : Clause) (line : ℕ) where
  pub no_first : holds (positive v) a ≡ false → resolve_of v a b line ≡ refused 10 line
  unfolding resolve_of guard
  no_first e = rw e

  pub no_second : holds (negative v) b ≡ false → resolve_of v a b line ≡ refused 10 line
  unfolding resolve_of guard
  no_second e = rw (e, and-false (holds (positive v) a))

  pub both_there : holds (positive v) a ≡ true → holds (negative v) b ≡ true → fitted (resolvent v a b) line ≡ resolve_of v a b line
  unfolding resolve_of guard
  both_there e f = rw (e, f)
