-- What a step is by document 01 in each of the cases that the code tells apart, and the states that the code's fields come to.
use Prim.Native.Nat.{ℕ, suc, ◌+◌, ◌-◌, ◌/◌, ◌≤◌, ◌<◌}
use mathlib.Core.Path.{◌≡◌, refl, sym, ap, ◌∙◌, subst}
use mathlib.Core.Bool.{Bool, true, false, ◌&&◌, and-false}
use mathlib.Core.List.{List, [], ◌∷◌, ◌++◌}
use native.Mathlib.Omega.{arith}
use lib.ListN.{length}
use lib.Dec.{leb, ltb}
use borrow.Author.Tests.{ltb-true, leb-true, lt-ltb, le-ltb, le-leb, lt-leb}
use Rattle.model.specs.Limits.{highest_variable, clause_width}
use Rattle.model.specs.Answers.{Answer, guard, bind}
use Rattle.model.specs.Answers.Answer.{ok, refused}
use Rattle.model.specs.Nets.{is_below}
use Rattle.model.specs.Clauses.{Clause, is_empty, positive, resolvent, and_clauses, xor_clauses, op_clauses, gate_clauses}
use Rattle.model.specs.Steps.{State, clause, is_clause, can_resolve, added, resolved, step}
use Rattle.model.specs.Steps.Step.{resolve}
use Rattle.laws.specs.Bools.{both}
use Rattle.laws.specs.Answers.{ok_injective, guard_ok}
use Rattle.clause.specs.Sets.{Rising, fitted, resolve_of}
use Rattle.clause.proofs.SetLaws.{rising_resolvent}
use Rattle.frame.specs.declared.Op.{Op}
use Rattle.frame.specs.declared.Op.TheVariants.{And, Xor}
use Rattle.frame.specs.Frames.{op_of}
use Rattle.steps.specs.Kept.{clauses_of, extension, AllProper}
use Rattle.steps.proofs.HeldLaws.{proper_at}

-- ---- extend

-- the state after an extension
pub extended : Op → ℕ → ℕ → State → State
extended op x y s =
    record {
      clauses = s.clauses ++ clauses_of op (positive s.next) x y;
      next = suc s.next;
      steps = suc s.steps;
      empty = false;
    }

pub gate_in_room : (op : Op) (t x y : ℕ) → gate_clauses t (record { op = op_of op; x = x; y = y }) ≡ clauses_of op (positive t) x y
unfolding op_clauses
gate_in_room And t x y = refl
gate_in_room Xor t x y = refl

-- a gate has three or four
pub few : (op : Op) (n x y : ℕ) → (3 ≤ length (clauses_of op n x y)) × (length (clauses_of op n x y) ≤ 4)
unfolding and_clauses xor_clauses
few And n x y = (omega arith, omega arith)
few Xor n x y = (omega arith, omega arith)

module _ (room line : ℕ) (s : State) (op : Op) (x y : ℕ) where
  pub first_unused : s.next ≤ x / 2 → step room line s (extension op x y) ≡ refused 12 line
  unfolding step guard
  first_unused h = rw (le-ltb (x / 2) s.next h)

  pub second_unused : s.next ≤ y / 2 → step room line s (extension op x y) ≡ refused 12 line
  unfolding step guard
  second_unused h = rw (le-ltb (y / 2) s.next h, and-false (is_below s.next x))

  pub no_variable : x / 2 < s.next → y / 2 < s.next → highest_variable < s.next → step room line s (extension op x y) ≡ refused 13 line
  unfolding step guard
  no_variable hx hy h = rw (lt-ltb (x / 2) s.next hx, lt-ltb (y / 2) s.next hy, lt-leb s.next highest_variable h)

  pub no_space : x / 2 < s.next → y / 2 < s.next → s.next ≤ highest_variable
      → room < length s.clauses + length (clauses_of op (positive s.next) x y) → step room line s (extension op x y) ≡ refused 14 line
  unfolding step guard added
  no_space hx hy h full =
      rw (
        lt-ltb (x / 2) s.next hx,
        lt-ltb (y / 2) s.next hy,
        le-leb s.next highest_variable h,
        gate_in_room op s.next x y,
        lt-leb _ room full,
      )

  pub extends : x / 2 < s.next → y / 2 < s.next → s.next ≤ highest_variable
      → length s.clauses + length (clauses_of op (positive s.next) x y) ≤ room → step room line s (extension op x y) ≡ ok (extended op x y s)
  unfolding step guard added extended
  extends hx hy h fits =
      rw (
        lt-ltb (x / 2) s.next hx,
        lt-ltb (y / 2) s.next hy,
        le-leb s.next highest_variable h,
        gate_in_room op s.next x y,
        le-leb _ room fits,
      )

one : (n : ℕ) → n + 1 ≡ suc n
one n = omega arith

-- the state that the fields come to, where the gate's clauses were added
pub extends_to : (op : Op) (x y n : ℕ) (s d : State) → n ≡ positive s.next → d ≡ record s { clauses = s.clauses ++ clauses_of op n x y }
    → record { clauses = d.clauses; next = d.next + 1; steps = d.steps + 1; empty = false } ≡ extended op x y s
unfolding extended
extends_to op x y n s d en e =
    rw (e, en) (λ i. record { clauses = s.clauses ++ clauses_of op (positive s.next) x y; next = one s.next i; steps = one s.steps i; empty = false })

-- ---- resolve

-- the state after a resolvent
pub joined : Clause → State → State
joined r s = record { clauses = s.clauses ++ (r ∷ []); next = s.next; steps = suc s.steps; empty = is_empty r }

pub full : (room line : ℕ) (s : State) (r : Clause) → room ≤ length s.clauses → added room line s (r ∷ []) s.next (is_empty r) ≡ refused 14 line
unfolding added guard
full room line s r h = rw (lt-leb (length s.clauses + 1) room (omega arith))

pub joins : (room line : ℕ) (s : State) (r : Clause) → length s.clauses < room
    → added room line s (r ∷ []) s.next (is_empty r) ≡ ok (joined r s)
unfolding added guard joined
joins room line s r h = rw (le-leb (length s.clauses + 1) room (omega arith))

-- the state that the fields come to, where the resolvent was added
pub joins_to : (r : Clause) (s d : State) (empty : Bool) → empty ≡ is_empty r → d ≡ record s { clauses = s.clauses ++ (r ∷ []) }
    → record { clauses = d.clauses; next = d.next; steps = d.steps + 1; empty = empty } ≡ joined r s
unfolding joined
joins_to r s d empty is e = rw (e, is) (λ i. record { clauses = s.clauses ++ (r ∷ []); next = s.next; steps = one s.steps i; empty = is_empty r })

-- what the test tells
pub number : (n k : ℕ) → ltb 0 k && leb k n ≡ true → (1 ≤ k) × (k ≤ n)
number n k h = let t = both (ltb 0 k) (leb k n) h in (ltb-true 0 k t.0, leb-true k n t.1)

-- a clause that is there
pub there : (cs : List Clause) (k : ℕ) → is_clause cs k ≡ true → k - 1 < length cs
there cs k h = omega (arith, number (length cs) k h)

-- a clause that the store has rises
pub rising_at : (cs : List Clause) (k : ℕ) → AllProper cs → is_clause cs k ≡ true → Rising (clause cs k)
rising_at cs k p h = (proper_at cs (k - 1) p (there cs k h)).rising

-- a resolvent rises
pub resolvent_rising : (v : ℕ) (first second r : Clause) (line : ℕ) → Rising first → Rising second → ok r ≡ resolve_of v first second line → Rising r
unfolding resolve_of fitted
resolvent_rising v first second r line hf hs h =
    let g10 = guard_ok _ _ _ _ (sym h) in
    let g11 = guard_ok _ _ _ _ g10.1 in
    subst Rising (ok_injective g11.1) (rising_resolvent v first second hf hs)

module _ (room line : ℕ) (s : State) (a b v : ℕ) where
  pub first_missing : is_clause s.clauses a ≡ false → step room line s (resolve a b v) ≡ refused 9 line
  unfolding step guard
  first_missing h = rw h

  pub second_missing : is_clause s.clauses b ≡ false → step room line s (resolve a b v) ≡ refused 9 line
  unfolding step guard
  second_missing h = rw (h, and-false (is_clause s.clauses a))

  -- a step on two clauses that are there: what `resolve_of` answers, and the resolvent added
  by_resolve : is_clause s.clauses a ≡ true → is_clause s.clauses b ≡ true
      → step room line s (resolve a b v)
      ≡ bind (resolve_of v (clause s.clauses a) (clause s.clauses b) line) (λ r. added room line s (r ∷ []) s.next (is_empty r))
  unfolding step guard resolved resolve_of fitted
  by_resolve ha hb = rw (ha, hb) (cases (can_resolve v (clause s.clauses a) (clause s.clauses b)) (leb (length r) clause_width))
    where
      r : Clause
      r = resolvent v (clause s.clauses a) (clause s.clauses b)

      cases : (x y : Bool)
          → guard x 10 line (guard y 11 line (added room line s (r ∷ []) s.next (is_empty r)))
          ≡ bind (guard x 10 line (guard y 11 line (ok r))) (λ r. added room line s (r ∷ []) s.next (is_empty r))
      cases true true = refl
      cases true false = refl
      cases false y = refl

  -- by what the step on the two clauses comes to
  pub step_on : is_clause s.clauses a ≡ true → is_clause s.clauses b ≡ true → (o : Answer Clause) → o ≡ resolve_of v (clause s.clauses a) (clause s.clauses b) line
      → step room line s (resolve a b v) ≡ bind o (λ r. added room line s (r ∷ []) s.next (is_empty r))
  step_on ha hb o e = by_resolve ha hb ∙ ap (λ (x : Answer Clause). bind x (λ r. added room line s (r ∷ []) s.next (is_empty r))) (sym e)
