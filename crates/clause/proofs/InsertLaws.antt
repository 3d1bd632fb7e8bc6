-- A literal put into an array that has a clause. Each place takes the lower of its own literal and the one that is carried along (`carry`), and
-- behind the last literal the bound is carried; so the array has the clause with the literal, if that was not there.
use Prim.Native.Nat.{ℕ, zero, suc, ◌+◌, ◌<◌, ◌≤◌, min, max}
use mathlib.Core.Path.{◌≡◌, refl, sym, ap, ◌∙◌, subst}
use mathlib.Core.Bool.{true, false, true≢false, ◌||◌}
use mathlib.Core.List.{List, [], ◌∷◌}
use native.Mathlib.Nat.{min-le_left, min-eq_left, min-eq_right, max-eq_left, max-eq_right}
use native.Mathlib.Omega.{arith}
use borrow.Author.Tests.{eq-eqb}
use lib.Dec.{eqb}
use lib.ListN.{length, get_or, set, take, drop, length-map, length-take}
use Rattle.std.proofs.lemmas.List.{map-append, take_more}
use Rattle.model.specs.Limits.{clause_width}
use Rattle.model.specs.Clauses.{Clause, insert, holds, clause_of}
use Rattle.literal.specs.declared.Literal.{Literal}
use Rattle.clause.specs.Places.{literal_bound, head_of, filled, Whole}
use Rattle.clause.specs.Sets.{Ascending, codes}
use Rattle.clause.proofs.SetLaws.{by_order, holds_more, eqb_sym, insert_first, insert_later, insert_again, length_join, join_more}
use Rattle.clause.proofs.PlaceLaws.{filled_front}

-- ---- whether a clause holds a literal

-- it does where the literal stands first, or where the rest holds it
pub holds_head : (l : ℕ) (c : Clause) → 0 < length c → holds l c ≡ eqb (head_of c) l || holds l (drop 1 c)
unfolding holds
holds_head l [] h = absurd (omega arith)
holds_head l (x ∷ c) h = ap (λ b. b || holds l c) (eqb_sym l x)

holds_first : (l x : ℕ) (c : Clause) → l ≡ x → holds l (x ∷ c) ≡ true
unfolding holds
holds_first l x c e = rw (eq-eqb l x e)

-- a literal below the first is not there
lacks_lower : (l x : ℕ) (c : Clause) → l < x → Ascending (x ∷ c) → holds l (x ∷ c) ≡ false
unfolding holds
lacks_lower l x [] h a = holds_more l x [] (λ e. omega arith)
lacks_lower l x (y ∷ c) h a = holds_more l x (y ∷ c) (λ e. omega arith) ∙ lacks_lower l y c (omega (arith, a.0)) a.1

lacks_more : (l x : ℕ) (c : Clause) → x < l → holds l (x ∷ c) ≡ false → holds l c ≡ false
lacks_more l x c h n = sym (holds_more l x c (λ e. omega arith)) ∙ n

-- ---- what an insertion leaves

-- a literal that is there changes nothing
pub insert_there : (l : ℕ) (c : Clause) → Ascending c → holds l c ≡ true → insert l c ≡ c
unfolding holds
insert_there l [] a h = absurd (true≢false (sym h))
insert_there l (x ∷ c) a h =
    by_order l x
    (λ o. absurd (true≢false (sym h ∙ lacks_lower l x c o a)))
    (λ o. insert_later x l c o ∙ ap (λ (t : Clause). x ∷ t) (insert_there l c a.1 (sym (holds_more l x c (λ e. omega arith)) ∙ h)))
    (λ e. rw e (insert_again x c))

-- one that is not makes the clause longer by one
length_more : (l : ℕ) (c : Clause) → holds l c ≡ false → length (insert l c) ≡ length c + 1
unfolding insert
length_more l [] n = refl
length_more l (x ∷ c) n =
    by_order l x
    (λ o. ap length (insert_first l (x ∷ c) o) ∙ omega arith)
    (λ o. ap length (insert_later x l c o) ∙ omega (arith, length_more l c (lacks_more l x c o n)))
    (λ e. absurd (true≢false (sym (holds_first l x c e) ∙ n)))

-- ---- the array

-- the places, once the turns from place i on have carried a literal along
abbrev pub carry : ℕ → ℕ → List ℕ → List ℕ
carry i carried [] = []
carry zero carried (x ∷ xs) = min x carried ∷ carry zero (max x carried) xs
carry (suc i) carried (x ∷ xs) = x ∷ carry i carried xs

-- a turn that puts the lower and carries the higher leaves the same for the turns behind it
pub carry_turn : (i carried : ℕ) (xs : List ℕ) {lower higher : ℕ}
    → i < length xs → lower ≡ min (get_or xs i 0) carried → higher ≡ max (get_or xs i 0) carried
    → carry (suc i) higher (set xs i lower) ≡ carry i carried xs
carry_turn i carried [] h e f = absurd (omega arith)
carry_turn zero carried (x ∷ xs) h e f = rw (e, f) refl
carry_turn (suc i) carried (x ∷ xs) h e f = ap (λ (t : List ℕ). x ∷ t) (carry_turn i carried xs (omega arith) e f)

pub carry_end : (i carried : ℕ) (xs : List ℕ) → length xs ≤ i → carry i carried xs ≡ xs
carry_end i carried [] h = refl
carry_end zero carried (x ∷ xs) h = absurd (omega arith)
carry_end (suc i) carried (x ∷ xs) h = ap (λ (t : List ℕ). x ∷ t) (carry_end i carried xs (omega arith))

-- the lower of two is put, and the other is carried on
put_carried : (x carried : ℕ) (xs : List ℕ) → carried ≤ x → carry zero carried (x ∷ xs) ≡ carried ∷ carry zero x xs
put_carried x carried xs h = rw (min-eq_right {n = carried} {m = x} h, max-eq_left {n = x} {m = carried} h)

put_own : (x carried : ℕ) (xs : List ℕ) → x ≤ carried → carry zero carried (x ∷ xs) ≡ x ∷ carry zero carried xs
put_own x carried xs h = rw (min-eq_left {n = x} {m = carried} h, max-eq_right {n = x} {m = carried} h)

-- no place is above the bound
abbrev pub Bounded : List ℕ → Type 0
Bounded xs = (k : ℕ) → get_or xs k 0 ≤ literal_bound

carry_bound : (n : ℕ) → carry zero literal_bound (filled n []) ≡ filled n []
carry_bound zero = refl
carry_bound (suc n) = ap (λ (t : List ℕ). literal_bound ∷ t) (carry_bound n)

-- from the literal's place on each takes the one before it
carry_past : (n x : ℕ) (c : Clause) → x ≤ literal_bound → Ascending (x ∷ c) → Bounded (filled n c) → carry zero x (filled n c) ≡ filled n (x ∷ c)
carry_past zero x c m a h = refl
carry_past (suc n) x [] m a h = put_carried literal_bound x (filled n []) m ∙ ap (λ (t : List ℕ). x ∷ t) (carry_bound n)
carry_past (suc n) x (y ∷ c) m a h =
    put_carried y x (filled n c) (omega (arith, a.0)) ∙ ap (λ (t : List ℕ). x ∷ t) (carry_past n y c (h 0) a.1 (λ k. h (suc k)))

carry_insert : (n l : ℕ) (c : Clause) → l ≤ literal_bound → Ascending c → holds l c ≡ false → Bounded (filled n c)
    → carry zero l (filled n c) ≡ filled n (insert l c)
unfolding insert
carry_insert zero l c m a g h = refl
carry_insert (suc n) l [] m a g h = put_carried literal_bound l (filled n []) m ∙ ap (λ (t : List ℕ). l ∷ t) (carry_bound n)
carry_insert (suc n) l (x ∷ c) m a g h =
    by_order l x
    (λ o.
    put_carried x l (filled n c) (omega arith) ∙ ap (λ (t : List ℕ). l ∷ t) (carry_past n x c (h 0) a (λ k. h (suc k)))
    ∙ sym (ap (filled (suc n)) (insert_first l (x ∷ c) o)))
    (λ o.
    put_own x l (filled n c) (omega arith) ∙ ap (λ (t : List ℕ). x ∷ t) (carry_insert n l c m a.1 (lacks_more l x c o g) (λ k. h (suc k)))
    ∙ sym (ap (filled (suc n)) (insert_later x l c o)))
    (λ e. absurd (true≢false (sym (holds_first l x c e) ∙ g)))

-- the struct's array and length, one more, are those of the clause with the literal
abbrev pub Ended : ℕ → ℕ → Clause → List ℕ → Type 0
Ended l len c literals = Whole literals (len + 1) × (take (len + 1) literals ≡ insert l c)

module _ (l len : ℕ) (c : Clause) (literals : List ℕ) (lacks : holds l c ≡ false) where
  -- the turns from the first place on make the array of the clause with the literal
  pub begins : Whole literals len → take len literals ≡ c → l ≤ literal_bound → Ascending c → Bounded literals
      → carry zero l literals ≡ filled clause_width (insert l c)
  begins w s m a h =
      let e : literals ≡ filled clause_width c = w.behind ∙ ap (filled clause_width) s in
      ap (carry zero l) e ∙ carry_insert clause_width l c m a lacks (subst Bounded e h)

  -- that array has it with one literal more
  pub ends : len ≡ length c → len < clause_width → literals ≡ filled clause_width (insert l c) → Ended l len c literals
  ends d h e =
      let all : Clause = insert l c in
      let n : len + 1 ≡ length all = omega (arith, length_more l c lacks) in
      let s : take (len + 1) literals ≡ all = rw (n, e) (filled_front clause_width all (omega arith)) in
      (record { room = omega arith; behind = e ∙ ap (filled clause_width) (sym s) }, s)

-- ---- literals in any order, one by one

pub of_length : (ls : List Literal) (i : ℕ) → length (clause_of (codes (take i ls))) ≤ i
of_length ls i = omega (arith, length_join [] (codes (take i ls)), length-map (take i ls) (λ (l : Literal). l.code), length-take i ls, min-le_left i (length ls))

pub of_more : (ls : List Literal) (i : ℕ) (none : Literal) → i < length ls → insert (get_or ls i none).code (clause_of (codes (take i ls))) ≡ clause_of (codes (take (i + 1) ls))
of_more ls i none h =
    sym (ap (λ (t : List Literal). clause_of (codes t)) (take_more ls i none h)
    ∙ ap clause_of (map-append (λ (l : Literal). l.code) (take i ls) (get_or ls i none ∷ []))
    ∙ join_more [] (codes (take i ls)) (get_or ls i none).code)
