-- Laws of clauses as rising lists. A literal below all others comes out first of a join, from whichever side, so a merge of rising lists is
-- their join; what is taken out or put in leaves a list rising.
use Prim.Native.Nat.{ℕ, ◌+◌, ◌<◌, ◌≤◌}
use mathlib.Core.Path.{◌≡◌, refl, sym, ap, ◌∙◌}
use mathlib.Core.Bool.{Bool, true, false, ◌||◌}
use mathlib.Core.List.{List, [], ◌∷◌, ◌++◌}
use native.Mathlib.Omega.{arith}
use lib.Dec.{eqb, ltb}
use lib.ListN.{length, drop}
use borrow.Author.Tests.{lt-ltb, le-ltb, eq-eqb, ne_eqb, ltb-true, ltb-false, eqb-true, eqb-false}
use Rattle.model.specs.Clauses.{Clause, insert, join, clause_of, without, holds, positive, negative, resolvent}
use Rattle.std.proofs.lemmas.Bool.Decides.{nat_tests}
use Rattle.laws.specs.Bools.{by_cond}
use Rattle.clause.specs.Places.{literal_bound, head_of}
use Rattle.clause.specs.Sets.{Rising, Above, Ascending}

-- ---- rising

pub head_below : (x : ℕ) (c : Clause) → Rising (x ∷ c) → x < literal_bound
head_below x [] r = r.0
head_below x (y ∷ c) r = let h : y < literal_bound = head_below y c r.1 in omega (arith, r.0)

-- ---- taking out

pub holds_more : (l x : ℕ) (c : Clause) → (x ≡ l → ⊥) → holds l (x ∷ c) ≡ holds l c
unfolding holds
holds_more l x c h = rw (ne_eqb l x (λ e. h (sym e)))

pub eqb_sym : (a b : ℕ) → eqb a b ≡ eqb b a
eqb_sym a b = grind (arith, nat_tests)

-- a clause holds a literal where it stands first, or where the rest holds it
pub holds_here : (l x : ℕ) (c : Clause) → x ≡ head_of c → l < literal_bound → holds l c ≡ eqb x l || holds l (drop 1 c)
unfolding holds
holds_here l x [] e h = rw (ne_eqb x l (λ d. omega arith))
holds_here l x (y ∷ c) e h = rw e (ap (λ b. b || holds l c) (eqb_sym l y))

-- a literal below all of a rising clause is not in it, nor is one from the bound on
pub not_below : (l : ℕ) (c : Clause) → Rising c → l < head_of c → holds l c ≡ false
unfolding holds
not_below l [] r h = refl
not_below l (x ∷ c) r h = holds_more l x c (λ e. omega arith) ∙ not_below l c r.1 (omega (arith, r.0))

pub not_above : (l : ℕ) (c : Clause) → Rising c → literal_bound ≤ l → holds l c ≡ false
unfolding holds
not_above l [] r h = refl
not_above l (x ∷ c) r h = holds_more l x c (λ e. omega (arith, head_below x c r)) ∙ not_above l c r.1 h

pub without_none : (l : ℕ) (c : Clause) → Rising c → l < head_of c → without l c ≡ c
unfolding without
without_none l [] r h = refl
without_none l (x ∷ c) r h = rw (ne_eqb l x (λ e. omega arith)) (ap (λ (t : Clause). x ∷ t) (without_none l c r.1 (omega (arith, r.0))))

head_without : (l k : ℕ) (c : Clause) → k < head_of c → Rising c → k < head_of (without l c)
unfolding without
head_without l k [] h r = h
head_without l k (x ∷ c) h r =
    by_cond (λ (d : Clause). k < head_of d) (eqb l x) (λ e. head_without l k c (omega arith) r.1) (λ e. h)

pub rising_without : (l : ℕ) (c : Clause) → Rising c → Rising (without l c)
unfolding without
rising_without l [] r = tt
rising_without l (x ∷ c) r =
    let rest : Rising (without l c) = rising_without l c r.1 in
    by_cond Rising (eqb l x) (λ e. rest) (λ e. (head_without l x c r.0 r.1, rest))

pub length_without : (l : ℕ) (c : Clause) → length (without l c) ≤ length c
unfolding without
length_without l [] = omega arith
length_without l (x ∷ c) =
    let n : length (without l c) ≤ length c = length_without l c in
    by_cond (λ (d : Clause). length d ≤ length (x ∷ c)) (eqb l x) (λ e. omega arith) (λ e. omega arith)

-- ---- putting in

pub insert_later : (x y : ℕ) (c : Clause) → x < y → insert y (x ∷ c) ≡ x ∷ insert y c
unfolding insert
insert_later x y c h = rw (le-ltb y x (omega arith), ne_eqb y x (λ e. omega arith))

pub insert_first : (x : ℕ) (c : Clause) → Above x c → insert x c ≡ x ∷ c
unfolding insert
insert_first x [] h = refl
insert_first x (y ∷ c) h = rw (lt-ltb x y h)

pub insert_again : (x : ℕ) (c : Clause) → insert x (x ∷ c) ≡ x ∷ c
unfolding insert
insert_again x c = rw (le-ltb x x (omega arith), eq-eqb x x refl)

above_head : (x : ℕ) (c : Clause) → x < head_of c → Above x c
above_head x [] h = tt
above_head x (y ∷ c) h = h

-- the first of a join: from the left, from the right, from both
pub join_left : (x : ℕ) (a b : Clause) → x < head_of b → Rising b → join (x ∷ a) b ≡ x ∷ join a b
unfolding join
join_left x a [] h r = refl
join_left x a (y ∷ b) h r = rw (insert_later x y a h) (join_left x (insert y a) b (omega arith) r.1)

pub join_right : (y : ℕ) (a b : Clause) → y < head_of a → Rising (y ∷ b) → join a (y ∷ b) ≡ y ∷ join a b
unfolding join
join_right y a b h r = rw (insert_first y a (above_head y a h)) (join_left y a b r.0 r.1)

pub join_both : (x : ℕ) (a b : Clause) → Rising (x ∷ b) → join (x ∷ a) (x ∷ b) ≡ x ∷ join a b
unfolding join
join_both x a b r = rw (insert_again x a) (join_left x a b r.0 r.1)

-- ---- order

-- two numbers in each of three orders
pub by_order : {P : Type 0} (a b : ℕ) → (a < b → P) → (b < a → P) → (a ≡ b → P) → P
by_order {P} a b f g h = go (ltb a b) (eqb a b) refl refl
  where
    go : (t u : Bool) → ltb a b ≡ t → eqb a b ≡ u → P
    go true u e d = f (ltb-true a b e)
    go false true e d = h (eqb-true a b d)
    go false false e d = let n : a ≡ b → ⊥ = eqb-false a b d in g (omega (arith, ltb-false a b e))

-- ---- a clause is rising

head_insert : (k l : ℕ) (c : Clause) → k < l → k < head_of c → k < head_of (insert l c)
unfolding insert
head_insert k l [] h g = h
head_insert k l (x ∷ c) h g =
    by_cond (λ (d : Clause). k < head_of d) (ltb l x) (λ e. h)
    (λ e. by_cond (λ (d : Clause). k < head_of d) (eqb l x) (λ e. g) (λ e. g))

rising_insert : (l : ℕ) (c : Clause) → l < literal_bound → Rising c → Rising (insert l c)
unfolding insert
rising_insert l [] h r = (h, tt)
rising_insert l (x ∷ c) h r =
    by_cond Rising (ltb l x) (λ e. (ltb-true l x e, r))
    (λ e. by_cond Rising (eqb l x) (λ e. r)
    (λ d.
    let k : x < l = omega (arith, ltb-false l x e, eqb-false l x d) in
    (head_insert x l c k r.0, rising_insert l c h r.1)))

-- the same, whatever the last literal is
above_insert : (k l : ℕ) (c : Clause) → k < l → Above k c → Above k (insert l c)
unfolding insert
above_insert k l [] h g = h
above_insert k l (x ∷ c) h g =
    by_cond (Above k) (ltb l x) (λ e. h) (λ e. by_cond (Above k) (eqb l x) (λ e. g) (λ e. g))

ascending_insert : (l : ℕ) (c : Clause) → Ascending c → Ascending (insert l c)
unfolding insert
ascending_insert l [] a = (tt, tt)
ascending_insert l (x ∷ c) a =
    by_cond Ascending (ltb l x) (λ e. (ltb-true l x e, a))
    (λ e. by_cond Ascending (eqb l x) (λ e. a)
    (λ d.
    let k : x < l = omega (arith, ltb-false l x e, eqb-false l x d) in
    (above_insert x l c k a.0, ascending_insert l c a.1)))

put_ascending : (c : Clause) (ls : List ℕ) → Ascending c → Ascending (join c ls)
unfolding join
put_ascending c [] a = a
put_ascending c (l ∷ ls) a = put_ascending (insert l c) ls (ascending_insert l c a)

pub ascending_clause : (ls : List ℕ) → Ascending (clause_of ls)
ascending_clause ls = put_ascending [] ls tt

-- ---- one literal more

length_insert : (l : ℕ) (c : Clause) → length (insert l c) ≤ length c + 1
unfolding insert
length_insert l [] = omega arith
length_insert l (x ∷ c) =
    by_cond (λ (d : Clause). length d ≤ length (x ∷ c) + 1) (ltb l x) (λ e. omega arith)
    (λ e. by_cond (λ (d : Clause). length d ≤ length (x ∷ c) + 1) (eqb l x) (λ e. omega arith) (λ e. omega (arith, length_insert l c)))

pub length_join : (c : Clause) (ls : List ℕ) → length (join c ls) ≤ length c + length ls
unfolding join
length_join c [] = omega arith
length_join c (l ∷ ls) = omega (arith, length_join (insert l c) ls, length_insert l c)

pub join_more : (c : Clause) (ls : List ℕ) (l : ℕ) → join c (ls ++ (l ∷ [])) ≡ insert l (join c ls)
unfolding join
join_more c [] l = refl
join_more c (x ∷ ls) l = join_more (insert x c) ls l

-- literals that the store can hold
abbrev pub Small : List ℕ → Type 0
Small [] = Unit {0}
Small (l ∷ ls) = (l < literal_bound) × Small ls

put_rising : (c : Clause) (ls : List ℕ) → Small ls → Rising c → Rising (join c ls)
unfolding join
put_rising c [] s r = r
put_rising c (l ∷ ls) s r = put_rising (insert l c) ls s.1 (rising_insert l c s.0 r)

rising_small : (c : Clause) → Rising c → Small c
rising_small [] r = tt
rising_small (x ∷ c) r = (head_below x c r, rising_small c r.1)

-- a clause of literals that the store can hold is rising, and so are the join and a resolvent of rising clauses
pub rising_clause : (ls : List ℕ) → Small ls → Rising (clause_of ls)
rising_clause ls s = put_rising [] ls s tt

pub rising_join : (c d : Clause) → Rising c → Rising d → Rising (join c d)
rising_join c d r s = put_rising c d (rising_small d s) r

pub rising_resolvent : (v : ℕ) (a b : Clause) → Rising a → Rising b → Rising (resolvent v a b)
unfolding resolvent
rising_resolvent v a b r s = rising_join _ _ (rising_without (positive v) a r) (rising_without (negative v) b s)
