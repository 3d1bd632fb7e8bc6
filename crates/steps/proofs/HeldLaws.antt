-- A store that holds clauses: clause k is in its numbers, and a clause saved behind the last is held too.
use Prim.Native.Nat.{ℕ, zero, suc, ◌+◌, ◌-◌, ◌*◌, ◌≤◌, ◌<◌}
use mathlib.Core.Path.{◌≡◌, refl, sym, ap, ◌∙◌}
use mathlib.Core.List.{List, [], ◌∷◌, ◌++◌, map, append_assoc, append-nil}
use native.Mathlib.Omega.{arith}
use lib.ListN.{length, take, drop, get_or, length-append, take-append-drop}
use native.Mathlib.Numerals.{add-one}
use lib.Dec.{ltb, eqb}
use lib.Seq.{sets, sets-eq, length-sets, take_at, take-suc, length-take-le, drop-append-add}
use Rattle.model.specs.Limits.{clause_width}
use Rattle.model.specs.Answers.{zeros}
use Rattle.model.specs.Clauses.{Clause, neg, insert, join, clause_of, and_clauses, xor_clauses}
use Rattle.laws.specs.Bools.{by_cond}
use Rattle.model.specs.Checker.{stored, stored_all}
use Rattle.clause.specs.Sets.{Proper, Stores}
use Rattle.clause.proofs.StoreLaws.{stored_length}
use Rattle.clause.proofs.SetLaws.{Small, rising_clause}
use Rattle.frame.specs.declared.Op.{Op}
use Rattle.frame.specs.declared.Op.TheVariants.{And, Xor}
use Rattle.steps.specs.Kept.{clauses_of, AllProper, Held, literals_in, clauses_in}

pub all_width : (cs : List Clause) → AllProper cs → length (stored_all cs) ≡ clause_width * length cs
unfolding stored_all
all_width [] p = omega arith
all_width (c ∷ cs) p = rw (length-append, stored_length c p.0.width, all_width cs p.1) (omega arith)

all_append : (cs ds : List Clause) → stored_all (cs ++ ds) ≡ stored_all cs ++ stored_all ds
unfolding stored_all
all_append [] ds = refl
all_append (c ∷ cs) ds = rw (all_append cs ds) (sym (append_assoc (stored c) (stored_all cs) (stored_all ds)))

proper_append : (cs : List Clause) (c : Clause) → AllProper cs → Proper c → AllProper (cs ++ (c ∷ []))
proper_append [] c p q = (q, tt)
proper_append (d ∷ cs) c p q = (p.0, proper_append cs c p.1 q)

pub proper_at : (cs : List Clause) (k : ℕ) → AllProper cs → k < length cs → Proper (get_or cs k [])
proper_at [] k p h = absurd (omega arith)
proper_at (c ∷ cs) zero p h = p.0
proper_at (c ∷ cs) (suc k) p h = proper_at cs k p.1 (omega arith)

-- ---- a clause of the store

-- the bounds of clause k, from 0, leave a clause's numbers between them
pub bounds : (k : ℕ) → clause_width * k + clause_width - clause_width * k ≡ clause_width
bounds k = omega arith

-- the k-th of clauses stored one behind the other
stored_at : (cs : List Clause) → AllProper cs → (k : ℕ) → k < length cs → (rest : List ℕ) → take clause_width (drop (clause_width * k) (stored_all cs ++ rest)) ≡ stored (get_or cs k [])
unfolding stored_all
stored_at [] p k h rest = absurd (omega arith)
stored_at (c ∷ cs) p zero h rest =
    let z : clause_width * 0 ≡ 0 = omega arith in
    rw (z, append_assoc (stored c) (stored_all cs) rest) (take_at (stored c) (stored_all cs ++ rest) clause_width (stored_length c p.0.width))
stored_at (c ∷ cs) p (suc k) h rest =
    let e : clause_width * suc k ≡ length (stored c) + clause_width * k = omega (arith, stored_length c p.0.width) in
    rw (e, append_assoc (stored c) (stored_all cs) rest, drop-append-add (stored c) (stored_all cs ++ rest) (clause_width * k)) (stored_at cs p.1 k (omega arith) rest)

-- the store is its clauses and what is behind them
held_split : (store : List ℕ) (cs : List Clause) → Held store cs → store ≡ stored_all cs ++ drop (clause_width * length cs) store
held_split store cs h = sym (take-append-drop (clause_width * length cs) store) ∙ ap (λ (l : List ℕ). l ++ drop (clause_width * length cs) store) h.same

-- the numbers of clause k, from 0, are as it is stored
pub held_stored : (store : List ℕ) (cs : List Clause) → Held store cs → (k : ℕ) → k < length cs → Stores (take clause_width (drop (clause_width * k) store)) (get_or cs k [])
held_stored store cs h k l =
    record {
      proper = proper_at cs k h.proper l;
      same =
          ap (λ (t : List ℕ). take clause_width (drop (clause_width * k) t)) (held_split store cs h)
          ∙ stored_at cs h.proper k l (drop (clause_width * length cs) store);
    }

-- ---- a clause more

pub held_more : (store : List ℕ) (cs : List Clause) (c : Clause) → Held store cs → Proper c → clause_width * length cs + clause_width ≤ length store
    → Held (sets store (clause_width * length cs) (stored c)) (cs ++ (c ∷ []))
unfolding stored_all
held_more store cs c h p room =
    let n : ℕ = clause_width * length cs in
    let w : length (stored c) ≡ clause_width = stored_length c p.width in
    let e : sets store n (stored c) ≡ take n store ++ stored c ++ drop (n + length (stored c)) store = sets-eq (stored c) store n (omega arith) in
    let count : length (cs ++ (c ∷ [])) ≡ length cs + 1 = length-append cs (c ∷ []) in
    let all : stored_all (cs ++ (c ∷ [])) ≡ stored_all cs ++ stored c = all_append cs (c ∷ []) ∙ ap (λ (l : List ℕ). stored_all cs ++ l) (append-nil (stored c)) in
    let m : length (take n store ++ stored c) ≡ clause_width * length (cs ++ (c ∷ [])) =
    length-append (take n store) (stored c) ∙ omega (arith, ap length h.same, all_width cs h.proper) in
    let front : take (clause_width * length (cs ++ (c ∷ []))) (sets store n (stored c)) ≡ take n store ++ stored c =
    rw e (take_at (take n store ++ stored c) (drop (n + length (stored c)) store) (clause_width * length (cs ++ (c ∷ []))) m) in
    record {
      room = rw (length-sets, count) (omega arith);
      same = front ∙ ap (λ (l : List ℕ). l ++ stored c) h.same ∙ sym all;
      proper = proper_append cs c h.proper p;
    }

-- ---- the clauses that are there

literals_are : (c : Clause) (k : ℕ) → literals_in (map suc c ++ zeros k) ≡ c
unfolding literals_in
literals_are [] zero = refl
literals_are [] (suc k) = refl
literals_are (l ∷ c) k = ap (λ (d : Clause). l ∷ d) (literals_are c k)

clauses_are : (cs : List Clause) → AllProper cs → (rest : List ℕ) → clauses_in (length cs) (stored_all cs ++ rest) ≡ cs
unfolding stored_all clauses_in
clauses_are [] p rest = refl
clauses_are (c ∷ cs) p rest =
    let whole : (stored c ++ stored_all cs) ++ rest ≡ stored c ++ (stored_all cs ++ rest) = append_assoc (stored c) (stored_all cs) rest in
    let w : clause_width ≡ length (stored c) + 0 = omega (arith, stored_length c p.0.width) in
    let first : literals_in (take clause_width ((stored c ++ stored_all cs) ++ rest)) ≡ c =
    ap (λ (s : List ℕ). literals_in (take clause_width s)) whole
    ∙ ap literals_in (take_at (stored c) (stored_all cs ++ rest) clause_width (stored_length c p.0.width))
    ∙ literals_are c (clause_width - length c) in
    let behind : drop clause_width ((stored c ++ stored_all cs) ++ rest) ≡ stored_all cs ++ rest =
    ap (λ (s : List ℕ). drop clause_width s) whole ∙ ap (λ (n : ℕ). drop n (stored c ++ (stored_all cs ++ rest))) w ∙ drop-append-add (stored c) (stored_all cs ++ rest) 0 in
    let others = ap (λ (s : List ℕ). clauses_in (length cs) s) behind ∙ clauses_are cs p.1 rest in
    λ i. first i ∷ others i

-- so many are there
pub clauses_count : (n : ℕ) (store : List ℕ) → length (clauses_in n store) ≡ n
unfolding clauses_in
clauses_count zero store = refl
clauses_count (suc n) store = ap suc (clauses_count n (drop clause_width store))

-- what a store holds is there
pub in_held : (store : List ℕ) (cs : List Clause) (n : ℕ) → Held store cs → length cs ≡ n → clauses_in n store ≡ cs
in_held store cs n h e = rw (sym e) (ap (λ (s : List ℕ). clauses_in (length cs) s) (held_split store cs h) ∙ clauses_are cs h.proper (drop (clause_width * length cs) store))

pub held_in : (store : List ℕ) (cs : List Clause) (n : ℕ) → Held store cs → length cs ≡ n → Held store (clauses_in n store)
held_in store cs n h e = rw (in_held store cs n h e) h

-- a clause saved behind so many
pub held_saved : (store : List ℕ) (n : ℕ) (c : Clause) → Held store (clauses_in n store) → Proper c → clause_width * n + clause_width ≤ length store
    → Held (sets store (clause_width * n) (stored c)) (clauses_in n store ++ (c ∷ []))
held_saved store n c h p room =
    let e : clause_width * n ≡ clause_width * length (clauses_in n store) = omega (arith, clauses_count n store) in
    rw e (held_more store (clauses_in n store) c h p (omega arith))

-- none
pub none_held : (store : List ℕ) → Held store (clauses_in 0 store)
unfolding stored_all clauses_in
none_held store = record { room = omega arith; same = refl; proper = tt }

-- ---- a gate's clauses

insert_length : (l : ℕ) (c : Clause) → length (insert l c) ≤ suc (length c)
unfolding insert
insert_length l [] = omega arith
insert_length l (x ∷ c) =
    by_cond (λ (d : Clause). length d ≤ suc (suc (length c))) (ltb l x) (λ e. omega arith)
    (λ e. by_cond (λ (d : Clause). length d ≤ suc (suc (length c))) (eqb l x) (λ f. omega arith) (λ f. omega (arith, insert_length l c)))

join_length : (c : Clause) (ls : List ℕ) → length (join c ls) ≤ length c + length ls
unfolding join
join_length c [] = omega arith
join_length c (l ∷ ls) = omega (arith, join_length (insert l c) ls, insert_length l c)

-- a clause of few enough literals that the store can hold is proper
proper_clause : (ls : List ℕ) → Small ls → length ls ≤ clause_width → Proper (clause_of ls)
proper_clause ls s h = record { rising = rising_clause ls s; width = omega (arith, join_length [] ls) }

-- the clauses of a gate over such literals are proper
pub gate_proper : (op : Op) (n x y : ℕ) → n < 65534 → x < 65534 → y < 65534 → AllProper (clauses_of op n x y)
unfolding and_clauses xor_clauses
gate_proper And n x y a b c = (
  proper_clause (neg n ∷ x ∷ []) (omega arith, (omega arith, tt)) (omega arith),
  (
    proper_clause (neg n ∷ y ∷ []) (omega arith, (omega arith, tt)) (omega arith),
    (proper_clause (n ∷ neg x ∷ neg y ∷ []) (omega arith, (omega arith, (omega arith, tt))) (omega arith), tt),
  ),
)
gate_proper Xor n x y a b c = (
  proper_clause (x ∷ y ∷ neg n ∷ []) (omega arith, (omega arith, (omega arith, tt))) (omega arith),
  (
    proper_clause (x ∷ neg y ∷ n ∷ []) (omega arith, (omega arith, (omega arith, tt))) (omega arith),
    (
      proper_clause (neg x ∷ y ∷ n ∷ []) (omega arith, (omega arith, (omega arith, tt))) (omega arith),
      (proper_clause (neg x ∷ neg y ∷ neg n ∷ []) (omega arith, (omega arith, (omega arith, tt))) (omega arith), tt),
    ),
  ),
)

-- clause j of a gate saved behind those before it
pub gate_saved : (store : List ℕ) (cs ds : List Clause) (j at : ℕ) (c : Clause) → AllProper ds → j < length ds → c ≡ get_or ds j [] → at ≡ clause_width * (length cs + j)
    → clause_width * (length cs + length ds) ≤ length store → Held store (cs ++ take j ds) → Held (sets store at (stored c)) (cs ++ take (j + 1) ds)
gate_saved store cs ds j at c p h e is room held =
    let n : length (cs ++ take j ds) ≡ length cs + j = length-append cs (take j ds) ∙ ap (λ (k : ℕ). length cs + k) (length-take-le j ds (omega arith)) in
    let m : at ≡ clause_width * length (cs ++ take j ds) = omega arith in
    let t : cs ++ take (j + 1) ds ≡ (cs ++ take j ds) ++ (get_or ds j [] ∷ []) =
    ap (λ (l : List Clause). cs ++ l) (rw add-one (take-suc ds j [] h)) ∙ sym (append_assoc cs (take j ds) (get_or ds j [] ∷ [])) in
    rw (t, m, e) (held_more store (cs ++ take j ds) (get_or ds j []) held (proper_at ds j p h) (omega arith))
