-- The miter's clauses, variable by variable.
use Prim.Native.Nat.{ℕ, zero, suc, ◌+◌, ◌-◌, ◌≤◌, ◌<◌}
use mathlib.Core.Path.{◌≡◌, refl, sym, ap, ◌∙◌}
use mathlib.Core.Bool.{false}
use mathlib.Core.List.{List, [], ◌∷◌, ◌++◌, append_assoc, append-nil}
use native.Mathlib.Omega.{arith}
use lib.ListN.{length, take, get_or, length-append}
use lib.Seq.{take_all}
use borrow.Author.Tests.{le-leb, lt-leb}
use Rattle.model.specs.Nets.{Gate, Netlist}
use Rattle.model.specs.Answers.{guard}
use Rattle.model.specs.Answers.Answer.{ok, refused}
use Rattle.model.specs.Clauses.{Clause, positive, insert, join, clause_of, gate_clauses, all_clauses}
use Rattle.model.specs.Checker.{begin}
use Rattle.model.specs.Miter.{first_gate, first_clause, last_clause, miter_gates, miter_vars, miter}
use Rattle.laws.specs.Pairs as pairs
use Rattle.listing.specs.Gates.{no_gate}
use Rattle.steps.specs.declared.gates.Definition.{Definition}
use Rattle.clause.specs.Sets.{Proper}
use Rattle.model.specs.Steps.{State}
use Rattle.steps.specs.declared.Proof.{Proof}
use Rattle.steps.specs.Gates.{clauses_for}
use Rattle.steps.specs.Proofs.{state_of, nothing}
use Rattle.miter.specs.Miters.{Defines, gate_count, gates_up_to, begin_of}
use Rattle.steps.proofs.HeldLaws.{clauses_count}
use Rattle.miter.proofs.MiterLaws.{gate_total}

-- one variable more
clauses_more : (t : ℕ) (gs : List Gate) (i : ℕ) (d : Gate) → i < length gs
    → all_clauses t (take (suc i) gs) ≡ all_clauses t (take i gs) ++ gate_clauses (t + i) (get_or gs i d)
unfolding all_clauses
clauses_more t [] i d h = absurd (omega arith)
clauses_more t (g ∷ gs) zero d h = append-nil (gate_clauses t g) ∙ ap (λ (k : ℕ). gate_clauses k g) (omega arith)
clauses_more t (g ∷ gs) (suc i) d h =
    let e : suc t + i ≡ t + suc i = omega arith in
    ap (λ (l : List Clause). gate_clauses t g ++ l) (clauses_more (suc t) gs i d (omega arith))
    ∙ sym (append_assoc (gate_clauses t g) (all_clauses (suc t) (take i gs)) (gate_clauses (suc t + i) (get_or gs i d)))
    ∙ ap (λ (k : ℕ). (gate_clauses t g ++ all_clauses (suc t) (take i gs)) ++ gate_clauses k (get_or gs i d)) e

pub up_to_more : (a b : Netlist) (i : ℕ) (d : Gate) → i < length (miter_gates a b)
    → gates_up_to a b (i + 1) ≡ gates_up_to a b i ++ gate_clauses (first_gate a + i) (get_or (miter_gates a b) i d)
up_to_more a b i d h =
    let e : i + 1 ≡ suc i = omega arith in
    rw e (ap (λ (l : List Clause). first_clause ∷ l) (clauses_more (first_gate a) (miter_gates a b) i d h))

-- before the first variable
pub none_yet : (a b : Netlist) → gates_up_to a b 0 ≡ first_clause ∷ []
unfolding all_clauses
none_yet a b = refl

-- fewer variables, fewer clauses
clauses_fewer : (t : ℕ) (gs : List Gate) (i n : ℕ) → i ≤ n → length (all_clauses t (take i gs)) ≤ length (all_clauses t (take n gs))
unfolding all_clauses
clauses_fewer t [] zero n h = omega arith
clauses_fewer t [] (suc i) zero h = omega arith
clauses_fewer t [] (suc i) (suc n) h = omega arith
clauses_fewer t (g ∷ gs) zero n h = omega arith
clauses_fewer t (g ∷ gs) (suc i) zero h = absurd (omega arith)
clauses_fewer t (g ∷ gs) (suc i) (suc n) h =
    omega (
      arith,
      length-append (gate_clauses t g) (all_clauses (suc t) (take i gs)),
      length-append (gate_clauses t g) (all_clauses (suc t) (take n gs)),
      clauses_fewer (suc t) gs i n (omega arith),
    )

pub up_to_fewer : (a b : Netlist) (i n : ℕ) → i ≤ n → length (gates_up_to a b i) ≤ length (gates_up_to a b n)
up_to_fewer a b i n h = omega (arith, clauses_fewer (first_gate a) (miter_gates a b) i n h)

-- variable v, which is i of them, in the store behind the clauses of those before it
module _ (a b : Netlist) (v i count : ℕ) (d : Definition) (e : v ≡ 1 + a.inputs + i) (h : i < length (miter_gates a b))
    (def : Defines d v (get_or (miter_gates a b) i no_gate)) (len : length (gates_up_to a b i) ≡ count) where
  abbrev earlier : List Clause
  earlier = gates_up_to a b i

  abbrev own : List Clause
  own = clauses_for d

  pub one_more : gates_up_to a b (i + 1) ≡ earlier ++ own
  one_more =
      let at : first_gate a + i ≡ v = omega arith in
      up_to_more a b i no_gate h ∙ rw (at, def.same)

  -- where there is no room for them, there is none for all
  pub variable_short : (room all : ℕ) → room < count + length own → i < all → room < length (gates_up_to a b all)
  variable_short room all full more = omega (arith, length-append earlier own, ap length one_more, up_to_fewer a b (i + 1) all (omega arith))

-- ---- the first and the last clause

pub unit_clause : (l : ℕ) → clause_of (l ∷ []) ≡ l ∷ []
unfolding insert join
unit_clause l = refl

pub unit_proper : (l : ℕ) → l < 65534 → Proper (l ∷ [])
unit_proper l h = record { rising = (omega arith, tt); width = omega arith }

miter_is : (a b : Netlist) → miter a b ≡ gates_up_to a b (length (miter_gates a b)) ++ (last_clause a b ∷ [])
unfolding miter
miter_is a b = rw (take_all (length (miter_gates a b)) (miter_gates a b) (omega arith))

module _ (room : ℕ) (a b : Netlist) (count : ℕ) (n : length (gates_up_to a b (length (miter_gates a b))) ≡ count) where
  miter_count : length (miter a b) ≡ count + 1
  miter_count = ap length (miter_is a b) ∙ length-append (gates_up_to a b (length (miter_gates a b))) (last_clause a b ∷ []) ∙ omega arith

  pub begin_short : room ≤ count → begin_of room a b ≡ refused 8 0
  unfolding begin_of guard
  begin_short h = rw (miter_count, lt-leb (count + 1) room (omega arith))

  pub begins : count < room → begin_of room a b ≡ ok (begin a b)
  unfolding begin_of guard
  begins h = rw (miter_count, le-leb (count + 1) room (omega arith))

-- the state before the first step
pub begins_with : (a b : Netlist) (last l : ℕ) → l ≡ positive last → miter_vars a b ≡ last + 1
    → record { clauses = gates_up_to a b (length (miter_gates a b)) ++ ((l ∷ []) ∷ []); next = last + 1; steps = 0; empty = false } ≡ begin a b
unfolding begin
begins_with a b last l e v =
    let same : last ≡ miter_vars a b - 1 = omega arith in
    let ends : l ∷ [] ≡ last_clause a b = ap (λ (x : ℕ). x ∷ []) (e ∙ ap positive same) in
    let all : gates_up_to a b (length (miter_gates a b)) ++ ((l ∷ []) ∷ []) ≡ miter a b =
    ap (λ (c : Clause). gates_up_to a b (length (miter_gates a b)) ++ (c ∷ [])) ends ∙ sym (miter_is a b) in
    λ i. record { clauses = all i; next = (sym v) i; steps = 0; empty = false }

-- ---- states

-- so many clauses are there
pub counted : (p : Proof) (s : State) → state_of p ≡ s → length s.clauses ≡ p.clauses
counted p s e = sym (ap (λ (t : State). length t.clauses) e) ∙ clauses_count p.clauses p.store.now

-- a variable's clauses were put behind those before it
pub one_put : (s p d : State) (before own all : List Clause) → p ≡ record s { clauses = before } → d ≡ record p { clauses = p.clauses ++ own } → all ≡ before ++ own
    → d ≡ record s { clauses = all }
one_put s p d before own all e f g = rw (f, e, g) refl

-- all were put, where there was nothing
pub all_put : (n p t : State) (first all : List Clause) → n ≡ nothing → p ≡ record n { clauses = first } → t ≡ record p { clauses = all } → t ≡ record nothing { clauses = all }
all_put n p t first all e f g = rw (g, f, e) refl

-- and then the last
pub last_put : (p d : State) (cs : List Clause) (c : Clause) (l next : ℕ) → p ≡ record nothing { clauses = cs } → d ≡ record p { clauses = p.clauses ++ (c ∷ []) } → c ≡ l ∷ []
    → record d { next = next } ≡ record { clauses = cs ++ ((l ∷ []) ∷ []); next = next; steps = 0; empty = false }
last_put p d cs c l next e f g = rw (f, e, g) refl

-- ---- two lists that were read

module _ {a b : Netlist} (ab : pairs.Pair a b) where
  pub variables_are : (n : ℕ) → n ≡ 1 + a.inputs + length a.gates + length b.gates + length a.outs + (length a.outs - 1) → miter_vars a b ≡ n - 1 + 1
  unfolding miter_vars
  variables_are n e = omega (arith, gate_total ab)

  pub all_short : (room : ℕ) → room < length (gates_up_to a b (gate_count (record { left = a; right = b }))) → begin_of room a b ≡ refused 8 0
  all_short room h =
      let e = ap (λ (k : ℕ). length (gates_up_to a b k)) (gate_total ab) in
      begin_short room a b (length (gates_up_to a b (length (miter_gates a b)))) refl (omega arith)

pub no_space : (room : ℕ) (a b : Netlist) → room ≡ 0 → begin_of room a b ≡ refused 8 0
no_space room a b h = begin_short room a b (length (gates_up_to a b (length (miter_gates a b)))) refl (omega arith)
