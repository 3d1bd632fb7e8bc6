-- `table_of` meets the record of what is known of the first pass's table, `Facts`. The argument goes from net to net: a gate is linked to a
-- literal below it that represents itself, or it is the first that has its key and represents itself.
use Prim.Native.Nat.{ℕ, suc, ◌+◌, ◌≤◌, ◌<◌}
use Rattle.std.specs.Prelude.{◌≡◌, refl, Bool, true, false, ◌&&◌, length, take, ltb, leb}
use Rattle.std.proofs.Common.{sym, ap, ◌∙◌, arith}
use Rattle.std.proofs.Math.Bool.{and-false}
use mathlib.Core.List.{List, [], ◌∷◌}
use borrow.Author.Tests.{ltb-true, ltb-false, leb-true, leb-false}
use Rattle.model.specs.Nets.{Gate, net_of, odd}
use Rattle.model.specs.Clauses.{positive}
use Rattle.laws.specs.Bools.{by_cond, below_or_at}
use Rattle.laws.specs.Literals.{literals_below}
use Rattle.laws.specs.Growing.{Grown, grown}
use Rattle.laws.specs.Pairs.{Ordered, is_xor}
use Rattle.fold_laws.specs.Signs.{signed}
use Rattle.fold_laws.proofs.Signs.{signed_net, signed_back}
use Rattle.fold_laws.specs.Cases.{Made, made}
use Rattle.fold_laws.proofs.Cases.{by_made}
use Rattle.fold_laws.specs.Cases.Made.{is, key}
use Rattle.fold_laws.specs.Table.{Entry, base_entry, blank, at, rep_of, ordered, enter, part, sign_of, enter_gate, entry, bases, table_of}
use Rattle.fold_laws.proofs.Entries.{kind_some, plain_part, rep_signed, rep_is, own_rep, rep_take, length_bases, length_table, table_base}
use Rattle.fold_laws.specs.Entries.{Hit, NoneBelow, Entered}
use Rattle.fold_laws.proofs.Entries.{entered}
use Rattle.fold_laws.specs.Entries.Entered.{old, new}
use Rattle.fold_laws.specs.Facts.{Laws, Keyed, Stands, GateFact, GateFacts, Facts, Operand}

-- ---- the record

-- a literal that does not represent itself stands for a net below
pub stands_below : {t : List Entry} {N : ℕ} → Laws t N → (l : ℕ) → net_of l < N → (rep_of t l ≡ l → ⊥) → net_of (rep_of t l) < net_of l
stands_below {t} laws l h n =
    below_or_at (net_of (rep_of t l)) (net_of l) (omega (arith, laws.down l h)) (λ p. p) (λ e. absurd (n (laws.fixed l h e)))

-- ---- operands

pub zero_operand : {t : List Entry} {N : ℕ} → Laws t N → (v : ℕ) → 0 < v → (k : Bool) → Operand t v k 0
zero_operand laws v some k = record { below = some; own = laws.bottom; plain = and-false k }

pub operand : {t : List Entry} {N : ℕ} → Laws t N → (v : ℕ) → v ≤ N → (k : Bool) (x : ℕ) → net_of x < v → Operand t v k (part k (rep_of t x))
operand {t} laws v h k x d =
    let p : ℕ = rep_of t x in
    let b = laws.down x (omega arith) in
    record {
      below = rw (signed_net (k && odd p) p) (omega arith);
      own = rep_signed t (k && odd p) p ∙ ap (signed (k && odd p)) (laws.idem x (omega arith));
      plain = plain_part k p;
    }

-- ---- one net

-- the net that keeps a key
record Kept (t : List Entry) (u : ℕ) : Type 0 where
  own : (at t u).rep ≡ positive u
  below : net_of (at t u).kb < u
  over : net_of (at t u).core ≡ u

record Fact (t : List Entry) (u : ℕ) : Type 0 where
  below : net_of (at t u).rep ≤ u
  idem : rep_of t (at t u).rep ≡ (at t u).rep
  fixed : net_of (at t u).rep ≡ u → (at t u).rep ≡ positive u
  keeps : 0 < (at t u).ka → Kept t u

-- of each net, they are the laws
laws_of : (t : List Entry) (N : ℕ) → rep_of t 0 ≡ 0 → ((u : ℕ) → u < N → Fact t u) → Laws t N
unfolding rep_of
laws_of t N z f =
    record {
      bottom = z;
      flip = rep_signed t true;
      down = λ l h. rw (signed_net (odd l) (at t (net_of l)).rep) (f (net_of l) h).below;
      idem = λ l h. rep_signed t (odd l) (at t (net_of l)).rep ∙ ap (signed (odd l)) (f (net_of l) h).idem;
      fixed = λ l h e. own_rep t l ((f (net_of l) h).fixed (sym (signed_net (odd l) (at t (net_of l)).rep) ∙ e));
    }

-- a net that represents itself
own_fact : (t : List Entry) (u : ℕ) → (at t u).rep ≡ positive u → (0 < (at t u).ka → Kept t u) → Fact t u
own_fact t u e keeps =
    let n : net_of (positive u) ≡ u = omega arith in
    record { below = rw e (omega arith); idem = rw e (own_rep t (positive u) (rw (n, e))); fixed = λ _. e; keeps = keeps }

-- a net that stands for a literal below it
linked_fact : (t : List Entry) (v : ℕ) (s : Bool) (r : ℕ) → (at t v).rep ≡ signed s r → (at t v).ka ≡ 0 → net_of r < v → rep_of t r ≡ r → Fact t v
linked_fact t v s r e z h o =
    let n : net_of (at t v).rep ≡ net_of r = ap net_of e ∙ signed_net s r in
    record {
      below = omega arith;
      idem = rw e (rep_signed t s r ∙ ap (signed s) o);
      fixed = λ x. absurd (omega arith);
      keeps = λ x. absurd (omega arith);
    }

-- ---- one gate

-- the nets below first are no gates
module _ (t : List Entry) (first : ℕ) (some : 0 < first) (base : (u : ℕ) → u < first → at t u ≡ base_entry u) where
  input : (l : ℕ) → net_of l < first → rep_of t l ≡ l
  input l h = own_rep t l (rw (base (net_of l) h))

  base_fact : (u : ℕ) → u < first → Fact t u
  base_fact u h = let z : (at t u).ka ≡ 0 = rw (base u h) in own_fact t u (rw (base u h)) (λ x. absurd (omega arith))

  -- w is the first gate that has the key
  keyed : (w : ℕ) (k : Bool) (n a b : ℕ) → Kept t w → Hit t k a b w → NoneBelow t k a b w → rep_of t n ≡ (at t w).core → Keyed t first k n a b
  keyed w k n a b kept hit none e =
      let u : net_of (rep_of t n) ≡ w = ap net_of e ∙ kept.over in
      record {
        from = rw u (from (ltb w first) refl);
        above = rw (u, ← hit.second) kept.below;
        kind = rw u hit.kind;
        ka = rw u hit.first;
        kb = rw u hit.second;
        core = rw u (sym e);
        none = rw u none;
      }
    where
      from : (q : Bool) → ltb w first ≡ q → first ≤ w
      from true d = absurd (kind_some k (sym hit.kind ∙ rw (base w (ltb-true w first d))))
      from false d = ltb-false w first d

  -- net v, if its entry is this
  abbrev EntryFacts : ℕ → Bool → Bool → Made → Type 0
  EntryFacts v k s m = at t v ≡ enter (take v t) k s m → Fact t v × Stands t first k (signed s (positive v)) m

  module _ (v : ℕ) (k s : Bool) (long : v < length t) (below : (u : ℕ) → u < v → Fact t u) where
    of_literal : {r : ℕ} → Operand t v k r → EntryFacts v k s (is r)
    unfolding enter
    of_literal {r} p e = (linked_fact t v s r (rw e) (rw e) p.below p.own, rep_is t v s r (rw e))

    of_key : {a b : ℕ} → Operand t v k b → 0 < a → EntryFacts v k s (key a b)
    of_key {a} {b} q h e = go (entered t k s a b v long e)
      where
        n : ℕ
        n = signed s (positive v)

        go : Entered t k s a b v → Fact t v × Keyed t first k n a b
        go (old u l hit none e) =
            let kept : Kept t u = (below u l).keeps (rw hit.first h) in
            let over = kept.over in
            let c : ℕ = (at t u).core in
            let own : rep_of t c ≡ c = own_rep t c (rw over kept.own) in
            (linked_fact t v s c (rw e) (rw e) (omega arith) own, keyed u k n a b kept hit none (rep_is t v s c (rw e)))
        go (new none e) =
            let over : net_of n ≡ v = signed_net s (positive v) ∙ omega arith in
            let kept : Kept t v = record { own = rw e; below = rw e q.below; over = rw e over } in
            let hit : Hit t k a b v = record { kind = rw e; first = rw e; second = rw e } in
            (own_fact t v (rw e) (λ _. kept), keyed v k n a b kept hit none (rep_is t v s n (rw (e, signed_back s (positive v))) ∙ (rw e)))

    of_made : {a b : ℕ} → Operand t v k 0 → Operand t v k a → Operand t v k b → a ≤ b → EntryFacts v k s (made k a b)
    of_made {a} {b} z p q h =
        by_made (EntryFacts v k s) k a b h p.plain q.plain (of_literal z) (of_literal q) (λ c d. of_key q (omega arith))

  gate_facts : (v : ℕ) (k : Bool) (x y : ℕ) → net_of x < v → net_of y < v → first ≤ v → v < length t → ((u : ℕ) → u < v → Fact t u)
      → at t v ≡ enter_gate (take v t) k (rep_of t x) (rep_of t y) → Fact t v × GateFact t first v k x y
  unfolding ordered
  gate_facts v k x y hx hy hv long below =
      let laws : Laws t v = laws_of t v (input 0 some) below in
      let z : Operand t v k 0 = zero_operand laws v (omega arith) k in
      let a : ℕ = part k (rep_of t x) in
      let b : ℕ = part k (rep_of t y) in
      let p : Operand t v k a = operand laws v (omega arith) k x hx in
      let q : Operand t v k b = operand laws v (omega arith) k y hy in
      by_cond (EntryFacts v k (sign_of k (rep_of t x) (rep_of t y))) (leb a b)
      (λ c. of_made v k _ long below z p q (leb-true a b c))
      (λ c. of_made v k _ long below z q p (omega (arith, leb-false a b c)))

  -- ---- all gates

  all_facts : (gs : List Gate) (v : ℕ) → Ordered v gs → first ≤ v → v + length gs ≤ length t → Grown entry blank t v gs → ((u : ℕ) → u < v → Fact t u)
      → ((u : ℕ) → u < v + length gs → Fact t u) × GateFacts t first v gs
  unfolding entry
  all_facts [] v o h long e f = (λ u d. f u (omega arith), tt)
  all_facts (g ∷ gs) v o h long e f =
      let b = literals_below v g o.0 in
      let d = rw (rep_take t v g.x b.0, rep_take t v g.y b.1) at e.0 in
      let p = gate_facts v (is_xor g.op) g.x g.y b.0 b.1 h (omega arith) f d in
      let q = all_facts gs (suc v) o.1 (omega arith) (omega arith) e.1 (λ u d. below_or_at u v d (f u) (λ c. rw c p.0)) in
      (λ u d. q.0 u (omega arith), (p.1, q.1))

-- ---- the table

pub table_facts : (n : ℕ) (gs : List Gate) → Ordered (1 + n) gs → Facts (table_of n gs) n gs
unfolding table_of
table_facts n gs o =
    let t : List Entry = table_of n gs in
    let base : (u : ℕ) → u < 1 + n → at t u ≡ base_entry u = table_base n gs in
    let own : (l : ℕ) → net_of l < 1 + n → rep_of t l ≡ l = input t (1 + n) (omega arith) base in
    let f = all_facts t (1 + n) (omega arith) base gs (1 + n) o (omega arith) (omega (arith, length_table n gs))
    (grown entry blank (bases 0 (1 + n)) gs (1 + n) (length_bases 0 (1 + n)))
    (base_fact t (1 + n) (omega arith) base) in
    record { laws = laws_of t (1 + n + length gs) (own 0 (omega arith)) f.0; inputs = λ l h. own l (omega arith); gates = f.1 }
