-- Resolutions replayed over a list of clauses, one and many. A cut of sets in any order is one law (`cut_at`), since a clause is given by
-- what it holds; and clauses are only added, so what is known of a clause goes on holding (`has_ext`).
use Rattle.std.specs.Prelude.{ℕ, suc, ◌+◌, ◌-◌, ◌%◌, ◌≤◌, ◌≡◌, refl, List, [], ◌∷◌, ◌++◌, length}
use Rattle.std.proofs.Common.{sym, ap, ◌∙◌, subst, append_assoc, append-nil, arith, length-append, eqb-true}
use Rattle.std.proofs.Math.ListN.{get_or-append}
use Rattle.std.proofs.lemmas.List.{get_or_at}
use Rattle.std.proofs.lemmas.Bool.{eqb-false}
use Rattle.model.specs.Limits.{clause_width}
use Rattle.model.specs.Nets.{net_of, odd}
use Rattle.model.specs.Clauses.{Clause, positive, negative, neg, clause_of, holds, resolvent}
use Rattle.model.specs.Steps.{clause}
use Rattle.laws.specs.Bools.{by_cond}
use Rattle.laws.specs.Growing.{Extends}
use Rattle.emit_laws.specs.Sets.{Same, Off}
use Rattle.emit_laws.proofs.Sets.{same_clause, resolvent_clause, flat, sets, without_head, holds_head, length_clause}
use Rattle.emit_laws.specs.Replay.{Has, Resolution, result, pivot, Cut, after, Fine}

-- ---- longer lists of clauses

pub extends_self : (K : List Clause) → Extends K K
extends_self K = record { more = []; eq = sym (append-nil K) }

extends_then : {K L M : List Clause} → Extends K L → Extends L M → Extends K M
extends_then {K} p q =
    record { more = p.more ++ q.more; eq = q.eq ∙ ap (λ (l : List Clause). l ++ q.more) p.eq ∙ append_assoc K p.more q.more }

-- ---- a clause of K

pub has_same : {K : List Clause} {c : ℕ} {S T : List ℕ} → Has K c S → Same S T → Has K c T
has_same {S} {T} h s = record { number = h.number; eq = h.eq ∙ same_clause S T s }

has_more : {K : List Clause} (D : List Clause) {c : ℕ} {S : List ℕ} → Has K c S → Has (K ++ D) c S
has_more {K} D {c} h =
    record {
      number = record { from_one = h.number.from_one; to_last = rw length-append (omega arith) };
      eq = get_or-append K D [] (c - 1) (omega arith) ∙ h.eq;
    }

pub has_ext : {K L : List Clause} {c : ℕ} {S : List ℕ} → Extends K L → Has K c S → Has L c S
has_ext {c} {S} e h = subst (λ (M : List Clause). Has M c S) (sym e.eq) (has_more e.more h)

-- the clause added behind
pub has_last : (K : List Clause) (S : List ℕ) → Has (K ++ (clause_of S ∷ [])) (suc (length K)) S
has_last K S =
    record {
      number = record { from_one = omega arith; to_last = rw length-append (omega arith) };
      eq = get_or_at K (clause_of S) [] [] (suc (length K) - 1) (omega arith);
    }

-- ---- one resolution

resolve_at : (K : List Clause) (a b v : ℕ) (S T : List ℕ) → Has K a (positive v ∷ S) → Has K b (negative v ∷ T)
    → Off (positive v) S → Off (negative v) T → length S + length T ≤ clause_width
    → Cut K (record { first = a; second = b; variable = v }) (S ++ T)
resolve_at K a b v S T p q f g n =
    let e : resolvent v (clause K a) (clause K b) ≡ clause_of (S ++ T) =
    rw (
      p.eq,
      q.eq,
      resolvent_clause v (positive v ∷ S) (negative v ∷ T),
      without_head (positive v) S f,
      without_head (negative v) T g,
    ) in
    record {
      fits = record {
        first = p.number;
        second = q.number;
        first_holds = rw p.eq (holds_head (positive v) S);
        second_holds = rw q.eq (holds_head (negative v) T);
        narrow = rw e (omega (arith, length_clause (S ++ T), length-append S T));
      };
      eq = e;
    }

-- A cut on l: of l with S and ¬l with T it gives S with T, whichever sign l has.
pub cut_at : (K : List Clause) (a b l : ℕ) (S T U : List ℕ) → Has K a (l ∷ S) → Has K b (neg l ∷ T) → Off l S → Off (neg l) T
    → length S + length T ≤ clause_width → Same (S ++ T) U → Cut K (pivot a b l) U
cut_at K a b l S T U p q f g n s =
    by_cond (λ (r : Resolution). Cut K r U) (odd l)
    (λ e.
    let h : l % 2 ≡ 1 = eqb-true (l % 2) 1 e in
    let x : l ≡ negative (net_of l) = omega arith in
    let y : neg l ≡ positive (net_of l) = omega arith in
    let c =
    resolve_at K b a (net_of l) T S
    (subst (λ (k : ℕ). Has K b (k ∷ T)) y q) (subst (λ (k : ℕ). Has K a (k ∷ S)) x p)
    (subst (λ (k : ℕ). Off k T) y g) (subst (λ (k : ℕ). Off k S) x f) (omega arith) in
    record { fits = c.fits; eq = c.eq ∙ same_clause (T ++ S) U (λ k. turn k ∙ s k) })
    (λ e.
    let h : l % 2 ≡ 1 → ⊥ = eqb-false (l % 2) 1 e in
    let x : l ≡ positive (net_of l) = omega arith in
    let y : neg l ≡ negative (net_of l) = omega arith in
    let c =
    resolve_at K a b (net_of l) S T
    (subst (λ (k : ℕ). Has K a (k ∷ S)) x p) (subst (λ (k : ℕ). Has K b (k ∷ T)) y q)
    (subst (λ (k : ℕ). Off k S) x f) (subst (λ (k : ℕ). Off k T) y g) n in
    record { fits = c.fits; eq = c.eq ∙ same_clause (S ++ T) U s })
  where
    turn : (k : ℕ) → holds k (T ++ S) ≡ holds k (S ++ T)
    turn k = simp flat (simp sets)

-- ---- many

pub fine_append : (K : List Clause) (rs ss : List Resolution) → Fine K rs → Fine (after K rs) ss → Fine K (rs ++ ss)
unfolding after
fine_append K [] ss p q = q
fine_append K (r ∷ rs) ss p q = (p.0, fine_append (K ++ (result K r ∷ [])) rs ss p.1 q)

pub after_append : (K : List Clause) (rs ss : List Resolution) → after K (rs ++ ss) ≡ after (after K rs) ss
unfolding after
after_append K [] ss = refl
after_append K (r ∷ rs) ss = after_append (K ++ (result K r ∷ [])) rs ss

pub length_after : (K : List Clause) (rs : List Resolution) → length (after K rs) ≡ length K + length rs
unfolding after
length_after K [] = omega arith
length_after K (r ∷ rs) = length_after (K ++ (result K r ∷ [])) rs ∙ rw length-append (omega arith)

pub extends_after : (K : List Clause) (rs : List Resolution) → Extends K (after K rs)
unfolding after
extends_after K [] = extends_self K
extends_after K (r ∷ rs) = extends_then (record { more = result K r ∷ []; eq = refl }) (extends_after (K ++ (result K r ∷ [])) rs)
