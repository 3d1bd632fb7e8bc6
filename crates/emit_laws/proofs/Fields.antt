-- Every number of a refutation fits its field of a line: a clause number is at most that of the last clause, and a pivot is a variable of
-- the miter, because a resolution brings no literal that its clauses have not.
use Rattle.std.specs.Prelude.{ℕ, zero, suc, ◌+◌, ◌-◌, ◌*◌, ◌^◌, ◌≤◌, ◌<◌, ◌≡◌, refl, false, not, true, List, [], ◌∷◌, ◌++◌, length, get_or, eqb}
use Rattle.std.proofs.Common.{sym, ◌∙◌, true≢false, arith, length-append, eqb-true}
use Rattle.model.specs.Limits.{most_clauses}
use Rattle.model.specs.Frames.{two_bytes, widths}
use Rattle.model.specs.Nets.{Op, Gate, Netlist, net_of}
use Rattle.model.specs.Nets.Op.{and, xor, or}
use Rattle.model.specs.Clauses.{Clause, positive, negative, clause_of, without, holds, resolvent, and_clauses, xor_clauses, op_clauses, gate_clauses, all_clauses}
use Rattle.model.specs.Miter.{first_gate, miter_gates, miter_vars, first_clause, last_clause, miter}
use Rattle.model.specs.Steps.{clause}
use Rattle.laws.specs.Bools.{both, either}
use Rattle.laws.specs.Literals.{literals_below}
use Rattle.laws.specs.RoundTrip.{Proper}
use Rattle.laws.specs.Pairs.{Ordered, Pair}
use Rattle.laws.specs.MiterOrder.{ordered_miter}
use Rattle.emit_laws.proofs.Sets.{holds_join, holds_without}
use Rattle.emit_laws.specs.Replay.{Resolution, Fits, result, Fine}
use Rattle.emit_laws.proofs.Place.{few_variables}
use Rattle.emit_laws.specs.Fields.{frame_of, AllProper}

-- ---- clauses whose literals are below b

abbrev AllBelow : ℕ → List ℕ → Type 0
AllBelow b [] = Unit {0}
AllBelow b (x ∷ S) = (x < b) × AllBelow b S

abbrev Under : ℕ → Clause → Type 0
Under b c = (k : ℕ) → holds k c ≡ true → k < b

abbrev AllUnder : ℕ → List Clause → Type 0
AllUnder b [] = Unit {0}
AllUnder b (c ∷ cs) = Under b c × AllUnder b cs

under_list : (b : ℕ) (S : List ℕ) → AllBelow b S → Under b S
unfolding holds
under_list b [] e k h = absurd (true≢false (sym h))
under_list b (x ∷ S) e k h =
    either (eqb k x) (holds k S) h (λ q. omega (arith, eqb-true k x q)) (λ q. under_list b S e.1 k q)

under_clause : (b : ℕ) (S : List ℕ) → AllBelow b S → Under b (clause_of S)
unfolding holds
under_clause b S e k h =
    either (holds k S) false (sym (holds_join k [] S) ∙ h) (under_list b S e k) (λ q. absurd (true≢false (sym q)))

under_append : (b : ℕ) (cs ds : List Clause) → AllUnder b cs → AllUnder b ds → AllUnder b (cs ++ ds)
under_append b [] ds p q = q
under_append b (c ∷ cs) ds p q = (p.0, under_append b cs ds p.1 q)

under_at : (b : ℕ) (cs : List Clause) (i : ℕ) → AllUnder b cs → Under b (get_or cs i [])
unfolding holds
under_at b [] i u k h = absurd (true≢false (sym h))
under_at b (c ∷ cs) zero u k h = u.0 k h
under_at b (c ∷ cs) (suc i) u k h = under_at b cs i u.1 k h

under_without : (b l : ℕ) (c : Clause) → Under b c → Under b (without l c)
under_without b l c u k h = u k (both (not (eqb k l)) (holds k c) (sym (holds_without k l c) ∙ h)).1

-- a resolution keeps the bound
under_result : (b : ℕ) (K : List Clause) (r : Resolution) → AllUnder b K → Under b (result K r)
unfolding resolvent
under_result b K r u k h =
    let c : Clause = without (positive r.variable) (clause K r.first) in
    let d : Clause = without (negative r.variable) (clause K r.second) in
    either (holds k d) (holds k c) (sym (holds_join k c d) ∙ h)
    (under_without b (negative r.variable) (clause K r.second) (under_at b K (r.second - 1) u) k)
    (under_without b (positive r.variable) (clause K r.first) (under_at b K (r.first - 1) u) k)

-- ---- the miter's

op_under : (t : ℕ) (o : Op) (x y b : ℕ) → net_of x < t → net_of y < t → 2 * t + 2 ≤ b → AllUnder b (op_clauses o t x y)
unfolding op_clauses and_clauses xor_clauses
op_under t and x y b h i j = (under_clause b _ (omega arith), (under_clause b _ (omega arith), (under_clause b _ (omega arith), tt)))
op_under t xor x y b h i j = (
  under_clause b _ (omega arith),
  (under_clause b _ (omega arith), (under_clause b _ (omega arith), (under_clause b _ (omega arith), tt))),
)
op_under t or x y b h i j = (under_clause b _ (omega arith), (under_clause b _ (omega arith), (under_clause b _ (omega arith), tt)))

all_under : (t b : ℕ) (gs : List Gate) → Ordered t gs → 2 * (t + length gs) ≤ b → AllUnder b (all_clauses t gs)
unfolding all_clauses
all_under t b [] o h = tt
all_under t b (g ∷ gs) o h =
    let q = literals_below t g o.0 in
    under_append b (gate_clauses t g) (all_clauses (suc t) gs)
    (op_under t g.op g.x g.y b q.0 q.1 (omega arith))
    (all_under (suc t) b gs o.1 (omega arith))

miter_under : (a b : Netlist) → Ordered (first_gate a) (miter_gates a b) → AllUnder (2 * miter_vars a b) (miter a b)
unfolding miter miter_vars
miter_under a b o =
    let m : ℕ = 2 * miter_vars a b in (
      under_list m first_clause (omega arith, tt),
      under_append m (all_clauses (first_gate a) (miter_gates a b)) (last_clause a b ∷ [])
          (all_under (first_gate a) m (miter_gates a b) o (omega arith))
          (under_list m (last_clause a b) (omega arith, tt), tt),
    )

-- ---- lines

proper : (b : ℕ) (K : List Clause) (r : Resolution) → AllUnder b K → Fits K r → b ≤ 2 * 16 ^ two_bytes → length K < 16 ^ two_bytes
    → Proper (frame_of r)
unfolding widths
proper b K r u f h i =
    let v : positive r.variable < b = under_at b K (r.first - 1) u (positive r.variable) f.first_holds in
    record {
      known = refl;
      fit = (omega (arith, f.first.to_last), (omega (arith, f.second.to_last), (omega arith, tt)));
    }

all_proper : (b : ℕ) (K : List Clause) (rs : List Resolution) → AllUnder b K → Fine K rs → b ≤ 2 * 16 ^ two_bytes
    → length K + length rs < 16 ^ two_bytes → AllProper rs
all_proper b K [] u f h i = tt
all_proper b K (r ∷ rs) u f h i = (
  proper b K r u f.0 h (omega arith),
  all_proper b (K ++ (result K r ∷ [])) rs (under_append b K (result K r ∷ []) u (under_result b K r u, tt)) f.1 h
      (rw length-append (omega arith)),
)

-- Resolutions over the miter of which none is refused, and for whose clauses the largest store has room, fit their lines.
pub lines_proper : (a b : Netlist) → Pair a b → (rs : List Resolution) → Fine (miter a b) rs
    → length (miter a b) + length rs ≤ most_clauses → AllProper rs
lines_proper a b ab rs f room =
    all_proper (2 * miter_vars a b) (miter a b) rs (miter_under a b (ordered_miter a b ab)) f
    (omega (arith, few_variables a b ab, ab.left.inputs, ab.left.gates, ab.right.gates, ab.left.outs)) (omega arith)
