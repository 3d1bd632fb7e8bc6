-- The miter's clauses stand where they are said to, and so many there are. A run of clauses (`Block`) is split from the front, gate by gate,
-- and a list that goes on keeps it.
use Rattle.std.specs.Prelude.{ℕ, zero, suc, ◌+◌, ◌-◌, ◌*◌, ◌≤◌, ◌≡◌, true, length, get_or}
use Rattle.std.proofs.Math.Path.{refl, sym}
use Rattle.std.proofs.Common.{ap, ◌∙◌, subst, arith, length-append}
use mathlib.Core.List.{List, [], ◌∷◌, ◌++◌, append_assoc, append-nil}
use Rattle.std.proofs.lemmas.List.{get_or_at}
use Rattle.model.specs.Nets.{Op, Gate, Netlist}
use Rattle.model.specs.Nets.Op.{and, xor, or}
use Rattle.model.specs.Clauses.{Clause, positive, negative, neg, insert, join, clause_of, and_clauses, xor_clauses, op_clauses, gate_clauses, all_clauses}
use Rattle.model.specs.Miter.{zs, ws, first_gate, first_z, first_w, gates_of, z_gates, w_gates, miter_gates, miter_vars, first_clause, last_clause, miter, first_gate_clause}
use Rattle.laws.specs.Growing.{Extends}
use Rattle.laws.specs.Pairs.{Pair}
use Rattle.laws.specs.MiterOrder.{length_z, z_at, w_at, last_variable, length_miter}
use Rattle.fold_laws.proofs.Signs.{signed_back}
use Rattle.emit_laws.specs.Replay.{Has}
use Rattle.emit_laws.specs.Trees.Tree.{old}
use Rattle.emit_laws.specs.Trees.Derives.{given}
use Rattle.emit_laws.specs.Subst.{And3, Xor4}
use Rattle.emit_laws.specs.Place.{Block, MiterAt, clause_count, behind, first_w_clause, last_number, first_z_clause}

-- ---- runs of clauses

block_front : {K : List Clause} {k : ℕ} (cs ds : List Clause) → Block K k (cs ++ ds) → Block K k cs
block_front cs ds p =
    record {
      before = p.before;
      after = ds ++ p.after;
      eq = p.eq ∙ ap (λ (l : List Clause). p.before ++ l) (append_assoc cs ds p.after);
      here = p.here;
    }

block_back : {K : List Clause} (k j : ℕ) (cs ds : List Clause) → Block K k (cs ++ ds) → j ≡ k + length cs → Block K j ds
block_back k j cs ds p e =
    record {
      before = p.before ++ cs;
      after = p.after;
      eq =
          p.eq
          ∙ ap (λ (l : List Clause). p.before ++ l) (append_assoc cs ds p.after)
          ∙ sym (append_assoc p.before cs (ds ++ p.after));
      here = rw length-append (omega (arith, p.here));
    }

block_head : {K : List Clause} {k : ℕ} (S : List ℕ) (cs : List Clause) → Block K k (clause_of S ∷ cs) → Has K k S
block_head {K} {k} S cs p =
    record {
      number = record { from_one = omega (arith, p.here); to_last = rw (p.eq, length-append) (omega (arith, p.here)) };
      eq =
          ap (λ (l : List Clause). get_or l (k - 1) []) p.eq
          ∙ get_or_at p.before (clause_of S) (cs ++ p.after) [] (k - 1) (omega (arith, p.here));
    }

block_tail : {K : List Clause} (k : ℕ) (c : Clause) (cs : List Clause) → Block K k (c ∷ cs) → Block K (suc k) cs
block_tail k c cs p = block_back k (suc k) (c ∷ []) cs p (omega arith)

block_ext : {K L : List Clause} {k : ℕ} (cs : List Clause) → Extends K L → Block K k cs → Block L k cs
block_ext cs x p =
    record {
      before = p.before;
      after = p.after ++ x.more;
      eq =
          x.eq
          ∙ ap (λ (l : List Clause). l ++ x.more) p.eq
          ∙ append_assoc p.before (cs ++ p.after) x.more
          ∙ ap (λ (l : List Clause). p.before ++ l) (append_assoc cs p.after x.more);
      here = p.here;
    }

-- ---- the clauses of one gate

and_block : {K : List Clause} (k n x y : ℕ) → Block K k (and_clauses n x y)
    → Has K k (neg n ∷ x ∷ []) × Has K (suc k) (neg n ∷ y ∷ []) × Has K (suc (suc k)) (n ∷ neg x ∷ neg y ∷ [])
unfolding and_clauses
and_block k n x y p =
    let q = block_tail k _ _ p in
    (block_head _ _ p, block_head _ _ q, block_head _ _ (block_tail (suc k) _ _ q))

-- variable t as an AND of x, y
pub and_at : {K : List Clause} (k t x y : ℕ) → Block K k (op_clauses and t x y)
    → And3 K (positive t) x y (old k) (old (suc k)) (old (suc (suc k)))
unfolding op_clauses
and_at k t x y p =
    let h = and_block k (positive t) x y p in
    record { one = given h.0; two = given h.1; three = given h.2 }

-- as an XOR
pub xor_at : {K : List Clause} (k t x y : ℕ) → Block K k (op_clauses xor t x y)
    → Xor4 K (positive t) x y (old k) (old (suc k)) (old (suc (suc k))) (old (suc (suc (suc k))))
unfolding op_clauses xor_clauses
xor_at k t x y p =
    let q = block_tail k _ _ p in
    let r = block_tail (suc k) _ _ q in
    record {
      zz = given (block_head _ _ p);
      zo = given (block_head _ _ q);
      oz = given (block_head _ _ r);
      oo = given (block_head _ _ (block_tail (suc (suc k)) _ _ r));
    }

-- the third clause of an OR of variables w and z
pub or_at : {K : List Clause} (k t w z : ℕ) → Block K k (op_clauses or t (positive w) (positive z))
    → Has K (suc (suc k)) (neg (positive t) ∷ positive w ∷ positive z ∷ [])
unfolding op_clauses
or_at {K} k t w z p =
    let c : negative t ≡ neg (positive t) = omega arith in
    subst (λ (i : ℕ). Has K (suc (suc k)) (i ∷ positive w ∷ positive z ∷ [])) c
    (rw (signed_back true (positive w), signed_back true (positive z)) at
    (and_block k (negative t) (neg (positive w)) (neg (positive z)) p).2)

length_op : (t : ℕ) (o : Op) (x y : ℕ) → length (op_clauses o t x y) ≡ clause_count o
unfolding op_clauses and_clauses xor_clauses
length_op t and x y = refl
length_op t xor x y = refl
length_op t or x y = refl

length_gate : (t : ℕ) (g : Gate) → length (gate_clauses t g) ≡ clause_count g.op
length_gate t g = length_op t g.op g.x g.y

-- ---- those of many

-- a first gate's clauses, and the others'
pub first_gate_lem : {K : List Clause} (k t : ℕ) (g : Gate) (gs : List Gate) → Block K k (all_clauses t (g ∷ gs))
    → Block K k (gate_clauses t g) × Block K (k + clause_count g.op) (all_clauses (suc t) gs)
unfolding all_clauses
first_gate_lem k t g gs p = (
  block_front (gate_clauses t g) (all_clauses (suc t) gs) p,
  block_back k (k + clause_count g.op) (gate_clauses t g) (all_clauses (suc t) gs) p
      (ap (λ (i : ℕ). k + i) (sym (length_gate t g))),
)

all_append : (t u : ℕ) (gs hs : List Gate) → u ≡ t + length gs → all_clauses t (gs ++ hs) ≡ all_clauses t gs ++ all_clauses u hs
unfolding all_clauses
all_append t u [] hs e = ap (λ (i : ℕ). all_clauses i hs) (omega arith)
all_append t u (g ∷ gs) hs e =
    ap (λ (l : List Clause). gate_clauses t g ++ l) (all_append (suc t) u gs hs (omega arith))
    ∙ sym (append_assoc (gate_clauses t g) (all_clauses (suc t) gs) (all_clauses u hs))

behind_is : (k t : ℕ) (gs : List Gate) → behind k gs ≡ k + length (all_clauses t gs)
unfolding all_clauses
behind_is k t [] = omega arith
behind_is k t (g ∷ gs) = behind_is (k + clause_count g.op) (suc t) gs ∙ rw (length-append, length_gate t g) (omega arith)

behind_zs : (k i m : ℕ) (xs ys : List ℕ) → behind k (zs i m xs ys) ≡ k + 4 * length (zs i m xs ys)
unfolding zs
behind_zs k i m [] ys = omega arith
behind_zs k i m (x ∷ xs) [] = omega arith
behind_zs k i m (x ∷ xs) (y ∷ ys) = behind_zs (k + 4) i m xs ys ∙ omega arith

behind_ws : (k n t w z : ℕ) → behind k (ws n t w z) ≡ k + 3 * n
unfolding ws
behind_ws k zero t w z = omega arith
behind_ws k (suc n) t w z = behind_ws (k + 3) n (suc t) t (suc z) ∙ omega arith

count_few : (o : Op) → clause_count o ≤ 4
count_few and = omega arith
count_few xor = omega arith
count_few or = omega arith

all_few : (t : ℕ) (gs : List Gate) → length (all_clauses t gs) ≤ 4 * length gs
unfolding all_clauses
all_few t [] = omega arith
all_few t (g ∷ gs) = rw (length-append, length_gate t g) (omega (arith, count_few g.op, all_few (suc t) gs))

-- ---- the miter

pub few_variables : (a b : Netlist) → Pair a b
    → miter_vars a b ≤ 1 + a.inputs + length a.gates + length b.gates + 2 * length a.outs
unfolding miter_vars
few_variables a b ab = omega (arith, length_miter a b ab)

pub few_clauses : (a b : Netlist) → Pair a b
    → length (miter a b) ≤ 2 + 4 * (length a.gates + length b.gates) + 8 * length a.outs
unfolding miter
few_clauses a b ab =
    rw length-append (omega (arith, all_few (first_gate a) (miter_gates a b), length_miter a b ab))

module _ (a b : Netlist) (ab : Pair a b) where
  abbrev A : List Clause
  A = all_clauses (first_gate a) (gates_of a b)

  abbrev B : List Clause
  B = all_clauses (first_z a b) (z_gates a b)

  abbrev C : List Clause
  C = all_clauses (first_w a b) (w_gates a b)

  miter_is : miter a b ≡ first_clause ∷ (((A ++ B) ++ C) ++ (last_clause a b ∷ []))
  unfolding miter miter_gates
  miter_is =
      rw (
        all_append (first_gate a) (first_w a b) (gates_of a b ++ z_gates a b) (w_gates a b) (w_at a b ab),
        all_append (first_gate a) (first_z a b) (gates_of a b) (z_gates a b) (z_at a b ab),
      )

  length_a : first_z_clause a b ≡ first_gate_clause + length A
  unfolding first_z_clause
  length_a = behind_is first_gate_clause (first_gate a) (gates_of a b)

  length_b : length B ≡ 4 * length a.outs
  length_b =
      omega (
        arith,
        behind_is 0 (first_z a b) (z_gates a b),
        behind_zs 0 a.inputs (length a.gates) a.outs b.outs,
        length_z a b ab,
      )

  length_c : length C ≡ 3 * (length a.outs - 1)
  length_c =
      omega (
        arith,
        behind_is 0 (first_w a b) (w_gates a b),
        behind_ws 0 (length a.outs - 1) (first_w a b) (first_z a b) (suc (first_z a b)),
      )

  length_all : last_number a b ≡ first_gate_clause + length ((A ++ B) ++ C)
  length_all = omega (arith, length-append (A ++ B) C, length-append A B, length_a, length_b, length_c)

  -- the last clause's number is how many there are
  pub miter_count : length (miter a b) ≡ last_number a b
  miter_count =
      ap length miter_is ∙ ap suc (length-append ((A ++ B) ++ C) (last_clause a b ∷ [])) ∙ omega (arith, length_all)

  pub miter_at : (K : List Clause) → Extends (miter a b) K → MiterAt a b ab K
  unfolding join insert
  miter_at K x =
      let whole : Block (miter a b) 1 (first_clause ∷ (((A ++ B) ++ C) ++ (last_clause a b ∷ []))) =
      record { before = []; after = []; eq = miter_is ∙ sym (append-nil _); here = refl } in
      let all = block_ext _ x whole in
      let from-two = block_tail 1 first_clause (((A ++ B) ++ C) ++ (last_clause a b ∷ [])) all in
      let to-w = block_front ((A ++ B) ++ C) (last_clause a b ∷ []) from-two in
      let to-z = block_front (A ++ B) C to-w in
      let last_one = block_back first_gate_clause (last_number a b) ((A ++ B) ++ C) (last_clause a b ∷ []) from-two length_all in
      record {
        first = block_head (negative 0 ∷ []) _ all;
        gates = block_front A B to-z;
        z = block_back first_gate_clause (first_z_clause a b) A B to-z length_a;
        w = block_back first_gate_clause (first_w_clause a b) (A ++ B) C to-w (rw (length-append A B, length_a, length_b) (omega arith));
        final = rw (last_variable a b ab) (block_head (positive (miter_vars a b - 1) ∷ []) [] last_one);
      }
