-- The gates one after the other: their lines are fine, at most 16 a gate, and what is kept of each net (`Held`) goes one net further.
-- What holds of clauses goes on holding, since clauses are only added; so each gate has its own net to see to.
use Prim.Native.Nat.{ℕ, suc, ◌+◌, ◌%◌, ◌≤◌, ◌<◌}
use Rattle.std.specs.Prelude.{◌≡◌, refl, Bool, true, false, cond, get_or}
use Rattle.std.proofs.Common.{sym, ◌∙◌, true≢false, length-append, eqb-true, ne_eqb}
use Rattle.std.proofs.Math.Path.{ap, subst}
use mathlib.Core.List.{List, [], ◌∷◌, ◌++◌}
use native.Mathlib.Omega.{arith}
use Rattle.std.proofs.Math.ListN.{length, get_or-append}
use Rattle.std.proofs.lemmas.List.{get_or_at}
use Rattle.std.proofs.lemmas.Bool.{eqb-false}
use Rattle.model.specs.Limits.{lines_per_gate}
use Rattle.model.specs.Nets.{Op, Gate, net_of, odd, xorb, reads_below}
use Rattle.model.specs.Nets.Op.{and, xor}
use Rattle.model.specs.Clauses.{Clause, neg, op_clauses, all_clauses}
use Rattle.laws.specs.Bools.{below_or_at}
use Rattle.laws.specs.Growing.{Extends}
use Rattle.laws.specs.Literals.{literals_below}
use Rattle.laws.specs.Pairs.{Ordered, is_xor, Plain}
use Rattle.fold_laws.specs.Signs.{signed}
use Rattle.fold_laws.proofs.Signs.{same_net}
use Rattle.fold_laws.specs.Cases.{and_case, xor_case}
use Rattle.fold_laws.specs.Table.{Entry, at, rep_of, kind_of}
use Rattle.fold_laws.proofs.Entries.{kind_inj}
use Rattle.fold_laws.specs.Facts.{Laws, GateFact, GateFacts}
use Rattle.emit_laws.specs.Replay.{Has, Resolution, after, Fine}
use Rattle.emit_laws.proofs.Replay.{has_ext, fine_append, after_append, length_after, extends_after}
use Rattle.emit_laws.specs.Trees.{Tree, Claim, Met, All₂, sizes, nums, lays}
use Rattle.emit_laws.proofs.Trees.{derives_ext, length_lays, all_met_ext, each}
use Rattle.emit_laws.specs.Trees.All₂.{end, more}
use Rattle.emit_laws.specs.Subst.{unless_false, own, link_claim}
use Rattle.emit_laws.proofs.Subst.{owned}
use Rattle.emit_laws.specs.Place.{clause_count, Block}
use Rattle.emit_laws.proofs.Place.{and_at, xor_at, first_gate_lem}
use Rattle.emit_laws.specs.CaseTrees.{claims, Settled}
use Rattle.emit_laws.proofs.CaseTrees.{and_size, xor_size}
use Rattle.emit_laws.specs.CaseTrees.Settled.{linked, kept}
use Rattle.emit_laws.specs.Gates.{Literals, literals, ClauseNumbers, Base, normal, trees, Over, link_of, Held}
use Rattle.emit_laws.proofs.Gates.{over_normal, gate_ok}
use Rattle.emit_laws.specs.Loop.{slots, literals_of, from, gate_trees, sign, Done, loop, Placed, Ran}

-- over the net of n there are n and ¬n
pub over_net : (n l : ℕ) (P : ℕ → Type 0) → net_of l ≡ net_of n → P n → P (neg n) → P l
over_net n l P h p q = subst P (sym (same_net l n h)) (go (xorb (odd l) (odd n)))
  where
    go : (b : Bool) → P (signed b n)
    go true = q
    go false = p

-- ---- the numbers kept of a net

-- clauses over a key are three or four, and stay
slots_kept : {K : List Clause} (s o : Bool) (n a b : ℕ) (ns : List ℕ) → All₂ (Met K) ns (claims o n a b)
    → All₂ (Met K) (slots s ns) (claims o n a b)
slots_kept false o n a b ns h = h
slots_kept true false n a b ns (more p (more q (more r end))) = more p (more q (more r end))
slots_kept true true n a b ns (more p (more q (more r (more s end)))) = more p (more q (more r (more s end)))

-- each literal over the net of n finds its link
slots_links : {K : List Clause} (n : ℕ) (ns : List ℕ) (C : ℕ → Claim) → All₂ (Met K) ns (C n ∷ C (neg n) ∷ [])
    → (l : ℕ) → net_of l ≡ net_of n → Met K (get_or (slots (odd n) ns) (l % 2) 0) (C l)
slots_links {K} n ns C (more {a = i} p (more {a = j} q end)) l h =
    over_net n l (λ (m : ℕ). Met K (get_or (slots (odd n) (i ∷ j ∷ [])) (m % 2) 0) (C m)) h (go (odd n) refl).0 (go (odd n) refl).1
  where
    go : (b : Bool) → odd n ≡ b
        → Met K (get_or (slots b (i ∷ j ∷ [])) (n % 2) 0) (C n) × Met K (get_or (slots b (i ∷ j ∷ [])) (neg n % 2) 0) (C (neg n))
    go true e =
        let z : n % 2 ≡ 1 = eqb-true (n % 2) 1 e in
        let w : neg n % 2 ≡ 0 = omega arith in
        (rw z p, rw w q)
    go false e =
        let d : n % 2 ≡ 1 → ⊥ = eqb-false (n % 2) 1 e in
        let z : n % 2 ≡ 0 = omega arith in
        let w : neg n % 2 ≡ 1 = omega arith in
        (rw z p, rw w q)

-- ---- one net more

module _ (T : List Entry) (N first : ℕ) (laws : Laws T N) where
  abbrev R : ℕ → ℕ
  R = rep_of T

  -- what is kept goes on holding; of the new net f gives the links, and g the clauses over its key
  held_more : (K L : List Clause) (links : List (List ℕ)) (v : ℕ) (ns : List ℕ) → Held T first K links v → Extends K L
      → ((l : ℕ) → net_of l ≡ v → own R l ≡ false → (R l ≡ 1 → ⊥) → Has L (get_or ns (l % 2) 0) (neg l ∷ unless_false (R l)))
      → ((l : ℕ) (o : Bool) → net_of l ≡ v → R l ≡ l → (at T v).kind ≡ kind_of o → (at T v).core ≡ l
      → All₂ (Met L) ns (claims o l (at T v).ka (at T v).kb))
      → Held T first L (links ++ (ns ∷ [])) (suc v)
  held_more K L links v ns held x f g =
      record {
        long = rw length-append (omega (arith, held.long));
        link = λ l h o r.
            below_or_at (net_of l) v h (λ q. rw (before l q) (has_ext x (held.link l q o r))) (λ q. rw (here l q) (f l q o r));
        kept = λ l o a h r d c.
            below_or_at (net_of l) v h (λ q. rw (before l q) (all_met_ext x (held.kept l o a q r d c)))
            (λ q. rw (here l q, q) (g l o q r (rw q at d) (rw q at c)));
      }
    where
      before : (l : ℕ) → net_of l < v → get_or (links ++ (ns ∷ [])) (net_of l) [] ≡ get_or links (net_of l) []
      before l h = get_or-append links (ns ∷ []) [] (net_of l) (omega (arith, held.long))

      here : (l : ℕ) → net_of l ≡ v → get_or (links ++ (ns ∷ [])) (net_of l) [] ≡ ns
      here l h = get_or_at links ns [] [] (net_of l) (held.long ∙ sym h)

  -- a link is there unless it is of a literal that stands for true
  claim_has : (L : List Clause) (c l : ℕ) → Met L c (link_claim R l) → (R l ≡ 1 → ⊥) → Has L c (neg l ∷ unless_false (R l))
  unfolding link_claim
  claim_has L c l h r = rw (ne_eqb (R l) 1 r) at h

  -- the lines of the trees ts, made for the literal n over net v, and what is kept of v
  record GateRan (K : List Clause) (links : List (List ℕ)) (v n : ℕ) (ts : List Tree) : Type 0 where
    fine : Fine K (lays (length K) ts)
    held : Held T first (after K (lays (length K) ts)) (links ++ (slots (odd n) (nums (length K) ts) ∷ [])) (suc v)

  -- linked: no literal over v stands for itself; kept: each does, and one of them is the core
  gate_ran : (K : List Clause) (links : List (List ℕ)) (v n a b : ℕ) (o : Bool) (ts : List Tree) → Held T first K links v → 0 < v
      → net_of n ≡ v → Settled T first K o n a b ts → GateRan K links v n ts
  gate_ran K links v n a b o ts held pos e (linked h g) =
      let d = each K ts _ g in
      let L : List Clause = after K (lays (length K) ts) in
      let ns : List ℕ = nums (length K) ts in
      record {
        fine = d.fine;
        held =
            held_more K L links v (slots (odd n) ns) held (extends_after K (lays (length K) ts))
            (λ l q f r. claim_has L (get_or (slots (odd n) ns) (l % 2) 0) l (slots_links n ns (link_claim R) d.met l (q ∙ sym e)) r)
            (λ l o q f d c.
            absurd (over_net n l (λ (m : ℕ). R m ≡ m → ⊥) (q ∙ sym e) (λ z. omega arith) (λ z. omega (arith, laws.flip n)) f));
      }
  gate_ran K links v n a b o ts held pos e (kept r p g) =
      let d = each K ts _ g in
      let L : List Clause = after K (lays (length K) ts) in
      let ns : List ℕ = nums (length K) ts in
      let u : net_of (R n) ≡ v = ap (λ (m : ℕ). net_of m) r ∙ e in
      let po : (at T v).kind ≡ kind_of o = rw u at p.kind in
      let pa : (at T v).ka ≡ a = rw u at p.ka in
      let pb : (at T v).kb ≡ b = rw u at p.kb in
      let pc : (at T v).core ≡ R n = rw u at p.core in
      let yes : own R n ≡ true = owned R n r (omega arith) in
      let no : own R (neg n) ≡ true = owned R (neg n) (laws.flip n ∙ ap neg r) (omega arith) in
      record {
        fine = d.fine;
        held =
            held_more K L links v (slots (odd n) ns) held (extends_after K (lays (length K) ts))
            (λ l q f r'.
            absurd (over_net n l (λ (m : ℕ). own R m ≡ false → ⊥) (q ∙ sym e)
            (λ z. true≢false (sym yes ∙ z)) (λ z. true≢false (sym no ∙ z)) f))
            (λ l o' q f d' c.
            let i : l ≡ n = sym c ∙ pc ∙ r in
            rw (kind_inj o' o (sym d' ∙ po), pa, pb, i) (slots_kept (odd n) o n a b ns d.met));
      }

-- ---- all gates

base_at : {K : List Clause} (k v : ℕ) (o : Bool) (x y : ℕ) → Block K k (op_clauses (cond o xor and) v x y)
    → Base K o (literals v x y) (from k)
base_at k v false x y p = and_at k v x y p
base_at k v true x y p = xor_at k v x y p

-- so it is in the miter
pub placed : {K : List Clause} (k v : ℕ) (gs : List Gate) → Plain gs → Block K k (all_clauses v gs) → Placed K k v gs
placed {K} k v [] s p = tt
placed {K} k v (g ∷ gs) s p =
    let h = first_gate_lem k v g gs p in (
      base_at k v (is_xor g.op) g.x g.y (subst (λ (o : Op). Block K k (op_clauses o v g.x g.y)) s.0 h.0),
      placed (k + clause_count g.op) (suc v) gs s.1 h.1,
    )

base_ext : {K L : List Clause} (o : Bool) (l : Literals) (k : ClauseNumbers) → Extends K L → Base K o l k → Base L o l k
base_ext false l k x b = record { one = derives_ext x b.one; two = derives_ext x b.two; three = derives_ext x b.three }
base_ext true l k x b =
    record { zz = derives_ext x b.zz; zo = derives_ext x b.zo; oz = derives_ext x b.oz; oo = derives_ext x b.oo }

placed_ext : {K L : List Clause} (k v : ℕ) (gs : List Gate) → Extends K L → Placed K k v gs → Placed L k v gs
placed_ext k v [] x p = tt
placed_ext k v (g ∷ gs) x p =
    (base_ext (is_xor g.op) (literals_of v g) (from k) x p.0, placed_ext (k + clause_count g.op) (suc v) gs x p.1)

-- at most 16 lines
trees_size : (R E : ℕ → ℕ) (o : Bool) (l : Literals) (k : ClauseNumbers) (D : List ℕ) → sizes (trees R E o l k D) ≤ lines_per_gate
unfolding trees
trees_size R E false l k D = and_size R E l.n l.x l.y D (and_case (R l.x) (R l.y)) k.a k.b k.c
trees_size R E true l k D = xor_size R E l.n l.x l.y D (xor_case (R l.x) (R l.y)) k.a k.b k.c k.d

over_gate : (v : ℕ) (g : Gate) → reads_below v g ≡ true → Over v (literals_of v g)
over_gate v g h =
    let b = literals_below v g h in
    record { n = omega arith; x = b.0; y = b.1 }

module _ (T : List Entry) (N first : ℕ) (laws : Laws T N) where
  one_gate : (K : List Clause) (links : List (List ℕ)) (k v : ℕ) (g : Gate) → Held T first K links v
      → Base K (is_xor g.op) (literals_of v g) (from k) → GateFact T first v (is_xor g.op) g.x g.y
      → reads_below v g ≡ true → 0 < v → v < N
      → GateRan T N first laws K links v (normal (rep_of T) (is_xor g.op) (literals_of v g)).n (gate_trees (rep_of T) links k v g)
  unfolding gate_trees
  one_gate K links k v g held b f u pos vn =
      let o : Over v (normal (rep_of T) (is_xor g.op) (literals_of v g)) =
      over_normal (rep_of T) v (is_xor g.op) (literals_of v g) (over_gate v g u) in
      gate_ran T N first laws K links v _ _ _ (is_xor g.op) _ held pos o.n
      (gate_ok T N first laws K links v held pos vn (is_xor g.op) g.x g.y (from k) b (over_gate v g u) f)

  gate_size : (links : List (List ℕ)) (k v : ℕ) (g : Gate) → sizes (gate_trees (rep_of T) links k v g) ≤ lines_per_gate
  unfolding gate_trees
  gate_size links k v g = trees_size (rep_of T) (link_of links) (is_xor g.op) _ _ _

  ran_more : (K : List Clause) (ts : List Tree) (r : Done) (v n : ℕ) → Fine K (lays (length K) ts) → sizes ts ≤ lines_per_gate
      → Ran T N first laws (after K (lays (length K) ts)) r v n
      → Ran T N first laws K (record { lines = lays (length K) ts ++ r.lines; links = r.links }) v (suc n)
  ran_more K ts r v n f s h =
      let ls : List Resolution = lays (length K) ts in
      record {
        fine = fine_append K ls r.lines f h.fine;
        held = rw (after_append K ls r.lines) h.held;
        few = rw length-append (omega (arith, h.few, length_lays (length K) ts));
      }

  pub loop_ok : (gs : List Gate) (K : List Clause) (links : List (List ℕ)) (k v : ℕ) → Held T first K links v → Placed K k v gs
      → GateFacts T first v gs → Ordered v gs → 0 < v → v + length gs ≤ N
      → Ran T N first laws K (loop (rep_of T) links (length K) k v gs) (v + length gs) (length gs)
  unfolding loop after
  loop_ok [] K links k v held p f o pos vn =
      record { fine = tt; held = subst (Held T first K links) (omega arith) held; few = omega arith }
  loop_ok (g ∷ gs) K links k v held p f o pos vn =
      let ts : List Tree = gate_trees (rep_of T) links k v g in
      let h = one_gate K links k v g held p.0 f.0 o.0 pos (omega arith) in
      let ls : List Resolution = lays (length K) ts in
      let L : List Clause = after K ls in
      let e : length L ≡ length K + sizes ts = length_after K ls ∙ ap (λ (i : ℕ). length K + i) (length_lays (length K) ts) in
      let more : List (List ℕ) = links ++ (slots (sign (rep_of T) v g) (nums (length K) ts) ∷ []) in
      let next : ℕ = k + clause_count g.op in
      let r =
      loop_ok gs L more next (suc v) h.held (placed_ext _ _ gs (extends_after K ls) p.1) f.1 o.1
      (omega arith) (omega arith) in
      let w : suc v + length gs ≡ v + suc (length gs) = omega arith in
      ran_more K ts _ _ _ h.fine (gate_size links k v g)
      (subst (λ (j : ℕ). Ran T N first laws L (loop (rep_of T) more (length K + sizes ts) next (suc v) gs) j (length gs)) w
      (subst (λ (j : ℕ). Ran T N first laws L (loop (rep_of T) more j next (suc v) gs) (suc v + length gs) (length gs)) e r))
