-- The outputs one after the other: ¬z by its representative, and the chain of the w gone through from the front, each link emitted over the
-- clause of the links before it.
use Prim.Native.Nat.{ℕ, suc, ◌+◌, ◌*◌, ◌-◌, ◌≤◌, ◌<◌}
use mathlib.Core.Path.{◌≡◌, refl, subst}
use mathlib.Core.List.{List, [], ◌∷◌, append_assoc}
use native.Mathlib.Numerals.{add-one}
use native.Mathlib.Omega.{arith}
use lib.ListN.{length, drop, get_or}
use lib.Seq.{drop-cons, drop-length}
use borrow.Author.Tests.{ne_eqb}
use Rattle.model.specs.Nets.{Gate, Netlist, net_of, size as net_count}
use Rattle.model.specs.Nets.Op.{xor}
use Rattle.model.specs.Clauses.{positive, neg}
use Rattle.model.specs.Miter.{z_gates, first_gate, first_z}
use Rattle.laws.specs.ListText.{below_at}
use Rattle.laws.specs.MiterOrder.{last, shift_below, below_right}
use Rattle.laws.specs.Pairs as pairs
use Rattle.listing.specs.Gates.{no_gate}
use Rattle.miter.specs.declared.clauses.ClauseNumbers.{ClauseNumbers}
use Rattle.miter.specs.Miters.{Numbered}
use Rattle.miter.proofs.MiterLaws.{z_of_lem}
use Rattle.emit_laws.specs.Trees.{Tree, size, lay}
use Rattle.emit_laws.specs.Trees.Tree.{old, cut}
use Rattle.emit_laws.specs.Subst.{subst2}
use Rattle.emit_laws.specs.Outputs.{out_tree, chain, outs_tree}
use Rattle.emit_laws.specs.Gates.{link_of}
use Rattle.emit_laws.specs.Emit.{last_tree}
use Rattle.emit_laws.specs.Stepwise.{Then}
use Rattle.emit_laws.proofs.Stepwise.{then_old}
use Rattle.derivation.specs.declared.lines.Proof.{Proof}
use Rattle.derivation.specs.Emission.{Emits}
use Rattle.derivation.proofs.EmitLaws.{emits_then, emits_cut_left}

-- ---- ¬z, by the representative of the operands

abbrev z_of : ℕ → ℕ → Gate
z_of x y = record { op = xor; x = x; y = y }

module _ (R E : ℕ → ℕ) (k x y : ℕ) where
  -- false: the first clause
  pub out_false : R x ≡ 0 → subst2 R E (old k) x y ≡ out_tree R E k (z_of x y)
  unfolding out_tree
  out_false e = rw e

  -- true: the last
  pub out_true : {m n : ℕ} → R x ≡ 1 → m ≡ neg x → n ≡ neg y → subst2 R E (old (k + 3)) m n ≡ out_tree R E k (z_of x y)
  unfolding out_tree
  out_true {m} {n} e f g =
      let three : k + 3 ≡ suc (suc (suc k)) = omega arith in
      rw (e, f, g, three)

  -- any other: both
  pub out_both : {m n : ℕ} → (R x ≡ 0 → ⊥) → (R x ≡ 1 → ⊥) → m ≡ neg x → n ≡ neg y
      → cut (subst2 R E (old k) x y) (subst2 R E (old (k + 3)) m n) (R x) ≡ out_tree R E k (z_of x y)
  unfolding out_tree
  out_both {m} {n} h i f g =
      let three : k + 3 ≡ suc (suc (suc k)) = omega arith in
      rw (ne_eqb (R x) 0 h, ne_eqb (R x) 1 i, f, g, three)

-- of a gate only the operands matter
out_same : (R E : ℕ → ℕ) (k x y : ℕ) (g : Gate) → x ≡ g.x → y ≡ g.y → out_tree R E k (z_of x y) ≡ out_tree R E k g
unfolding out_tree
out_same R E k x y g e f = rw (e, f)

-- ---- the chain

-- the tree of all, by the first
outs_first : (R E : ℕ → ℕ) (t kw z kz c : ℕ) (gs : List Gate) → 0 < length gs
    → cut (old c) (chain R E (out_tree R E kz (get_or gs 0 no_gate)) z t kw (suc z) (kz + 4) (drop 1 gs)) (positive (last (length (drop 1 gs)) t z))
    ≡ outs_tree R E t kw z kz c gs
unfolding outs_tree
outs_first R E t kw z kz c [] h = absurd (omega arith)
outs_first R E t kw z kz c (g ∷ gs) h = refl

-- a derivation that goes on from another's clause goes on so inside a cut
then_first : {n : ℕ} {t d u : Tree} (e : Tree) (l : ℕ) → Then n t d u → Then n (cut t e l) d (cut u e l)
unfolding lay
then_first {n} {t} {d} {u} e l h =
    let m : n + size t ≡ n + size d + size u = omega (arith, h.count) in
    record { lines = rw (m, h.lines, h.number, append_assoc); number = omega (arith, h.count); count = omega (arith, h.count) }

then_second : {n : ℕ} {t d u : Tree} (k l : ℕ) → Then n t d u → Then n (cut (old k) t l) d (cut (old k) u l)
unfolding lay
then_second {n} {t} {d} {u} k l h =
    let z : n + 0 ≡ n = omega arith in
    let m : n + size d + 0 ≡ n + size d = omega arith in
    record { lines = rw (z, m, h.lines, h.number, append_assoc); number = omega (arith, h.count); count = omega (arith, h.count) }

-- the outputs gs: their z from variable z and clause kz on, the w from variable t and clause kw on; the last clause is c
module _ (R E : ℕ → ℕ) (gs : List Gate) (t kw z kz c : ℕ) where
  -- the outputs before i were emitted, down to clause n, ¬w: with what is left they make up the whole
  pub record UpTo (s : Proof) (whole : Tree) (i : ℕ) (r : Proof) (n w : ℕ) : Type 0 where
    pub run : Tree
    pub emits : Emits s r n run
    pub left :
        cut (old c)
        (chain R E run w (t + (i - 1)) (kw + 3 * (i - 1)) (z + i) (kz + 4 * i) (drop i gs))
        (positive (last (length (drop i gs)) (t + (i - 1)) w))
        ≡ whole

  -- the first
  pub up_to_first : {s r : Proof} {n : ℕ} (x y : ℕ) → 0 < length gs → x ≡ (get_or gs 0 no_gate).x → y ≡ (get_or gs 0 no_gate).y
      → Emits s r n (out_tree R E kz (z_of x y)) → UpTo s (outs_tree R E t kw z kz c gs) 1 r n z
  up_to_first x y h ex ey f =
      let first_t : t + (1 - 1) ≡ t = omega arith in
      let first-kw : kw + 3 * (1 - 1) ≡ kw = omega arith in
      record {
        run = out_tree R E kz (get_or gs 0 no_gate);
        emits = rw (out_same R E kz x y (get_or gs 0 no_gate) ex ey) at f;
        left = rw (first_t, first-kw, add-one z) (outs_first R E t kw z kz c gs h);
      }

  -- one more
  pub up_to_next : {s r u : Proof} {whole : Tree} {i n m w : ℕ} (x y : ℕ) → 1 ≤ i → i < length gs
      → x ≡ (get_or gs i no_gate).x → y ≡ (get_or gs i no_gate).y → UpTo s whole i r n w
      → Emits r u m (cut (cut (old (kw + 3 * (i - 1) + 2)) (old n) (positive w)) (out_tree R E (kz + 4 * i) (z_of x y)) (positive (z + i)))
      → UpTo s whole (i + 1) u m (t + (i - 1))
  unfolding chain
  up_to_next {s} {i = i} {n} {w = w} x y a b ex ey h f =
      let k : ℕ = kw + 3 * (i - 1) in
      let g : Gate = get_or gs i no_gate in
      let over : Then s.clauses h.run h.run (old n) = rw h.emits.number (then_old s.clauses h.run) in
      let two : k + 2 ≡ suc (suc k) = omega arith in
      let next-t : t + (i + 1 - 1) ≡ suc (t + (i - 1)) = omega arith in
      let next-kw : kw + 3 * (i + 1 - 1) ≡ k + 3 = omega arith in
      let next-z : z + (i + 1) ≡ suc (z + i) = omega arith in
      let next-kz : kz + 4 * (i + 1) ≡ kz + 4 * i + 4 = omega arith in
      record {
        run = cut (cut (old (suc (suc k))) h.run (positive w)) (out_tree R E (kz + 4 * i) g) (positive (z + i));
        emits =
            emits_then h.emits (rw (two, out_same R E (kz + 4 * i) x y g ex ey) at f) (then_first _ _ (then_second _ _ over));
        left = rw (next-t, next-kw, next-z, next-kz, add-one i) (rw (drop-cons gs i no_gate) at h.left);
      }

  -- and the empty clause
  pub up_to_all : {s r u : Proof} {whole : Tree} {i n m w : ℕ} → i ≡ length gs → UpTo s whole i r n w
      → Emits r u m (cut (old c) (old n) (positive w)) → Emits s u m whole
  unfolding chain
  up_to_all {s} {u = u} {m = m} e h f = subst (Emits s u m) (rw (e, drop-length gs) at h.left) (emits_cut_left h.emits f)

-- ---- two lists

module _ {a b : Netlist} (ab : pairs.Pair a b) where
  -- a z reads nets of the lists
  pub z_below : (k : ℕ) → k < length a.outs
      → (net_of (get_or (z_gates a b) k no_gate).x < 1 + a.inputs + length a.gates + length b.gates)
      × (net_of (get_or (z_gates a b) k no_gate).y < 1 + a.inputs + length a.gates + length b.gates)
  z_below k h =
      let e = z_of_lem a b ab k no_gate h in
      let x = below_at (net_count a) a.outs k ab.left.below h in
      let y = shift_below a.inputs (length a.gates) (get_or b.outs k 0) (first_gate a + length b.gates)
      (below_at (first_gate a + length b.gates) b.outs k (below_right a b ab) (omega (arith, ab.outs))) in
      rw e (omega arith, omega arith)

-- the outputs' tree, by the numbers that code has at hand
pub last_tree_lem : {a b : Netlist} (R : ℕ → ℕ) (links : List (List ℕ)) (z t : ℕ) (k : ClauseNumbers) → Numbered k a b → z ≡ 1 + a.inputs + length a.gates + length b.gates
    → t ≡ 1 + a.inputs + length a.gates + length b.gates + length a.outs
    → outs_tree R (link_of links) t k.first_w z k.first_z k.last (z_gates a b) ≡ last_tree R links a b
unfolding last_tree first_z
last_tree_lem R links z t k n e f = rw (n.first_z, n.first_w, n.last, e, f)
