-- One gate: its clauses hold of its literals in normal form, and its trees then give what is to be kept of its net. Of the nets before it
-- nothing is asked but what is kept of them (`Held`).
use Rattle.std.specs.Prelude.{ℕ, ◌≤◌, ◌<◌, ◌≡◌, ◌&&◌, cond, List, [], ◌∷◌, get_or}
use Rattle.std.proofs.Math.Path.{refl}
use Rattle.std.proofs.Common.{◌∙◌, arith, leb-true, leb-false}
use Rattle.std.proofs.Math.Bool.{Bool, true, false}
use Rattle.model.specs.Nets.{net_of, odd, xorb}
use Rattle.model.specs.Clauses.{Clause, neg}
use Rattle.fold_laws.proofs.Signs.{signed_net, signed_back}
use Rattle.fold_laws.specs.Cases.{and_case, xor_case, made}
use Rattle.fold_laws.proofs.Cases.{and_is, xor_is}
use Rattle.fold_laws.specs.Table.{Entry, rep_of, ordered, part}
use Rattle.fold_laws.proofs.Entries.{rep_signed, plain_part}
use Rattle.fold_laws.specs.Facts.{Laws, Keyed, Stands, GateFact}
use Rattle.emit_laws.specs.Sets.{Same}
use Rattle.emit_laws.proofs.Sets.{flat, sets}
use Rattle.emit_laws.specs.Trees.{Met, All₂}
use Rattle.emit_laws.proofs.Trees.{derives_same}
use Rattle.emit_laws.specs.Subst.{Ready}
use Rattle.emit_laws.specs.CaseTrees.{claims, Settled}
use Rattle.emit_laws.proofs.CaseTrees.{and_ok, xor_ok}
use Rattle.emit_laws.specs.Gates.{Literals, literals, ClauseNumbers, Base, order, order_numbers, turn, turn_numbers, unsigned, in_order, normal, normal_numbers, trees, Over, link_of, Held}

-- ---- a gate's literals and the numbers of its clauses

swap_front : (x y w : ℕ) → Same (x ∷ y ∷ w ∷ []) (y ∷ x ∷ w ∷ [])
swap_front x y w k = simp flat (simp sets)

swap_back : (x y w : ℕ) → Same (w ∷ x ∷ y ∷ []) (w ∷ y ∷ x ∷ [])
swap_back x y w k = simp flat (simp sets)

module _ (K : List Clause) (l : Literals) (k : ClauseNumbers) where
  base_order : (o b : Bool) → Base K o l k → Base K o (order b l) (order_numbers o b k)
  base_order false true h = h
  base_order false false h =
      record { one = h.two; two = h.one; three = derives_same h.three (swap_back (neg l.x) (neg l.y) l.n) }
  base_order true true h = h
  base_order true false h =
      record {
        zz = derives_same h.zz (swap_front l.x l.y (neg l.n));
        zo = derives_same h.oz (swap_front (neg l.x) l.y l.n);
        oz = derives_same h.zo (swap_front l.x (neg l.y) l.n);
        oo = derives_same h.oo (swap_front (neg l.x) (neg l.y) (neg l.n));
      }

  base_turn : (a b : Bool) → Base K true l k → Base K true (turn a b l) (turn_numbers a b k)
  base_turn false false h = h
  base_turn true false h =
      record {
        zz = rw (signed_back true l.n) h.oz;
        zo = h.oo;
        oz = rw (signed_back true l.x) h.zz;
        oo = rw (signed_back true l.x, signed_back true l.n) h.zo;
      }
  base_turn false true h =
      record {
        zz = rw (signed_back true l.n) h.zo;
        zo = rw (signed_back true l.y) h.zz;
        oz = h.oo;
        oo = rw (signed_back true l.y, signed_back true l.n) h.oz;
      }
  base_turn true true h =
      record {
        zz = h.oo;
        zo = rw (signed_back true l.y) h.oz;
        oz = rw (signed_back true l.x) h.zo;
        oo = rw (signed_back true l.x, signed_back true l.y) h.zz;
      }

-- ---- normal form

module _ (R : ℕ → ℕ) where
  base_normal : (K : List Clause) (o : Bool) (l : Literals) (k : ClauseNumbers) → Base K o l k
      → Base K o (normal R o l) (normal_numbers R o l k)
  unfolding normal normal_numbers
  base_normal K false l k h = base_order K l k false (in_order R l) h
  base_normal K true l k h =
      let a : Bool = odd (R l.x) in
      let b : Bool = odd (R l.y) in
      base_order K (unsigned R true l) (turn_numbers a b k) true (in_order R (unsigned R true l)) (base_turn K l k a b h)

over_order : (v : ℕ) (l : Literals) (b : Bool) → Over v l → Over v (order b l)
over_order v l true o = o
over_order v l false o = record { n = o.n; x = o.y; y = o.x }

over_turn : (v : ℕ) (l : Literals) (a b : Bool) → Over v l → Over v (turn a b l)
over_turn v l a b o =
    record {
      n = signed_net (xorb a b) l.n ∙ o.n;
      x = rw (signed_net a l.x) o.x;
      y = rw (signed_net b l.y) o.y;
    }

pub over_normal : (R : ℕ → ℕ) (v : ℕ) (o : Bool) (l : Literals) → Over v l → Over v (normal R o l)
unfolding normal
over_normal R v o l h =
    over_order v (unsigned R o l) (in_order R (unsigned R o l)) (over_turn v l (o && odd (R l.x)) (o && odd (R l.y)) h)

-- ---- the representatives of literals in normal form

module _ (T : List Entry) where
  abbrev R : ℕ → ℕ
  R = rep_of T

  record Normal (o : Bool) (l : Literals) : Type 0 where
    rising : R l.x ≤ R l.y
    x_plain : o && odd (R l.x) ≡ false
    y_plain : o && odd (R l.y) ≡ false

  rep_x : (o : Bool) (l : Literals) → R (unsigned R o l).x ≡ part o (R l.x)
  rep_x o l = rep_signed T (o && odd (R l.x)) l.x

  rep_y : (o : Bool) (l : Literals) → R (unsigned R o l).y ≡ part o (R l.y)
  rep_y o l = rep_signed T (o && odd (R l.y)) l.y

  is_normal : (o : Bool) (l : Literals) → Normal o (normal R o l)
  unfolding normal
  is_normal o l = go (in_order R m) refl
    where
      m : Literals
      m = unsigned R o l

      px : o && odd (R m.x) ≡ false
      px = rw (rep_x o l) (plain_part o (R l.x))

      py : o && odd (R m.y) ≡ false
      py = rw (rep_y o l) (plain_part o (R l.y))

      go : (b : Bool) → in_order R m ≡ b → Normal o (order b m)
      go true e = record { rising = leb-true (R m.x) (R m.y) e; x_plain = px; y_plain = py }
      go false e = record { rising = omega (arith, leb-false (R m.x) (R m.y) e); x_plain = py; y_plain = px }

  -- what the table says of a gate, for its literals in normal form
  normal_stands : (first v : ℕ) (o : Bool) (x y : ℕ) → GateFact T first v o x y
      → Stands T first o (normal R o (literals v x y)).n
      (made o (R (normal R o (literals v x y)).x) (R (normal R o (literals v x y)).y))
  unfolding normal ordered
  normal_stands first v o x y f = go (in_order R m) (rw (← rep_x o l, ← rep_y o l) at f)
    where
      l : Literals
      l = literals v x y

      m : Literals
      m = unsigned R o l

      go : (b : Bool) → Stands T first o m.n (cond b (made o (R m.x) (R m.y)) (made o (R m.y) (R m.x)))
          → Stands T first o (order b m).n (made o (R (order b m).x) (R (order b m).y))
      go true h = h
      go false h = h

-- ---- what is kept of the nets below v

pub ready : (T : List Entry) (N first : ℕ) (K : List Clause) (links : List (List ℕ)) (v : ℕ) → Laws T N → Held T first K links v
    → v ≤ N → (l : ℕ) → net_of l < v → Ready (rep_of T) (link_of links) K l
ready T N first K links v laws held vn l h =
    record {
      link = held.link l h;
      idem = laws.idem l (omega arith);
      apart = λ o e. omega (arith, laws.fixed l (omega arith) (omega arith));
    }

-- ---- the gate v

module _ (T : List Entry) (N first : ℕ) (laws : Laws T N) (K : List Clause) (links : List (List ℕ)) (v : ℕ)
    (held : Held T first K links v) (pos : 0 < v) (vn : v < N) where
  abbrev E : ℕ → ℕ
  E = link_of links

  -- the numbers kept of the net that n stands for
  abbrev kept_of : ℕ → List ℕ
  kept_of n = get_or links (net_of (R T n)) []

  kept_met : (o : Bool) (n a b : ℕ) → net_of n ≡ v → net_of (R T n) < net_of n → Keyed T first o n a b
      → All₂ (Met K) (kept_of n) (claims o (R T n) a b)
  kept_met o n a b e h p =
      rw (p.ka, p.kb) at (held.kept (R T n) o p.from (omega arith) (laws.idem n (omega arith)) p.kind p.core)

  -- literals in normal form
  normal_ok : (o : Bool) (m : Literals) (k : ClauseNumbers) → Base K o m k → Over v m → Normal T o m
      → Stands T first o m.n (made o (R T m.x) (R T m.y))
      → Settled T first K o m.n (R T m.x) (R T m.y) (trees (R T) E o m k (kept_of m.n))
  unfolding trees
  normal_ok false m k b o i f =
      and_ok T N first laws E K m.n (omega arith) (omega arith)
      (λ l h. ready T N first K links v laws held (omega arith) l (omega arith))
      m.x m.y (omega arith) (omega arith) (kept_of m.n)
      (and_case (R T m.x) (R T m.y)) _ _ _ b (and_is (R T m.x) (R T m.y) i.rising) f
      (kept_met false m.n (R T m.x) (R T m.y) o.n)
  normal_ok true m k b o i f =
      xor_ok T N first laws E K m.n (omega arith) (omega arith)
      (λ l h. ready T N first K links v laws held (omega arith) l (omega arith))
      m.x m.y (omega arith) (omega arith) (kept_of m.n)
      (xor_case (R T m.x) (R T m.y)) _ _ _ _ b
      (xor_is (R T m.x) (R T m.y) i.rising i.x_plain i.y_plain) f
      (kept_met true m.n (R T m.x) (R T m.y) o.n)

  pub gate_ok : (o : Bool) (x y : ℕ) (k : ClauseNumbers) → Base K o (literals v x y) k → Over v (literals v x y)
      → GateFact T first v o x y
      → Settled T first K o (normal (R T) o (literals v x y)).n
      (R T (normal (R T) o (literals v x y)).x) (R T (normal (R T) o (literals v x y)).y)
      (trees (R T) E o (normal (R T) o (literals v x y)) (normal_numbers (R T) o (literals v x y) k)
      (kept_of (normal (R T) o (literals v x y)).n))
  gate_ok o x y k b w f =
      let l : Literals = literals v x y in
      normal_ok o (normal (R T) o l) (normal_numbers (R T) o l k) (base_normal (R T) K o l k b) (over_normal (R T) v o l w)
      (is_normal T o l) (normal_stands T first v o x y f)
