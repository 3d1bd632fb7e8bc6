-- Derivations emitted one after the other: a clause that is there, the resolvent of two, a derivation that goes on from
-- another's clause, and the trees of a gate.
use Prim.Native.Nat.{ℕ, suc, ◌+◌}
use mathlib.Core.Path.{◌≡◌, refl, sym, ap, ◌∙◌, subst}
use mathlib.Core.List.{List, [], ◌∷◌, ◌++◌, append_assoc, append-nil}
use native.Mathlib.Omega.{arith}
use lib.ListN.{length, length-append}
use Rattle.emit_laws.specs.Replay.{Resolution}
use Rattle.emit_laws.specs.Trees.{Tree, size, lay, nums, lays}
use Rattle.emit_laws.proofs.Trees.{length_lay}
use Rattle.emit_laws.specs.Trees.Tree.{old, cut}
use Rattle.emit_laws.specs.Stepwise.{Then}
use Rattle.derivation.specs.declared.lines.Proof.{Proof}
use Rattle.derivation.specs.declared.gates.DerivedGate.{DerivedGate}
use Rattle.derivation.specs.declared.gates.DerivedGate.TheVariants.{Linked}
use Rattle.derivation.specs.Emission.{Written, Adds, Emits, Numbers, EmitsAll}

-- ---- lines

-- none, and lines with others behind them
pub adds_none : (s : Proof) → Adds s s []
adds_none s = record { written = λ rs w n. rw (append-nil rs) w; lines = omega arith; clauses = omega arith }

pub adds_then : {s d r : Proof} {ls rs : List Resolution} → Adds s d ls → Adds d r rs → Adds s r (ls ++ rs)
adds_then {s} {d} {r} {ls} {rs} f g =
    record {
      written = λ xs w n.
          subst (Written r.bytes.now) (append_assoc xs ls rs) (g.written (xs ++ ls) (f.written xs w n) (length-append xs ls ∙ ap (λ (k : ℕ). k + length ls) n ∙ sym f.lines));
      lines = rw length-append (omega (arith, f.lines, g.lines));
      clauses = rw length-append (omega (arith, f.clauses, g.clauses));
    }

-- how many clauses there are behind a tree's lines
clauses_of : {s r : Proof} {c : ℕ} {t : Tree} → Emits s r c t → r.clauses ≡ s.clauses + size t
clauses_of {s} {t = t} f = f.adds.clauses ∙ ap (λ (k : ℕ). s.clauses + k) (length_lay s.clauses t)

-- ---- one tree

-- a clause that is there takes no line
pub emits_old : (s : Proof) (c : ℕ) → Emits s s c (old c)
unfolding lay
emits_old s c = record { adds = adds_none s; number = refl }

-- a derivation, then one that goes on from the number of its clause
pub emits_then : {s a r : Proof} {b c : ℕ} {d u t : Tree} → Emits s a b d → Emits a r c u → Then s.clauses t d u → Emits s r c t
emits_then f g h =
    let n = clauses_of f in
    record { adds = rw (n, ← h.lines) at (adds_then f.adds g.adds); number = g.number ∙ rw (n, h.number) }

-- two derivations, then the resolvent of their clauses
pub emits_cut : {s a b r : Proof} {i j c : ℕ} {d e : Tree} {l : ℕ} → Emits s a i d → Emits a b j e → Emits b r c (cut (old i) (old j) l) → Emits s r c (cut d e l)
unfolding lay
emits_cut {s} {a} {b} {r} {d = d} {e} {l} f g h =
    let n = clauses_of f in
    let m : b.clauses ≡ s.clauses + size d + size e = clauses_of g ∙ ap (λ (k : ℕ). k + size e) n in
    let z : b.clauses + 0 + 0 ≡ b.clauses = omega arith in
    record {
      adds = rw (n, f.number, g.number, n, append_assoc (lay s.clauses d)) at (adds_then (adds_then f.adds g.adds) h.adds);
      number = h.number ∙ ap suc (z ∙ m);
    }

-- the first of the two is there, or the second
pub emits_cut_left : {s b r : Proof} {j c : ℕ} {e : Tree} {k l : ℕ} → Emits s b j e → Emits b r c (cut (old k) (old j) l) → Emits s r c (cut (old k) e l)
emits_cut_left {s} {k = k} f h = emits_cut (emits_old s k) f h

pub emits_cut_right : {s a r : Proof} {i c : ℕ} {d : Tree} {k l : ℕ} → Emits s a i d → Emits a r c (cut (old i) (old k) l) → Emits s r c (cut d (old k) l)
emits_cut_right {a = a} {k = k} f h = emits_cut f (emits_old a k) h

-- ---- the trees of a gate

-- derivations one after the other, and the numbers of their clauses
pub record Run (s r : Proof) (ts : List Tree) (ns : List ℕ) : Type 0 where
  adds : Adds s r (lays s.clauses ts)
  numbers : nums s.clauses ts ≡ ns

pub none : (s : Proof) → Run s s [] []
unfolding lays
none s = record { adds = adds_none s; numbers = refl }

pub then : {s a r : Proof} {c : ℕ} {t : Tree} {ts : List Tree} {ns : List ℕ} → Emits s a c t → Run a r ts ns → Run s r (t ∷ ts) (c ∷ ns)
unfolding lays
then f g =
    let n = clauses_of f in
    record { adds = rw n at (adds_then f.adds g.adds); numbers = rw (f.number, ← g.numbers, n) }

-- what is kept of them
pub emits_all : {s r : Proof} {ts : List Tree} {ns : List ℕ} {g : DerivedGate} → Run s r ts ns → Numbers g ns → EmitsAll s r g ts
emits_all {g = g} f h = record { adds = f.adds; numbers = subst (Numbers g) (sym f.numbers) h }

pub emits_two : {s a r : Proof} {b c : ℕ} {t u : Tree} → Emits s a b t → Emits a r c u → EmitsAll s r (Linked b c) (t ∷ u ∷ [])
emits_two {r = r} f g = emits_all (then f (then g (none r))) refl
