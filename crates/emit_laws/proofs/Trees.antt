-- Derivations as trees do what they say: that the lines are fine and the last number has the tree's set is one induction (`laid`), so no
-- proof above this file speaks of clause numbers.
use Rattle.std.specs.Prelude.{ℕ, suc, ◌+◌, ◌≤◌, ◌≡◌, refl, List, [], ◌∷◌, ◌++◌, length}
use Rattle.std.proofs.Common.{ap, ◌∙◌, subst, arith, length-append}
use Rattle.model.specs.Limits.{clause_width}
use Rattle.model.specs.Clauses.{Clause, neg}
use Rattle.laws.specs.Growing.{Extends}
use Rattle.emit_laws.specs.Sets.{Same, Off}
use Rattle.emit_laws.specs.Replay.{Has, Resolution, pivot, Cut, after, Fine}
use Rattle.emit_laws.proofs.Replay.{has_same, has_ext, has_last, cut_at, fine_append, after_append, length_after, extends_after}
use Rattle.emit_laws.specs.Trees.{Tree, size, num, lay, Derives, Laid, Claim, Gives, Met, All₂, sizes, nums, lays, Each}
use Rattle.emit_laws.specs.Trees.Tree.{old, cut}
use Rattle.emit_laws.specs.Trees.Derives.{given, cuts}
use Rattle.emit_laws.specs.Trees.Claim.{any, is}
use Rattle.emit_laws.specs.Trees.All₂.{end, more}

-- ---- a tree and its lines

pub length_lay : (n : ℕ) (t : Tree) → length (lay n t) ≡ size t
unfolding lay
length_lay n (old c) = refl
length_lay n (cut d e l) = simp (length-append, length_lay n d, length_lay (n + size d) e) (omega arith)

-- so many clauses are there behind them
after_lay : (K : List Clause) (n : ℕ) (t : Tree) → length (after K (lay n t)) ≡ length K + size t
after_lay K n t = rw (length_after K (lay n t), length_lay n t)

-- ---- what it derives

pub derives_same : {K : List Clause} {t : Tree} {S T : List ℕ} → Derives K t S → Same S T → Derives K t T
derives_same (given h) s = given (has_same h s)
derives_same (cuts p q f g n r) s = cuts p q f g n (λ k. r k ∙ s k)

pub derives_ext : {K L : List Clause} {t : Tree} {S : List ℕ} → Extends K L → Derives K t S → Derives L t S
derives_ext x (given h) = given (has_ext x h)
derives_ext x (cuts p q f g n r) = cuts (derives_ext x p) (derives_ext x q) f g n r

-- one line at the end
snoc : (K : List Clause) (r : Resolution) (S : List ℕ) → Cut K r S → Fine K (r ∷ []) × Has (after K (r ∷ [])) (suc (length K)) S
unfolding after
snoc K r S c = ((c.fits, tt), rw c.eq (has_last K S))

laid_cut : (K : List Clause) (d e : Tree) (l : ℕ) (S T U : List ℕ) → Laid K d (l ∷ S)
    → Laid (after K (lay (length K) d)) e (neg l ∷ T) → Off l S → Off (neg l) T → length S + length T ≤ clause_width → Same (S ++ T) U
    → Laid K (cut d e l) U
unfolding lay
laid_cut K d e l S T U i j f g h s =
    let n : ℕ = length K in
    let ds : List Resolution = lay n d in
    let es : List Resolution = lay (n + size d) e in
    let M : List Clause = after K ds in
    let P : List Clause = after M es in
    let m : length M ≡ n + size d = after_lay K n d in
    let p : length P ≡ n + size d + size e = after_lay M (n + size d) e ∙ ap (λ (i : ℕ). i + size e) m in
    let fe : Fine M es = subst (λ (x : ℕ). Fine M (lay x e)) m j.fine in
    let he : Has P (num (n + size d) e) (neg l ∷ T) =
    subst (λ (x : ℕ). Has (after M (lay x e)) (num x e) (neg l ∷ T)) m j.has in
    let hd : Has P (num n d) (l ∷ S) = has_ext (extends_after M es) i.has in
    let r : Resolution = pivot (num n d) (num (n + size d) e) l in
    let t = snoc P r U (cut_at P (num n d) (num (n + size d) e) l S T U hd he f g h s) in
    record {
      fine = fine_append K ds (es ++ (r ∷ [])) i.fine (fine_append M es (r ∷ []) fe t.0);
      has = rw (after_append K ds (es ++ (r ∷ [])), after_append M es (r ∷ []), ← p) t.1;
    }

-- A derivation's lines do what it says.
pub laid : (K : List Clause) (t : Tree) (S : List ℕ) → Derives K t S → Laid K t S
unfolding lay after
laid K (old c) S (given h) = record { fine = tt; has = h }
laid K (cut d e l) U (cuts {S = S} {T = T} p q f g n r) =
    let ds : List Resolution = lay (length K) d in
    laid_cut K d e l S T U (laid K d (l ∷ S) p) (laid (after K ds) e (neg l ∷ T) (derives_ext (extends_after K ds) q)) f g n r

-- ---- several trees, one after the other

pub length_lays : (n : ℕ) (ts : List Tree) → length (lays n ts) ≡ sizes ts
unfolding lays
length_lays n [] = refl
length_lays n (t ∷ ts) = simp (length-append, length_lay, length_lays (n + size t) ts)

gives_ext : {K L : List Clause} (t : Tree) (c : Claim) → Extends K L → Gives K t c → Gives L t c
gives_ext t any x p = p
gives_ext t (is S) x p = derives_ext x p

met_ext : {K L : List Clause} (c : ℕ) (d : Claim) → Extends K L → Met K c d → Met L c d
met_ext c any x p = p
met_ext c (is S) x p = has_ext x p

all_gives_ext : {K L : List Clause} {ts : List Tree} {cs : List Claim} → Extends K L → All₂ (Gives K) ts cs → All₂ (Gives L) ts cs
all_gives_ext x end = end
all_gives_ext x (more {a = t} {c = c} p q) = more (gives_ext t c x p) (all_gives_ext x q)

pub all_met_ext : {K L : List Clause} {ns : List ℕ} {cs : List Claim} → Extends K L → All₂ (Met K) ns cs → All₂ (Met L) ns cs
all_met_ext x end = end
all_met_ext x (more {a = n} {c = c} p q) = more (met_ext n c x p) (all_met_ext x q)

-- one tree, with its claim
record One (K : List Clause) (t : Tree) (c : Claim) : Type 0 where
  fine : Fine K (lay (length K) t)
  met : Met (after K (lay (length K) t)) (num (length K) t) c

one : (K : List Clause) (t : Tree) (c : Claim) → Gives K t c → One K t c
unfolding lay after
one K (old n) any p = record { fine = tt; met = tt }
one K (cut d e l) any p = absurd p
one K t (is S) p = let i = laid K t S p in record { fine = i.fine; met = i.has }

each_and : (K : List Clause) (t : Tree) (ts : List Tree) (c : Claim) (cs : List Claim) → One K t c
    → Each (after K (lay (length K) t)) ts cs → Each K (t ∷ ts) (c ∷ cs)
unfolding lays
each_and K t ts c cs i j =
    let n : ℕ = length K in
    let M : List Clause = after K (lay n t) in
    let m : length M ≡ n + size t = after_lay K n t in
    let ls : List Resolution = lays (n + size t) ts in
    let f : Fine M ls = subst (λ (x : ℕ). Fine M (lays x ts)) m j.fine in
    let h : All₂ (Met (after M ls)) (nums (n + size t) ts) cs =
    subst (λ (x : ℕ). All₂ (Met (after M (lays x ts))) (nums x ts) cs) m j.met in
    record {
      fine = fine_append K (lay n t) ls i.fine f;
      met = rw (after_append K (lay n t) ls) (more (met_ext (num n t) c (extends_after M ls) i.met) h);
    }

-- The lines of several derivations do what they say.
pub each : (K : List Clause) (ts : List Tree) (cs : List Claim) → All₂ (Gives K) ts cs → Each K ts cs
unfolding lays after
each K [] [] end = record { fine = tt; met = end }
each K [] (c ∷ cs) h = elim h [ ]
each K (t ∷ ts) [] h = elim h [ ]
each K (t ∷ ts) (c ∷ cs) (more p q) =
    let ls : List Resolution = lay (length K) t in
    each_and K t ts c cs (one K t c p) (each (after K ls) ts cs (all_gives_ext (extends_after K ls) q))
