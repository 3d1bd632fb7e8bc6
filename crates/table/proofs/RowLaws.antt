-- Laws of the table: a row more, what a row's numbers are, and the search.
use Prim.Native.Nat.{ℕ, suc, ◌+◌, ◌-◌, ◌*◌, ◌%◌, ◌<◌, ◌≤◌}
use mathlib.Core.Path.{◌≡◌, refl, sym, ap, ◌∙◌}
use mathlib.Core.Bool.{Bool, true, false, ◌&&◌, and_comm, cond}
use mathlib.Core.List.{List, [], ◌∷◌, ◌++◌}
use native.Mathlib.Omega.{arith}
use lib.ListN.{length, get_or, length-append, get_or-append}
use lib.Seq.{sets, length-sets, get_or_at}
use lib.Dec.{eqb, ltb}
use borrow.Author.Tests.{ltb-true, ltb-false}
use Rattle.model.specs.Nets.{net_of, odd}
use Rattle.model.specs.Clauses.{neg}
use Rattle.fold_laws.specs.Signs.{signed}
use Rattle.fold_laws.specs.Table as model
use Rattle.table.specs.Rows.{row_width, row_numbers, row, HoldsTable}
use Rattle.table.proofs.PlaceLaws.{stays_before, stored_at}

-- ---- a row more

pub entered : (work : List ℕ) (t : List model.Entry) (e : model.Entry) (v : ℕ) → row_width * v + row_width ≤ length work → HoldsTable work t → length t ≡ v
    → HoldsTable (sets work (row_width * v) (row e)) (t ++ (e ∷ []))
entered work t e v r h n =
    let l : length (t ++ (e ∷ [])) ≡ v + 1 = rw (length-append, n) in
    record { room = rw (l, length-sets) (omega arith); number = λ u i a b. at u i (omega arith) b (ltb u v) refl }
  where
    at : (u i : ℕ) → u < v + 1 → i < row_numbers → (q : Bool) → ltb u v ≡ q
        → get_or (sets work (row_width * v) (row e)) (row_width * u + i) 0 ≡ get_or (row (model.at (t ++ (e ∷ [])) u)) i 0
    at u i a b true q =
        let z : u < v = ltb-true u v q in
        stays_before work (row_width * v) (row e) (row_width * u + i) (omega arith)
        ∙ h.number u i (omega arith) b
        ∙ ap (λ (x : model.Entry). get_or (row x) i 0) (sym (get_or-append t (e ∷ []) model.blank u (omega arith)))
    at u i a b false q =
        let z : u ≡ v = omega (arith, ltb-false u v q) in
        let p : row_width * u + i ≡ row_width * v + i = omega arith in
        let w : model.at (t ++ (e ∷ [])) u ≡ e = get_or_at t e [] model.blank u (n ∙ sym z) in
        ap (λ (j : ℕ). get_or (sets work (row_width * v) (row e)) j 0) p
        ∙ stored_at work (row_width * v) (row e) i (omega arith) b
        ∙ ap (λ (x : model.Entry). get_or (row x) i 0) (sym w)

-- ---- the rows by themselves

-- numbers behind the rows do not matter
pub front : {work slice : List ℕ} (behind : List ℕ) {t : List model.Entry} → HoldsTable work t → work ≡ slice ++ behind → row_width * length t ≤ length slice → HoldsTable slice t
front {slice = slice} behind h e r = record {
  room = r;
  number = λ u i a b. sym (get_or-append slice behind 0 (row_width * u + i) (omega arith)) ∙ ap (λ (l : List ℕ). get_or l (row_width * u + i) 0) (sym e) ∙ h.number u i a b;
}

-- ---- the numbers of a row

module _ {work : List ℕ} {t : List model.Entry} (h : HoldsTable work t) {u : ℕ} (n : u < length t) where
  pub rep_at : get_or work (row_width * u) 0 ≡ (model.at t u).rep
  rep_at = let z : row_width * u + 0 ≡ row_width * u = omega arith in rw z at (h.number u 0 n (omega arith))

  pub kind_at : get_or work (row_width * u + 1) 0 ≡ (model.at t u).kind
  kind_at = h.number u 1 n (omega arith)

  pub ka_at : get_or work (row_width * u + 2) 0 ≡ (model.at t u).ka
  ka_at = h.number u 2 n (omega arith)

  pub kb_at : get_or work (row_width * u + 3) 0 ≡ (model.at t u).kb
  kb_at = h.number u 3 n (omega arith)

-- ---- a net's kind and key

pub fits_by : {work : List ℕ} {t : List model.Entry} → HoldsTable work t → {u : ℕ} → u < length t → (k : Bool) (a b kind : ℕ) → kind ≡ model.kind_of k
    → (eqb (get_or work (row_width * u + 2) 0) a && eqb (get_or work (row_width * u + 3) 0) b) && eqb (get_or work (row_width * u + 1) 0) kind
    ≡ model.fits k a b (model.at t u)
unfolding model.fits
fits_by {work} {t} h {u} n k a b kind e =
    rw (ka_at h n, kb_at h n, kind_at h n, e) (and_comm (eqb (model.at t u).ka a && eqb (model.at t u).kb b) (eqb (model.at t u).kind (model.kind_of k)))

-- ---- the search, as far as net u

module _ (k : Bool) (a b : ℕ) (t : List model.Entry) (v u : ℕ) where
  pub search_next : u < v → model.fits k a b (model.at t u) ≡ false → model.find k a b t (v - u) u ≡ model.find k a b t (v - suc u) (suc u)
  unfolding model.find
  search_next h e = let m : v - u ≡ suc (v - suc u) = omega arith in rw (m, e)

  pub search_here : u < v → model.fits k a b (model.at t u) ≡ true → model.find k a b t (v - u) u ≡ u
  unfolding model.find
  search_here h e = let m : v - u ≡ suc (v - suc u) = omega arith in rw (m, e)

  pub search_none : v ≤ u → model.find k a b t (v - u) u ≡ u
  unfolding model.find
  search_none h = let m : v - u ≡ 0 = omega arith in rw m

-- ---- representatives

signed_by : (b : Bool) (r : ℕ) → cond b (neg r) r ≡ signed b r
signed_by true r = refl
signed_by false r = refl

-- the row's number with the literal's sign
pub rep_read : {work : List ℕ} {t : List model.Entry} → HoldsTable work t → (l : ℕ) → net_of l < length t → (r : ℕ) → r ≡ get_or work (row_width * net_of l) 0
    → cond (eqb (l % 2) 1) (neg r) r ≡ model.rep_of t l
unfolding model.rep_of
rep_read h l n r e = signed_by (odd l) r ∙ ap (signed (odd l)) (e ∙ rep_at h n)
