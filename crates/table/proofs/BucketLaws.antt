-- Laws of the index: buckets, the chain of one, the search along it, and a net more.
use Prim.Native.Nat.{ℕ, zero, suc, ◌+◌, ◌-◌, ◌*◌, ◌/◌, ◌<◌, ◌≤◌}
use mathlib.Core.Path.{◌≡◌, refl, sym, ◌∙◌}
use mathlib.Core.Bool.{Bool, true, false, ◌&&◌}
use mathlib.Core.List.{List, [], ◌∷◌, ◌++◌}
use native.Mathlib.Nat.{mul-lt-mul_of_pos_right, div-lt_iff_lt-mul}
use native.Mathlib.Omega.{arith}
use lib.ListN.{length, get_or, set, length-set, length-append, get_or-append}
use lib.Seq.{sets, get_or-set_same, get_or-set_other, get_or_at}
use lib.Dec.{eqb}
use borrow.Author.Tests.{eqb-true, eqb-false, eq-eqb, ne_eqb, lt-ltb, le-ltb}
use Rattle.std.specs.Prelude.{Option, Some, None}
use Rattle.std.specs.Option.{unwrap_or}
use Rattle.laws.specs.Bools.{both, by_cond, below_or_at}
use Rattle.fold_laws.specs.Table as model
use Rattle.table.specs.Rows.{row_width, row, HoldsTable}
use Rattle.table.specs.Buckets.{bucket_width, head_at, next_at, mixed, bucket_of, bucket_at, latest, below, Indexed, Among}
use Rattle.table.proofs.PlaceLaws.{stays_before, stays_behind}
use Rattle.table.proofs.RowLaws.{entered, search_next, search_none}

-- ---- a bucket

-- a number below 2³², scaled to the buckets behind the first
module _ (nets kind a b : ℕ) (some : 0 < nets) where
  pub scaled : mixed kind a b * (bucket_width * nets - 1) < 4294967296 * (bucket_width * nets - 1)
  unfolding mixed
  scaled = mul-lt-mul_of_pos_right (omega arith) (omega arith)

  pub scaled_low : mixed kind a b * (bucket_width * nets - 1) / 4294967296 < bucket_width * nets - 1
  scaled_low =
      (div-lt_iff_lt-mul {k = 4294967296} {x = mixed kind a b * (bucket_width * nets - 1)} {y = bucket_width * nets - 1} (omega arith)).1 (omega (arith, scaled))

pub no_key : (nets kind a b : ℕ) → a ≡ 0 → 0 ≡ bucket_of nets kind a b
unfolding bucket_of
no_key nets kind a b e = rw (eq-eqb a 0 e)

pub some_key : (nets kind a b : ℕ) → (a ≡ 0 → ⊥) → 1 + mixed kind a b * (bucket_width * nets - 1) / 4294967296 ≡ bucket_of nets kind a b
unfolding bucket_of
some_key nets kind a b e = rw (ne_eqb a 0 e)

-- what is in another bucket does not fit
other_bucket : (nets : ℕ) (k : Bool) (a b : ℕ) (e : model.Entry) → (bucket_of nets e.kind e.ka e.kb ≡ bucket_of nets (model.kind_of k) a b → ⊥)
    → model.fits k a b e ≡ false
unfolding model.fits
other_bucket nets k a b e d = go (eqb e.kind (model.kind_of k) && (eqb e.ka a && eqb e.kb b)) refl
  where
    go : (q : Bool) → eqb e.kind (model.kind_of k) && (eqb e.ka a && eqb e.kb b) ≡ q → q ≡ false
    go true f =
        let g = both (eqb e.kind (model.kind_of k)) (eqb e.ka a && eqb e.kb b) f in
        let h = both (eqb e.ka a) (eqb e.kb b) g.1 in
        absurd (d (rw (eqb-true e.kind (model.kind_of k) g.0, eqb-true e.ka a h.0, eqb-true e.kb b h.1)))
    go false f = refl

-- ---- a chain

module _ (nets : ℕ) (t : List model.Entry) (h : ℕ) where
  latest_here : (n : ℕ) → bucket_at nets t n ≡ h → latest nets t h (suc n) ≡ suc n
  unfolding latest
  latest_here n e = rw (eq-eqb (bucket_at nets t n) h e)

  latest_past : (n : ℕ) → (bucket_at nets t n ≡ h → ⊥) → latest nets t h (suc n) ≡ latest nets t h n
  unfolding latest
  latest_past n e = rw (ne_eqb (bucket_at nets t n) h e)

  latest_low : (n : ℕ) → latest nets t h n ≤ n
  unfolding latest
  latest_low zero = omega arith
  latest_low (suc n) = by_cond (λ (m : ℕ). m ≤ suc n) (eqb (bucket_at nets t n) h) (λ e. omega arith) (λ e. omega (arith, latest_low n))

  latest_in : (n : ℕ) → 0 < latest nets t h n → bucket_at nets t (latest nets t h n - 1) ≡ h
  unfolding latest
  latest_in zero z = absurd (omega arith)
  latest_in (suc n) z =
      let p : suc n - 1 ≡ n = omega arith in
      by_cond (λ (m : ℕ). 0 < m → bucket_at nets t (m - 1) ≡ h) (eqb (bucket_at nets t n) h) (λ e y. rw p (eqb-true (bucket_at nets t n) h e)) (λ e. latest_in n) z

  -- entries behind do not matter
  latest_front : (s : List model.Entry) (n : ℕ) → n ≤ length t → latest nets (t ++ s) h n ≡ latest nets t h n
  unfolding latest
  latest_front s zero l = refl
  latest_front s (suc n) l = rw (get_or-append t s model.blank n (omega arith), latest_front s n (omega arith))

-- ---- the search along the chain of a kind and key

-- next is one more than a net of the chain, or 0; found is the first net from there on that fits, or v
pub record Walk (nets : ℕ) (t : List model.Entry) (k : Bool) (a b v next found : ℕ) : Type 0 where
  pub chained : 0 < next → bucket_at nets t (next - 1) ≡ bucket_of nets (model.kind_of k) a b
  pub first : found ≡ model.find k a b t (v - next) next

module _ (nets : ℕ) (t : List model.Entry) (k : Bool) (a b v : ℕ) where
  abbrev h : ℕ
  h = bucket_of nets (model.kind_of k) a b

  -- the nets that the chain passes over do not fit
  passed : (n : ℕ) → n ≤ v → model.find k a b t (v - latest nets t h n) (latest nets t h n) ≡ model.find k a b t (v - n) n
  unfolding latest
  passed zero l = refl
  passed (suc n) l =
      by_cond (λ (m : ℕ). model.find k a b t (v - m) m ≡ model.find k a b t (v - suc n) (suc n)) (eqb (bucket_at nets t n) h) (λ e. refl)
      (λ e. passed n (omega arith) ∙ search_next k a b t v n l (other_bucket nets k a b (model.at t n) (eqb-false (bucket_at nets t n) h e)))

  walk_from : (n found : ℕ) → n ≤ v → found ≡ model.find k a b t (v - n) n → Walk nets t k a b v (latest nets t h n) found
  walk_from n found l e = record { chained = latest_in nets t h n; first = e ∙ sym (passed n l) }

  module _ (work : List ℕ) (x : Indexed work nets t) (n : length t ≡ v) (next : ℕ) where
    pub walk_begins : (g : ℕ) → g ≡ h → g < bucket_width * nets → (get_or work (head_at nets g) 0 ≤ v → next ≡ get_or work (head_at nets g) 0)
        → Walk nets t k a b v next v
    walk_begins g e l r =
        let y : get_or work (head_at nets g) 0 ≡ latest nets t h v = x.head g l ∙ rw (e, n) in
        rw (r (omega (arith, y, latest_low nets t h v)) ∙ y) (walk_from v v (omega arith) (sym (search_none k a b t v v (omega arith))))

    pub walk_on : (u was found : ℕ) → u < v → Walk nets t k a b v (suc u) was → found ≡ model.find k a b t (v - u) u
        → (get_or work (next_at u) 0 ≤ u → next ≡ get_or work (next_at u) 0) → Walk nets t k a b v next found
    walk_on u was found l w e r =
        let z : suc u - 1 ≡ u = omega arith in
        let c : bucket_at nets t u ≡ h = rw z at (w.chained (omega arith)) in
        let y : get_or work (next_at u) 0 ≡ latest nets t h u = x.next u (omega arith) ∙ rw c in
        rw (r (omega (arith, y, latest_low nets t h u)) ∙ y) (walk_from u found (omega arith) e)

-- ---- no net

pub index_none : (work : List ℕ) (nets : ℕ) → ((h : ℕ) → h < bucket_width * nets → get_or work (head_at nets h) 0 ≡ 0) → Indexed work nets []
unfolding latest
index_none work nets z =
    record {
      rows = record { room = omega arith; number = λ u i n. absurd (omega arith) };
      head = λ h l. z h l;
      next = λ u n. absurd (omega arith);
    }

-- ---- a net more, as the code stores it

module _ (work : List ℕ) (nets v : ℕ) (e : model.Entry) (t : List model.Entry) (r : Among (length work) nets v) where
  abbrev bucket : ℕ
  bucket = bucket_of nets e.kind e.ka e.kb

  abbrev chained : List ℕ
  chained = set (set work (head_at nets bucket) (v + 1)) (next_at v) (get_or work (head_at nets bucket) 0)

  abbrev stored : List ℕ
  stored = sets chained (row_width * v) (row e)

  abbrev more : List model.Entry
  more = t ++ (e ∷ [])

  module _ (low : bucket < bucket_width * nets) (x : Indexed work nets t) (n : length t ≡ v) where
    chained_long : length chained ≡ length work
    chained_long = simp length-set

    own : bucket_at nets more v ≡ bucket
    own = let last : model.at more v ≡ e = get_or_at t e [] model.blank v n in rw last

    long : length more ≡ suc v
    long = rw (length-append, n) (omega arith)

    before : (j : ℕ) → j < row_width * v → get_or chained j 0 ≡ get_or work j 0
    before j l =
        get_or-set_other (set work (head_at nets bucket) (v + 1)) (next_at v) j (get_or work (head_at nets bucket) 0) 0 (λ q. omega (arith, r.inside))
        ∙ get_or-set_other work (head_at nets bucket) j (v + 1) 0 (λ q. omega (arith, r.inside))

    rows_stay : HoldsTable chained t
    rows_stay =
        record {
          room = rw chained_long x.rows.room;
          number = λ u i l m. before (row_width * u + i) (omega arith) ∙ x.rows.number u i l m;
        }

    heads : (h : ℕ) → h < bucket_width * nets → get_or stored (head_at nets h) 0 ≡ latest nets more h (length more)
    heads h l =
        rw long
        (stays_behind chained (row_width * v) (row e) (head_at nets h) (omega (arith, r.inside))
        ∙ get_or-set_other (set work (head_at nets bucket) (v + 1)) (next_at v) (head_at nets h) (get_or work (head_at nets bucket) 0) 0 (λ q. omega (arith, r.inside))
        ∙ at (eqb bucket h) refl)
      where
        at : (q : Bool) → eqb bucket h ≡ q → get_or (set work (head_at nets bucket) (v + 1)) (head_at nets h) 0 ≡ latest nets more h (suc v)
        at true q =
            let z : bucket ≡ h = eqb-true bucket h q in
            rw (← z, latest_here nets more bucket v own) (get_or-set_same work (head_at nets bucket) (v + 1) 0 (omega (arith, r.room)) ∙ omega arith)
        at false q =
            let z : bucket ≡ h → ⊥ = eqb-false bucket h q in
            get_or-set_other work (head_at nets bucket) (head_at nets h) (v + 1) 0 (λ d. z (omega arith))
            ∙ x.head h l
            ∙ rw n (sym (latest_past nets more h v (λ d. z (sym own ∙ d)) ∙ latest_front nets t h (e ∷ []) v (omega arith)))

    nexts : (u : ℕ) → u < length more → get_or stored (next_at u) 0 ≡ latest nets more (bucket_at nets more u) u
    nexts u l = below_or_at u v (omega (arith, long)) earlier new
      where
        earlier : u < v → get_or stored (next_at u) 0 ≡ latest nets more (bucket_at nets more u) u
        earlier d =
            rw (get_or-append t (e ∷ []) model.blank u (omega arith), latest_front nets t (bucket_at nets t u) (e ∷ []) u (omega arith))
            (stays_before chained (row_width * v) (row e) (next_at u) (omega arith) ∙ before (next_at u) (omega arith) ∙ x.next u (omega arith))

        new : u ≡ v → get_or stored (next_at u) 0 ≡ latest nets more (bucket_at nets more u) u
        new d =
            rw (d, own, latest_front nets t bucket (e ∷ []) v (omega arith))
            (stays_behind chained (row_width * v) (row e) (next_at v) (omega arith)
            ∙ get_or-set_same (set work (head_at nets bucket) (v + 1)) (next_at v) (get_or work (head_at nets bucket) 0) 0 (rw length-set (omega (arith, r.inside, r.room)))
            ∙ x.head bucket low
            ∙ rw n)

    pub inserted : Indexed stored nets more
    inserted =
        record {
          rows = entered chained t e v (rw chained_long (omega (arith, r.inside, r.room))) rows_stay n;
          head = heads;
          next = nexts;
        }

-- ---- what the walk found

-- a net below this one, or none
abbrev pub Below : ℕ → Option ℕ → Type 0
Below v (Some u) = u < v
Below v None = Unit {0}

pub found_is : (v n : ℕ) (found : Option ℕ) → Below v found → unwrap_or found v ≡ n → found ≡ below v n
found_is v n (Some u) h e = rw (← e, lt-ltb u v h)
found_is v n None h e = rw (← e, le-ltb v v (omega arith))
