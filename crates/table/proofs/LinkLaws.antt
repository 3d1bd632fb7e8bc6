-- A law of the numbers of clauses: those of a net more.
use Prim.Native.Nat.{ℕ, zero, suc, ◌+◌, ◌-◌, ◌*◌, ◌<◌, ◌≤◌}
use mathlib.Core.Path.{◌≡◌, refl, sym, ap, ◌∙◌}
use mathlib.Core.Bool.{Bool, true, false}
use mathlib.Core.List.{List, [], ◌∷◌, ◌++◌}
use native.Mathlib.Omega.{arith}
use lib.ListN.{length, get_or, length-append, get_or-append}
use lib.Seq.{sets, length-sets, get_or_at}
use lib.Dec.{ltb}
use borrow.Author.Tests.{ltb-true, ltb-false}
use Rattle.model.specs.Answers.{zeros, filled}
use Rattle.table.specs.Links.{link_width, Keeps}
use Rattle.table.proofs.PlaceLaws.{stays_before, stored_at}

-- zeros behind are what stands for nothing
no_number : (n i : ℕ) → get_or (zeros n) i 0 ≡ 0
no_number zero i = refl
no_number (suc n) zero = refl
no_number (suc n) (suc i) = no_number n i

zeros_behind : (ns : List ℕ) (n i : ℕ) → get_or (ns ++ zeros n) i 0 ≡ get_or ns i 0
zeros_behind [] n i = no_number n i
zeros_behind (x ∷ ns) n zero = refl
zeros_behind (x ∷ ns) n (suc i) = zeros_behind ns n i

module _ (slice : List ℕ) (v : ℕ) (numbers : List ℕ) (four : length numbers ≡ link_width) (r : link_width * v + link_width ≤ length slice) where
  pub kept : (links : List (List ℕ)) (ns : List ℕ) → Keeps slice links → length links ≡ v → numbers ≡ filled link_width ns
      → Keeps (sets slice (link_width * v) numbers) (links ++ (ns ∷ []))
  kept links ns k n e =
      let l : length (links ++ (ns ∷ [])) ≡ v + 1 = rw (length-append, n) in
      record { room = rw (l, length-sets) (omega arith); number = λ u i a b. at u i (omega arith) b (ltb u v) refl }
    where
      at : (u i : ℕ) → u < v + 1 → i < link_width → (q : Bool) → ltb u v ≡ q
          → get_or (sets slice (link_width * v) numbers) (link_width * u + i) 0 ≡ get_or (get_or (links ++ (ns ∷ [])) u []) i 0
      at u i a b true q =
          let z : u < v = ltb-true u v q in
          stays_before slice (link_width * v) numbers (link_width * u + i) (omega arith)
          ∙ k.number u i (omega arith) b
          ∙ ap (λ (x : List ℕ). get_or x i 0) (sym (get_or-append links (ns ∷ []) [] u (omega arith)))
      at u i a b false q =
          let z : u ≡ v = omega (arith, ltb-false u v q) in
          rw (z, get_or_at links ns [] [] v n)
          (stored_at slice (link_width * v) numbers i (omega arith) (omega arith)
          ∙ ap (λ (x : List ℕ). get_or x i 0) e
          ∙ zeros_behind ns (link_width - length ns) i)
