-- Zeros from a place on, one by one, whatever kind of number: what lies before the loop's place, and zeros behind it, is from the start what is
-- due at the end. A turn moves one zero from the second part to the first, and at the end the second part is empty.
use Prim.Native.Nat.{ℕ, suc, ◌+◌, ◌-◌, ◌≤◌, ◌<◌}
use mathlib.Core.Path.{◌≡◌, refl, sym, ◌∙◌}
use mathlib.Core.List.{List, ◌++◌, append_assoc, append-nil}
use native.Mathlib.Numerals.{add-one}
use native.Mathlib.Omega.{arith}
use lib.ListN.{length, take, get_or, set, replicate, length-set, get_or-replicate}
use lib.Seq.{take_all, take-suc-set, length-take-le, get_or-append-add}
use Rattle.model.specs.Answers.{zeros}

-- s₀ is cleared from a place on as far as `at`, and s is what it holds now
pub record Clearing {A : Type 0} (zero : A) (s₀ : List A) (from : ℕ) (s : List A) (at : ℕ) : Type 0 where
  pub long : length s ≡ length s₀
  pub due : take at s ++ replicate (length s₀ - at) zero ≡ take from s₀ ++ replicate (length s₀ - from) zero

module _ {A : Type 0} {zero : A} {s₀ : List A} {from : ℕ} where
  pub begun : Clearing zero s₀ from s₀ from
  begun = record { long = refl; due = refl }

  pub one_more : {s : List A} {at : ℕ} → Clearing zero s₀ from s at → at < length s → Clearing zero s₀ from (set s at zero) (at + 1)
  one_more {s} {at} c h =
      let left : length s₀ - at ≡ suc (length s₀ - suc at) = omega (arith, c.long) in
      record { long = simp length-set c.long; due = rw (add-one, take-suc-set s at zero h, append_assoc) (rw left at c.due) }

  pub ended : {s : List A} {at : ℕ} → Clearing zero s₀ from s at → length s ≤ at → s ≡ take from s₀ ++ replicate (length s₀ - from) zero
  ended {s} {at} c h =
      let none : length s₀ - at ≡ 0 = omega (arith, c.long) in
      sym (take_all at s h) ∙ sym (append-nil (take at s)) ∙ (rw none at c.due)

-- a place that is cleared
pub cleared_at : (s last : List ℕ) (from h : ℕ) → last ≡ take from s ++ zeros (length s - from) → from + h < length s → get_or last (from + h) 0 ≡ 0
cleared_at s last from h is l =
    let e : from + h ≡ length (take from s) + h = omega (arith, length-take-le from s (omega arith)) in
    rw (is, e, get_or-append-add) (get_or-replicate (length s - from) h 0 0 (omega arith))

-- from the start: zeros everywhere
pub cleared : (s last : List ℕ) (n : ℕ) → length s ≡ n → last ≡ take 0 s ++ zeros (length s - 0) → last ≡ zeros n
cleared s last n e is =
    let all : length s - 0 ≡ n = omega arith in
    is ∙ rw all
