-- A gate in normal form: signs taken off, then order.
use Prim.Native.Nat.{ℕ, ◌≤◌, ◌<◌}
use mathlib.Core.Path.{◌≡◌, ap, ◌∙◌}
use mathlib.Core.Bool.{Bool, false, ◌&&◌}
use native.Mathlib.Omega.{arith}
use borrow.Author.Tests.{le-leb, lt-leb}
use Rattle.model.specs.Nets.{net_of, odd}
use Rattle.fold_laws.proofs.Signs.{signed_net}
use Rattle.emit_laws.specs.Gates.{Literals, ClauseNumbers, order, order_numbers, turn_numbers, unsigned, normal, normal_numbers}

-- operands without signs are over the same nets
module _ (R : ℕ → ℕ) (o : Bool) (l u : Literals) (is : u ≡ unsigned R o l) (n : ℕ) where
  pub unsigned_x : net_of l.x < n → net_of u.x < n
  unsigned_x h = omega (arith, ap (λ (l : Literals). net_of l.x) is, signed_net (o && odd (R l.x)) l.x)

  pub unsigned_y : net_of l.y < n → net_of u.y < n
  unsigned_y h = omega (arith, ap (λ (l : Literals). net_of l.y) is, signed_net (o && odd (R l.y)) l.y)

module _ (R : ℕ → ℕ) (o : Bool) (l u : Literals) (k m : ClauseNumbers) (is : u ≡ unsigned R o l)
    (ns : m ≡ turn_numbers (o && odd (R l.x)) (o && odd (R l.y)) k) where
  pub normal_kept : R u.x ≤ R u.y → (u ≡ normal R o l) × (m ≡ normal_numbers R o l k)
  unfolding normal normal_numbers
  normal_kept h =
      let e = le-leb (R (unsigned R o l).x) (R (unsigned R o l).y) (rw is at h) in
      (is ∙ rw e, ns ∙ rw e)

  pub normal_swapped : R u.y < R u.x → (order false u ≡ normal R o l) × (order_numbers o false m ≡ normal_numbers R o l k)
  unfolding normal normal_numbers
  normal_swapped h =
      let e = lt-leb (R (unsigned R o l).x) (R (unsigned R o l).y) (rw is at h) in
      (rw (e, is), rw (e, ns))
