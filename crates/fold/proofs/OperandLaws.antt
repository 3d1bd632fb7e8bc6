-- What two representatives fold to: they are put in order, and an XOR's signs are taken off and combined.
use Prim.Native.Nat.{ℕ, ◌%◌}
use mathlib.Core.Path.{◌≡◌, refl, sym}
use mathlib.Core.Bool.{Bool, true, false, not, beq, cond}
use native.Mathlib.Omega.{arith}
use lib.Dec.{eqb, leb, ltb}
use borrow.Author.Tests.{le-leb, lt-leb, ltb-true, ltb-false}
use Rattle.std.proofs.Common.{Ordering}
use Rattle.std.specs.Ordering.{nat_cmp, is_lt, ord_min, ord_max}
use Rattle.literal.specs.declared.Literal.{Literal}
use Rattle.laws.specs.Bools.{by_cond}
use Rattle.model.specs.Nets.{net_of, odd, xorb, bit}
use Rattle.model.specs.Clauses.{positive}
use Rattle.fold_laws.proofs.Signs.{bit_odd}
use Rattle.fold_laws.specs.Cases.{made}
use Rattle.fold_laws.specs.Table.{ordered, part}

-- ---- in order

abbrev by_code : Literal → Literal → Ordering
by_code p q = nat_cmp p.code q.code

less : (a b : ℕ) → is_lt (nat_cmp a b) ≡ ltb a b
less a b = by_cond (λ (o : Ordering). is_lt o ≡ ltb a b) (ltb a b) (λ e. sym e) (λ e. by_cond (λ (o : Ordering). is_lt o ≡ ltb a b) (eqb a b) (λ f. sym e) (λ f. sym e))

pub by_order : (k : Bool) (p q : Literal) → made k (ord_min by_code p q).code (ord_max by_code p q).code ≡ ordered k p.code q.code
unfolding ordered
by_order k p q = rw (less q.code p.code) (go (ltb q.code p.code) refl)
  where
    go : (t : Bool) → ltb q.code p.code ≡ t → made k (cond t q p).code (cond t p q).code ≡ cond (leb p.code q.code) (made k p.code q.code) (made k q.code p.code)
    go true e = rw (lt-leb p.code q.code (ltb-true q.code p.code e)) refl
    go false e = rw (le-leb p.code q.code (ltb-false q.code p.code e)) refl

-- ---- an XOR's signs

pub unsigned : (l : ℕ) → positive (net_of l) ≡ part true l
unsigned l = go (odd l) (bit_odd l) refl
  where
    go : (b : Bool) → l % 2 ≡ bit b → odd l ≡ b → positive (net_of l) ≡ part true l
    go true e d = rw d (omega arith)
    go false e d = rw d (omega arith)

pub differ : (a b : Bool) → not (beq a b) ≡ xorb a b
differ true true = refl
differ true false = refl
differ false true = refl
differ false false = refl
