-- Literals by net and sign, where `signed b l` is l, complemented where b. Signs combine by exclusive or.
use Rattle.std.specs.Prelude.{ℕ, ◌%◌, ◌≡◌, refl, Bool, true, false}
use Rattle.std.proofs.Common.{sym, ap, ◌∙◌, arith}
use Rattle.model.specs.Nets.{net_of, odd, xorb, bit}
use Rattle.model.specs.Clauses.{positive, neg}
use Rattle.laws.specs.Literals.{neg_net, neg_odd}
pub use Rattle.laws.specs.Literals.{bit_odd}
use Rattle.fold_laws.specs.Signs.{signed}

-- it is over the same net, with its sign turned where b
pub signed_net : (b : Bool) (l : ℕ) → net_of (signed b l) ≡ net_of l
signed_net true l = neg_net l
signed_net false l = refl

pub odd_signed : (b : Bool) (l : ℕ) → odd (signed b l) ≡ xorb b (odd l)
odd_signed true l = neg_odd l
odd_signed false l = refl

-- one sign on another, and on itself
pub signed_signed : (a b : Bool) (l : ℕ) → signed a (signed b l) ≡ signed (xorb a b) l
signed_signed true true l = omega arith
signed_signed true false l = refl
signed_signed false b l = refl

pub signed_back : (b : Bool) (l : ℕ) → signed b (signed b l) ≡ l
signed_back true l = omega arith
signed_back false l = refl

-- ---- a literal is told by its net and its sign

pub literal_ext : (l m : ℕ) → odd l ≡ odd m → net_of l ≡ net_of m → l ≡ m
literal_ext l m e n = omega (arith, bit_odd l ∙ ap bit e ∙ sym (bit_odd m))

-- by another literal over its net
pub same_net : (l n : ℕ) → net_of l ≡ net_of n → l ≡ signed (xorb (odd l) (odd n)) n
same_net l n h = go (odd l) (odd n) (bit_odd l) (bit_odd n)
  where
    go : (a b : Bool) → l % 2 ≡ bit a → n % 2 ≡ bit b → l ≡ signed (xorb a b) n
    go true true e d = omega arith
    go true false e d = omega arith
    go false true e d = omega arith
    go false false e d = omega arith

-- by the positive literal of its net
pub signed_positive : (l : ℕ) → signed (odd l) (positive (net_of l)) ≡ l
signed_positive l = go (odd l) (bit_odd l)
  where
    go : (b : Bool) → l % 2 ≡ bit b → signed b (positive (net_of l)) ≡ l
    go true e = omega arith
    go false e = omega arith

-- of two literals with no sign none is the other's complement
pub even_not_neg : (l m : ℕ) → odd l ≡ false → odd m ≡ false → l ≡ neg m → ⊥
even_not_neg l m d e h = omega (arith, bit_odd l ∙ ap bit d, bit_odd m ∙ ap bit e)
