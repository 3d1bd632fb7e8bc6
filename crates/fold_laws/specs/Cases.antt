-- What two representatives make, by cases: the AND or the XOR of two literals in order, an XOR's with no sign. The first pass enters what
-- is made, the second proves it; both go by the same case, and `AndIs` and `XorIs` are what a case says of the two.
use Rattle.std.specs.Prelude.{ℕ, ◌≤◌, ◌<◌, ◌≡◌, Bool, true, false, ◌||◌, cond, eqb}
use Rattle.model.specs.Nets.{net_of}
use Rattle.model.specs.Clauses.{neg}

-- a literal, or the key of a core to be found
pub data Made : Type 0 where
  is : ℕ → Made
  key : ℕ → ℕ → Made

-- ---- an AND of a ≤ b

-- nil: a is false. pass: a is true or b, which gives b. opp: a is opposite to b, which gives false. pair: neither is a constant, and they are
-- over different nets.
pub data AndCase : Type 0 where
  nil pass opp pair : AndCase

unfoldable pub and_case : ℕ → ℕ → AndCase
and_case a b = cond (eqb a 0) nil (cond (eqb a 1 || eqb a b) pass (cond (eqb a (neg b)) opp pair))

abbrev pub and_made : AndCase → ℕ → ℕ → Made
and_made nil a b = is 0
and_made pass a b = is b
and_made opp a b = is 0
and_made pair a b = key a b

abbrev pub AndIs : ℕ → ℕ → AndCase → Type 0
AndIs a b nil = a ≡ 0
AndIs a b pass = (a ≡ 0 → ⊥) × (eqb a 1 || eqb a b ≡ true)
AndIs a b opp = (2 ≤ a) × (b ≡ neg a)
AndIs a b pair = (2 ≤ a) × (net_of a < net_of b)

-- ---- an XOR of a ≤ b, both even

-- pass: a is false, which gives b. same: a is b, which gives false. pair: as above.
pub data XorCase : Type 0 where
  pass same pair : XorCase

unfoldable pub xor_case : ℕ → ℕ → XorCase
xor_case a b = cond (eqb a 0) pass (cond (eqb a b) same pair)

abbrev pub xor_made : XorCase → ℕ → ℕ → Made
xor_made pass a b = is b
xor_made same a b = is 0
xor_made pair a b = key a b

abbrev pub XorIs : ℕ → ℕ → XorCase → Type 0
XorIs a b pass = a ≡ 0
XorIs a b same = (2 ≤ a) × (a ≡ b)
XorIs a b pair = (2 ≤ a) × (net_of a < net_of b)

-- ---- either

-- what a and b make: as an XOR where k, else as an AND
abbrev pub made : Bool → ℕ → ℕ → Made
made false a b = and_made (and_case a b) a b
made true a b = xor_made (xor_case a b) a b
