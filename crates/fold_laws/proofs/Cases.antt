-- What a case says of two representatives in order holds of them, so what they make is false, the higher of the two, or their key.
use Rattle.std.specs.Prelude.{ℕ, ◌%◌, ◌≤◌, ◌<◌, ◌≡◌, Bool, true, false, ◌&&◌, ◌||◌, eqb}
use Rattle.std.proofs.Common.{ap, ◌∙◌, arith, eqb-true}
use Rattle.std.proofs.lemmas.Bool.{eqb-false}
use Rattle.model.specs.Nets.{net_of, odd, bit}
use Rattle.model.specs.Clauses.{neg}
use Rattle.laws.specs.Bools.{neither, by_cond}
use Rattle.fold_laws.proofs.Signs.{bit_odd}
use Rattle.fold_laws.specs.Cases.{Made, AndCase, and_case, and_made, AndIs, XorCase, xor_case, xor_made, XorIs, made}
use Rattle.fold_laws.specs.Cases.Made.{is, key}
use Rattle.fold_laws.specs.Cases.AndCase.{nil, pass, opp, pair}
use Rattle.fold_laws.specs.Cases.XorCase.{pass, same, pair}

-- ---- an AND of a ≤ b

pub and_is : (a b : ℕ) → a ≤ b → AndIs a b (and_case a b)
unfolding and_case
and_is a b h =
    by_cond (AndIs a b) (eqb a 0) (λ e. eqb-true a 0 e)
    (λ e.
    let z : a ≡ 0 → ⊥ = eqb-false a 0 e in
    by_cond (AndIs a b) (eqb a 1 || eqb a b) (λ e. (z, e))
    (λ e.
    let f = neither (eqb a 1) (eqb a b) e in
    let o : a ≡ 1 → ⊥ = eqb-false a 1 f.0 in
    let d : a ≡ b → ⊥ = eqb-false a b f.1 in
    by_cond (AndIs a b) (eqb a (neg b))
    (λ e. let c : a ≡ neg b = eqb-true a (neg b) e in (omega arith, omega arith))
    (λ e. let c : a ≡ neg b → ⊥ = eqb-false a (neg b) e in (omega arith, omega arith))))

-- ---- an XOR of a ≤ b, both even

pub xor_is : (a b : ℕ) → a ≤ b → odd a ≡ false → odd b ≡ false → XorIs a b (xor_case a b)
unfolding xor_case
xor_is a b h p q =
    let m : a % 2 ≡ 0 = bit_odd a ∙ ap bit p in
    let n : b % 2 ≡ 0 = bit_odd b ∙ ap bit q in
    by_cond (XorIs a b) (eqb a 0) (λ e. eqb-true a 0 e)
    (λ e.
    let z : a ≡ 0 → ⊥ = eqb-false a 0 e in
    by_cond (XorIs a b) (eqb a b) (λ e. (omega arith, eqb-true a b e))
    (λ e. let c : a ≡ b → ⊥ = eqb-false a b e in (omega arith, omega arith)))

-- ---- either

-- false, the higher of the two, or their key
pub by_made : (P : Made → Type 0) (k : Bool) (a b : ℕ) → a ≤ b → k && odd a ≡ false → k && odd b ≡ false
    → P (is 0) → P (is b) → (2 ≤ a → net_of a < net_of b → P (key a b)) → P (made k a b)
by_made P false a b h e d z r f = go (and_case a b) (and_is a b h)
  where
    go : (c : AndCase) → AndIs a b c → P (and_made c a b)
    go nil i = z
    go pass i = r
    go opp i = z
    go pair i = f i.0 i.1
by_made P true a b h e d z r f = go (xor_case a b) (xor_is a b h e d)
  where
    go : (c : XorCase) → XorIs a b c → P (xor_made c a b)
    go pass i = r
    go same i = z
    go pair i = f i.0 i.1
