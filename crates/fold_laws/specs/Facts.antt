-- All that is known of the first pass's table, T1 to T4, as one record. Nothing else is used of the first pass, neither where forms are
-- compared nor in the second pass: another table need only meet this record.
use Prim.Native.Nat.{ℕ, suc, ◌+◌, ◌≤◌, ◌<◌}
use Rattle.std.specs.Prelude.{◌≡◌, Bool, false, ◌&&◌, length}
use mathlib.Core.List.{List, [], ◌∷◌}
use Rattle.model.specs.Nets.{Gate, net_of, odd}
use Rattle.model.specs.Clauses.{positive, neg}
use Rattle.laws.specs.Pairs.{is_xor}
use Rattle.fold_laws.specs.Signs.{signed}
use Rattle.fold_laws.specs.Cases.{Made}
use Rattle.fold_laws.specs.Cases.Made.{is, key}
use Rattle.fold_laws.specs.Table.{Entry, kind_of, at, rep_of, ordered, part, sign_of}
use Rattle.fold_laws.specs.Entries.{NoneBelow}

-- ---- the record

-- T1: representatives of the nets below N. A representative represents itself, and so does every literal over its net.
pub record Laws (t : List Entry) (N : ℕ) : Type 0 where
  pub bottom : rep_of t 0 ≡ 0
  pub flip : (l : ℕ) → rep_of t (neg l) ≡ neg (rep_of t l)
  pub down : (l : ℕ) → net_of l < N → net_of (rep_of t l) ≤ net_of l
  pub idem : (l : ℕ) → net_of l < N → rep_of t (rep_of t l) ≡ rep_of t l
  pub fixed : (l : ℕ) → net_of l < N → net_of (rep_of t l) ≡ net_of l → rep_of t l ≡ l

-- T2, T3: the literal n stands for the AND or XOR of a, b: its representative is the core of the first gate that has this key
pub record Keyed (t : List Entry) (first : ℕ) (k : Bool) (n a b : ℕ) : Type 0 where
  pub from : first ≤ net_of (rep_of t n)
  pub above : net_of b < net_of (rep_of t n)
  pub kind : (at t (net_of (rep_of t n))).kind ≡ kind_of k
  pub ka : (at t (net_of (rep_of t n))).ka ≡ a
  pub kb : (at t (net_of (rep_of t n))).kb ≡ b
  pub core : (at t (net_of (rep_of t n))).core ≡ rep_of t n
  pub none : NoneBelow t k a b (net_of (rep_of t n))

-- what n stands for, by what two representatives make
abbrev pub Stands : List Entry → ℕ → Bool → ℕ → Made → Type 0
Stands t first k n (is r) = rep_of t n ≡ r
Stands t first k n (key a b) = Keyed t first k n a b

-- T4 of net v, which is the AND or XOR of x, y: signs are taken off an XOR's operands and put on its net
abbrev pub GateFact : List Entry → ℕ → ℕ → Bool → ℕ → ℕ → Type 0
GateFact t first v k x y =
    Stands t first k (signed (sign_of k (rep_of t x) (rep_of t y)) (positive v)) (ordered k (part k (rep_of t x)) (part k (rep_of t y)))

abbrev pub GateFacts : List Entry → ℕ → ℕ → List Gate → Type 0
GateFacts t first v [] = Unit {0}
GateFacts t first v (g ∷ gs) = GateFact t first v (is_xor g.op) g.x g.y × GateFacts t first (suc v) gs

-- of n inputs and the gates gs
pub record Facts (t : List Entry) (n : ℕ) (gs : List Gate) : Type 0 where
  pub laws : Laws t (1 + n + length gs)
  pub inputs : (l : ℕ) → net_of l ≤ n → rep_of t l ≡ l
  pub gates : GateFacts t (1 + n) (1 + n) gs

-- ---- operands

-- a representative over a net below v, with no sign for an XOR
pub record Operand (t : List Entry) (v : ℕ) (k : Bool) (l : ℕ) : Type 0 where
  pub below : net_of l < v
  pub own : rep_of t l ≡ l
  pub plain : k && odd l ≡ false
