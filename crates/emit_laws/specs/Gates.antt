-- One gate: its literals in normal form (an XOR's operands with representatives that have no sign, representatives rising), the numbers of
-- its clauses exchanged with them, its trees, and what is to be kept of its net (`Held`).
use Rattle.std.specs.Prelude.{ℕ, ◌%◌, ◌≤◌, ◌<◌, ◌≡◌, ◌&&◌, List, [], ◌∷◌, length, get_or, leb}
use Rattle.std.proofs.Math.Bool.{Bool, true, false}
use Rattle.model.specs.Nets.{net_of, odd, xorb}
use Rattle.model.specs.Clauses.{Clause, positive, neg}
use Rattle.fold_laws.specs.Signs.{signed}
use Rattle.fold_laws.specs.Cases.{and_case, xor_case}
use Rattle.fold_laws.specs.Table.{Entry, at, rep_of, kind_of}
use Rattle.emit_laws.specs.Replay.{Has}
use Rattle.emit_laws.specs.Trees.{Tree, Met, All₂}
use Rattle.emit_laws.specs.Trees.Tree.{old}
use Rattle.emit_laws.specs.Subst.{unless_false, own, And3, Xor4}
use Rattle.emit_laws.specs.CaseTrees.{claims, and_trees, xor_trees}

-- ---- a gate's literals and the numbers of its clauses

-- n is the gate of x and y
pub record Literals : Type 0 where
  pub n : ℕ
  pub x : ℕ
  pub y : ℕ

-- those of net v
abbrev pub literals : ℕ → ℕ → ℕ → Literals
literals v x y = record { n = positive v; x = x; y = y }

-- in the order of the miter; an AND has no fourth
pub record ClauseNumbers : Type 0 where
  pub a : ℕ
  pub b : ℕ
  pub c : ℕ
  pub d : ℕ

-- the clauses of an AND, of an XOR, over its operands as they are
abbrev pub Base : List Clause → Bool → Literals → ClauseNumbers → Type 0
Base K false l k = And3 K l.n l.x l.y (old k.a) (old k.b) (old k.c)
Base K true l k = Xor4 K l.n l.x l.y (old k.a) (old k.b) (old k.c) (old k.d)

-- operands exchanged, unless they are in order
abbrev pub order : Bool → Literals → Literals
order true l = l
order false l = record { n = l.n; x = l.y; y = l.x }

abbrev pub order_numbers : Bool → Bool → ClauseNumbers → ClauseNumbers
order_numbers o true k = k
order_numbers false false k = record { a = k.b; b = k.a; c = k.c; d = k.d }
order_numbers true false k = record { a = k.a; b = k.c; c = k.b; d = k.d }

-- operands of an XOR complemented where a, where b, and the gate with them
abbrev pub turn : Bool → Bool → Literals → Literals
turn a b l = record { n = signed (xorb a b) l.n; x = signed a l.x; y = signed b l.y }

abbrev pub turn_numbers : Bool → Bool → ClauseNumbers → ClauseNumbers
turn_numbers false false k = k
turn_numbers true false k = record { a = k.c; b = k.d; c = k.a; d = k.b }
turn_numbers false true k = record { a = k.b; b = k.a; c = k.d; d = k.c }
turn_numbers true true k = record { a = k.d; b = k.c; c = k.b; d = k.a }

-- ---- normal form

module _ (R : ℕ → ℕ) where
  -- an XOR's operands complemented so that their representatives have no sign
  abbrev pub unsigned : Bool → Literals → Literals
  unsigned o l = turn (o && odd (R l.x)) (o && odd (R l.y)) l

  abbrev pub in_order : Literals → Bool
  in_order l = leb (R l.x) (R l.y)

  unfoldable pub normal : Bool → Literals → Literals
  normal o l = order (in_order (unsigned o l)) (unsigned o l)

  unfoldable pub normal_numbers : Bool → Literals → ClauseNumbers → ClauseNumbers
  normal_numbers o l k = order_numbers o (in_order (unsigned o l)) (turn_numbers (o && odd (R l.x)) (o && odd (R l.y)) k)

  -- the trees of literals in normal form; D: the numbers kept of the net that the gate stands for
  unfoldable pub trees : (ℕ → ℕ) → Bool → Literals → ClauseNumbers → List ℕ → List Tree
  trees E false l k D =
      and_trees R E (and_case (R l.x) (R l.y)) l.n l.x l.y (old k.a) (old k.b) (old k.c) D
  trees E true l k D =
      xor_trees R E (xor_case (R l.x) (R l.y)) l.n l.x l.y (old k.a) (old k.b) (old k.c) (old k.d) D

-- literals of gate v
pub record Over (v : ℕ) (l : Literals) : Type 0 where
  pub n : net_of l.n ≡ v
  pub x : net_of l.x < v
  pub y : net_of l.y < v

-- ---- what is kept of the nets below v

-- the number of the clause that links l
abbrev pub link_of : List (List ℕ) → ℕ → ℕ
link_of links l = get_or (get_or links (net_of l) []) (l % 2) 0

-- links of the nets that stand for others, clauses over the key of the gates that stand for themselves
pub record Held (T : List Entry) (first : ℕ) (K : List Clause) (links : List (List ℕ)) (v : ℕ) : Type 0 where
  pub long : length links ≡ v
  pub link : (l : ℕ) → net_of l < v → own (rep_of T) l ≡ false → (rep_of T l ≡ 1 → ⊥)
      → Has K (link_of links l) (neg l ∷ unless_false (rep_of T l))
  pub kept : (l : ℕ) (o : Bool) → first ≤ net_of l → net_of l < v → rep_of T l ≡ l → (at T (net_of l)).kind ≡ kind_of o
      → (at T (net_of l)).core ≡ l → All₂ (Met K) (get_or links (net_of l) []) (claims o l (at T (net_of l)).ka (at T (net_of l)).kb)
