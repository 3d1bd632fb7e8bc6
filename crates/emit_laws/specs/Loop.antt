-- The gates one after the other: their trees and lines, and the numbers that are kept of each net.
use Prim.Native.Nat.{ℕ, suc, ◌+◌, ◌*◌, ◌≤◌}
use Rattle.std.specs.Prelude.{Bool, true, false, get_or}
use mathlib.Core.List.{List, [], ◌∷◌, ◌++◌}
use Rattle.std.proofs.Math.ListN.{length}
use Rattle.model.specs.Limits.{lines_per_gate}
use Rattle.model.specs.Nets.{Gate, net_of, odd}
use Rattle.model.specs.Clauses.{Clause}
use Rattle.laws.specs.Pairs.{is_xor}
use Rattle.fold_laws.specs.Table.{Entry}
use Rattle.fold_laws.specs.Facts.{Laws}
use Rattle.emit_laws.specs.Replay.{Resolution, after, Fine}
use Rattle.emit_laws.specs.Trees.{Tree, sizes, nums, lays}
use Rattle.emit_laws.specs.Place.{clause_count}
use Rattle.emit_laws.specs.Gates.{Literals, literals, ClauseNumbers, Base, normal, normal_numbers, trees, link_of, Held}

-- ---- the numbers kept of a net

-- Two numbers are the links of n and ¬n. Link l is to stand at l % 2, so they are exchanged where n is odd.
abbrev pub slots : Bool → List ℕ → List ℕ
slots false ns = ns
slots true [] = []
slots true (a ∷ []) = a ∷ []
slots true (a ∷ b ∷ []) = b ∷ a ∷ []
slots true (a ∷ b ∷ c ∷ ns) = a ∷ b ∷ c ∷ ns

-- ---- all gates

-- the literals of gate v
abbrev pub literals_of : ℕ → Gate → Literals
literals_of v g = literals v g.x g.y

-- the clauses of a gate, from k on
abbrev pub from : ℕ → ClauseNumbers
from k = record { a = k; b = suc k; c = suc (suc k); d = suc (suc (suc k)) }

-- gate v, with its clauses from k
unfoldable pub gate_trees : (ℕ → ℕ) → List (List ℕ) → ℕ → ℕ → Gate → List Tree
gate_trees R links k v g =
    let o : Bool = is_xor g.op in
    let m : Literals = normal R o (literals_of v g) in
    trees R (link_of links) o m (normal_numbers R o (literals_of v g) (from k)) (get_or links (net_of (R m.n)) [])

-- whether its trees are made for the odd literal
abbrev pub sign : (ℕ → ℕ) → ℕ → Gate → Bool
sign R v g = odd (normal R (is_xor g.op) (literals_of v g)).n

-- lines, and the numbers kept of each net
pub record Done : Type 0 where
  pub lines : List Resolution
  pub links : List (List ℕ)

-- the gates from v on, with their clauses from k on, where n clauses are there before
unfoldable pub loop : (ℕ → ℕ) → List (List ℕ) → ℕ → ℕ → ℕ → List Gate → Done
loop R links n k v [] = record { lines = []; links = links }
loop R links n k v (g ∷ gs) =
    let ts : List Tree = gate_trees R links k v g in
    let r : Done = loop R (links ++ (slots (sign R v g) (nums n ts) ∷ [])) (n + sizes ts) (k + clause_count g.op) (suc v) gs in
    record { lines = lays n ts ++ r.lines; links = r.links }

-- the clauses of these gates stand from k on
abbrev pub Placed : List Clause → ℕ → ℕ → List Gate → Type 0
Placed K k v [] = Unit {0}
Placed K k v (g ∷ gs) = Base K (is_xor g.op) (literals_of v g) (from k) × Placed K (k + clause_count g.op) (suc v) gs

module _ (T : List Entry) (N first : ℕ) (laws : Laws T N) where
  -- n gates up to net v were done over K
  pub record Ran (K : List Clause) (r : Done) (v n : ℕ) : Type 0 where
    pub fine : Fine K r.lines
    pub held : Held T first (after K r.lines) r.links v
    pub few : length r.lines ≤ lines_per_gate * n
