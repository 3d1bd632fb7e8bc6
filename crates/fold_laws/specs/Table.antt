-- The first pass as a table over the nets: for each its representative, and the kind and key of the core that it is the first to have. A
-- gate's entry is made of those before it, as its form is; net 0 and the inputs represent themselves. Definitions only.
use Rattle.std.specs.Prelude.{ℕ, zero, suc, ◌+◌, Bool, true, false, ◌&&◌, cond, List, [], ◌∷◌, length, get_or, eqb, leb, ltb}
use Rattle.model.specs.Nets.{Gate, net_of, odd, xorb, grow}
use Rattle.model.specs.Clauses.{positive}
use Rattle.laws.specs.Pairs.{is_xor}
use Rattle.fold_laws.specs.Signs.{signed}
use Rattle.fold_laws.specs.Cases.{Made, made}
use Rattle.fold_laws.specs.Cases.Made.{is, key}

-- rep: the representative of the net's positive literal. core: the literal over the net that is the AND or XOR of its key ka, kb.
pub record Entry : Type 0 where
  pub rep : ℕ
  pub kind : ℕ
  pub ka : ℕ
  pub kb : ℕ
  pub core : ℕ

-- an AND, an XOR; net 0 and the inputs have kind 0
abbrev pub kind_of : Bool → ℕ
kind_of false = 2
kind_of true = 3

-- net 0 or an input
abbrev pub base_entry : ℕ → Entry
base_entry u = record { rep = positive u; kind = 0; ka = 0; kb = 0; core = 0 }

-- A gate that stands for another net's literal. It keeps no key, so that only the first gate that has a key is found by it.
abbrev pub linked_entry : Bool → ℕ → Entry
linked_entry k r = record { rep = r; kind = kind_of k; ka = 0; kb = 0; core = 0 }

-- the gate v, whose key is new
abbrev pub own_entry : Bool → ℕ → ℕ → ℕ → ℕ → Entry
own_entry k v a b core = record { rep = positive v; kind = kind_of k; ka = a; kb = b; core = core }

abbrev pub blank : Entry
blank = base_entry 0

abbrev pub at : List Entry → ℕ → Entry
at t u = get_or t u blank

-- a literal's representative: that of its net, with its sign
unfoldable pub rep_of : List Entry → ℕ → ℕ
rep_of t l = signed (odd l) (at t (net_of l)).rep

-- ---- a gate's entry

-- what two representatives make, put in order
unfoldable pub ordered : Bool → ℕ → ℕ → Made
ordered k a b = cond (leb a b) (made k a b) (made k b a)

-- of this kind, with this key
unfoldable pub fits : Bool → ℕ → ℕ → Entry → Bool
fits k a b e = eqb e.kind (kind_of k) && (eqb e.ka a && eqb e.kb b)

-- the first of n nets from u up that fits, or the one behind them
unfoldable pub find : Bool → ℕ → ℕ → List Entry → ℕ → ℕ → ℕ
find k a b t zero u = u
find k a b t (suc n) u = cond (fits k a b (at t u)) u (find k a b t n (suc u))

-- the next net's entry, where its literal of sign s is what was made
unfoldable pub enter : List Entry → Bool → Bool → Made → Entry
enter t k s (is r) = linked_entry k (signed s r)
enter t k s (key a b) =
    let u : ℕ = find k a b t (length t) 0 in
    cond (ltb u (length t))
    (linked_entry k (signed s (at t u).core))
    (own_entry k (length t) a b (signed s (positive (length t))))

-- 'signs are taken off first and combined': an XOR's operand, and the sign that two leave for its net
abbrev pub part : Bool → ℕ → ℕ
part k l = signed (k && odd l) l

abbrev pub sign_of : Bool → ℕ → ℕ → Bool
sign_of k p q = xorb (k && odd p) (k && odd q)

abbrev pub enter_gate : List Entry → Bool → ℕ → ℕ → Entry
enter_gate t k p q = enter t k (sign_of k p q) (ordered k (part k p) (part k q))

unfoldable pub entry : List Entry → Gate → Entry
entry t g = enter_gate t (is_xor g.op) (rep_of t g.x) (rep_of t g.y)

-- ---- the whole table

-- nets from k up that are no gates, n of them
unfoldable pub bases : ℕ → ℕ → List Entry
bases k zero = []
bases k (suc n) = base_entry k ∷ bases (suc k) n

-- net 0, n inputs and the gates
unfoldable pub table_of : ℕ → List Gate → List Entry
table_of n gs = grow entry (bases 0 (1 + n)) gs
