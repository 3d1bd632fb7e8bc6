-- What the second pass knows of the nets: the table of the first, and the numbers of clauses that were kept so far.
use Rattle.std.specs.Prelude.{ℕ, ◌<◌, ◌≤◌, ◌≡◌, List, [], length, get_or}
use Rattle.model.specs.Nets.{net_of}
use Rattle.fold_laws.specs.Table.{Entry, rep_of}
use Rattle.fold_laws.specs.Facts.{Laws}
use Rattle.emit_laws.specs.Gates.{Literals, ClauseNumbers}
use Rattle.table.specs.Rows.{HoldsTable}
use Rattle.table.specs.Links.{Keeps}
use Rattle.derivation.specs.declared.nets.Nets.{Nets}
use Rattle.derivation.specs.declared.gates.DefinedGate.{DefinedGate}

-- one slice holds the whole table t, and another the numbers of clauses of the nets done
pub record Known (table kept : List ℕ) (t : List Entry) (links : List (List ℕ)) : Type 0 where
  pub rows : HoldsTable table t
  pub numbers : Keeps kept links
  pub nets : length links ≤ length t
  pub laws : Laws t (length t)

-- P of every table and all numbers of clauses that the slices hold
abbrev pub OfNets : Nets → (List Entry → List (List ℕ) → Type 0) → Type 0
OfNets nets P = (t : List Entry) (links : List (List ℕ)) → Known nets.table.now nets.links.now t links → P t links

-- ---- a gate

abbrev pub literals_of : DefinedGate → Literals
literals_of d = record { n = d.n.code; x = d.x.code; y = d.y.code }

abbrev pub numbers_of : DefinedGate → ClauseNumbers
numbers_of d = record { a = d.a; b = d.b; c = d.c; d = d.d }

-- the gate of the next net, which reads nets that are done
pub record Next (t : List Entry) (links : List (List ℕ)) (l : Literals) : Type 0 where
  pub n : net_of l.n ≡ length links
  pub x : net_of l.x < length links
  pub y : net_of l.y < length links
  pub inside : length links < length t

-- P of them where d is the gate of the next net
abbrev pub OfGate : Nets → DefinedGate → (List Entry → List (List ℕ) → Type 0) → Type 0
OfGate nets d P = OfNets nets (λ t links. Next t links (literals_of d) → P t links)

-- the numbers kept of the net that the literal n stands for
abbrev pub kept_of : List Entry → List (List ℕ) → ℕ → List ℕ
kept_of t links n = get_or links (net_of (rep_of t n)) []
