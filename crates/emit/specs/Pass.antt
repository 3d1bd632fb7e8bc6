-- What is done for one gate, and for all gates of both lists.
use Rattle.std.specs.Prelude.{ℕ, ◌+◌, ◌≡◌, Bool, List, [], ◌∷◌, ◌++◌, length}
use Rattle.model.specs.Answers.{filled}
use Rattle.model.specs.Nets.{Gate, Netlist, odd}
use Rattle.model.specs.Miter.{first_gate, gates_of, first_gate_clause}
use Rattle.fold_laws.specs.Table.{Entry, rep_of}
use Rattle.fold_laws.specs.Engine.{both_table}
use Rattle.emit_laws.specs.Replay.{Resolution}
use Rattle.emit_laws.specs.Trees.{Tree, nums, lays}
use Rattle.emit_laws.specs.Gates.{Literals, link_of, normal, normal_numbers, trees}
use Rattle.emit_laws.specs.Place.{clause_count}
use Rattle.emit_laws.specs.Loop as model
use Rattle.emit_laws.specs.Loop.{slots, sign, gate_trees, loop}
use Rattle.emit_laws.specs.Emit.{start_links, emit}
use Rattle.table.specs.Links.{link_width}
use Rattle.derivation.specs.declared.lines.Proof.{Proof}
use Rattle.derivation.specs.declared.gates.DefinedGate.{DefinedGate}
use Rattle.derivation.specs.Emission.{Adds}
use Rattle.derivation.specs.Known.{Known, literals_of, numbers_of, kept_of}

-- the lines of a gate's trees, and the numbers to be kept of it: two links are exchanged where the trees were made for the odd literal
pub record EmitsGate (s r : Proof) (four : List ℕ) (turned : Bool) (ts : List Tree) : Type 0 where
  pub adds : Adds s r (lays s.clauses ts)
  pub numbers : four ≡ filled link_width (slots turned (nums s.clauses ts))

-- a gate's literals in normal form
abbrev normal_literals : List Entry → Bool → DefinedGate → Literals
normal_literals t o d = normal (rep_of t) o (literals_of d)

-- whether its trees are made for an odd literal, and the trees
abbrev pub normal_odd : List Entry → Bool → DefinedGate → Bool
normal_odd t o d = odd (normal_literals t o d).n

abbrev pub normal_trees : List Entry → List (List ℕ) → Bool → DefinedGate → List Tree
normal_trees t links o d =
    trees (rep_of t) (link_of links) o (normal_literals t o d) (normal_numbers (rep_of t) o (literals_of d) (numbers_of d))
    (kept_of t links (normal_literals t o d).n)

-- gate g of net v, whose clauses begin with number k, and those behind it with n
pub record GateDone (s r : Proof) (table kept : List ℕ) (t : List Entry) (links : List (List ℕ)) (k n v : ℕ) (g : Gate) : Type 0 where
  pub adds : Adds s r (lays s.clauses (gate_trees (rep_of t) links k v g))
  pub known : Known table kept t (links ++ (slots (sign (rep_of t) v g) (nums s.clauses (gate_trees (rep_of t) links k v g)) ∷ []))
  pub next : n ≡ k + clause_count g.op

-- the gates of both lists, where n clauses are there before
abbrev pub gates_done : List Entry → Netlist → Netlist → ℕ → model.Done
gates_done t a b n = loop (rep_of t) (start_links a.inputs) n first_gate_clause (first_gate a) (gates_of a b)

pub record AllDone (s r : Proof) (table kept : List ℕ) (t : List Entry) (a b : Netlist) : Type 0 where
  pub adds : Adds s r (gates_done t a b s.clauses).lines
  pub known : Known table kept t (gates_done t a b s.clauses).links
  pub nets : length (gates_done t a b s.clauses).links ≡ first_gate a + length (gates_of a b)

-- all lines for two lists, from their table
abbrev pub lines_of : Netlist → Netlist → List Resolution
lines_of a b = emit (rep_of (both_table a b)) a b
