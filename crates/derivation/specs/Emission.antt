-- What an emitting function does: the lines of a derivation stand behind those that the proof has.
use Rattle.std.specs.Prelude.{ℕ, ◌+◌, ◌*◌, ◌≤◌, ◌≡◌, ◌≢◌, List, [], ◌∷◌, ◌++◌, length}
use Rattle.model.specs.Limits.{most_clauses, proof_line_bytes}
use Rattle.model.specs.Answers.{filled}
use Rattle.emit_laws.specs.Replay.{Resolution}
use Rattle.emit_laws.specs.Trees.{Tree, num, lay, nums, lays}
use Rattle.emit_laws.specs.Text.{proof_text}
use Rattle.table.specs.Links.{link_width}
use Rattle.derivation.specs.declared.lines.Proof.{Proof}
use Rattle.derivation.specs.declared.gates.DerivedGate.{DerivedGate}
use Rattle.derivation.specs.declared.gates.DerivedGate.TheVariants.{Linked, Own}

-- the bytes are these lines, with zeros behind
abbrev pub Written : List ℕ → List Resolution → Type 0
Written bytes rs = bytes ≡ filled (length bytes) (proof_text rs)

-- so many lines more have room, and their clauses have numbers
pub record Room (at : Proof) (more : ℕ) : Type 0 where
  pub bytes_for_all : proof_line_bytes * (at.lines + more) ≤ length at.bytes.now
  pub numbers : at.clauses + more ≤ most_clauses

-- at most so many lines more, in the same bytes
pub record Few (at : Proof) (more : ℕ) (r : Proof) : Type 0 where
  pub same_bytes : r.bytes.ghost_name ≡ at.bytes.ghost_name
  pub length_kept : length r.bytes.now ≡ length at.bytes.now
  pub lines : r.lines ≤ at.lines + more
  pub clauses : r.clauses ≤ at.clauses + more

-- these lines were written behind those that stand, and their clauses counted
pub record Adds (s r : Proof) (more : List Resolution) : Type 0 where
  pub written : (rs : List Resolution) → Written s.bytes.now rs → length rs ≡ s.lines → Written r.bytes.now (rs ++ more)
  pub lines : r.lines ≡ s.lines + length more
  pub clauses : r.clauses ≡ s.clauses + length more

-- the lines of the tree t were written, and c is the number of its clause
pub record Emits (s r : Proof) (c : ℕ) (t : Tree) : Type 0 where
  pub adds : Adds s r (lay s.clauses t)
  pub number : c ≡ num s.clauses t

-- ---- a gate's trees

-- the numbers of the clauses that a gate's trees derive: two are links, and others, up to four, are those over its key
abbrev pub Numbers : DerivedGate → List ℕ → Type 0
Numbers (Linked a b) ns = ns ≡ a ∷ b ∷ []
Numbers (Own four) ns = (four ≡ filled link_width ns) × (length ns ≢ 2)

-- the same of some trees one after the other, and the numbers of their clauses
pub record EmitsAll (s r : Proof) (g : DerivedGate) (ts : List Tree) : Type 0 where
  pub adds : Adds s r (lays s.clauses ts)
  pub numbers : Numbers g (nums s.clauses ts)
