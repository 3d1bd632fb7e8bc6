-- All lines of the second pass (`emit`): the gates' lines by the loop, then the outputs' tree.
use Prim.Native.Nat.{ℕ, ◌+◌}
use Rattle.std.specs.Prelude.{replicate}
use mathlib.Core.List.{List, [], ◌∷◌, ◌++◌}
use Rattle.std.proofs.Math.ListN.{length}
use Rattle.model.specs.Nets.{Netlist}
use Rattle.model.specs.Miter.{first_gate, first_z, first_w, gates_of, z_gates}
use Rattle.emit_laws.specs.Replay.{Resolution}
use Rattle.emit_laws.specs.Trees.{Tree, lay}
use Rattle.emit_laws.specs.Place.{first_z_clause, first_w_clause, last_number}
use Rattle.emit_laws.specs.Gates.{link_of}
use Rattle.emit_laws.specs.Loop.{Done, loop}
use Rattle.emit_laws.specs.Outputs.{outs_tree}

-- ---- all lines

-- of i inputs: net 0 is linked by clause 1, and an input stands for itself
abbrev pub start_links : ℕ → List (List ℕ)
start_links i = (1 ∷ 0 ∷ []) ∷ replicate i []

-- the gates of both lists
unfoldable pub gate_lines : (ℕ → ℕ) → Netlist → Netlist → Done
gate_lines R a b = loop R (start_links a.inputs) (last_number a b) 2 (first_gate a) (gates_of a b)

-- the outputs
unfoldable pub last_tree : (ℕ → ℕ) → List (List ℕ) → Netlist → Netlist → Tree
last_tree R links a b =
    outs_tree R (link_of links) (first_w a b) (first_w_clause a b) (first_z a b) (first_z_clause a b) (last_number a b) (z_gates a b)

-- both
unfoldable pub emit : (ℕ → ℕ) → Netlist → Netlist → List Resolution
emit R a b =
    let r : Done = gate_lines R a b in
    r.lines ++ lay (last_number a b + length r.lines) (last_tree R r.links a b)

-- ---- what holds of them

-- how many nets both lists have
abbrev pub net_count : Netlist → Netlist → ℕ
net_count a b = first_gate a + length (gates_of a b)
