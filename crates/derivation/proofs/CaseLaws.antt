-- A gate's trees by the case of its representatives, and the net that it stands for.
use Prim.Native.Nat.{ℕ, ◌<◌}
use mathlib.Core.Path.{◌≡◌}
use mathlib.Core.Bool.{true, false}
use mathlib.Core.List.{List}
use native.Mathlib.Omega.{arith}
use lib.Dec.{eqb}
use lib.ListN.{length}
use Rattle.std.proofs.lemmas.Bool.{eqb-false}
use Rattle.model.specs.Nets.{net_of}
use Rattle.fold_laws.specs.Cases.{AndCase, and_case, XorCase, xor_case}
use Rattle.fold_laws.specs.Table.{Entry, rep_of}
use Rattle.fold_laws.proofs.Facts.{stands_below}
use Rattle.emit_laws.specs.Gates.{trees}
use Rattle.table.specs.Rows.{HoldsTable}
use Rattle.derivation.specs.declared.nets.Nets.{Nets}
use Rattle.derivation.specs.declared.lines.Proof.{Proof}
use Rattle.derivation.specs.declared.gates.DerivedGate.{DerivedGate}
use Rattle.derivation.specs.declared.gates.DefinedGate.{DefinedGate}
use Rattle.derivation.specs.Emission.{EmitsAll}
use Rattle.derivation.specs.Known.{Known, OfGate, Next, literals_of}
use Rattle.derivation.specs.Parts.{gate_trees, and_case_trees, xor_case_trees}

module _ (nets : Nets) (d : DefinedGate) {p q : ℕ} {s r : Proof} {k : DerivedGate}
    (x : (t : List Entry) → HoldsTable nets.table.now t → net_of d.x.code < length t → p ≡ rep_of t d.x.code)
    (y : (t : List Entry) → HoldsTable nets.table.now t → net_of d.y.code < length t → q ≡ rep_of t d.y.code) where
  pub and_case_lem : {c : AndCase} → and_case p q ≡ c → OfGate nets d (λ t links. EmitsAll s r k (and_case_trees t links c d))
      → OfGate nets d (λ t links. EmitsAll s r k (gate_trees t links false d))
  unfolding trees
  and_case_lem e m t links a h = rw (← x t a.rows (omega arith), ← y t a.rows (omega arith), e) (m t links a h)

  pub xor_case_lem : {c : XorCase} → xor_case p q ≡ c → OfGate nets d (λ t links. EmitsAll s r k (xor_case_trees t links c d))
      → OfGate nets d (λ t links. EmitsAll s r k (gate_trees t links true d))
  unfolding trees
  xor_case_lem e m t links a h = rw (← x t a.rows (omega arith), ← y t a.rows (omega arith), e) (m t links a h)

-- the net that a gate stands for, if it is another, is done
pub hit_done : {table kept : List ℕ} {t : List Entry} {links : List (List ℕ)} (d : DefinedGate) → Known table kept t links → Next t links (literals_of d)
    → eqb (rep_of t d.n.code) d.n.code ≡ false → net_of (rep_of t d.n.code) < length links
hit_done d k h e = omega (arith, stands_below k.laws d.n.code (omega arith) (eqb-false _ _ e))
