-- The parts of a gate's derivations, as the functions emit them: each case as the definition has it, and the halves of an AND's two links
-- to an earlier gate with its key, whose clauses have the numbers D.
use Rattle.std.specs.Prelude.{ℕ, Bool, List, [], ◌∷◌}
use Rattle.model.specs.Clauses.{neg}
use Rattle.fold_laws.specs.Cases.{AndCase, XorCase}
use Rattle.fold_laws.specs.Table.{Entry, rep_of}
use Rattle.emit_laws.specs.Trees.{Tree}
use Rattle.emit_laws.specs.Trees.Tree.{old}
use Rattle.emit_laws.specs.Subst.{subst2, imply_and}
use Rattle.emit_laws.specs.CaseTrees.{leaf, and_trees, xor_trees}
use Rattle.emit_laws.specs.Gates.{link_of, trees}
use Rattle.derivation.specs.declared.gates.DefinedGate.{DefinedGate}
use Rattle.derivation.specs.Known.{literals_of, numbers_of, kept_of}

module _ (t : List Entry) (links : List (List ℕ)) where
  -- the trees of a gate in normal form, of an XOR where o
  abbrev pub gate_trees : Bool → DefinedGate → List Tree
  gate_trees o d = trees (rep_of t) (link_of links) o (literals_of d) (numbers_of d) (kept_of t links d.n.code)

  -- clause c with the representatives of l and m
  abbrev pub over : ℕ → ℕ → ℕ → Tree
  over c l m = subst2 (rep_of t) (link_of links) (old c) l m

  -- ---- an AND

  abbrev pub and_case_trees : AndCase → DefinedGate → List Tree
  and_case_trees k d = and_trees (rep_of t) (link_of links) k d.n.code d.x.code d.y.code (old d.a) (old d.b) (old d.c) (kept_of t links d.n.code)

  abbrev pub and_own : DefinedGate → List Tree
  and_own d = over d.a d.x.code d.x.code ∷ over d.b d.y.code d.y.code ∷ over d.c (neg d.x.code) (neg d.y.code) ∷ []

  abbrev pub and_down : DefinedGate → List ℕ → Tree
  and_down d D = imply_and (over d.a d.x.code d.x.code) (over d.b d.y.code d.y.code) (leaf D 2) (rep_of t d.x.code) (rep_of t d.y.code)

  abbrev pub and_up : DefinedGate → List ℕ → Tree
  and_up d D = imply_and (leaf D 0) (leaf D 1) (over d.c (neg d.x.code) (neg d.y.code)) (rep_of t d.x.code) (rep_of t d.y.code)

  -- ---- an XOR

  abbrev pub xor_case_trees : XorCase → DefinedGate → List Tree
  xor_case_trees k d = xor_trees (rep_of t) (link_of links) k d.n.code d.x.code d.y.code (old d.a) (old d.b) (old d.c) (old d.d) (kept_of t links d.n.code)

  abbrev pub xor_own : DefinedGate → List Tree
  xor_own d =
      over d.a d.x.code d.y.code ∷ over d.b d.x.code (neg d.y.code) ∷ over d.c (neg d.x.code) d.y.code ∷ over d.d (neg d.x.code) (neg d.y.code) ∷ []
