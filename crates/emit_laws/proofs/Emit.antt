-- All lines of the second pass (`emit`): the gates' lines by the loop, then the outputs' tree. For any table that the facts hold of and
-- that gives one representative to each pair of outputs, they refute the miter, and are few enough.
use Prim.Native.Nat.{ℕ, suc, ◌+◌, ◌-◌, ◌≤◌, ◌<◌}
use Rattle.std.specs.Prelude.{◌≡◌}
use Rattle.std.proofs.Common.{sym, ap, ◌∙◌, true≢false, length-append}
use Rattle.std.proofs.Math.Path.{subst}
use mathlib.Core.List.{List, [], ◌∷◌}
use native.Mathlib.Omega.{arith}
use Rattle.std.proofs.Math.ListN.{length}
use Rattle.std.proofs.lemmas.List.{length-replicate}
use Rattle.model.specs.Nets.{Gate, Netlist, net_of}
use Rattle.model.specs.Clauses.{Clause, positive, negative, neg, all_clauses}
use Rattle.model.specs.Miter.{ws, first_gate, first_z, first_w, gates_of, z_gates, miter}
use Rattle.model.specs.Engine.{line_bound}
use Rattle.laws.specs.Bools.{below_or_at}
use Rattle.laws.specs.Pairs.{Pair}
use Rattle.laws.specs.MiterOrder.{last, length_gates, length_z, z_at, ordered_gates, plain_gates}
use Rattle.fold_laws.specs.Table.{Entry, rep_of}
use Rattle.fold_laws.specs.Facts.{Laws, Facts}
use Rattle.emit_laws.specs.Replay.{Has, Resolution, after, Fine, Refutes}
use Rattle.emit_laws.proofs.Replay.{extends_self, fine_append, after_append, length_after, extends_after}
use Rattle.emit_laws.specs.Trees.{Tree, size, num, lay, Derives, Laid}
use Rattle.emit_laws.proofs.Trees.{length_lay, laid}
use Rattle.emit_laws.specs.Subst.{unless_false, Ready}
use Rattle.emit_laws.proofs.Subst.{owned}
use Rattle.emit_laws.specs.Place.{first_z_clause, first_w_clause, last_number, Block}
use Rattle.emit_laws.proofs.Place.{miter_count, miter_at}
use Rattle.emit_laws.specs.Gates.{link_of, Held}
use Rattle.emit_laws.proofs.Gates.{ready}
use Rattle.emit_laws.specs.Loop.{Ran}
use Rattle.emit_laws.proofs.Loop.{over_net, placed, loop_ok}
use Rattle.emit_laws.specs.Outputs.{outs_tree, AllOneRep}
use Rattle.emit_laws.proofs.Outputs.{size_outs, outs_ok}
use Rattle.emit_laws.specs.Emit.{start_links, gate_lines, last_tree, emit, net_count}

-- ---- before the first gate

start_held : (T : List Entry) (N i : ℕ) (K : List Clause) → Laws T N → ((l : ℕ) → net_of l ≤ i → rep_of T l ≡ l)
    → Has K 1 (negative 0 ∷ []) → Held T (1 + i) K (start_links i) (1 + i)
unfolding unless_false
start_held T N i K laws inputs h =
    record {
      long = rw (length-replicate {A = List ℕ} i []) (omega arith);
      link = λ l a o r.
          below_or_at 0 (net_of l) (omega arith)
          (λ p. absurd (true≢false (sym (owned (rep_of T) l (inputs l (omega arith)) (omega arith)) ∙ o)))
          (λ z. over_net 0 l Linked (sym z) (λ _. rw laws.bottom h) (λ q. absurd (q true_rep)) r);
      kept = λ l o a b. absurd (omega arith);
    }
  where
    Linked : ℕ → Type 0
    Linked l = (rep_of T l ≡ 1 → ⊥) → Has K (link_of (start_links i) l) (neg l ∷ unless_false (rep_of T l))

    -- over net 0 there are false and true
    true_rep : rep_of T (neg 0) ≡ 1
    true_rep = laws.flip 0 ∙ ap neg laws.bottom

-- ---- the outputs, of which there are some

-- the tree ends in a line of its own
num_outs : (R E : ℕ → ℕ) (n t kw z kz c : ℕ) (gs : List Gate) → 0 < length gs
    → (num n (outs_tree R E t kw z kz c gs) ≡ n + size (outs_tree R E t kw z kz c gs)) × (0 < size (outs_tree R E t kw z kz c gs))
unfolding outs_tree
num_outs R E n t kw z kz c [] h = absurd (omega arith)
num_outs R E n t kw z kz c (g ∷ gs) h = (omega arith, omega arith)

-- its clause is empty
derives_outs : (T : List Entry) (N : ℕ) → Laws T N → (E : ℕ → ℕ) (K : List Clause)
    → ((l : ℕ) → net_of l < N → Ready (rep_of T) E K l) → (gs : List Gate) (t kw z kz c o : ℕ) → length gs ≡ o → 0 < o
    → Block K kz (all_clauses z gs) → Block K kw (all_clauses t (ws (o - 1) t z (suc z))) → Has K c (positive (last (o - 1) t z) ∷ [])
    → AllOneRep (rep_of T) N gs → N ≤ z → z + o ≤ t → Derives K (outs_tree (rep_of T) E t kw z kz c gs) []
derives_outs T N laws E K r [] t kw z kz c o q h p w f e n i = absurd (omega arith)
derives_outs T N laws E K r (g ∷ gs) t kw z kz c o q h p w f e n i =
    let m : o - 1 ≡ length gs = omega arith in
    outs_ok T N laws E K r g gs t kw z kz c p (rw m at w) (rw m at f) e n (omega arith)

-- ---- what holds of them

module _ (T : List Entry) (a b : Netlist) (ab : Pair a b) (f : Facts T a.inputs (gates_of a b))
    (same : AllOneRep (rep_of T) (net_count a b) (z_gates a b)) where
  abbrev N : ℕ
  N = net_count a b

  abbrev K : List Clause
  K = miter a b

  abbrev gs : List Gate
  gs = gates_of a b

  abbrev lines : List Resolution
  lines = (gate_lines (rep_of T) a b).lines

  abbrev links : List (List ℕ)
  links = (gate_lines (rep_of T) a b).links

  abbrev tree : Tree
  tree = last_tree (rep_of T) links a b

  -- the clauses behind the gates' lines
  abbrev L : List Clause
  L = after K lines

  ran : Ran T N (first_gate a) f.laws K (gate_lines (rep_of T) a b) N (length gs)
  unfolding gate_lines
  ran =
      let s = miter_at a b ab K (extends_self K) in
      let r =
      loop_ok T N (first_gate a) f.laws gs K (start_links a.inputs) 2 (first_gate a)
      (start_held T N a.inputs K f.laws f.inputs s.first)
      (placed 2 (first_gate a) gs (plain_gates a b ab) s.gates) f.gates (ordered_gates a b ab) (omega arith) (omega arith) in
      rw (miter_count a b ab) at r

  derives : Derives L tree []
  unfolding last_tree
  derives =
      let s = miter_at a b ab L (extends_after K lines) in
      let z = z_at a b ab in
      derives_outs T N f.laws (link_of links) L
      (λ l h. ready T N (first_gate a) L links N f.laws ran.held (omega arith) l (omega arith))
      (z_gates a b) (first_w a b) (first_w_clause a b) (first_z a b) (first_z_clause a b) (last_number a b) (length a.outs)
      (length_z a b ab) ab.left.some s.z s.w s.final same (omega arith) (omega arith)

  abbrev steps : List Resolution
  steps = emit (rep_of T) a b

  length_l : length L ≡ last_number a b + length lines
  length_l = length_after K lines ∙ ap (λ (n : ℕ). n + length lines) (miter_count a b ab)

  end_laid : Laid L tree []
  end_laid = laid L tree [] derives

  fine : Fine K steps
  unfolding emit
  fine =
      fine_append K lines (lay (last_number a b + length lines) tree) ran.fine
      (subst (λ (n : ℕ). Fine L (lay n tree)) length_l end_laid.fine)

  tree_num : (n : ℕ) → (num n tree ≡ n + size tree) × (0 < size tree)
  unfolding last_tree
  tree_num n = num_outs (rep_of T) (link_of links) n _ _ _ _ _ (z_gates a b) (rw (length_z a b ab) ab.left.some)

  length_steps : length steps ≡ length lines + size tree
  unfolding emit
  length_steps = rw (length-append, length_lay)

  -- the clause of the outputs' tree is the last one, and empty
  ends : Has (after K steps) (length K + length steps) []
  unfolding emit
  ends =
      let n : ℕ = last_number a b + length lines in
      let h : Has (after L (lay n tree)) (num n tree) [] =
      subst (λ (m : ℕ). Has (after L (lay m tree)) (num m tree) []) length_l end_laid.has in
      let e : num n tree ≡ length K + length steps = (tree_num n).0 ∙ omega (arith, length_steps, miter_count a b ab) in
      rw (after_append K lines (lay n tree)) (subst (λ (m : ℕ). Has (after L (lay n tree)) m []) e h)

  -- The emitted lines refute the miter.
  pub refutes : Refutes (miter a b) (emit (rep_of T) a b)
  refutes = record { fine = fine; some = omega (arith, length_steps, tree_num 0); ends = ends }

  -- They are within the bound.
  pub few : length (emit (rep_of T) a b) ≤ line_bound a b
  unfolding last_tree
  few =
      rw length_steps
      (omega (
        arith,
        ran.few,
        length_gates a b ab,
        length_z a b ab,
        size_outs (rep_of T) (link_of links) (first_w a b) (first_w_clause a b) (first_z a b) (first_z_clause a b) (last_number a b) (z_gates a b),
      ))
