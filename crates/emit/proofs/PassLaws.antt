-- One gate after the other: the numbers that are kept of it, and what is left of the loop.
use Prim.Native.Nat.{ℕ, suc, ◌+◌, ◌*◌, ◌<◌}
use mathlib.Core.Path.{◌≡◌, refl, sym, ap, ◌∙◌, subst}
use mathlib.Core.Bool.{Bool, true}
use mathlib.Core.List.{List, [], ◌∷◌, ◌++◌, append_assoc, append-nil}
use native.Mathlib.Omega.{arith}
use native.Mathlib.Numerals.{add-one}
use lib.ListN.{length, drop, get_or, length-append, length-replicate, drop_of_length-le}
use lib.Seq.{drop-cons}
use Rattle.model.specs.Answers.{filled}
use Rattle.model.specs.Nets.{Gate, Netlist, net_of, odd, reads_below}
use Rattle.model.specs.Miter.{first_gate, gates_of, first_gate_clause}
use Rattle.laws.specs.Pairs as pairs
use Rattle.laws.specs.Pairs.{is_xor}
use Rattle.laws.specs.ListText.{ordered_at}
use Rattle.laws.specs.MiterOrder.{ordered_gates}
use Rattle.fold_laws.specs.Table.{Entry, rep_of}
use Rattle.fold_laws.specs.Facts.{Laws}
use Rattle.fold_laws.proofs.Facts.{table_facts}
use Rattle.fold_laws.specs.Engine.{both_table}
use Rattle.fold_laws.proofs.Entries.{length_table}
use Rattle.emit_laws.specs.Replay.{Resolution}
use Rattle.emit_laws.specs.Trees.{Tree, lay, sizes, nums, lays}
use Rattle.emit_laws.proofs.Trees.{length_lays}
use Rattle.emit_laws.specs.Gates.{Literals, ClauseNumbers, link_of, normal, normal_numbers, trees}
use Rattle.emit_laws.proofs.Gates.{over_normal}
use Rattle.emit_laws.specs.Place.{clause_count, last_number}
use Rattle.emit_laws.specs.Loop.{slots, from, gate_trees, sign, loop}
use Rattle.emit_laws.specs.Emit.{start_links, gate_lines, last_tree, emit}
use Rattle.listing.specs.Gates.{no_gate}
use Rattle.table.specs.Rows.{HoldsTable}
use Rattle.table.specs.Links.{link_width, Keeps}
use Rattle.derivation.specs.declared.gates.DefinedGate.{DefinedGate}
use Rattle.derivation.specs.declared.lines.Proof.{Proof}
use Rattle.derivation.specs.Emission.{Written, Adds}
use Rattle.derivation.proofs.EmitLaws.{adds_none, adds_then}
use Rattle.derivation.specs.Known.{Known, Next, literals_of, numbers_of, kept_of}
use Rattle.emit.specs.Pass.{EmitsGate, GateDone, AllDone, gates_done, normal_odd, normal_trees}

-- ---- a gate in normal form

module _ (t : List Entry) (links : List (List ℕ)) (o : Bool) (d m : DefinedGate) (is : literals_of m ≡ normal (rep_of t) o (literals_of d)) where
  pub next_normal : Next t links (literals_of d) → Next t links (literals_of m)
  next_normal n =
      let h = over_normal (rep_of t) (length links) o (literals_of d) (record { n = n.n; x = n.x; y = n.y }) in
      subst (Next t links) (sym is) (record { n = h.n; x = h.x; y = h.y; inside = n.inside })

  pub normal_is : {s r : Proof} {four : List ℕ} → numbers_of m ≡ normal_numbers (rep_of t) o (literals_of d) (numbers_of d)
      → EmitsGate s r four (odd m.n.code) (trees (rep_of t) (link_of links) o (literals_of m) (numbers_of m) (kept_of t links m.n.code))
      → EmitsGate s r four (normal_odd t o d) (normal_trees t links o d)
  normal_is {s} {r} {four} ns f =
      let g : Literals → ClauseNumbers → Type 0 = λ x y. EmitsGate s r four (odd x.n) (trees (rep_of t) (link_of links) o x y (kept_of t links x.n)) in
      subst (g (normal (rep_of t) o (literals_of d))) ns (subst (λ (x : Literals). g x (numbers_of m)) is f)

-- ---- the gate of a net

-- net v as the gate of x and y, with its clauses from k on
abbrev pub defined_at : ℕ → ℕ → ℕ → ℕ → DefinedGate
defined_at v x y k = record { n = record { code = 2 * v }; x = record { code = x }; y = record { code = y }; a = k; b = k + 1; c = k + 2; d = k + 3 }

numbers_from : (v x y k : ℕ) → numbers_of (defined_at v x y k) ≡ from k
numbers_from v x y k =
    let one : k + 1 ≡ suc k = omega arith in
    let two : k + 2 ≡ suc (suc k) = omega arith in
    let three : k + 3 ≡ suc (suc (suc k)) = omega arith in
    rw (one, two, three)

pub first_next : (t : List Entry) (links : List (List ℕ)) (v x y k : ℕ) → length links ≡ v → v < length t → net_of x < v → net_of y < v
    → Next t links (literals_of (defined_at v x y k))
first_next t links v x y k n h i j = record { n = omega arith; x = omega arith; y = omega arith; inside = omega arith }

-- the lines and numbers of the gate, and what is known with it
pub gate_done : (s r : Proof) (four table kept more : List ℕ) (t : List Entry) (links : List (List ℕ)) (k n v : ℕ) (g : Gate)
    → EmitsGate s r four (normal_odd t (is_xor g.op) (defined_at v g.x g.y k)) (normal_trees t links (is_xor g.op) (defined_at v g.x g.y k))
    → Known table kept t links → length links ≡ v → v < length t
    → ((ns : List ℕ) → four ≡ filled link_width ns → Keeps more (links ++ (ns ∷ []))) → n ≡ k + clause_count g.op
    → GateDone s r table more t links k n v g
unfolding gate_trees
gate_done s r four table kept more t links k n v g f known e h keeps next =
    let from_k = numbers_from v g.x g.y k in
    record {
      adds = rw from_k at f.adds;
      known =
          record {
            rows = known.rows;
            numbers = keeps _ (rw from_k at f.numbers);
            nets = rw length-append (omega arith);
            laws = known.laws;
          };
      next = next;
    }

-- ---- the gates done so far, and what is left

-- one gate, and then the others
step_lines : (R : ℕ → ℕ) (links : List (List ℕ)) (n k v : ℕ) (g : Gate) (gs : List Gate)
    → ((loop R links n k v (g ∷ gs)).lines
    ≡ lays n (gate_trees R links k v g)
    ++ (loop R (links ++ (slots (sign R v g) (nums n (gate_trees R links k v g)) ∷ [])) (n + sizes (gate_trees R links k v g)) (k + clause_count g.op) (suc v) gs).lines)
    × ((loop R links n k v (g ∷ gs)).links
    ≡ (loop R (links ++ (slots (sign R v g) (nums n (gate_trees R links k v g)) ∷ [])) (n + sizes (gate_trees R links k v g)) (k + clause_count g.op) (suc v) gs).links)
unfolding loop
step_lines R links n k v g gs = (refl, refl)

-- the whole of the gates is the lines that were written, and then those of the gates from i on, whose clauses begin with number k
pub record UpTo (s r : Proof) (table kept : List ℕ) (t : List Entry) (a b : Netlist) (i k : ℕ) : Type 0 where
  pub lines : List Resolution
  pub links : List (List ℕ)
  pub adds : Adds s r lines
  pub known : Known table kept t links
  pub long : length links ≡ first_gate a + i
  pub whole_lines : (gates_done t a b s.clauses).lines ≡ lines ++ (loop (rep_of t) links r.clauses k (first_gate a + i) (drop i (gates_of a b))).lines
  pub whole_links : (gates_done t a b s.clauses).links ≡ (loop (rep_of t) links r.clauses k (first_gate a + i) (drop i (gates_of a b))).links

module _ (s : Proof) (table : List ℕ) (t : List Entry) (a b : Netlist) where
  pub up_to_none : (kept : List ℕ) → Known table kept t (start_links a.inputs) → UpTo s s table kept t a b 0 first_gate_clause
  up_to_none kept known =
      let z : first_gate a + 0 ≡ first_gate a = omega arith in
      record {
        lines = [];
        links = start_links a.inputs;
        adds = adds_none s;
        known = known;
        long = rw (length-replicate {A = List ℕ} a.inputs []) (omega arith);
        whole_lines = rw z;
        whole_links = rw z;
      }

  pub up_to_next : (d r : Proof) (kept more : List ℕ) (i k n v : ℕ) (g : Gate) → i < length (gates_of a b) → g ≡ get_or (gates_of a b) i no_gate → v ≡ first_gate a + i
      → (u : UpTo s d table kept t a b i k) → GateDone d r table more t u.links k n v g → UpTo s r table more t a b (i + 1) n
  up_to_next d r kept more i k n v g h is e u f =
      let R = rep_of t in
      let gs = gates_of a b in
      let ts : List Tree = gate_trees R u.links k v g in
      let numbers : List ℕ = slots (sign R v g) (nums d.clauses ts) in
      let c : r.clauses ≡ d.clauses + sizes ts = f.adds.clauses ∙ ap (λ (m : ℕ). d.clauses + m) (length_lays d.clauses ts) in
      let behind : first_gate a + (i + 1) ≡ suc v = omega arith in
      let rest : drop i gs ≡ g ∷ drop (i + 1) gs = rw (add-one, is) (drop-cons gs i no_gate h) in
      let one = step_lines R u.links d.clauses k v g (drop (i + 1) gs) in
      record {
        lines = u.lines ++ lays d.clauses ts;
        links = u.links ++ (numbers ∷ []);
        adds = adds_then u.adds f.adds;
        known = f.known;
        long = rw (length-append, u.long) (omega arith);
        whole_lines = u.whole_lines ∙ rw (← e, rest, one.0, c, f.next, behind, append_assoc u.lines);
        whole_links = u.whole_links ∙ rw (← e, rest, one.1, c, f.next, behind);
      }

  -- the gate reads nets that are done
  pub reads_done : pairs.Pair a b → (i v : ℕ) (g : Gate) → i < length (gates_of a b) → g ≡ get_or (gates_of a b) i no_gate → v ≡ first_gate a + i → reads_below v g ≡ true
  reads_done ab i v g h is e = rw (e, is) (ordered_at (first_gate a) (gates_of a b) i no_gate (ordered_gates a b ab) h)

  pub up_to_all : (r : Proof) (kept : List ℕ) (i k : ℕ) → i ≡ length (gates_of a b) → UpTo s r table kept t a b i k → AllDone s r table kept t a b
  unfolding loop
  up_to_all r kept i k e u =
      let none : drop i (gates_of a b) ≡ [] = drop_of_length-le (gates_of a b) {i = i} (omega arith) in
      let l = rw none at u.whole_links in
      record {
        adds = rw (u.whole_lines, none, append-nil u.lines) u.adds;
        known = rw l u.known;
        nets = rw l (u.long ∙ ap (λ (n : ℕ). first_gate a + n) e);
      }

-- ---- gates and outputs

-- what is known of both lists' table before the first gate
pub known_first : (a b : Netlist) → pairs.Pair a b → (table kept : List ℕ) → HoldsTable table (both_table a b) → Keeps kept (start_links a.inputs)
    → Known table kept (both_table a b) (start_links a.inputs)
known_first a b ab table kept rows keeps =
    let n = length_table a.inputs (gates_of a b) in
    record {
      rows = rows;
      numbers = keeps;
      nets = rw (length-replicate {A = List ℕ} a.inputs []) (omega (arith, n));
      laws = subst (Laws (both_table a b)) (sym n) (table_facts a.inputs (gates_of a b) (ordered_gates a b ab)).laws;
    }

-- all lines of both lists: those of the gates, and then those of the outputs' tree
pub emitted : (s d r : Proof) (table kept : List ℕ) (t : List Entry) (a b : Netlist) → s.lines ≡ 0 → s.clauses ≡ last_number a b → AllDone s d table kept t a b
    → Adds d r (lay d.clauses (last_tree (rep_of t) (gates_done t a b s.clauses).links a b)) → Written s.bytes.now []
    → {bytes : List ℕ} → bytes ≡ r.bytes.now → Written bytes (emit (rep_of t) a b) × (r.lines ≡ length (emit (rep_of t) a b))
unfolding emit gate_lines
emitted s d r table kept t a b z n f g w e =
    let all = rw (f.adds.clauses, n) at (adds_then f.adds g) in
    let none : (n : ℕ) → 0 + n ≡ n = λ n. omega arith in
    (rw e (all.written [] w (sym z)), (rw z at all.lines) ∙ none _)
