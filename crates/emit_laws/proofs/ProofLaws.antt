-- The engine's proof, the second pass over the table of the first: where no output differs in form it is a proof in the sense of the
-- engine's promise, and so an engine that replies with it keeps that promise.
use Rattle.std.specs.Prelude.{ℕ, suc, ◌+◌, ◌*◌, ◌≤◌, ◌≡◌, refl, Bool, true, false, cond, List, [], ◌∷◌, map, length, eqb}
use Rattle.std.proofs.Common.{sym, ◌∙◌, subst, arith, eqb-true, leb-true}
use Rattle.model.specs.Limits.{proof_line_bytes}
use Rattle.model.specs.Answers.{Answer, zeros, buffer_of}
use Rattle.model.specs.Answers.Answer.{ok, refused}
use Rattle.model.specs.Nets.{Netlist, size}
use Rattle.model.specs.Lists.{Lists, read_lists}
use Rattle.model.specs.Miter.{shift, zs, first_gate, gates_of, z_gates}
use Rattle.model.specs.Forms.{differing}
use Rattle.model.specs.Engine.{line_bound, working, provable, Proves, Outcome, Engine}
use Rattle.laws.specs.Answers.{ok_injective, guard_ok, bind_ok}
use Rattle.laws.specs.Pairs.{Below, Pair}
use Rattle.laws.specs.MiterOrder.{shift_below, below_right, length_gates, ordered_gates}
use Rattle.laws.specs.Reading.{lists_good}
use Rattle.laws.specs.Appending.{changed}
use Rattle.fold_laws.specs.Table.{Entry, rep_of}
use Rattle.fold_laws.proofs.Facts.{table_facts}
use Rattle.fold_laws.specs.Engine.{both_table, reps_apart, by_reps}
use Rattle.fold_laws.proofs.Engine.{differing_by_reps}
use Rattle.emit_laws.specs.Outputs.{AllOneRep}
use Rattle.emit_laws.specs.Emit.{net_count}
use Rattle.emit_laws.proofs.Emit.{refutes, few}
use Rattle.emit_laws.specs.Text.{proof_text}
use Rattle.emit_laws.proofs.Text.{refutation_proves}
use Rattle.emit_laws.specs.Proof.{proof_of}

-- ---- each pair of outputs has one representative

cond_zero : (q : Bool) (n k : ℕ) → cond q n (suc k) ≡ 0 → (q ≡ true) × (n ≡ 0)
cond_zero true n k e = (refl, e)
cond_zero false n k e = absurd (omega arith)

one_reps : (t : List Entry) (i k u v N j : ℕ) (xs ys : List ℕ) → u ≤ N → v + k ≤ N → Below u xs → Below v ys
    → reps_apart (suc j) t xs (map (shift i k) ys) ≡ 0 → AllOneRep (rep_of t) N (zs i k xs ys)
unfolding zs reps_apart
one_reps t i k u v N j [] ys g h b c e = tt
one_reps t i k u v N j (x ∷ xs) [] g h b c e = tt
one_reps t i k u v N j (x ∷ xs) (y ∷ ys) g h b c e =
    let q = cond_zero (eqb (rep_of t x) (rep_of t (shift i k y))) (reps_apart (suc (suc j)) t xs (map (shift i k) ys)) j e in (
      record {
        x_below = omega arith;
        y_below = omega (arith, shift_below i k y v c.0);
        same = eqb-true _ _ q.0;
        is_xor_lem = refl;
      },
      one_reps t i k u v N (suc j) xs ys g h b.1 c.1 q.1,
    )

same_reps : (a b : Netlist) → Pair a b → differing a b ≡ 0 → AllOneRep (rep_of (both_table a b)) (net_count a b) (z_gates a b)
unfolding by_reps
same_reps a b ab e =
    one_reps (both_table a b) a.inputs (length a.gates) (size a) (first_gate a + length b.gates) (net_count a b) 0 a.outs b.outs
    (omega (arith, length_gates a b ab)) (omega (arith, length_gates a b ab))
    ab.left.below (below_right a b ab) (sym (differing_by_reps a b ab) ∙ e)

-- ---- the proof

-- Of two lists that do not differ in form, the engine's lines are a proof: they are accepted behind the lists' text, and few enough.
pub proved : (text : List ℕ) (l : Lists) → read_lists text ≡ ok l → differing l.left l.right ≡ 0
    → Proves text l (length (proof_of l)) (proof_text (proof_of l))
proved text l read same =
    let a : Netlist = l.left in
    let b : Netlist = l.right in
    let ab = lists_good text l read in
    let t : List Entry = both_table a b in
    let facts = table_facts a.inputs (gates_of a b) (ordered_gates a b ab) in
    let reps = same_reps a b ab same in
    refutation_proves text l read (proof_of l) (refutes t a b ab facts reps) (few t a b ab facts reps)

-- ---- the promise

-- what it takes that a proof is due
record Due (text : List ℕ) (bytes numbers : ℕ) (l : Lists) : Type 0 where
  read : read_lists text ≡ ok l
  proof : proof_line_bytes * line_bound l.left l.right ≤ bytes
  work : working l.left l.right ≤ numbers
  same : differing l.left l.right ≡ 0

due : (text : List ℕ) (bytes numbers : ℕ) (l : Lists) → provable text bytes numbers ≡ ok l → Due text bytes numbers l
unfolding provable
due text bytes numbers l e =
    let r = bind_ok (read_lists text) e in
    let g16 = guard_ok _ _ _ _ r.2 in
    let g17 = guard_ok _ _ _ _ g16.1 in
    let g18 = guard_ok _ _ _ _ g17.1 in
    subst (Due text bytes numbers) (ok_injective g18.1)
    (record { read = r.1; proof = leb-true _ bytes g16.0; work = leb-true _ numbers g17.0; same = eqb-true _ 0 g18.0 })

-- An engine keeps its promise that replies with the number of the proof's lines, and leaves their bytes, wherever a proof is due.
pub promised : (text : List ℕ) (bytes numbers : ℕ)
    → Engine text bytes numbers
    (changed (λ l. length (proof_of l)) (provable text bytes numbers))
    (buffer_of bytes (λ l. proof_text (proof_of l)) (provable text bytes numbers))
    (zeros numbers)
promised text bytes numbers = go (provable text bytes numbers) refl
  where
    go : (o : Answer Lists) → provable text bytes numbers ≡ o
        → Outcome text bytes numbers o (changed (λ l. length (proof_of l)) o) (buffer_of bytes (λ l. proof_text (proof_of l)) o) (zeros numbers)
    go (ok l) e =
        let d = due text bytes numbers l e in
        (length (proof_of l), proof_text (proof_of l), refl, proved text l d.read d.same, refl, refl)
    go (refused number line) e = (refl, refl, refl)
