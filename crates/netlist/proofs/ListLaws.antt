-- Lists from their parts: gates and outputs behind a header, a list behind another, and nothing behind. Each law puts what two readers say
-- together to what the definition reads.
use Prim.Native.Nat.{ℕ, ◌+◌}
use mathlib.Core.Path.{◌≡◌, refl, sym, ap, ◌∙◌}
use mathlib.Core.Bool.{Bool, true, false, and-false}
use mathlib.Core.List.{List}
use native.Mathlib.Omega.{arith}
use lib.ListN.{length}
use Rattle.std.specs.Prelude.{Result, Ok, Err}
use borrow.Author.Tests.{eq-eqb, ne_eqb}
use Rattle.model.specs.Answers.Answer.{ok, refused}
use Rattle.model.specs.Lines.{lines}
use Rattle.model.specs.Nets.{Netlist, size}
use Rattle.model.specs.Lists.{Lists, empty_list, read_outputs, read_gates, read_list, any_header, like_left, read_both, read_lists, read_one}
use Rattle.laws.specs.ListText.{Stands, list_stands}
use Rattle.frame.specs.declared.cursor.Cursor.{Cursor}
use Rattle.refusal.specs.declared.Reason.TheVariants.{Unlike}
use Rattle.refusal.specs.declared.Refusal.{Refusal}
use Rattle.refusal.specs.Answers.{refused_by}
use Rattle.listing.specs.declared.Counts.{Counts}
use Rattle.netlist.specs.Says.{ahead, read_to, both_read, GatesRead, GatesSay, OutputsRead, OutputsSay, HeaderRead, BodyRead, BodySays, EndSays, ListSays, PartSays, RightSays}
use Rattle.listing.proofs.StandsLaws.{list_in_stands}
use Rattle.listing.specs.Listing.{list_in, Lists as Listed}
use Rattle.netlist.proofs.DueLaws.{guard_passed, guard_failed}

-- ---- a body

module _ (c : Cursor) (k : Counts) (middle : Cursor) (g : GatesRead (ahead c) c.line (1 + k.inputs) k.gates k.gates (ahead middle) middle.line) where
  -- the list with all its gates
  all_gates : (n : Netlist) × (n.inputs ≡ k.inputs) × (length n.gates ≡ k.gates) × (length n.outs ≡ 0) × (size n ≡ 1 + k.inputs + k.gates)
      × (read_gates k.gates k.outputs (empty_list k.inputs) (ahead c) c.line ≡ read_outputs k.outputs n (ahead middle) middle.line)
  unfolding read_gates
  all_gates =
      let q = g 0 k.outputs (empty_list k.inputs) (omega arith) (omega arith) in
      let m = q.1 in
      (q.0, m.inputs, omega (arith, m.gates), ap length m.outs, omega (arith, m.inputs, m.gates), q.2)

  body_refused : (r : Refusal) → ((n : Netlist) → size n ≡ 1 + k.inputs + k.gates → read_outputs k.outputs n (ahead middle) middle.line ≡ refused_by r)
      → read_gates k.gates k.outputs (empty_list k.inputs) (ahead c) c.line ≡ refused_by r
  body_refused r f = let n = all_gates in n.5 ∙ f n.0 n.4

  body_read : (next : Cursor) → OutputsRead (ahead middle) middle.line (1 + k.inputs + k.gates) k.outputs k.outputs (ahead next) next.line → BodyRead c k next
  unfolding read_outputs
  body_read next o =
      let n = all_gates in
      let q = o 0 n.0 n.4 (omega arith) in
      let m = q.1 in
      record {
        list = q.0;
        inputs = m.inputs ∙ n.1;
        gates = ap length m.gates ∙ n.2;
        outputs = omega (arith, m.outs, n.3);
        reads = n.5 ∙ q.2;
      }

  -- whatever the outputs' reader says
  pub body_says : (r : Result Cursor Refusal) → OutputsSay middle (1 + k.inputs + k.gates) k.outputs r → BodySays c k r
  body_says (Ok next) o = body_read next o
  body_says (Err r) o = body_refused r o

-- the gates' reader refuses
pub gates_refuse : (c : Cursor) (k : Counts) (r : Refusal) → GatesSay c (1 + k.inputs) k.gates (Err r) → BodySays c k (Err r)
gates_refuse c k r g = g k.outputs (empty_list k.inputs) (omega arith)

-- ---- a list

module _ (c : Cursor) (k : Counts) (body : Cursor) (h : HeaderRead c k body) where
  -- behind a header that the test passes
  passed : (like : ℕ → ℕ → Bool) → like k.inputs k.outputs ≡ true
      → read_list like (ahead c) c.line ≡ read_gates k.gates k.outputs (empty_list k.inputs) (ahead body) body.line
  passed like e = h.reads like ∙ guard_passed (like k.inputs k.outputs) 6 c.line _ e

  pub list_refused : (r : Refusal) → BodySays body k (Err r) → ListSays c k (Err r)
  list_refused r b like e = passed like e ∙ b

  list_unlike : (like : ℕ → ℕ → Bool) → like k.inputs k.outputs ≡ false → read_list like (ahead c) c.line ≡ refused 6 c.line
  list_unlike like e = h.reads like ∙ guard_failed (like k.inputs k.outputs) 6 c.line _ e

  -- behind it the body is read: the list is the one that the lines from the header on begin with
  module _ (next : Cursor) (b : BodyRead body k next) where
    list_read : (like : ℕ → ℕ → Bool) → like k.inputs k.outputs ≡ true → read_list like (ahead c) c.line ≡ ok (read_to b.list next)
    list_read like e = passed like e ∙ b.reads

    stands : Stands c.rest.now b.list
    stands = (list_stands any_header c.rest.now c.line _ (list_read any_header refl)).stands

    there : list_in c.rest.now ≡ b.list
    there = list_in_stands stands

    pub is_list : Listed c.rest.now k
    is_list = record {
      stands = rw there stands;
      counted = rw there (record { good = stands.good; inputs = sym b.inputs; gates = sym b.gates; outputs = sym b.outputs });
    }

    pub list_says : ListSays c k (Ok (list_in c.rest.now, next))
    list_says like e = rw there (list_read like e)

-- ---- a right list behind a left one

-- the refusal of a header that is unlike the left
abbrev unlike : ℕ → Refusal
unlike line = record { reason = Unlike; line = line }

module _ (left : Netlist) (c : Cursor) (k : Counts) (body : Cursor) (h : HeaderRead c k body) where
  pub unlike_inputs : (k.inputs ≡ left.inputs → ⊥) → RightSays left c (Err (unlike c.line))
  unlike_inputs x = list_unlike c k body h (like_left left) (rw (ne_eqb k.inputs left.inputs x))

  pub unlike_outputs : (k.outputs ≡ length left.outs → ⊥) → RightSays left c (Err (unlike c.line))
  unlike_outputs x = list_unlike c k body h (like_left left) (rw (ne_eqb k.outputs (length left.outs) x, and-false))

pub alike : (left : Netlist) (k : Counts) → k.inputs ≡ left.inputs → k.outputs ≡ length left.outs → like_left left k.inputs k.outputs ≡ true
alike left k i o = rw (i, o, eq-eqb left.inputs left.inputs refl, eq-eqb (length left.outs) (length left.outs) refl)

-- ---- texts, from their start on

module _ (text : List ℕ) (first : Cursor) (start : (first.rest.now ≡ text) × (first.line ≡ 1)) where
  module _ (r : Refusal) (e : PartSays first (Err r)) where
    refuses : read_list any_header (lines text) 1 ≡ refused_by r
    refuses = rw (start.0, start.1) at e

    pub left_refused : read_both text ≡ refused_by r
    unfolding read_both
    left_refused = rw refuses

    pub one_refused : read_one text ≡ refused_by r
    unfolding read_one
    one_refused = rw refuses

  module _ (n : Netlist) (next : Cursor) (a : PartSays first (Ok (n, next))) where
    reads : read_list any_header (lines text) 1 ≡ ok (read_to n next)
    reads = rw (start.0, start.1) at a

    -- a right list behind it
    pub right_refused : (r : Refusal) → RightSays n next (Err r) → read_both text ≡ refused_by r
    unfolding read_both
    right_refused r e = rw (reads, e)

    pub both_are : (right : Netlist) (end : Cursor) → RightSays n next (Ok (right, end)) → read_both text ≡ ok (both_read (record { left = n; right = right }, end))
    unfolding read_both
    both_are right end b = rw (reads, b)

    -- nothing behind it
    pub one_more : (r : Refusal) → EndSays next (Err r) → read_one text ≡ refused_by r
    unfolding read_one
    one_more r e = rw (reads, e)

    pub one_read : EndSays next (Ok tt) → read_one text ≡ ok n
    unfolding read_one
    one_read e = rw (reads, e)

-- ---- two lists, and nothing behind them

pub lists_refused : (text : List ℕ) (r : Refusal) → refused_by r ≡ read_both text → read_lists text ≡ refused_by r
unfolding read_lists
lists_refused text r e = rw (← e)

module _ (text : List ℕ) (l : Lists) (next : Cursor) (e : ok (both_read (l, next)) ≡ read_both text) where
  pub lists_more : (r : Refusal) → EndSays next (Err r) → read_lists text ≡ refused_by r
  unfolding read_lists
  lists_more r h = rw (← e, h)

  pub lists_alone : EndSays next (Ok tt) → read_lists text ≡ ok l
  unfolding read_lists
  lists_alone h = rw (← e, h)
