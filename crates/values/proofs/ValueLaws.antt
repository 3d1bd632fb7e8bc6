-- Laws of numbers that hold the values of nets, over any type of values: one value stored behind the others; gate k of a list that stands in a
-- text, which reads nets below its own, so that its literals have their values; and an output, which reads any net.
use Prim.Native.Nat.{ℕ, ◌+◌, ◌<◌}
use mathlib.Core.Path.{◌≡◌, refl, sym, ap, subst}
use mathlib.Core.Bool.{true, cond}
use mathlib.Core.List.{List, [], ◌∷◌, ◌++◌}
use native.Mathlib.Omega.{arith}
use lib.ListN.{length, get_or, set, length-set, length-append, get_or-append}
use lib.Seq.{get_or_at, get_or-set_same, get_or-set_other}
use lib.Dec.{eqb}
use Rattle.model.specs.Frames.{xor_kind}
use Rattle.model.specs.Nets as model
use Rattle.model.specs.Nets.{Gate, Netlist, net_of, reads_below, size}
use Rattle.laws.specs.Bools.{below_or_at}
use Rattle.laws.specs.Literals.{literals_below}
use Rattle.laws.specs.ListText.{ordered_at, below_at}
use Rattle.laws.specs.Pairs.{Good}
use Rattle.laws.specs.Growing.{after, after_length, after_more}
use Rattle.laws.specs.Values.{Operations, literal_over, gate_over}
use Rattle.frame.specs.declared.Op.{Op}
use Rattle.frame.specs.declared.Op.TheVariants.{And, Xor}
use Rattle.frame.specs.Frames.{op_of, gate_kind}
use Rattle.frame.specs.declared.Gate as listing
use Rattle.listing.specs.Gates.{gate_meant, no_gate}
use Rattle.values.specs.Values.{HoldsBy}

pub hold_none : {A : Type 0} {R : ℕ → A → Type 0} {none : A} {numbers : List ℕ} → HoldsBy R none numbers []
hold_none = record { room = omega arith; each = λ j (i : j < 0). absurd (omega arith) }

pub store_value : {A : Type 0} {R : ℕ → A → Type 0} {none : A} {numbers : List ℕ} {vs : List A} (at v : ℕ) (a : A) → HoldsBy R none numbers vs
    → at ≡ length vs → at < length numbers → R v a → HoldsBy R none (set numbers at v) (vs ++ (a ∷ []))
store_value {R = R} {none} {numbers} {vs} at v a h e k r = record {
  room = simp (length-set, length-append) (omega arith);
  each = λ j i.
      below_or_at j at (omega (arith, length-append vs (a ∷ [])))
      (λ d. rw (get_or-set_other numbers at j v 0 (λ q. omega arith), get_or-append vs (a ∷ []) none j (omega arith)) (h.each j (omega arith)))
      (λ d. rw (d, get_or-set_same numbers at v 0 k, get_or_at vs a [] none at (sym e)) r);
}

-- a gate of the second pass has the operation of the definition
op_meant : (op : Op) → cond (eqb (gate_kind op) xor_kind) model.Op.xor model.Op.and ≡ op_of op
op_meant And = refl
op_meant Xor = refl

module _ {A : Type 0} (o : Operations A) (R : ℕ → A → Type 0) where
  abbrev pub Holding : List ℕ → List A → Type 0
  Holding = HoldsBy R o.none

  -- v stands for the value of the literal l, whatever values the numbers hold
  abbrev pub Reads : List ℕ → ℕ → ℕ → Type 0
  Reads numbers l v = (vs : List A) → Holding numbers vs → net_of l < length vs → R v (literal_over o vs l)

  module _ {n : Netlist} (s : Good n) where
    -- gate k stored behind the nets before it
    pub gate_stored : (xs : List A) → length xs ≡ 1 + n.inputs → (k : ℕ) {numbers : List ℕ} (g : listing.Gate) (a b v : ℕ) → k < length n.gates
        → Holding numbers (after (gate_over o) xs n.gates k) → 1 + n.inputs + k < length numbers → gate_meant g ≡ get_or n.gates k no_gate
        → Reads numbers g.x a → Reads numbers g.y b → ((x y : A) → R a x → R b y → R v (o.apply (op_of g.op) x y))
        → Holding (set numbers (1 + n.inputs + k) v) (after (gate_over o) xs n.gates (k + 1))
    gate_stored xs long k g a b v h before room is fa fb fv =
        let vs : List A = after (gate_over o) xs n.gates k in
        let many : length vs ≡ 1 + n.inputs + k = rw (after_length (gate_over o) xs n.gates k (omega arith), long) in
        let low : reads_below (1 + n.inputs + k) (gate_meant g) ≡ true =
        subst (λ (q : Gate). reads_below (1 + n.inputs + k) q ≡ true) (sym is) (ordered_at (1 + n.inputs) n.gates k no_gate s.ordered h) in
        let t = literals_below (1 + n.inputs + k) (gate_meant g) low in
        let made : R v (gate_over o vs (gate_meant g)) =
        rw (op_meant g.op) (fv (literal_over o vs g.x) (literal_over o vs g.y) (fa vs before (omega (arith, t.0))) (fb vs before (omega (arith, t.1)))) in
        rw (after_more (gate_over o) xs n.gates k no_gate h, ← is) (store_value (1 + n.inputs + k) v (gate_over o vs (gate_meant g)) before (sym many) room made)

    -- output k
    pub output_read : {vs : List A} → length vs ≡ size n → (k : ℕ) {numbers : List ℕ} (l v : ℕ) → k < length n.outs
        → Holding numbers vs → l ≡ get_or n.outs k 0 → Reads numbers l v → R v (literal_over o vs (get_or n.outs k 0))
    output_read {vs} long k l v h all is f =
        rw (← is) (f vs all (omega (arith, ap net_of is, below_at (size n) n.outs k s.below h)))
