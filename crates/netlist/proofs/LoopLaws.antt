-- Gates and outputs in a row. Of `count` lines i are read: reading comes to what reading the others comes to, from the lines behind them and
-- with a list that has i lines more. Each line read takes this one further; a line that is refused refuses the whole.
use Prim.Native.Nat.{ℕ, suc, ◌+◌, ◌-◌, ◌<◌}
use mathlib.Core.Path.{◌≡◌, refl, ◌∙◌}
use mathlib.Core.List.{List}
use native.Mathlib.Omega.{arith}
use lib.ListN.{length-append}
use Rattle.model.specs.Lines.{Line}
use Rattle.model.specs.Nets.{Netlist, size}
use Rattle.model.specs.Lists.{add_gate, add_output, read_outputs, read_gates}
use Rattle.refusal.specs.declared.Refusal.{Refusal}
use Rattle.refusal.specs.Answers.{refused_by}
use Rattle.netlist.specs.Says.{MoreGates, MoreOutputs, GateRead, GatesRead, OutputRead, OutputsRead}

-- ---- gates

module _ (ls : List Line) (line first count : ℕ) where
  pub gates_none : GatesRead ls line first count 0 ls line
  gates_none left m n s e = let z : left ≡ count = omega arith in (n, record { inputs = refl; gates = omega arith; outs = refl }, rw z)

  module _ (i : ℕ) (rest : List Line) (next : ℕ) (r : GatesRead ls line first count i rest next) (h : i < count) where
    -- what is left, and the list so far, whose next net is first + i
    so_far : (m : ℕ) (n : Netlist) → size n ≡ first
        → (n' : Netlist) × MoreGates n i n' × (size n' ≡ first + i) × (read_gates count m n ls line ≡ read_gates (suc (count - i - 1)) m n' rest next)
    so_far m n s =
        let q = r (suc (count - i - 1)) m n s (omega arith) in
        (q.0, q.1, omega (arith, q.1.inputs, q.1.gates), q.2)

    -- the line behind them is refused
    pub gates_refuse : (x : Refusal) → ((k m : ℕ) (n : Netlist) → size n ≡ first + i → read_gates (suc k) m n rest next ≡ refused_by x)
        → (m : ℕ) (n : Netlist) → size n ≡ first → read_gates count m n ls line ≡ refused_by x
    gates_refuse x f m n s =
        let q = so_far m n s in
        q.3 ∙ f (count - i - 1) m q.0 q.2

    pub gates_more : {ms : List Line} {after : ℕ} → GateRead rest next (first + i) ms after → GatesRead ls line first count (suc i) ms after
    gates_more g left m n s e =
        let q = r (suc left) m n s (omega arith) in
        let more = q.1 in (
          add_gate q.0 g.gate,
          record { inputs = more.inputs; gates = rw length-append (omega (arith, more.gates)); outs = more.outs },
          q.2 ∙ g.reads left m q.0 (omega (arith, more.inputs, more.gates)),
        )

-- ---- outputs

module _ (ls : List Line) (line nets count : ℕ) where
  pub outputs_none : OutputsRead ls line nets count 0 ls line
  outputs_none left n s e = let z : left ≡ count = omega arith in (n, record { inputs = refl; gates = refl; outs = omega arith }, rw z)

  module _ (i : ℕ) (rest : List Line) (next : ℕ) (r : OutputsRead ls line nets count i rest next) (h : i < count) where
    -- the line behind them is refused
    pub outputs_refuse : (x : Refusal) → ((k : ℕ) (n : Netlist) → size n ≡ nets → read_outputs (suc k) n rest next ≡ refused_by x)
        → (n : Netlist) → size n ≡ nets → read_outputs count n ls line ≡ refused_by x
    outputs_refuse x f n s =
        let q = r (suc (count - i - 1)) n s (omega arith) in
        q.2 ∙ f (count - i - 1) q.0 (same_size q.0 n q.1 s)
      where
        same_size : (m n : Netlist) → MoreOutputs n i m → size n ≡ nets → size m ≡ nets
        same_size m n o s = rw (o.inputs, o.gates) s

    pub outputs_more : {ms : List Line} {after : ℕ} → OutputRead rest next nets ms after → OutputsRead ls line nets count (suc i) ms after
    outputs_more o left n s e =
        let q = r (suc left) n s (omega arith) in
        let more = q.1 in (
          add_output q.0 o.literal,
          record { inputs = more.inputs; gates = more.gates; outs = rw length-append (omega (arith, more.outs)) },
          q.2 ∙ o.reads left q.0 (rw (more.inputs, more.gates) s),
        )
