-- The outputs are taken from the last to the first. The invariant: the word so far is that of the outputs from k up, and has no more bits than
-- those; so it fits.
use Prim.Native.Nat.{suc, ◌+◌, ◌-◌}
use mathlib.Core.Path.{◌≡◌, ◌∙◌}
use native.Mathlib.Omega.{arith}
use lib.ListN.{length}
use Rattle.model.specs.Nets.{literal, nets, eval}
use Rattle.laws.specs.Values.{truths, length_nets}
use Rattle.values.specs.Values.{IsBit}
use Rattle.values.proofs.ValueLaws.{output_read}
use Rattle.values.proofs.BitLaws.{word_end, word_more, double, word_fits}
use Rattle.values.proofs.read_word.Goals as goal

pub loop-k-init : goal.loop-k-init
loop-k-init c =
    let n = c.args.list.now in
    let s = c.counts-k.ensures in
    let z : length n.outs - c.counts-k.result.outputs ≡ 0 = omega (arith, s.outputs) in
    (omega (arith, s.outputs), rw z (omega arith), λ p h. word_end n (nets n p) c.counts-k.result.outputs (omega (arith, s.outputs)))

pub overflow_mul-word : goal.overflow_mul-word
overflow_mul-word c =
    let l = c.loop-k in
    let b = c.literal_at-bit in
    let s = c.counts-k.ensures in
    omega (arith, word_fits l.word b.result (length c.args.list.now.outs - l.k) l.invariant.1 b.ensures.small (omega (arith, s.good.outs)))

pub overflow_add-word : goal.overflow_add-word
overflow_add-word c =
    let l = c.loop-k in
    let b = c.literal_at-bit in
    let s = c.counts-k.ensures in
    omega (arith, word_fits l.word b.result (length c.args.list.now.outs - l.k) l.invariant.1 b.ensures.small (omega (arith, s.good.outs)))

pub loop-k-preserved : goal.loop-k-preserved
unfolding literal
loop-k-preserved c =
    let n = c.args.list.now in
    let s = c.counts-k.ensures in
    let l = c.loop-k in
    let v = l.invariant in
    let b = c.literal_at-bit in
    let e : length n.outs - (l.k - 1) ≡ suc (length n.outs - l.k) = omega arith in
    let k : l.k - 1 + 1 ≡ l.k = omega arith in (
      omega arith,
      rw e (double l.word b.result (length n.outs - l.k) v.1 b.ensures.small),
      λ p h.
          let is = output_read truths IsBit s.good (length_nets n p) (l.k - 1) _ b.result (omega arith) h c.output.ensures (rw c.from.ensures at b.ensures.value) in
          rw (v.2 p h, is) (rw k at (word_more n (nets n p) (l.k - 1) (omega arith))),
    )

pub returns : goal.returns
unfolding eval
returns c =
    let l = c.loop-k in
    let z : l.k ≡ 0 = omega arith in
    λ p h. l.invariant.2 p h ∙ rw z
