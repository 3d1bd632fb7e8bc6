-- The outputs are taken from the last to the first. The invariant: the word so far is that of the outputs from k up, and has no more bits than
-- those; so it fits.
use Prim.Native.Nat.{ℕ, ◌-◌, ◌^◌, ◌≤◌, ◌<◌}
use mathlib.Core.Path.{◌≡◌}
use lib.ListN.{length}
use Rattle.model.specs.Nets.{nets}
use Rattle.values.specs.Values.{HoldsValues}
use Rattle.values.proofs.BitLaws.{word_from}
use Rattle.values.proofs.read_word.Given as goal

abbrev pub invariant-loop-k : goal.invariant-loop-k
invariant-loop-k l =
    (l.k ≤ length l.list.outs)
    × (l.word < 2 ^ (length l.list.outs - l.k))
    × ((p : ℕ) → HoldsValues l.values (nets l.list p) → l.word ≡ word_from l.list (nets l.list p) l.k)
