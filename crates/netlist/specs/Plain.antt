-- What a line that is a gate or an output says of the list that it belongs to, how far a row of such lines goes, and how the line that ends it is
-- refused.
use Rattle.std.specs.Prelude.{ℕ, suc, ◌*◌, ◌<◌, ◌≤◌, ◌≡◌, Bool, true, false, ◌&&◌, cond, List, length, drop}
use Rattle.std.specs.Borrow.{Bor}
use Rattle.model.specs.Lines.{Line, lines}
use Rattle.model.specs.Nets.{is_below}
use Rattle.laws.specs.ListText.{gate_bytes, output_bytes}
use Rattle.frame.specs.declared.Gate.{Gate as GateLine}
use Rattle.frame.specs.declared.Frame.{Frame}
use Rattle.frame.specs.declared.Frame.TheVariants.{Gate, Output}
use Rattle.frame.specs.Frames.{first, frame_of}
use Rattle.frame.specs.Frames.First.{found}
use Rattle.refusal.specs.declared.Refusal.{Refusal}
use Rattle.refusal.specs.Answers.{number_of}
use Rattle.netlist.specs.Says.{MissingBy, GateRead, OutputRead}

-- the first line is no gate of this net: where it is a gate, it reads a net that is not below
abbrev pub NoGate : List Line → ℕ → Type 0
NoGate ls net = (line next : ℕ) (g : GateLine) (rest : List Line) → found (frame_of (Gate g)) rest next ≡ first ls line → is_below net g.x && is_below net g.y ≡ false

-- the first line is the gate of this net, whatever its number; or it is not
abbrev pub PlainGate : List ℕ → ℕ → Bool → Type 0
PlainGate text net true = (gate_bytes ≤ length text) × ((line : ℕ) → GateRead (lines text) line net (lines (drop gate_bytes text)) (suc line))
PlainGate text net false = NoGate (lines text) net

-- the same of an output
abbrev pub NoOutput : List Line → ℕ → Type 0
NoOutput ls nets = (line next x : ℕ) (rest : List Line) → found (frame_of (Output x)) rest next ≡ first ls line → is_below nets x ≡ false

abbrev pub PlainOutput : List ℕ → ℕ → Bool → Type 0
PlainOutput text nets true = (output_bytes ≤ length text) × ((line : ℕ) → OutputRead (lines text) line nets (lines (drop output_bytes text)) (suc line))
PlainOutput text nets false = NoOutput (lines text) nets

-- a test of what is left of a text has this result at row i
abbrev pub At : (Bor (List ℕ) → ℕ → Bool → Type 0) → ℕ → List ℕ → ℕ → Bool → Type 0
At P bytes text i r = (s : Bor (List ℕ)) × (s.now ≡ drop (bytes * i) text) × P s i r

-- of so many rows of so many bytes the first i stand, and the next does not
pub record Rows (P : Bor (List ℕ) → ℕ → Bool → Type 0) (bytes : ℕ) (text : List ℕ) (count i : ℕ) : Type 0 where
  pub few : i ≤ count
  pub stand : (j : ℕ) → j < i → At P bytes text j true
  pub stop : i < count → At P bytes text i false

-- The refusal of a line that is not what is due there: its own, or 4; or a frame's, which is 7 if the test of a due kind passes it, and else 3.
pub data Refused (P : Frame → Bool → Type 0) (ls : List Line) (line : ℕ) (r : Refusal) : Type 0 where
  missing : MissingBy (first ls line) line r → Refused P ls line r
  other : (f : Frame) (rest : List Line) (next : ℕ) → found (frame_of f) rest next ≡ first ls line → (due : Bool) → P f due
      → number_of r.reason ≡ cond due 7 3 → r.line ≡ line → Refused P ls line r
