-- A line to print in an array: its bytes, then zeros. So the struct is known from its bytes, which are what contracts see of it.
use Rattle.std.specs.Prelude.{ℕ, ◌-◌, ◌≤◌, ◌≡◌, List, length, take}
use Rattle.std.proofs.Common.{sym, ap, arith, length-take, length-append}
use Rattle.std.proofs.lemmas.List.{length-replicate}
use Rattle.model.specs.Answers.{filled, zeros}

-- a report's line, which is the longest of a frame
abbrev pub line_room : ℕ
line_room = 19

-- what is true of every struct: the bytes have room, and zeros stand behind them
pub record Whole (line : List ℕ) (len : ℕ) : Type 0 where
  pub room : len ≤ line_room
  pub behind : line ≡ filled line_room (take len line)

-- ---- the bytes give back the struct

pub same_line : (line : List ℕ) (len : ℕ) → Whole line len → filled line_room (take len line) ≡ line
same_line line len h = sym h.behind

pub same_length : (line : List ℕ) (len : ℕ) → Whole line len → length (take len line) ≡ len
same_length line len h =
    let long = ap length h.behind in
    let all = length-append (take len line) (zeros (line_room - length (take len line))) in
    omega (arith, h.room, long, all, length-replicate {A = ℕ} (line_room - length (take len line)) 0, length-take len line)
