-- What the reply of two lists says of the text: both stand in it, one behind the other, and what is left begins where the second ends.
use Prim.Native.Nat.{ℕ, ◌+◌, ◌≤◌}
use mathlib.Core.Path.{◌≡◌, sym}
use mathlib.Core.List.{List}
use native.Mathlib.Omega.{arith}
use lib.ListN.{length, drop, length-drop}
use Rattle.model.specs.Answers.Answer.{ok}
use Rattle.model.specs.Lines.{lines}
use Rattle.model.specs.Lists.{Lists, read_both}
use Rattle.laws.specs.Pairs as pairs
use Rattle.laws.specs.Reading.{both_good}
use Rattle.laws.specs.ListText.{Stands, list_bytes, line_count, list_length, both_stands}
use Rattle.frame.specs.declared.cursor.Cursor.{Cursor}
use Rattle.netlist.specs.Says.{ahead, both_read}

pub record BothLists (text : List ℕ) (l : Lists) (next : Cursor) : Type 0 where
  pub reads : read_both text ≡ ok (both_read (l, next))
  pub alike : pairs.Pair l.left l.right
  pub left_stands : Stands text l.left
  pub right_stands : Stands (drop (list_bytes l.left) text) l.right
  pub inside : list_bytes l.left + list_bytes l.right ≤ length text
  pub rest : lines (drop (list_bytes l.left + list_bytes l.right) text) ≡ ahead next
  pub line : next.line ≡ 1 + line_count l.left + line_count l.right

pub both_lists : (text : List ℕ) (l : Lists) (next : Cursor) → ok (both_read (l, next)) ≡ read_both text → BothLists text l next
both_lists text l next e =
    let s = both_stands text (both_read (l, next)) (sym e) in
    record {
      reads = sym e;
      alike = both_good text (both_read (l, next)) (sym e);
      left_stands = s.left;
      right_stands = s.right;
      inside = omega (arith, list_length s.left, list_length s.right, length-drop (list_bytes l.left) text);
      rest = s.behind;
      line = s.after;
    }

-- a cursor where the counts put the end of both lists stands for the lines that are left
pub from_counts : (text : List ℕ) (l : Lists) (next c : Cursor) → BothLists text l next → c.rest.now ≡ drop (list_bytes l.left + list_bytes l.right) text → c.line ≡ next.line
    → ok (both_read (l, c)) ≡ read_both text
from_counts text l next c b e f = rw (e, f, b.rest) (sym b.reads)
