-- A list that stands in a text, as `GateList` holds it.
use Rattle.std.specs.Prelude.{ℕ, List}
use Rattle.model.specs.Answers.{Answer}
use Rattle.model.specs.Answers.Answer.{ok, refused}
use Rattle.model.specs.Lines.{lines}
use Rattle.model.specs.Nets.{Netlist}
use Rattle.model.specs.Lists.{ListRead, empty_list, read_list, any_header}
use Rattle.laws.specs.ListText.{Stands}
use Rattle.listing.specs.declared.Counts.{Counts}
use Rattle.listing.specs.Counts.{Counted}
use Rattle.listing.specs.declared.GateList.TheInside.{Inside}

-- the list that was read; where none was, one without gates and outputs
abbrev pub list_or_none : Answer ListRead → Netlist
list_or_none (ok r) = r.list
list_or_none (refused number line) = empty_list 0

-- the list that a text begins with
unfoldable pub list_in : List ℕ → Netlist
list_in text = list_or_none (read_list any_header (lines text) 1)

-- it stands there, and these are its counts
pub record Lists (lines : List ℕ) (k : Counts) : Type 0 where
  pub stands : Stands lines (list_in lines)
  pub counted : Counted k (list_in lines)

abbrev pub list_of : Inside → Netlist
list_of l = list_in l.lines.now

abbrev pub IsList : Inside → Type 0
IsList l = Lists l.lines.now l.counts
