-- Two lists that can be compared, as `Pair` holds them.
use Rattle.model.specs.Lists.{Lists}
use Rattle.laws.specs.Pairs as pairs
use Rattle.netlist.specs.declared.pair.Pair.TheInside.{Inside}

abbrev pub lists_of : Inside → Lists
lists_of p = record { left = p.left; right = p.right }

-- both were read, and they have as many inputs and as many outputs
abbrev pub Alike : Inside → Type 0
Alike p = pairs.Pair p.left p.right
