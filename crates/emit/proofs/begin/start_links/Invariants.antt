-- The invariant: the numbers of net 0 and of the inputs below k stand.
use Rattle.table.specs.Links.{Keeps}
use Rattle.emit_laws.specs.Emit.{start_links}
use Rattle.emit.proofs.begin.start_links.Given as goal

abbrev pub invariant-loop-k : goal.invariant-loop-k
invariant-loop-k l = Keeps l.links (start_links l.k)
