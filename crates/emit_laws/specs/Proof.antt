-- The engine's proof: the second pass over the table of the first.
use Rattle.std.specs.Prelude.{List}
use Rattle.model.specs.Lists.{Lists}
use Rattle.fold_laws.specs.Table.{rep_of}
use Rattle.fold_laws.specs.Engine.{both_table}
use Rattle.emit_laws.specs.Replay.{Resolution}
use Rattle.emit_laws.specs.Emit.{emit}

-- the lines of the proof
abbrev pub proof_of : Lists → List Resolution
proof_of l = emit (rep_of (both_table l.left l.right)) l.left l.right
