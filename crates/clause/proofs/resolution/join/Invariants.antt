-- The invariant is `Joining` for every two clauses that the arrays copy: after k turns the array has the first k literals of their join. Whatever
-- they hold, the places behind those that count have the bound (`Ends`).
use Rattle.std.proofs.Common.{◌≡◌, ◌≤◌, length}
use Rattle.model.specs.Limits.{clause_width}
use Rattle.model.specs.Clauses as model
use Rattle.clause.specs.Sets.{Copies}
use Rattle.clause.proofs.PlaceLaws.{Ends}
use Rattle.clause.proofs.JoinLaws.{Joining}
use Rattle.clause.proofs.resolution.join.Given as goal

abbrev pub invariant-loop-k : goal.invariant-loop-k
invariant-loop-k l =
    (l.len ≤ l.k) × (l.i ≤ l.k) × (l.j ≤ l.k) × (length l.literals ≡ clause_width) × Ends clause_width l.len l.literals
    × ((c d : model.Clause) → Copies l.a c → Copies l.b d → Joining c d l.literals l.len l.i l.j l.k)
