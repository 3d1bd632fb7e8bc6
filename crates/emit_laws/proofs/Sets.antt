-- Clauses as sets of literals: the facts of `sets`, which are passed on here, and a resolvent read off lists in any order.
use Rattle.std.specs.Prelude.{ℕ, ◌≡◌, not, ◌&&◌, List, ◌++◌, eqb}
use Rattle.std.proofs.Math.Bool.{or-false, or_comm}
use Rattle.model.specs.Clauses.{positive, negative, clause_of, without, holds, resolvent}
use Rattle.sets.specs.Sets.{rises, same_held}
pub use Rattle.sets.specs.Sets.{same_clause, holds_join, holds_without, holds_append, flat, sets, without_head, holds_head, length_clause}

-- a resolvent of clauses given by lists
pub resolvent_clause : (v : ℕ) (S T : List ℕ)
    → resolvent v (clause_of S) (clause_of T) ≡ clause_of (without (positive v) S ++ without (negative v) T)
unfolding resolvent holds
resolvent_clause v S T =
    same_held (search rises) (search rises)
    (λ k. simp (holds_join, holds_append, holds_without, or-false)
    (or_comm (not (eqb k (negative v)) && holds k T) (not (eqb k (positive v)) && holds k S)))
