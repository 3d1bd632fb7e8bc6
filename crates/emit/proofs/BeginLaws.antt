-- Before the first gate: inputs one by one.
use Prim.Native.Nat.{ℕ, ◌+◌}
use mathlib.Core.Path.{◌≡◌, ap}
use mathlib.Core.List.{List, [], ◌∷◌, ◌++◌}
use native.Mathlib.Omega.{arith}
use lib.ListN.{replicate-append-replicate}
use Rattle.table.specs.Links.{Keeps}
use Rattle.emit_laws.specs.Emit.{start_links}

pub keeps_none : (slice : List ℕ) → Keeps slice []
keeps_none slice = record { room = omega arith; number = λ u i a b. absurd (omega arith) }

pub start_more : (k : ℕ) → start_links k ++ ([] ∷ []) ≡ start_links (k + 1)
start_more k = ap (λ (l : List (List ℕ)). (1 ∷ 0 ∷ []) ∷ l) (replicate-append-replicate k 1 [])
