-- As the definition has it, test by test; a number below 2³² is scaled to the buckets behind the first (`BucketLaws`).
use mathlib.Core.Path.{◌≡◌}
use native.Mathlib.Omega.{arith}
use borrow.Author.Rules.{rules}
use Rattle.table.specs.Buckets.{mixed}
use Rattle.table.proofs.BucketLaws.{scaled_low, no_key, some_key}
use Rattle.table.proofs.buckets.bucket.Goals as goal

pub returns-then-eq : goal.returns-then-eq
returns-then-eq c = let none : c.args.a.code ≡ 0 = search rules in (no_key _ _ _ _ none, omega arith)

pub returns : goal.returns
unfolding mixed
returns c =
    let a = c.args in
    let some : a.a.code ≡ 0 → ⊥ = search rules in
    (some_key a.nets a.kind a.a.code a.b.code some, omega (arith, scaled_low a.nets a.kind a.a.code a.b.code c.requires.0))
