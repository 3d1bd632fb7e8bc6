-- The number at i is the literal there plus one in 16 bits (`number_at`).
use Rattle.std.proofs.Common.{◌≡◌, ◌+◌, ◌%◌, get_or, drop, ap, ◌∙◌, arith}
use Rattle.clause.specs.Places.{head_of}
use Rattle.clause.proofs.StoreLaws.{number_at}
use Rattle.clause.proofs.PlaceLaws.{head_most, rising_from}
use Rattle.clause.proofs.resolution.head.Goals as goal

pub returns-in-Some : goal.returns-in-Some
returns-in-Some c d h =
    let i = c.args.i in
    let e : c.in-Some.x.now ≡ (head_of (drop i d) + 1) % 65536 =
    c.in-Some.ensures.lookup.3.1 0 ∙ ap (λ s. get_or s i 0) h.same ∙ number_at d i h.proper.rising in
    omega (arith, head_most (drop i d) (rising_from i d h.proper.rising))
