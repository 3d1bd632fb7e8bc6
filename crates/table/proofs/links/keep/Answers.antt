-- Four numbers put in are those of a net behind the others (`kept`).
use Rattle.std.proofs.Common.{◌≡◌, ◌*◌, List, [], ◌∷◌, ◌++◌, ℕ, length, subst, rules, arith}
use Rattle.table.specs.Links.{link_width, Keeps}
use Rattle.table.proofs.PlaceLaws.{put_all}
use Rattle.table.proofs.LinkLaws.{kept}
use Rattle.table.proofs.links.keep.Goals as goal

pub returns : goal.returns
returns c links ns k n f =
    let a = c.args in
    let four : length a.numbers ≡ link_width = search rules in
    subst (λ (w : List ℕ). Keeps w (links ++ (ns ∷ []))) (put_all c.loop-i.links a.links.now a.numbers (link_width * a.v) c.loop-i.i (omega arith) c.loop-i.invariant)
    (kept a.links.now a.v a.numbers four c.requires links ns k n f)
