-- What two representatives fold to, as the definitions have it.
use Rattle.std.specs.Prelude.{ℕ, zero, suc, Option, Some, None}
use Rattle.fold_laws.specs.Cases as model
use Rattle.fold.specs.declared.operands.Folded.{Folded}
use Rattle.fold.specs.declared.operands.Folded.TheVariants.{Is, Key}

abbrev pub folded_of : Folded → model.Made
folded_of (Is l) = model.Made.is l.code
folded_of (Key a b) = model.Made.key a.code b.code

-- the number of an output, from 1, where 0 says that there is none
abbrev pub numbered : ℕ → Option ℕ
numbered zero = None
numbered (suc n) = Some (suc n)
