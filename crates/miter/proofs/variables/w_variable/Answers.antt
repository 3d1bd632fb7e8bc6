-- Behind the first, the w before it is one variable back (`MiterLaws`).
use Rattle.miter.proofs.MiterLaws.{w_behind}
use Rattle.miter.proofs.variables.w_variable.Goals as goal

pub returns : goal.returns
returns c = let a = c.args in w_behind a.z a.w a.k c.if-k-eq0.false
