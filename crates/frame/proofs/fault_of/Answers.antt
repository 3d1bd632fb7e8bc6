-- The line is whole, or LF does not stand behind its digits (`LineLaws`).
use Rattle.std.proofs.Common.{rules}
use Rattle.frame.proofs.LineLaws.{read_unframed, read_faulty}
use Rattle.frame.proofs.fault_of.Goals as goal

pub returns-then-eq : goal.returns-then-eq
returns-then-eq c =
    let a = c.args in
    let d = c.digits_of.ensures in
    λ h none line. read_unframed a.text.now line _ d.0 (search rules) (search rules) none

pub returns : goal.returns
returns c =
    let a = c.args in
    let d = c.digits_of.ensures in
    λ h _ line. read_faulty a.text.now line _ d.0 h d.1 (search rules)
