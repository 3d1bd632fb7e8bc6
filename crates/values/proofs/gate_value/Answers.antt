-- Each arm knows its gate, and its operation on bits is that of the definitions (`BitLaws`).
use Rattle.values.proofs.BitLaws.{and_bits, xor_bits}
use Rattle.values.proofs.gate_value.Goals as goal

pub returns-in-And : goal.returns-in-And
returns-in-And c = λ x y e f. rw (e, f, c.in-And.is) (and_bits x y)

pub returns-in-Xor : goal.returns-in-Xor
returns-in-Xor c = λ x y e f. rw (e, f, c.in-Xor.is) (xor_bits x y)
