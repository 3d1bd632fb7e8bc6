-- Its length is that of the buffer that it hands on.
use native.Mathlib.Omega.{arith}
use Rattle.cec_check_large.proofs.large_room.Goals as goal

pub returns : goal.returns
returns c = omega (arith, c.room.ensures)
