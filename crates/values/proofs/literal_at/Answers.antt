-- A net within the bytes has the value that they hold for it, and its XOR with the sign is the literal's; a net past the bytes is in no list of
-- values that they hold.
use native.Mathlib.Omega.{arith}
use Rattle.model.specs.Nets.{net_of, odd}
use Rattle.values.proofs.BitLaws.{sign_bit, literal_bits}
use Rattle.values.proofs.literal_at.Goals as goal

pub returns : goal.returns
returns c =
    let l = c.args.l.code in
    record { small = omega arith; value = λ vs h k. rw (c.variable-net.ensures, h.each (net_of l) k, c.sign-sign.ensures, sign_bit (odd l)) (literal_bits vs l) }
