-- What holds of the kinds of an AND and of an XOR holds of the kind of either.
use Prim.Native.Nat.{ℕ}
use Rattle.model.specs.Frames as model
use Rattle.frame.specs.declared.Op.{Op}
use Rattle.frame.specs.declared.Op.TheVariants.{And, Xor}
use Rattle.frame.specs.Frames.{gate_kind, extend_kind}

pub by_gate : (P : ℕ → Type 0) → P model.and_kind → P model.xor_kind → (op : Op) → P (gate_kind op)
by_gate P a x And = a
by_gate P a x Xor = x

pub by_extend : (P : ℕ → Type 0) → P model.extend_and_kind → P model.extend_xor_kind → (op : Op) → P (extend_kind op)
by_extend P a x And = a
by_extend P a x Xor = x
