-- The kinds of the table, and what the two digits of a line's kind byte say of it.
use Rattle.std.specs.Prelude.{ℕ, ◌+◌, ◌*◌, ◌<◌, ◌≤◌, ◌≡◌, Bool, true, false, List, Option, Some, None, Result, Ok, Err, length, take, drop, get_or}
use Rattle.model.specs.Answers.Answer.{refused}
use Rattle.model.specs.Lines.{is_digit, line_feed}
use Rattle.model.specs.Frames.{header_kind, output_kind, resolve_kind, report_kind, widths, is_kind, one_byte, decode}
use Rattle.digits.specs.Digits.{value_of, values, run, number_at}
use Rattle.frame.specs.declared.Op.{Op}
use Rattle.frame.specs.declared.Op.TheVariants.{And, Xor}
use Rattle.frame.specs.Frames.{gate_kind, extend_kind}
use Rattle.frame.specs.declared.kinds.Kind.{Kind}
use Rattle.frame.specs.declared.kinds.Kind.TheVariants.{Header, Gate, Output, Resolve, Extend, Report}
use Rattle.refusal.specs.declared.Reason.{Reason}
use Rattle.refusal.specs.declared.Reason.TheVariants.{Frame as Wrong}

-- the kind of a gate, or of an extension
abbrev pub operands_kind : Bool → Op → ℕ
operands_kind false op = gate_kind op
operands_kind true op = extend_kind op

abbrev pub byte_of : Kind → ℕ
byte_of Header = header_kind
byte_of (Gate op) = gate_kind op
byte_of Output = output_kind
byte_of Resolve = resolve_kind
byte_of (Extend op) = extend_kind op
byte_of Report = report_kind

-- what holds of a kind's byte, and what holds where there is no kind of the table
abbrev pub ByKind : (ℕ → Type 0) → Type 0 → Option Kind → Type 0
ByKind P none (Some k) = P (byte_of k)
ByKind P none None = none

-- '2' is AND and '3' is XOR, as the second digit of a kind
pub record IsOp (low : ℕ) (op : Op) : Type 0 where
  pub and : low ≡ 50 → op ≡ And
  pub xor : low ≡ 51 → op ≡ Xor

-- two bytes are the digits of this number
pub record Spell (high low kind : ℕ) : Type 0 where
  pub high_digit : is_digit high ≡ true
  pub low_digit : is_digit low ≡ true
  pub spelt : kind ≡ 16 * value_of high + value_of low

abbrev pub Named : ℕ → ℕ → Option Kind → Type 0
Named high low k = ByKind (Spell high low) (is_digit high ≡ true → is_digit low ≡ true → is_kind (widths (16 * value_of high + value_of low)) ≡ false) k

-- a byte is that of this kind, or it is outside the table, which is 3
abbrev pub IsKind : ℕ → Result Kind Reason → Type 0
IsKind byte (Ok k) = byte ≡ byte_of k
IsKind byte (Err why) = (why ≡ Wrong) × (is_kind (widths byte) ≡ false)

-- the first two digits of a text spell this kind
pub record HasKind (text : List ℕ) (kind : ℕ) : Type 0 where
  pub room : one_byte ≤ length text
  pub goes : run text ≡ one_byte + run (drop one_byte text)
  pub spelt : kind ≡ number_at text 0 one_byte

-- a text's first line is refused if it is whole, whatever its number
abbrev pub Unframed : List ℕ → Type 0
Unframed text = (n line : ℕ) → n ≡ run text → n < length text → get_or text n 0 ≡ line_feed → refused 3 line ≡ decode (values (take n text)) line

-- the first line is of this kind, or it is of none and refused
abbrev pub KindSays : List ℕ → Option Kind → Type 0
KindSays text k = ByKind (HasKind text) (Unframed text) k
