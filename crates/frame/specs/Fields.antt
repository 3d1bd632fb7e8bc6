-- What the reading of a line's fields says: where the line ends, and the fields that it has or that it has none, if its kind has fields of these
-- widths.
use Rattle.std.specs.Prelude.{ℕ, suc, ◌<◌, ◌≤◌, ◌≡◌, Bool, true, false, List, [], ◌∷◌, Option, Some, None, length, drop, get_or}
use Rattle.std.specs.Borrow.{Bor}
use Rattle.model.specs.Limits.{proof_line_bytes}
use Rattle.model.specs.Lines.{line_feed, lines}
use Rattle.model.specs.Frames.{two_bytes, widths}
use Rattle.laws.specs.ListText.{gate_bytes, output_bytes}
use Rattle.frame.specs.Frames.{first, frame_of, Behind}
use Rattle.frame.specs.Frames.First.{found}
use Rattle.frame.specs.Kinds.{HasKind, Unframed}
use Rattle.frame.specs.declared.Frame.{Frame}
use Rattle.frame.specs.declared.Resolve.{Resolve}

-- LF is the last of a text's first so many bytes, or it is not
pub record Feeds (text : List ℕ) (bytes : ℕ) (r : Bool) : Type 0 where
  pub room : r ≡ true → bytes ≤ length text
  pub feed : r ≡ true → (n : ℕ) → suc n ≡ bytes → get_or text n 0 ≡ line_feed
  pub none : r ≡ false → (n : ℕ) → suc n ≡ bytes → n < length text → get_or text n 0 ≡ line_feed → ⊥

-- the first line has this kind and these fields in so many bytes, whatever its number
pub record HasLine (text : List ℕ) (bytes kind : ℕ) (fields : List ℕ) : Type 0 where
  pub room : bytes ≤ length text
  pub framed : (line : ℕ) → found (record { kind = kind; fields = fields }) (lines (drop bytes text)) (suc line) ≡ first (lines text) line

-- a line of a kind with these widths has these fields, or it has none
abbrev pub Fielded : List ℕ → List ℕ → ℕ → List ℕ → Type 0
Fielded text ws bytes fields = (kind : ℕ) → HasKind text kind → widths kind ≡ ws → HasLine text bytes kind fields

abbrev pub Unfielded : List ℕ → List ℕ → Type 0
Unfielded text ws = (kind : ℕ) → HasKind text kind → widths kind ≡ ws → Unframed text

abbrev pub OperandsSay : List ℕ → Option (ℕ × ℕ) → Type 0
OperandsSay text (Some (x, y)) = Fielded text (two_bytes ∷ two_bytes ∷ []) gate_bytes (x ∷ y ∷ [])
OperandsSay text None = Unfielded text (two_bytes ∷ two_bytes ∷ [])

abbrev pub OutputSays : List ℕ → Option ℕ → Type 0
OutputSays text (Some l) = Fielded text (two_bytes ∷ []) output_bytes (l ∷ [])
OutputSays text None = Unfielded text (two_bytes ∷ [])

abbrev pub ResolveSays : List ℕ → Option Resolve → Type 0
ResolveSays text (Some r) = Fielded text (two_bytes ∷ two_bytes ∷ two_bytes ∷ []) proof_line_bytes (r.first ∷ r.second ∷ r.variable ∷ [])
ResolveSays text None = Unfielded text (two_bytes ∷ two_bytes ∷ two_bytes ∷ [])

-- the first line has this frame and this is left behind it, whatever its number; or it has none
abbrev pub Looked : List ℕ → Option (Frame × Bor (List ℕ)) → Type 0
Looked text (Some (f, rest)) = Behind text rest.now × ((line : ℕ) → found (frame_of f) (lines rest.now) (suc line) ≡ first (lines text) line)
Looked text None = Unframed text
