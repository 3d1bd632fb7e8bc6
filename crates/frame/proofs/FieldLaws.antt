-- Laws of a line's fields: its digits run from its kind through its fields to LF, so that it is decoded as the table has it; where the run stops
-- before, or LF stands elsewhere, the line has another length than its kind and is refused.
use Prim.Native.Nat.{ℕ, zero, suc, ◌+◌, ◌-◌, ◌<◌, ◌≤◌}
use mathlib.Core.Path.{◌≡◌, refl, sym, ap, ◌∙◌}
use mathlib.Core.List.{List, [], ◌∷◌}
use mathlib.Core.Bool.{Bool, true, false}
use native.Mathlib.Omega.{arith}
use lib.ListN.{length, take, drop, get_or, length-drop}
use lib.Seq.{length-take-le}
use Rattle.std.proofs.lemmas.List.{take_all}
use Rattle.model.specs.Lines.{line_feed, lines}
use Rattle.model.specs.Frames.{widths, is_kind, total, number, one_byte, two_bytes}
use Rattle.std.specs.Prelude.{Option, Some, None}
use Rattle.std.specs.Option.{MatchOption, option_map, option_and_then}
use Rattle.std.proofs.lemmas.Option.{same_Some}
use Rattle.laws.specs.ListText.{output_bytes}
use Rattle.digits.specs.Digits.{value_of, values, run, number_at, spelt}
use Rattle.digits.proofs.DigitLaws.{run_stop}
use Rattle.digits.proofs.ReadLaws.{spelt_some, spelt_none}
use Rattle.frame.specs.declared.Frame.{Frame}
use Rattle.frame.specs.Frames.{frame_of, first, Behind}
use Rattle.frame.specs.Frames.First.{found}
use Rattle.frame.specs.Kinds.{HasKind, Unframed}
use Rattle.frame.specs.Fields.{Feeds, HasLine, OutputSays}
use Rattle.frame.proofs.DecodeLaws.{fields_at, whole, wrong_length}
use Rattle.frame.proofs.LineLaws.{read_whole}

-- ---- numbers of a line are those of the text

take_part : (l : List ℕ) (n k w : ℕ) → k + w ≤ n → take w (drop k (values (take n l))) ≡ take w (drop k (values l))
take_part l zero zero zero h = refl
take_part l zero zero (suc w) h = absurd (omega arith)
take_part l zero (suc k) w h = absurd (omega arith)
take_part [] (suc n) k w h = refl
take_part (b ∷ l) (suc n) zero zero h = refl
take_part (b ∷ l) (suc n) zero (suc w) h = ap (λ (t : List ℕ). value_of b ∷ t) (take_part l n zero w (omega arith))
take_part (b ∷ l) (suc n) (suc k) w h = take_part l n k w (omega arith)

module _ (text : List ℕ) (n : ℕ) where
  pub part_long : n < length text → length (take n text) ≡ n
  part_long h = length-take-le n text (omega arith)

  pub part_number : (k w : ℕ) → k + w ≤ n → number_at (take n text) k w ≡ number_at text k w
  unfolding number_at
  part_number k w h = ap (number 0) (take_part text n k w h)

  pub part_fields : (ws : List ℕ) (k : ℕ) → k + total ws ≤ n → fields_at (take n text) k ws ≡ fields_at text k ws
  unfolding total
  part_fields [] k h = refl
  part_fields (w ∷ ws) k h = rw (part_number k w (omega arith), part_fields ws (k + w) (omega arith))

-- ---- fields one behind the other

-- the fields of these widths that digits spell from a place on; none where one of them is not spelt
abbrev pub fields_spelt : List ℕ → ℕ → List ℕ → Option (List ℕ)
fields_spelt text at [] = Some []
fields_spelt text at (w ∷ ws) = option_and_then (λ r. option_map (λ rs. r ∷ rs) (fields_spelt text (at + w) ws)) (spelt text at w)

-- where they are, the run of digits goes through all of them
spelt_all : (text : List ℕ) (at : ℕ) (ws rs : List ℕ) → Some rs ≡ fields_spelt text at ws → (run (drop at text) ≡ total ws + run (drop (at + total ws) text)) × (rs ≡ fields_at text at ws)
unfolding total
spelt_all text at [] rs e = let z : at + 0 ≡ at = omega arith in (rw z (omega arith), cc)
spelt_all text at (w ∷ ws) rs e = go (spelt text at w) (fields_spelt text (at + w) ws) refl refl e (spelt_all text (at + w) ws)
  where
    go : (o : Option ℕ) (os : Option (List ℕ)) → o ≡ spelt text at w → os ≡ fields_spelt text (at + w) ws → Some rs ≡ option_and_then (λ r. option_map (λ rs. r ∷ rs) os) o
        → ((rs : List ℕ) → Some rs ≡ fields_spelt text (at + w) ws → (run (drop (at + w) text) ≡ total ws + run (drop (at + w + total ws) text)) × (rs ≡ fields_at text (at + w) ws))
        → (run (drop at text) ≡ w + total ws + run (drop (at + (w + total ws)) text)) × (rs ≡ fields_at text at (w ∷ ws))
    go None os p q e rest = cc
    go (Some r) None p q e rest = cc
    go (Some r) (Some t) p q e rest =
        let z : at + w + total ws ≡ at + (w + total ws) = omega arith in
        let s = spelt_some text at w p in
        let more = rest t q in
        let run = rw z at more.0 in
        (omega (arith, s.goes, run), same_Some _ _ e ∙ rw (s.number, more.1))

-- else it stops before
spelt_stop : (text : List ℕ) (at : ℕ) (ws : List ℕ) → None ≡ fields_spelt text at ws → run (drop at text) < total ws
unfolding total
spelt_stop text at [] e = cc
spelt_stop text at (w ∷ ws) e = go (spelt text at w) (fields_spelt text (at + w) ws) refl refl e (spelt_stop text (at + w) ws)
  where
    go : (o : Option ℕ) (os : Option (List ℕ)) → o ≡ spelt text at w → os ≡ fields_spelt text (at + w) ws → None ≡ option_and_then (λ r. option_map (λ rs. r ∷ rs) os) o
        → (None ≡ fields_spelt text (at + w) ws → run (drop (at + w) text) < total ws) → run (drop at text) < w + total ws
    go None os p q e rest = omega (arith, spelt_none text at w p)
    go (Some r) None p q e rest = omega (arith, (spelt_some text at w p).goes, rest q)
    go (Some r) (Some t) p q e rest = cc

-- ---- a line of a kind

pub kind_spelt : (text : List ℕ) (kind n : ℕ) → HasKind text kind → one_byte ≤ n → kind ≡ number_at (take n text) 0 one_byte
kind_spelt text kind n k h = k.spelt ∙ sym (part_number text n 0 one_byte (omega arith))

module _ (text : List ℕ) (ws : List ℕ) {kind : ℕ} (k : HasKind text kind) (w : widths kind ≡ ws) where
  -- the fields of the kind, and LF behind them
  framed : (rs : List ℕ) (n : ℕ) → is_kind ws ≡ true → Some rs ≡ fields_spelt text one_byte ws → n ≡ one_byte + total ws → n < length text → get_or text n 0 ≡ line_feed
      → (line : ℕ) → found (record { kind = kind; fields = rs }) (lines (drop (suc n) text)) (suc line) ≡ first (lines text) line
  framed rs n some h q f l line =
      let stop : run (drop n text) ≡ 0 = run_stop text n f (rw l) in
      let all = spelt_all text one_byte ws rs h in
      let on = rw (← q) at all.0 in
      let runs : n ≡ run text = omega (arith, k.goes) in
      let fields : fields_at (take n text) one_byte (widths kind) ≡ rs = rw w (part_fields text n ws one_byte (omega arith) ∙ sym all.1) in
      let d = whole (take n text) line (kind_spelt text kind n k (omega arith)) refl (rw w some) (part_long text n f ∙ rw w q) in
      sym (read_whole text line n runs f l ∙ rw (← d, fields))

  -- no line of the kind's length
  other_length : ((n : ℕ) → n ≡ one_byte + total ws → n ≡ run text → n < length text → get_or text n 0 ≡ line_feed → ⊥) → Unframed text
  other_length not n line e h f =
      wrong_length (take n text) line (kind_spelt text kind n k (omega (arith, k.goes))) refl
      (λ q. not n (sym (part_long text n h) ∙ rw w at q) e h f)

module _ (text : List ℕ) (ws : List ℕ) {bytes : ℕ} {r : Bool} (f : Feeds text bytes r) (b : suc (one_byte + total ws) ≡ bytes) where
  -- LF does not stand where the kind's length has it
  pub unfed : r ≡ false → (kind : ℕ) → HasKind text kind → widths kind ≡ ws → Unframed text
  unfed is kind k w = other_length text ws k w (λ n q _ h l. f.none is n (omega arith) h l)

  -- it does, and these are the fields between, or they are not all spelt
  pub line_says : r ≡ true → is_kind ws ≡ true → (o : Option (List ℕ)) → o ≡ fields_spelt text one_byte ws → (kind : ℕ) → HasKind text kind → widths kind ≡ ws
      → MatchOption o (Unframed text) (λ rs. HasLine text bytes kind rs)
  line_says is some (Some rs) e kind k w =
      let n : ℕ = one_byte + total ws in
      let room = f.room is in
      record { room = room; framed = λ line. rw b at (framed text ws k w rs n some e refl (omega arith) (f.feed is n b) line) }
  line_says is some None e kind k w =
      let stop = spelt_stop text one_byte ws e in
      other_length text ws k w (λ n q e' _ _. omega (arith, k.goes))

-- an output's literal stands alone
pub output_says : (text : List ℕ) {r : Bool} → Feeds text output_bytes r → r ≡ true → (o : Option ℕ) → o ≡ spelt text one_byte two_bytes → OutputSays text o
unfolding total
output_says text f is (Some l) e = line_says text (two_bytes ∷ []) f refl is refl (Some (l ∷ [])) (rw (← e))
output_says text f is None e = line_says text (two_bytes ∷ []) f refl is refl None (rw (← e))

pub output_unfed : (text : List ℕ) {r : Bool} → Feeds text output_bytes r → r ≡ false → OutputSays text None
unfolding total
output_unfed text f is = unfed text (two_bytes ∷ []) f refl is

-- ---- the first line, and what is left behind it

abbrev rest : List ℕ → ℕ → List ℕ
rest text bytes = take (length text - bytes) (drop bytes text)

pub looked : (text : List ℕ) (f : Frame) {bytes : ℕ} → HasLine text bytes (frame_of f).kind (frame_of f).fields → 0 < bytes
    → Behind text (rest text bytes) × ((line : ℕ) → found (frame_of f) (lines (rest text bytes)) (suc line) ≡ first (lines text) line)
looked text f {bytes} l h =
    let e : rest text bytes ≡ drop bytes text = take_all (length text - bytes) (drop bytes text) (rw length-drop (omega arith)) in
    (record { bytes = bytes; some = h; within = l.room; cut = e }, λ line. rw e (l.framed line))
