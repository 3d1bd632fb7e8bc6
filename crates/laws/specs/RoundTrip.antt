-- Frames written and read. A line can hold a frame if its kind is one of the table and its fields are one value for each width
-- w, below 16 ^ w: such a frame is proper. Its line has the two digits of the kind and then the w digits of each field; cut at the same
-- widths they give kind and fields again, so what is written is read. The other way round, digits that are read as a frame are as many as
-- the widths of its kind ask for, each field is the number of its w digits, and that number is below 16 ^ w and has just those digits. So
-- what is read is proper, its line has as many bytes as its kind gives, and written again it is the same bytes: a frame has one line, and a
-- line one frame.
use Rattle.std.specs.Prelude.{ℕ, zero, suc, ◌+◌, ◌^◌, ◌≤◌, ◌<◌, ◌≡◌, refl, Bool, true, false, ◌&&◌, List, [], ◌∷◌, ◌++◌, map, length, get_or, take, drop, eqb, leb, ltb}
use Rattle.std.proofs.Common.{sym, ap, ◌∙◌, subst, true≢false, append-nil, append_assoc, arith, length-append, length-drop, take-append-drop, take_at, drop_at, length-take-le, eqb-true, eq-eqb, ne_eqb, le-leb, ltb-true, ltb-false}
use Rattle.std.proofs.lemmas.List.{map-append, length-map}
use Rattle.std.proofs.Math.Seq.{append_snoc, take-append_seam}
use Rattle.model.specs.Limits.{highest_line}
use Rattle.model.specs.Answers.{guard, filled}
use Rattle.model.specs.Answers.Answer.{ok}
use Rattle.model.specs.Lines.{Line, line_feed, digit_of, lines}
use Rattle.model.specs.Lines.Line.{digits, faulty}
use Rattle.model.specs.Frames.{Frame, header_kind, and_kind, xor_kind, output_kind, resolve_kind, extend_and_kind, extend_xor_kind, report_kind, one_byte, widths, is_kind, number, total, split, decode_as, decode, frame_at, end_at, lone_of, lone_line, hex_fields, line_of, stated_line, write_frame, written_frame}
use Rattle.laws.specs.Bools.{both, by_cond}
use Rattle.laws.specs.Answers.{ok_injective, refused_not_ok, guard_ok, bind_ok}
use Rattle.laws.specs.Lines.{prepend_some}
use Rattle.laws.specs.Digits.{AllDigits, line_of_bytes, all_spelt, Begins, bytes_of_line, line_end, digits_of, hex_digits, all_append, all_digits_of, length_digits_of, number_digits_of, digits_number}

-- ---- fields

-- one value for each width w, below 16 ^ w
abbrev pub Fits : List ℕ → List ℕ → Type 0
Fits [] [] = Unit {0}
Fits [] (v ∷ vs) = ⊥
Fits (w ∷ ws) [] = ⊥
Fits (w ∷ ws) (v ∷ vs) = (v < 16 ^ w) × Fits ws vs

-- the digits of the fields, one behind the other
abbrev field_digits : List ℕ → List ℕ → List ℕ
field_digits [] vs = []
field_digits (w ∷ ws) [] = []
field_digits (w ∷ ws) (v ∷ vs) = digits_of w v ++ field_digits ws vs

-- `hex_fields` writes their bytes
hex_fields_digits : (ws vs : List ℕ) → hex_fields ws vs ≡ map digit_of (field_digits ws vs)
unfolding hex_fields
hex_fields_digits [] vs = refl
hex_fields_digits (w ∷ ws) [] = refl
hex_fields_digits (w ∷ ws) (v ∷ vs) = rw (map-append, hex_digits w v, hex_fields_digits ws vs)

all_field_digits : (ws vs : List ℕ) → AllDigits (field_digits ws vs)
all_field_digits [] vs = tt
all_field_digits (w ∷ ws) [] = tt
all_field_digits (w ∷ ws) (v ∷ vs) = all_append (digits_of w v) (field_digits ws vs) (all_digits_of w v) (all_field_digits ws vs)

length_field_digits : (ws vs : List ℕ) → length vs ≡ length ws → length (field_digits ws vs) ≡ total ws
unfolding total
length_field_digits [] vs e = refl
length_field_digits (w ∷ ws) [] e = absurd (omega arith)
length_field_digits (w ∷ ws) (v ∷ vs) e = rw (length-append, length_digits_of w v, length_field_digits ws vs (omega arith))

fits_length : (ws vs : List ℕ) → Fits ws vs → length vs ≡ length ws
fits_length [] [] h = refl
fits_length [] (v ∷ vs) h = absurd h
fits_length (w ∷ ws) [] h = absurd h
fits_length (w ∷ ws) (v ∷ vs) h = ap suc (fits_length ws vs h.1)

-- values that fit are split off again
split_field_digits : (ws vs : List ℕ) → Fits ws vs → split ws (field_digits ws vs) ≡ vs
unfolding split
split_field_digits [] [] h = refl
split_field_digits [] (v ∷ vs) h = absurd h
split_field_digits (w ∷ ws) [] h = absurd h
split_field_digits (w ∷ ws) (v ∷ vs) h =
    let l : length (digits_of w v) ≡ w = length_digits_of w v in
    rw (
      take_at (digits_of w v) (field_digits ws vs) w l,
      drop_at (digits_of w v) (field_digits ws vs) w l,
      number_digits_of w v h.0,
      split_field_digits ws vs h.1,
    )

all_take : (n : ℕ) (ds : List ℕ) → AllDigits ds → AllDigits (take n ds)
all_take zero ds h = tt
all_take (suc n) [] h = tt
all_take (suc n) (d ∷ ds) h = (h.0, all_take n ds h.1)

all_drop : (n : ℕ) (ds : List ℕ) → AllDigits ds → AllDigits (drop n ds)
all_drop zero ds h = h
all_drop (suc n) [] h = tt
all_drop (suc n) (d ∷ ds) h = all_drop n ds h.1

-- digits, as many as the widths ask for, are split into values that fit and have these digits
split_fits : (ws ds : List ℕ) → AllDigits ds → length ds ≡ total ws → Fits ws (split ws ds) × (field_digits ws (split ws ds) ≡ ds)
unfolding split total
split_fits [] [] h e = (tt, refl)
split_fits [] (d ∷ ds) h e = absurd (omega arith)
split_fits (w ∷ ws) ds h e =
    let behind : length (drop w ds) ≡ total ws = rw length-drop (omega arith) in
    let n = digits_number w (take w ds) (all_take w ds h) (length-take-le w ds (omega arith)) in
    let r = split_fits ws (drop w ds) (all_drop w ds h) behind in
    ((n.0, r.0), rw (n.1, r.1, take-append-drop))

-- ---- frames

-- A frame that its line can hold: its kind is one of the table, and its fields fit the widths that the table gives.
pub record Proper (f : Frame) : Type 0 where
  pub known : is_kind (widths f.kind) ≡ true
  pub fit : Fits (widths f.kind) f.fields

-- the kinds of the table are bytes: from 256 on each of its tests fails
kind_byte : (kind : ℕ) → is_kind (widths kind) ≡ true → kind < 256
unfolding widths
kind_byte kind h = go (ltb kind 256) refl
  where
    go : (b : Bool) → ltb kind 256 ≡ b → kind < 256
    go true e = ltb-true kind 256 e
    go false e =
        let l : 256 ≤ kind = ltb-false kind 256 e in
        let no : (k : ℕ) → ltb k 256 ≡ true → eqb kind k ≡ false = λ k s. ne_eqb kind k (omega (arith, ltb-true k 256 s)) in
        absurd (true≢false (sym
        (rw (
          no header_kind refl,
          no and_kind refl,
          no xor_kind refl,
          no output_kind refl,
          no resolve_kind refl,
          no extend_and_kind refl,
          no extend_xor_kind refl,
          no report_kind refl,
        ) at h)))

-- all the digits of a frame's line
abbrev frame_digits : Frame → List ℕ
frame_digits f = digits_of one_byte f.kind ++ field_digits (widths f.kind) f.fields

all_frame_digits : (f : Frame) → AllDigits (frame_digits f)
all_frame_digits f =
    let ws : List ℕ = widths f.kind in
    all_append (digits_of one_byte f.kind) (field_digits ws f.fields) (all_digits_of one_byte f.kind) (all_field_digits ws f.fields)

line_of_digits : (f : Frame) → line_of f ≡ map digit_of (frame_digits f) ++ (line_feed ∷ [])
unfolding line_of
line_of_digits f = rw (hex_digits one_byte f.kind, hex_fields_digits (widths f.kind) f.fields, map-append)

-- the line of a frame, and what is behind it
line_of_before : (f : Frame) (q : List ℕ) → line_of f ++ q ≡ map digit_of (frame_digits f) ++ line_feed ∷ q
line_of_before f q = rw (line_of_digits f, append_snoc)

-- the digits of a proper frame are read as that frame
decode_frame : (f : Frame) → Proper f → (line : ℕ) → decode (frame_digits f) line ≡ ok f
unfolding decode decode_as guard
decode_frame f p line =
    let ws : List ℕ = widths f.kind in
    let first : List ℕ = digits_of one_byte f.kind in
    let behind : List ℕ = field_digits ws f.fields in
    let two : length first ≡ one_byte = length_digits_of one_byte f.kind in
    let l : length (first ++ behind) ≡ one_byte + total ws = rw (length-append, two, length_field_digits ws f.fields (fits_length ws f.fields p.fit)) in
    rw (
      take_at first behind one_byte two,
      number_digits_of one_byte f.kind (kind_byte f.kind p.known),
      p.known,
      eq-eqb _ _ l,
      drop_at first behind one_byte two,
      split_field_digits ws f.fields p.fit,
    )

-- digits that are read as a frame are its digits, and the frame is proper
decode_proper : (ds : List ℕ) (line : ℕ) (f : Frame) → AllDigits ds → decode ds line ≡ ok f → Proper f × (frame_digits f ≡ ds)
unfolding decode decode_as
decode_proper ds line f h e =
    let kind : ℕ = number 0 (take one_byte ds) in
    let ws : List ℕ = widths kind in
    let frame : Frame = record { kind = kind; fields = split ws (drop one_byte ds) } in
    let g = guard_ok (is_kind ws && eqb (length ds) (one_byte + total ws)) 3 line (ok frame) e in
    let t = both (is_kind ws) (eqb (length ds) (one_byte + total ws)) g.0 in
    let l : length ds ≡ one_byte + total ws = eqb-true (length ds) (one_byte + total ws) t.1 in
    let k = digits_number one_byte (take one_byte ds) (all_take one_byte ds h) (length-take-le one_byte ds (omega arith)) in
    let r = split_fits ws (drop one_byte ds) (all_drop one_byte ds h) (rw length-drop (omega arith)) in
    rw (← (ok_injective g.1)) (record { known = t.0; fit = r.0 }, rw (k.1, r.1) (take-append-drop one_byte ds))

-- ---- writing, then reading

-- A proper frame, written before any text: its line is the first, is read as that frame at any line number, and the text's lines follow.
pub read_written : (f : Frame) → Proper f → (t : List ℕ)
    → (l : Line) × (lines (line_of f ++ t) ≡ l ∷ lines t) × ((line : ℕ) → frame_at l line ≡ ok f)
unfolding frame_at
read_written f p t =
    (digits (frame_digits f), rw (line_of_before f t) (line_of_bytes (frame_digits f) t (all_frame_digits f)), decode_frame f p)

-- A proper frame's line alone is read as that frame.
pub lone_written : (f : Frame) → Proper f → lone_line (line_of f) ≡ ok f
unfolding lines lone_line lone_of end_at
lone_written f p =
    let r = read_written f p [] in
    let alone : lines (line_of f) ≡ r.0 ∷ [] = rw append-nil at r.1 in
    rw (alone, r.2 1)

-- the lines of frames, one behind the other
unfoldable pub text_of : List Frame → List ℕ
text_of [] = []
text_of (f ∷ fs) = line_of f ++ text_of fs

-- frames put behind frames
pub text_append : (fs gs : List Frame) → text_of (fs ++ gs) ≡ text_of fs ++ text_of gs
unfolding text_of
text_append [] gs = refl
text_append (f ∷ fs) gs = rw (text_append fs gs, append_assoc)

-- ---- reading

-- the bytes of a frame's line, the LF included: its kind gives them
abbrev pub line_bytes : Frame → ℕ
line_bytes f = one_byte + total (widths f.kind) + 1

length_frame_digits : (f : Frame) → length f.fields ≡ length (widths f.kind) → length (frame_digits f) + 1 ≡ line_bytes f
length_frame_digits f n = rw (length-append, length_digits_of one_byte f.kind, length_field_digits (widths f.kind) f.fields n)

-- a line that is read has the digits of its frame, however they are spelt, and the frame is proper
digits_read : (l : Line) (line : ℕ) (f : Frame) {t : List ℕ} {ls : List Line} → lines t ≡ l ∷ ls → frame_at l line ≡ ok f
    → Proper f × (l ≡ digits (frame_digits f)) × Begins t (frame_digits f) ls
unfolding frame_at
digits_read (digits ds) line f {t} {ls} first read =
    let b = bytes_of_line t ds ls first in
    let d = decode_proper ds line f (subst AllDigits b.values (all_spelt b.word b.spelt).0) read in
    (d.0, ap digits (sym d.1), subst (λ (es : List ℕ). Begins t es ls) (sym d.1) b)
digits_read faulty line f first read = absurd (refused_not_ok read)

-- A text's first line that is read as a frame: there is a field for each width, the line is read so at any number, and it has as many bytes
-- as its kind gives.
pub record Taken (t : List ℕ) (l : Line) (ls : List Line) (f : Frame) : Type 0 where
  pub many : length f.fields ≡ length (widths f.kind)
  pub again : (line : ℕ) → frame_at l line ≡ ok f
  pub long : line_bytes f ≤ length t
  pub behind : lines (drop (line_bytes f) t) ≡ ls

pub line_taken : {t : List ℕ} {l : Line} {ls : List Line} (line : ℕ) (f : Frame) → lines t ≡ l ∷ ls → frame_at l line ≡ ok f → Taken t l ls f
unfolding frame_at
line_taken {t} {l} {ls} line f first read =
    let d = digits_read l line f first read in
    let many = fits_length (widths f.kind) f.fields d.0.fit in
    let n = length_frame_digits f many in
    let e = line_end d.2 in
    record {
      many = many;
      again = λ line. rw d.1 (decode_frame f d.0 line);
      long = omega (arith, n, e.0);
      behind = subst (λ (k : ℕ). lines (drop k t) ≡ ls) n e.1;
    }

-- ---- reading, then writing

-- a text's first line that is read: the frame is proper, and its line is what the text begins with
line_read : (t : List ℕ) (l : Line) (ls : List Line) (line : ℕ) (f : Frame) → lines t ≡ l ∷ ls → frame_at l line ≡ ok f
    → Proper f × ((q : List ℕ) × (t ≡ line_of f ++ q) × (lines q ≡ ls))
line_read t l ls line f first read =
    let d = digits_read l line f first read in
    let b = d.2 in
    let once : map digit_of (frame_digits f) ≡ b.word = rw b.values at (all_spelt b.word b.spelt).1 in
    (d.0, (b.rest, b.bytes ∙ rw (line_of_before f b.rest, once), b.behind))

-- A text whose first line is read as a frame begins with that frame's line, byte for byte, and the other lines are those of the rest.
pub written_read : (t : List ℕ) (l : Line) (ls : List Line) (line : ℕ) (f : Frame) → lines t ≡ l ∷ ls → frame_at l line ≡ ok f
    → (q : List ℕ) × (t ≡ line_of f ++ q) × (lines q ≡ ls)
written_read t l ls line f first read = (line_read t l ls line f first read).1

-- only the empty text has no lines
pub no_lines : (t : List ℕ) → lines t ≡ [] → t ≡ []
unfolding lines
no_lines [] e = refl
no_lines (b ∷ t) e = absurd (omega (arith, prepend_some (eqb b line_feed) b (lines t), ap length e))

-- no line is behind an end
pub end_nil : (ls : List Line) (line : ℕ) {u : Unit {0}} → end_at ls line ≡ ok u → ls ≡ []
unfolding end_at
end_nil [] line e = refl
end_nil (l ∷ ls) line e = absurd (refused_not_ok (bind_ok (frame_at l line) e).2)

-- a lone line is the only one
lone_one : (ls : List Line) (f : Frame) → lone_of ls ≡ ok f → (l : Line) × (ls ≡ l ∷ []) × (frame_at l 1 ≡ ok f)
unfolding lone_of
lone_one [] f e = absurd (refused_not_ok e)
lone_one (l ∷ ls) f e =
    let r = bind_ok (frame_at l 1) e in
    let s = bind_ok (end_at ls 2) r.2 in
    (l, rw (end_nil ls 2 s.1), r.1 ∙ s.2)

-- the same of a lone line
lone_both : (t : List ℕ) (f : Frame) → lone_line t ≡ ok f → Proper f × (line_of f ≡ t)
unfolding lone_line
lone_both t f e =
    let o = lone_one (lines t) f e in
    let r = line_read t o.0 [] 1 f o.1 o.2 in
    let nothing : r.1.0 ≡ [] = no_lines r.1.0 r.1.2 in
    (r.0, sym (r.1.1 ∙ rw (nothing, append-nil)))

-- A text that is read as a lone line is that frame's line.
pub lone_read : (t : List ℕ) (f : Frame) → lone_line t ≡ ok f → line_of f ≡ t
lone_read t f e = (lone_both t f e).1

-- And that frame is proper.
pub lone_proper : (t : List ℕ) (f : Frame) → lone_line t ≡ ok f → Proper f
lone_proper t f e = (lone_both t f e).0

-- ---- through the buffer

-- A frame's line has these bytes, if there is a field for each width.
pub line_length : (f : Frame) → length f.fields ≡ length (widths f.kind) → length (line_of f) ≡ line_bytes f
line_length f n = rw (line_of_digits f, length-append, length-map) (length_frame_digits f n)

-- A proper frame that is written into a buffer is read back from it: from the bytes that the answer counts.
pub buffer_read : (f : Frame) (room n : ℕ) → Proper f → write_frame f room ≡ ok n → lone_line (take n (written_frame f room)) ≡ ok f
unfolding write_frame
buffer_read f room n p e =
    let fits : Bool = leb (stated_line f) highest_line && leb (length (line_of f)) room in
    let g = guard_ok fits 16 0 (ok (length (line_of f))) e in
    rw (e, ← (ok_injective g.1), take-append_seam) (lone_written f p)

-- a report's second field has three bytes
report_line : (vs : List ℕ) → Fits (widths report_kind) vs → get_or vs 1 0 ≤ highest_line
unfolding widths
report_line [] h = absurd h
report_line (v ∷ []) h = absurd h.1
report_line (v ∷ u ∷ vs) h = omega (arith, h.1.0)

-- so a proper frame states no line above FFFFFF
stated_low : (f : Frame) → Proper f → stated_line f ≤ highest_line
unfolding stated_line
stated_low f p =
    by_cond (λ (n : ℕ). n ≤ highest_line) (eqb f.kind report_kind)
    (λ e. report_line f.fields (rw (eqb-true f.kind report_kind e) at p.fit))
    (λ e. omega arith)

-- A text that is read as a lone line is what the frame's writing leaves in a buffer that has room for it.
pub buffer_written : (t : List ℕ) (f : Frame) (room : ℕ) → lone_line t ≡ ok f → length t ≤ room
    → (write_frame f room ≡ ok (length t)) × (written_frame f room ≡ filled room t)
unfolding write_frame guard
buffer_written t f room e h =
    let low : leb (stated_line f) highest_line ≡ true = le-leb (stated_line f) highest_line (stated_low f (lone_proper t f e)) in
    rw (lone_read t f e, low, le-leb (length t) room h) (refl, refl)
