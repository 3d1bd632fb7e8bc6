-- What each answer of the readers says of the lines from a cursor on, in terms of the definitions of lists. A reader's answer is about every
-- list that can have been begun before it, and so each statement is for all of them.
use Rattle.std.specs.Prelude.{ℕ, suc, ◌+◌, ◌≤◌, ◌<◌, ◌≡◌, Bool, true, List, length, Some, Result, Ok, Err}
use Rattle.model.specs.Limits.{most_inputs, most_gates, most_outputs}
use Rattle.model.specs.Answers.{Answer, guard}
use Rattle.model.specs.Answers.Answer.{ok}
use Rattle.model.specs.Lines.{Line, lines}
use Rattle.model.specs.Frames.{end_at}
use Rattle.model.specs.Nets.{Gate, Netlist, size}
use Rattle.model.specs.Lists.{Lists, ListsRead, ListRead, add_gate, add_output, empty_list, read_outputs, read_gates, read_list, any_header, like_left}
use Rattle.frame.specs.declared.cursor.Cursor.{Cursor}
use Rattle.frame.specs.declared.Frame.{Frame}
use Rattle.frame.specs.Frames.{First, first, first_of}
use Rattle.frame.specs.Frames.First.{none, found, fault}
use Rattle.refusal.specs.declared.Refusal.{Refusal}
use Rattle.refusal.specs.Answers.{number_of, refused_by}
use Rattle.listing.specs.declared.Counts.{Counts}

-- ---- one line

-- the lines that are left at a cursor
abbrev pub ahead : Cursor → List Line
ahead c = lines c.rest.now

-- where no frame stands: the line's own refusal, or 4 where the text has ended
abbrev pub MissingBy : First → ℕ → Refusal → Type 0
MissingBy none line r = (number_of r.reason ≡ 4) × (r.line ≡ line)
MissingBy (found f ls next) line r = ⊥
MissingBy (fault number place) line r = (number_of r.reason ≡ number) × (r.line ≡ place)

-- the frame at a cursor, and the cursor behind it
abbrev pub DueSays : Cursor → Result (Frame × Cursor) Refusal → Type 0
DueSays c (Ok (f, next)) = first_of (Ok (Some (f, next))) ≡ first (ahead c) c.line
DueSays c (Err r) = MissingBy (first (ahead c) c.line) c.line r

-- Behind a header within its ranges the list's lines go on, if the list's test passes the header.
pub record HeaderRead (c : Cursor) (k : Counts) (next : Cursor) : Type 0 where
  pub inputs : k.inputs ≤ most_inputs
  pub gates : k.gates ≤ most_gates
  pub some : 0 < k.outputs
  pub outputs : k.outputs ≤ most_outputs
  pub reads : (like : ℕ → ℕ → Bool) → read_list like (ahead c) c.line
      ≡ guard (like k.inputs k.outputs) 6 c.line (read_gates k.gates k.outputs (empty_list k.inputs) (ahead next) next.line)

abbrev pub HeaderSays : Cursor → Result (Counts × Cursor) Refusal → Type 0
HeaderSays c (Ok (k, next)) = HeaderRead c k next
HeaderSays c (Err r) = (like : ℕ → ℕ → Bool) → read_list like (ahead c) c.line ≡ refused_by r

-- The first of these lines is the next gate of every list whose next net is this one.
pub record GateRead (ls : List Line) (line net : ℕ) (rest : List Line) (next : ℕ) : Type 0 where
  pub gate : Gate
  pub reads : (k m : ℕ) (n : Netlist) → size n ≡ net → read_gates (suc k) m n ls line ≡ read_gates k m (add_gate n gate) rest next

-- It is the next output of every list with so many nets.
pub record OutputRead (ls : List Line) (line nets : ℕ) (rest : List Line) (next : ℕ) : Type 0 where
  pub literal : ℕ
  pub reads : (k : ℕ) (n : Netlist) → size n ≡ nets → read_outputs (suc k) n ls line ≡ read_outputs k (add_output n literal) rest next

-- ---- several lines

-- m is the list n with so many gates more
pub record MoreGates (n : Netlist) (count : ℕ) (m : Netlist) : Type 0 where
  pub inputs : m.inputs ≡ n.inputs
  pub gates : length m.gates ≡ length n.gates + count
  pub outs : m.outs ≡ n.outs

-- m is the list n with so many outputs more
pub record MoreOutputs (n : Netlist) (count : ℕ) (m : Netlist) : Type 0 where
  pub inputs : m.inputs ≡ n.inputs
  pub gates : m.gates ≡ n.gates
  pub outs : length m.outs ≡ length n.outs + count

-- Of so many gates the first i are read: reading comes to what reading the others comes to.
abbrev pub GatesRead : List Line → ℕ → ℕ → ℕ → ℕ → List Line → ℕ → Type 0
GatesRead ls line first count i rest next = (left m : ℕ) (n : Netlist) → size n ≡ first → left + i ≡ count
    → (n' : Netlist) × MoreGates n i n' × (read_gates count m n ls line ≡ read_gates left m n' rest next)

abbrev pub GatesSay : Cursor → ℕ → ℕ → Result Cursor Refusal → Type 0
GatesSay c first count (Ok next) = GatesRead (ahead c) c.line first count count (ahead next) next.line
GatesSay c first count (Err r) = (m : ℕ) (n : Netlist) → size n ≡ first → read_gates count m n (ahead c) c.line ≡ refused_by r

-- the same of outputs
abbrev pub OutputsRead : List Line → ℕ → ℕ → ℕ → ℕ → List Line → ℕ → Type 0
OutputsRead ls line nets count i rest next = (left : ℕ) (n : Netlist) → size n ≡ nets → left + i ≡ count
    → (n' : Netlist) × MoreOutputs n i n' × (read_outputs count n ls line ≡ read_outputs left n' rest next)

abbrev pub OutputsSay : Cursor → ℕ → ℕ → Result Cursor Refusal → Type 0
OutputsSay c nets count (Ok next) = OutputsRead (ahead c) c.line nets count count (ahead next) next.line
OutputsSay c nets count (Err r) = (n : Netlist) → size n ≡ nets → read_outputs count n (ahead c) c.line ≡ refused_by r

-- a list, and the lines that are left behind it
abbrev pub read_to : Netlist → Cursor → ListRead
read_to n next = record { list = n; line = next.line; rest = ahead next }

-- the gates and outputs of a list of these counts
pub record BodyRead (c : Cursor) (k : Counts) (next : Cursor) : Type 0 where
  pub list : Netlist
  pub inputs : list.inputs ≡ k.inputs
  pub gates : length list.gates ≡ k.gates
  pub outputs : length list.outs ≡ k.outputs
  pub reads : read_gates k.gates k.outputs (empty_list k.inputs) (ahead c) c.line ≡ ok (read_to list next)

abbrev pub BodySays : Cursor → Counts → Result Cursor Refusal → Type 0
BodySays c k (Ok next) = BodyRead c k next
BodySays c k (Err r) = read_gates k.gates k.outputs (empty_list k.inputs) (ahead c) c.line ≡ refused_by r

abbrev pub EndSays : Cursor → Result Unit Refusal → Type 0
EndSays c (Ok u) = end_at (ahead c) c.line ≡ ok tt
EndSays c (Err r) = end_at (ahead c) c.line ≡ refused_by r

-- ---- lists

-- what a reader of a list answers, as the definition has it
abbrev pub read_as : Result (Netlist × Cursor) Refusal → Answer ListRead
read_as (Ok (n, next)) = ok (read_to n next)
read_as (Err r) = refused_by r

-- with each test that its header's counts pass
abbrev pub ListSays : Cursor → Counts → Result (Netlist × Cursor) Refusal → Type 0
ListSays c k r = (like : ℕ → ℕ → Bool) → like k.inputs k.outputs ≡ true → read_list like (ahead c) c.line ≡ read_as r

abbrev pub PartSays : Cursor → Result (Netlist × Cursor) Refusal → Type 0
PartSays c r = read_list any_header (ahead c) c.line ≡ read_as r

abbrev pub RightSays : Netlist → Cursor → Result (Netlist × Cursor) Refusal → Type 0
RightSays left c r = read_list (like_left left) (ahead c) c.line ≡ read_as r

-- two lists, and the lines that are left behind them
abbrev pub both_read : Lists × Cursor → ListsRead
both_read (l, next) = record { lists = l; line = next.line; rest = ahead next }
