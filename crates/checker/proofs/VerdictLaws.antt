-- The verdict, by what the reader of both lists, the miter's writer and the replay answer.
use Prim.Native.Nat.{ℕ, ◌-◌, ◌*◌, ◌≤◌}
use mathlib.Core.Path.{◌≡◌, refl, sym, ◌∙◌}
use mathlib.Core.Bool.{Bool, true, false}
use mathlib.Core.List.{List, ◌++◌}
use native.Mathlib.Omega.{arith}
use lib.Dec.{leb}
use lib.ListN.{length, take}
use Rattle.model.specs.Answers.{Answer, guard, bind, zeros, filled}
use Rattle.model.specs.Answers.Answer.{ok, refused}
use Rattle.model.specs.Limits.{clause_width, most_clauses}
use Rattle.model.specs.Lines.{Line}
use Rattle.model.specs.Lists.{Lists, read_both}
use Rattle.model.specs.Miter.{miter}
use Rattle.model.specs.Steps.{State, replay}
use Rattle.model.specs.Checker.{begin, verdict_on, capacity, check, stored_all}
use Rattle.frame.specs.declared.cursor.Cursor.{Cursor}
use Rattle.netlist.specs.Says.{ahead, both_read}
use Rattle.steps.specs.Kept.{Held}
use Rattle.steps.proofs.HeldLaws.{all_width}
use Rattle.miter.specs.Miters.{begin_of}

-- ---- the verdict

-- the numbers of a store have room for as many clauses as it holds
pub capacity_fits : (n : ℕ) → (clause_width * capacity n ≤ n) × (capacity n ≤ most_clauses)
capacity_fits n = (omega arith, omega arith)

-- what is left once the miter's clauses are written
abbrev pub ending : ℕ → List Line → ℕ → State → Answer State
ending room ls line s₀ = bind (replay room s₀ ls line) λ s. guard s.empty 15 0 (ok s)

by_begin : (room : ℕ) (l : Lists) (ls : List Line) (line : ℕ) → verdict_on room l ls line ≡ bind (begin_of room l.left l.right) (ending room ls line)
unfolding verdict_on begin_of guard
by_begin room l ls line = go (leb (length (miter l.left l.right)) room)
  where
    go : (x : Bool) → guard x 8 0 (ending room ls line (begin l.left l.right)) ≡ bind (guard x 8 0 (ok (begin l.left l.right))) (ending room ls line)
    go true = refl
    go false = refl

-- from the cursor behind both lists
module _ (text : List ℕ) (l : Lists) (next : Cursor) (read : ok (both_read (l, next)) ≡ read_both text) (n room : ℕ) (is : room ≡ capacity n) where
  abbrev begun_as : Answer State
  begun_as = begin_of room l.left l.right

  check_is : check text n ≡ bind begun_as (ending room (ahead next) next.line)
  unfolding check
  check_is = rw (← read, sym is) (by_begin room l (ahead next) next.line)

  pub begin_refused : {number line : ℕ} → begun_as ≡ refused number line → check text n ≡ refused number line
  begin_refused e = check_is ∙ rw e

  module _ (s₀ : State) (begun : begun_as ≡ ok s₀) where
    pub replay_refused : {number line : ℕ} → replay room s₀ (ahead next) next.line ≡ refused number line → check text n ≡ refused number line
    replay_refused e = check_is ∙ rw (begun, e)

    replayed : (s : State) → replay room s₀ (ahead next) next.line ≡ ok s → check text n ≡ guard s.empty 15 0 (ok s)
    replayed s e = check_is ∙ rw (begun, e)

    pub not_empty : (s : State) → replay room s₀ (ahead next) next.line ≡ ok s → s.empty ≡ false → check text n ≡ refused 15 0
    unfolding guard
    not_empty s e f = replayed s e ∙ rw f

    pub accepted : (s : State) → replay room s₀ (ahead next) next.line ≡ ok s → s.empty ≡ true → check text n ≡ ok s
    unfolding guard
    accepted s e f = replayed s e ∙ rw f

-- where the lists are refused
pub unread : (text : List ℕ) (n : ℕ) {number line : ℕ} → refused number line ≡ read_both text → check text n ≡ refused number line
unfolding check
unread text n e = rw (← e)

-- ---- the store afterwards

-- of one that had n numbers before: the clauses stay, and zeros come behind them
pub kept : (store last : List ℕ) (s : State) (count n : ℕ) → Held store s.clauses → length s.clauses ≡ count → length store ≡ n
    → last ≡ take (clause_width * count) store ++ zeros (length store - clause_width * count) → last ≡ filled n (stored_all s.clauses)
kept store last s count n h c e is =
    let many : clause_width * count ≡ clause_width * length s.clauses = omega (arith, c) in
    is ∙ rw (many, h.same, all_width s.clauses h.proper, e)
