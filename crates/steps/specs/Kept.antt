-- The clauses that a store holds, and what a reply says of the definition's answer.
use Rattle.std.specs.Prelude.{ℕ, zero, suc, ◌+◌, ◌*◌, ◌≤◌, ◌≡◌, List, [], ◌∷◌, length, take, drop, Result, Ok, Err}
use Rattle.std.specs.Coded.{×_prop, Unit-prop, le_prop, Coded-set, coded_list, coded_ℕ}
use Rattle.model.specs.Limits.{clause_width, most_clauses, highest_variable}
use Rattle.model.specs.Answers.{Answer}
use Rattle.model.specs.Answers.Answer.{ok, refused}
use Rattle.model.specs.Clauses.{Clause, and_clauses, xor_clauses}
use Rattle.model.specs.Steps.{Step}
use Rattle.model.specs.Steps.Step.{extend}
use Rattle.model.specs.Checker.{stored_all}
use Rattle.frame.specs.declared.Op.{Op}
use Rattle.frame.specs.declared.Op.TheVariants.{And, Xor}
use Rattle.frame.specs.Frames.{op_of}
use Rattle.clause.specs.Sets.{Rising, Proper}
use Rattle.refusal.specs.declared.Reason.{Reason}
use Rattle.refusal.specs.declared.Refusal.{Refusal}
use Rattle.refusal.specs.Answers.{number_of, refused_by}

-- ---- gates

-- the clauses of n = AND or XOR of x, y
abbrev pub clauses_of : Op → ℕ → ℕ → ℕ → List Clause
clauses_of And n x y = and_clauses n x y
clauses_of Xor n x y = xor_clauses n x y

abbrev pub extension : Op → ℕ → ℕ → Step
extension op x y = extend (record { op = op_of op; x = x; y = y })

-- ---- the store

abbrev pub AllProper : List Clause → Type 0
AllProper [] = Unit {0}
AllProper (c ∷ cs) = Proper c × AllProper cs

-- the store holds these clauses in order from its start
pub record Held (store : List ℕ) (cs : List Clause) : Type 0 where
  pub room : clause_width * length cs ≤ length store
  pub same : take (clause_width * length cs) store ≡ stored_all cs
  pub proper : AllProper cs

-- ---- what is in the store

-- the literals of a clause as it is stored: what stands before the first zero, less one
unfoldable pub literals_in : List ℕ → Clause
literals_in [] = []
literals_in (zero ∷ s) = []
literals_in (suc l ∷ s) = l ∷ literals_in s

-- the first n clauses that are there
unfoldable pub clauses_in : ℕ → List ℕ → List Clause
clauses_in zero s = []
clauses_in (suc n) s = literals_in (take clause_width s) ∷ clauses_in n (drop clause_width s)

-- so many clauses are there, within their room, and how far their proof can be
pub record Kept (store : List ℕ) (room clauses steps next : ℕ) : Type 0 where
  pub held : Held store (clauses_in clauses store)
  pub numbers_for_all : clause_width * room ≤ length store
  pub most : room ≤ most_clauses
  pub in_room : clauses ≤ room
  pub few_steps : steps ≤ clauses
  pub low_next : next ≤ highest_variable + 1

-- ---- facts that can be shown in one way alone

Rising_prop : (c : Clause) → IsProp (Rising c)
Rising_prop [] = Unit-prop
Rising_prop (x ∷ c) = ×_prop le_prop (Rising_prop c)

Proper_prop : (c : Clause) → IsProp (Proper c)
Proper_prop c a b = λ i. record { rising = Rising_prop c a.rising b.rising i; width = le_prop a.width b.width i }

AllProper_prop : (cs : List Clause) → IsProp (AllProper cs)
AllProper_prop [] = Unit-prop
AllProper_prop (c ∷ cs) = ×_prop (Proper_prop c) (AllProper_prop cs)

Held_prop : (store : List ℕ) (cs : List Clause) → IsProp (Held store cs)
Held_prop store cs a b = λ i. record {
  room = le_prop a.room b.room i;
  same = Coded-set (coded_list coded_ℕ) _ _ a.same b.same i;
  proper = AllProper_prop cs a.proper b.proper i;
}

pub Kept_prop : (store : List ℕ) (room clauses steps next : ℕ) → IsProp (Kept store room clauses steps next)
Kept_prop store room clauses steps next a b = λ i. record {
  held = Held_prop store (clauses_in clauses store) a.held b.held i;
  numbers_for_all = le_prop a.numbers_for_all b.numbers_for_all i;
  most = le_prop a.most b.most i;
  in_room = le_prop a.in_room b.in_room i;
  few_steps = le_prop a.few_steps b.few_steps i;
  low_next = le_prop a.low_next b.low_next i;
}

-- ---- replies

-- what a reply says of the definition's answer: the state then, or the same refusal
abbrev pub replied : {A B : Type 0} → Result B Refusal → A → Answer A
replied (Ok _) a = ok a
replied (Err r) a = refused_by r

-- the answer to a resolve at this line, by the reason that it may be refused for
abbrev pub refused_at : {A : Type 0} → ℕ → Result (Unit {0}) Reason → A → Answer A
refused_at line (Ok _) a = ok a
refused_at line (Err reason) a = refused (number_of reason) line
