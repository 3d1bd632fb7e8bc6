-- The evaluator's answer, from what the reader of lists replied: a refusal of the text, 17, or the word.
use Prim.Native.Nat.{ℕ, ◌≤◌, ◌<◌}
use mathlib.Core.Path.{◌≡◌}
use mathlib.Core.List.{List}
use borrow.Author.Tests.{le-leb, lt-leb}
use Rattle.model.specs.Answers.{guard}
use Rattle.model.specs.Answers.Answer.{ok, refused}
use Rattle.model.specs.Nets.{Netlist, size, eval}
use Rattle.model.specs.Lists.{read_one}
use Rattle.model.specs.Evaluator.{evaluate}

module _ (text : List ℕ) (pattern bytes : ℕ) where
  pub text_refused : {number line : ℕ} → refused number line ≡ read_one text → refused number line ≡ evaluate text pattern bytes
  unfolding evaluate
  text_refused e = rw (← e)

  module _ {n : Netlist} (read : ok n ≡ read_one text) where
    pub work_short : bytes < size n → refused 17 0 ≡ evaluate text pattern bytes
    unfolding evaluate guard
    work_short h = rw (← read, lt-leb (size n) bytes h)

    pub evaluated : {word : ℕ} → size n ≤ bytes → word ≡ eval n pattern → ok word ≡ evaluate text pattern bytes
    unfolding evaluate guard
    evaluated h e = rw (← read, le-leb (size n) bytes h, e)
