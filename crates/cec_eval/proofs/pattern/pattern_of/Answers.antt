-- Another length, no word at one of the four places, and four words (`PatternLaws`). What is known of a word is searched for, so that it may
-- pass through another call.
use native.Mathlib.Omega.{arith}
use borrow.Author.Rules.{rules}
use Rattle.cec_eval.proofs.PatternLaws.{other_length, no_word, four_words}
use Rattle.cec_eval.proofs.pattern.pattern_of.Goals as goal

pub returns-then-digits-ne-PATTERN_DIGITS : goal.returns-then-digits-ne-PATTERN_DIGITS
returns-then-digits-ne-PATTERN_DIGITS c = other_length _ c.if-digits-ne-PATTERN_DIGITS.true

pub returns-in_err-first : goal.returns-in_err-first
returns-in_err-first c = rw c.from_residual.ensures (no_word c.args.digits.now 0 (omega arith) (omega arith) (search rules))

pub returns-in_err-second : goal.returns-in_err-second
returns-in_err-second c = rw c.from_residual-in_err-second.ensures (no_word c.args.digits.now 4 (omega arith) (omega arith) (search rules))

pub returns-in_err-third : goal.returns-in_err-third
returns-in_err-third c = rw c.from_residual-in_err-third.ensures (no_word c.args.digits.now 8 (omega arith) (omega arith) (search rules))

pub returns-in_err-fourth : goal.returns-in_err-fourth
returns-in_err-fourth c = rw c.from_residual-in_err-fourth.ensures (no_word c.args.digits.now 12 (omega arith) (omega arith) (search rules))

pub returns : goal.returns
returns c = four_words c.args.digits.now (omega arith) _ _ _ _ (search rules) (search rules) (search rules) (search rules)
