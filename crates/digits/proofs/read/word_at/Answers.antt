-- The four bytes are digits with these values, or not all digits (`ReadLaws`).
use Prim.Native.Nat.{◌+◌, ◌≤◌}
use Rattle.std.proofs.Common.{rules}
use mathlib.Core.Path.{◌≡◌, sym, ◌∙◌}
use lib.ListN.{get_or}
use Rattle.std.specs.Prelude.{Some}
use Rattle.model.specs.Frames.{two_bytes}
use Rattle.digits.specs.Digits.{spelt}
use Rattle.digits.proofs.ReadLaws.{small_values, word, no_word}
use Rattle.digits.proofs.read.word_at.Goals as goal

pub returns-in_err-values : goal.returns-in_err-values
returns-in_err-values c =
    let p = c.pack-bytes.ensures in
    let e = c.values_of.ensures _ _ _ _ p.1 p.2 p.3 p.4 p.0 in
    c.from_residual.ensures ∙ no_word c.args.text.now c.args.at c.requires (sym c.in_err-values.was ∙ e)

pub word_of-requires : goal.word_of-requires
word_of-requires c =
    let p = c.pack-bytes.ensures in
    let e = c.values_of.ensures _ _ _ _ p.1 p.2 p.3 p.4 p.0 in
    let l = c.args.text.now in
    let k = c.args.at in
    small_values (get_or l k 0) (get_or l (k + 1) 0) (get_or l (k + 2) 0) (get_or l (k + 3) 0) (sym c.in_ok-values.was ∙ e)

pub returns : goal.returns
returns c =
    let p = c.pack-bytes.ensures in
    let e = c.values_of.ensures _ _ _ _ p.1 p.2 p.3 p.4 p.0 in
    let found : Some c.word_of.result ≡ spelt c.args.text.now c.args.at two_bytes = word c.args.text.now c.args.at c.requires _ (sym c.in_ok-values.was ∙ e) c.word_of.ensures in
    let l = c.args.text.now in
    let k = c.args.at in
    let small : c.in_ok-values.values ≤ 0x0F0F0F0F = small_values (get_or l k 0) (get_or l (k + 1) 0) (get_or l (k + 2) 0) (get_or l (k + 3) 0) (sym c.in_ok-values.was ∙ e) in
    search (rules, found)
