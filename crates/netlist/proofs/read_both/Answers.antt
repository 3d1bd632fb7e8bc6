-- The left list's answer, then the right one's (`ListLaws`); what was read can be compared, and its counts tell where it ends (`ReplyLaws`).
use mathlib.Core.Path.{◌≡◌, refl, sym, ap}
use native.Mathlib.Omega.{arith}
use lib.ListN.{length}
use Rattle.std.proofs.lemmas.Result.{err_from_is_err_and}
use Rattle.laws.specs.Reading.{both_good}
use Rattle.netlist.proofs.ListLaws.{left_refused, right_refused, both_are}
use Rattle.netlist.proofs.ReplyLaws.{both_lists, from_counts}
use Rattle.netlist.proofs.read_both.Goals as goal

pub returns-in_err-left : goal.returns-in_err-left
returns-in_err-left c =
    let p = err_from_is_err_and c.from_residual.result c.from_residual.ensures.1 in
    rw (p.1, p.2, left_refused c.args.text.now c.start.result c.start.ensures _ c.in_err-left.ensures) (record { reads = refl; behind = tt })

pub returns-in_err-right : goal.returns-in_err-right
returns-in_err-right c =
    let p = err_from_is_err_and c.from_residual-in_err-right.result c.from_residual-in_err-right.ensures.1 in
    rw (p.1, p.2, right_refused c.args.text.now c.start.result c.start.ensures _ c.in_ok-left.middle c.in_ok-left.ensures _ c.in_err-right.ensures) (record { reads = refl; behind = tt })

pub overflow_sub-next : goal.overflow_sub-next
overflow_sub-next c =
    let text = c.args.text.now in
    let read = both_are text c.start.result c.start.ensures _ c.in_ok-left.middle c.in_ok-left.ensures _ c.in_ok-right.next c.in_ok-right.ensures in
    omega (arith, (both_lists text _ c.in_ok-right.next (sym read)).line)

pub past-behind-requires : goal.past-behind-requires
past-behind-requires c =
    let text = c.args.text.now in
    let read = both_are text c.start.result c.start.ensures _ c.in_ok-left.middle c.in_ok-left.ensures _ c.in_ok-right.next c.in_ok-right.ensures in
    let b = both_lists text _ c.in_ok-right.next (sym read) in
    let long : length c.start-2.result.rest.now ≡ length text = ap length c.start-2.ensures.0 in
    (omega (arith, b.line, c.bytes.ensures, c.bytes-2.ensures), omega (arith, b.inside, long, c.bytes.ensures, c.bytes-2.ensures))

pub invariant_of-result : goal.invariant_of-result
invariant_of-result c =
    both_good c.args.text.now _ (both_are c.args.text.now c.start.result c.start.ensures _ c.in_ok-left.middle c.in_ok-left.ensures _ c.in_ok-right.next c.in_ok-right.ensures)

pub returns : goal.returns
returns c =
    let text = c.args.text.now in
    let next = c.in_ok-right.next in
    let read = both_are text c.start.result c.start.ensures _ c.in_ok-left.middle c.in_ok-left.ensures _ next c.in_ok-right.ensures in
    let b = both_lists text _ next (sym read) in
    let behind = rw (c.start-2.ensures.0, c.bytes.ensures, c.bytes-2.ensures) at c.past-behind.ensures.0 in
    record {
      reads = from_counts text _ next c.past-behind.result b behind (omega (arith, c.past-behind.ensures.1, c.start-2.ensures.1, b.line));
      behind = behind;
    }
