-- Reader, miter and replay in turn: where one refuses, so does the definition, and behind the last the empty clause decides (`VerdictLaws`).
use Prim.Native.Nat.{ℕ}
use mathlib.Core.Path.{refl, ap, sym, ◌∙◌, subst}
use mathlib.Core.List.{List}
use borrow.Author.Rules.{rules}
use native.Mathlib.Omega.{arith}
use lib.ListN.{length}
use Rattle.std.proofs.lemmas.Result.{err_from_is_err_and}
use Rattle.model.specs.Steps.{replay}
use Rattle.netlist.specs.Says.{ahead}
use Rattle.steps.specs.Kept.{Held, clauses_in}
use Rattle.steps.specs.Proofs.{state_of}
use Rattle.steps.proofs.HeldLaws.{clauses_count}
use Rattle.checker.proofs.VerdictLaws.{capacity_fits, unread, begin_refused, replay_refused, not_empty, accepted}
use Rattle.checker.proofs.verdict.verdict.Goals as goal

pub returns-in_err-pair : goal.returns-in_err-pair
returns-in_err-pair c =
    let p = err_from_is_err_and c.from_residual.result c.from_residual.ensures.1 in
    rw (p.1, p.2) (unread c.args.text.now (length c.args.store.now) c.in_err-pair.ensures.reads)

pub new-proof-requires : goal.new-proof-requires
new-proof-requires c =
    let room = c.capacity-room in
    let f = capacity_fits (length c.args.store.now) in
    (omega (arith, room.ensures), omega (arith, room.ensures))

pub returns-in_err-begin : goal.returns-in_err-begin
returns-in_err-begin c =
    let r = c.in_ok-pair in
    let p = err_from_is_err_and c.from_residual-in_err-begin.result c.from_residual-in_err-begin.ensures.1 in
    rw (p.1, p.2) (begin_refused _ r.pair r.next r.ensures.reads _ _ (c.new-proof.ensures.place.1 ∙ c.capacity-room.ensures) (sym c.in_err-begin.ensures.begins))

pub returns-in_err-replay : goal.returns-in_err-replay
returns-in_err-replay c =
    let r = c.in_ok-pair in
    let s = state_of c.begin.new.proof in
    let all = c.in_err-replay.ensures.replays ∙ ap (λ (k : ℕ). replay k s (ahead r.next) r.next.line) c.begin.ensures.place.1 in
    let p = err_from_is_err_and c.from_residual-in_err-replay.result c.from_residual-in_err-replay.ensures.1 in
    rw (p.1, p.2) (replay_refused _ r.pair r.next r.ensures.reads _ _ (c.new-proof.ensures.place.1 ∙ c.capacity-room.ensures) s (sym c.in_ok-begin.ensures.begins) (sym all))

pub returns-then-not-proof : goal.returns-then-not-proof
returns-then-not-proof c =
    let r = c.in_ok-pair in
    let s = state_of c.begin.new.proof in
    let all = c.in_ok-replay.ensures.replays ∙ ap (λ (k : ℕ). replay k s (ahead r.next) r.next.line) c.begin.ensures.place.1 in
    rw c.at.ensures
    (not_empty _ r.pair r.next r.ensures.reads _ _ (c.new-proof.ensures.place.1 ∙ c.capacity-room.ensures) s (sym c.in_ok-begin.ensures.begins) (state_of c.replay.new.proof) (sym all) c.if-not-proof.true)

pub returns : goal.returns
returns c =
    let r = c.in_ok-pair in
    let s = state_of c.begin.new.proof in
    let end = c.replay.new.proof in
    let all = c.in_ok-replay.ensures.replays ∙ ap (λ (k : ℕ). replay k s (ahead r.next) r.next.line) c.begin.ensures.place.1 in (
      state_of end,
      accepted _ r.pair r.next r.ensures.reads _ _ (c.new-proof.ensures.place.1 ∙ c.capacity-room.ensures) s (sym c.in_ok-begin.ensures.begins) (state_of end) (sym all) c.if-not-proof.false,
      subst (λ (t : List ℕ). Held t (clauses_in end.clauses end.store.now)) (search rules) end.kept.held,
      refl,
      clauses_count end.clauses end.store.now,
      omega (arith, end.kept.in_room, end.kept.most),
    )
