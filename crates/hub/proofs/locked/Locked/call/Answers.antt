use Rattle.std.proofs.Common.{◌≡◌, ◌+◌, ◌≤◌, ◌<◌, ◌^◌, length, max, sym, ap, subst, ◌∙◌, arith, rules}
use Rattle.leases.specs.Openings.{opening_in}
use Rattle.leases.specs.Shown.{engine_in}
use Rattle.hub.proofs.AcceptingLemmas.{accepting, entry_is, longer, receipt_is}
use Rattle.hub.specs.Calls.{Answered}
use Rattle.hub.specs.LedgerViews.{ledger_in}
use Rattle.hub.specs.Steps.{engine_at, next_number}
use Rattle.hub.proofs.KeepingLemmas.{many_next, noted_is, noted_next}
use Rattle.hub.proofs.ReplayLemmas.{fits_next, held_next, replays_next, rising_next}
use Rattle.histories.specs.Histories.{Replays}
use Rattle.hub.specs.Seats.{held}
use Rattle.hub.proofs.locked.Locked.call.Goals as goal

pub invariant_of-self-2 : goal.invariant_of-self-2
invariant_of-self-2 c =
    let first = ap (λ d. d.first) c.self.view_is in
    let long = ap (λ d. length d.history) c.self.view_is in
    let room : c.self.inside.first + length c.self.inside.history.items < 2 ^ 63 = omega (arith, first, long, c.in_ok-number.ensures.ok.1.1) in (
      replays_next (opening_in c.self.inside.opening) (engine_in c.self.inside.engine).machine (engine_in c.carry_out.new.engine).machine c.self.inside.history.items c.reserve.new.self.items c.push_reserved.new.self.items
          c.new-logged.result _ _ c.in_ok-reply.logged_reply c.deref.result.now c.in_ok-reply.reply
          c.push_reserved.ensures.items c.in_ok-reserve.ensures.items c.new-logged.ensures
          (search rules) c.in_ok-reply.ensures.one.0 c.self.invariant.0 c.in_ok-reply.ensures.ok.step,
      c.self.invariant.1,
      c.self.invariant.2,
      fits_next c.self.inside.first c.self.inside.history.items c.reserve.new.self.items c.push_reserved.new.self.items c.new-logged.result c.push_reserved.ensures.items c.in_ok-reserve.ensures.items room,
      c.self.invariant.4,
      c.self.invariant.5,
      many_next (ledger_in c.note.new.self) (ledger_in c.reserve-3.new.self) (ledger_in c.self.inside.ledger) c.seat.inside.number c.in_ok-number.number c.self.inside.seats c.note.ensures c.in_ok-reserve-3.ensures.same c.self.invariant.6,
      noted_next (ledger_in c.note.new.self) (ledger_in c.reserve-3.new.self) (ledger_in c.self.inside.ledger) c.self.inside.first c.self.inside.history.items c.reserve.new.self.items c.push_reserved.new.self.items
          c.new-logged.result c.seat.inside.number c.in_ok-number.number c.note.ensures c.in_ok-reserve-3.ensures.same (ap (λ e. e.seat) c.new-logged.ensures) (omega (arith, first, long, c.in_ok-number.ensures.ok.0))
          c.push_reserved.ensures.items c.in_ok-reserve.ensures.items c.self.invariant.7,
    )

pub invariant_of-seat-2 : goal.invariant_of-seat-2
invariant_of-seat-2 c =
    let number : c.new-receipt.result.number ≡ c.in_ok-number.number = ap (λ r. r.number) c.new-receipt.ensures in
    let below : max c.seat.inside.settled.until (held c.seat.inside.receipts.items) ≤ c.in_ok-number.number = omega (arith, c.in_ok-number.ensures.ok.2, ap (λ s. s.settled.until) c.seat.view_is, ap (λ s. held s.receipts) c.seat.view_is) in
    let fits : max c.seat.inside.settled.until (held c.seat.inside.receipts.items) ≤ c.new-receipt.result.number = omega arith in
    let above : held c.seat.inside.receipts.items ≤ c.new-receipt.result.number = omega (arith, fits) in (
      sym (held_next c.seat.inside.receipts.items c.reserve-2.new.self.items c.push_reserved-2.new.self.items c.new-receipt.result c.seat.inside.settled.until c.push_reserved-2.ensures.items c.in_ok-reserve-2.ensures.items fits
          ∙ ap (λ n. n + 1) number),
      rising_next c.seat.inside.receipts.items c.reserve-2.new.self.items c.push_reserved-2.new.self.items c.new-receipt.result c.push_reserved-2.ensures.items c.in_ok-reserve-2.ensures.items above c.seat.invariant.1,
    )

pub returns-clause-ok : goal.returns-clause-ok
unfolding engine_at
returns-clause-ok c =
    let n = c.in_ok-number.number in
    let r = c.in_ok-reply.reply in
    let new = engine_in c.carry_out.new.engine in
    let command : c.deref.result.now ≡ c.args.command = c.deref.ensures ∙ c.in_ok-told_command.ensures.0 in
    let seat = ap (λ s. s.number) c.seat.view_is in
    let here = subst (λ x. Answered (engine_in c.self.inside.engine) x r new) command c.in_ok-reply.ensures.ok in
    let answered = subst (λ d. Answered (engine_at d) c.args.command r new) c.self.view_is here in
    let legal = subst (λ d. Replays (opening_in d.opening) d.history (engine_at d).machine) c.self.view_is c.self.invariant.0 in
    let logged = entry_is c.new-logged.result c.args.seat.now.number c.seat.inside.number c.args.command _ r _ c.new-logged.ensures seat c.in_ok-told_command.ensures.1 c.in_ok-reply.ensures.one.0 in
    let kept = entry_is c.new-kept.result c.args.seat.now.number c.seat.inside.number c.args.command _ r _ c.new-kept.ensures seat c.in_ok-told_command.ensures.2 c.in_ok-reply.ensures.one.1 in
    let told = entry_is c.new-told.result c.args.seat.now.number c.seat.inside.number c.args.command _ r _ c.new-told.ensures seat c.in_ok-told_command.ensures.0 c.in_ok-reply.ensures.one.2 in
    let history = longer _ _ c.args.self.now.history _ _ c.push_reserved.ensures.items (c.in_ok-reserve.ensures.items ∙ ap (λ d. d.history) c.self.view_is) logged in
    let receipts = longer _ _ c.args.seat.now.receipts _ _ c.push_reserved-2.ensures.items (c.in_ok-reserve-2.ensures.items ∙ ap (λ s. s.receipts) c.seat.view_is) (receipt_is c.new-receipt.result n _ _ c.new-receipt.ensures kept) in
    accepting c.args.self.now _ c.args.seat.now _ c.args.command r n c.new-answer.result legal answered c.in_ok-number.ensures.ok
    (ap (λ d. d.opening) c.self.view_is) (ap (λ d. d.first) c.self.view_is) history (ap (λ d. d.limit) c.self.view_is) (ap (λ d. d.seats) c.self.view_is)
    (noted_is (ledger_in c.note.new.self) (ledger_in c.reserve-3.new.self) (ledger_in c.self.inside.ledger) c.args.self.now.ledger c.seat.inside.number c.args.seat.now.number n (next_number c.args.self.now) c.note.ensures c.in_ok-reserve-3.ensures.same (ap (λ d. d.ledger) c.self.view_is) seat c.in_ok-number.ensures.ok.0)
    (ap (λ d. d.has_ended) c.self.view_is)
    seat receipts (ap (λ s. s.settled) c.seat.view_is) (ap (λ s. s.learnt) c.seat.view_is) (receipt_is c.new-answer.result n _ _ c.new-answer.ensures told)
