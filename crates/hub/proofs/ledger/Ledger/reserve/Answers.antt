use Rattle.std.proofs.Common.{rules, ◌≡◌, ◌<◌, ◌≤◌, length, arith, sym, ◌∙◌, None, Some}
use Rattle.std.proofs.lemmas.Option.{slice_get_past}
use Rattle.hub.specs.LedgerViews.{ledger_in}
use Rattle.hub.specs.declared.ledger.Account.{Account}
use Rattle.hub.proofs.LedgerLemmas.{roomier, room_at}
use Rattle.hub.proofs.ledger.Ledger.reserve.Goals as goal

pub returns-in_err-reserve-clause-same : goal.returns-in_err-reserve-clause-same
unfolding ledger_in
returns-in_err-reserve-clause-same c =
    let l = c.args.self.now in
    let lt : c.args.seat < length l.accounts.items = search rules in
    roomier l.accounts.items c.args.seat c.index_mut.result.now lt c.index_mut.ensures.value l.strangers l.settled c.reserve.new.self c.reserve.ensures.items

pub returns-in_ok-reserve-clause-same : goal.returns-in_ok-reserve-clause-same
unfolding ledger_in
returns-in_ok-reserve-clause-same c =
    let l = c.args.self.now in
    let lt : c.args.seat < length l.accounts.items = search rules in
    roomier l.accounts.items c.args.seat c.index_mut.result.now lt c.index_mut.ensures.value l.strangers l.settled c.reserve.new.self c.reserve.ensures.items

pub returns-in_ok-reserve-clause-ok : goal.returns-in_ok-reserve-clause-ok
returns-in_ok-reserve-clause-ok c =
    let l = c.args.self.now in
    let lt : c.args.seat < length l.accounts.items = search rules in
    record { room = λ (b : Account) is. room_at l.accounts.items c.args.seat (record { settled = c.index_mut.result.now.settled; due = c.reserve.new.self }) b lt is (omega (arith, c.in_ok-reserve.ensures.ok)) }

pub returns-else-index-len-clause-ok : goal.returns-else-index-len-clause-ok
returns-else-index-len-clause-ok c =
    let l = c.args.self.now in
    let le : length l.accounts.items ≤ c.args.seat = search rules in
    record { room = λ (b : Account) is. (let no : None ≡ Some b = sym (slice_get_past l.accounts.items c.args.seat le) ∙ is in absurd (cc)) }
