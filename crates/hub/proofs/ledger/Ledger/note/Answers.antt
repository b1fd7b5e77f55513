use Rattle.std.proofs.Common.{rules, ◌<◌, ◌≤◌, length}
use Rattle.hub.specs.LedgerViews.{ledger_in}
use Rattle.hub.proofs.LedgerLemmas.{estranged, pushed}
use Rattle.hub.proofs.ledger.Ledger.note.Goals as goal

pub returns-then-index-len : goal.returns-then-index-len
unfolding ledger_in
returns-then-index-len c =
    let l = c.args.self.now in
    let lt : c.args.seat < length l.accounts.items = search rules in
    pushed l.accounts.items c.args.seat c.index_mut.result.now lt c.index_mut.ensures.value l.strangers l.settled c.push_reserved.new.self c.args.number c.push_reserved.ensures.items

pub returns-else-index-len : goal.returns-else-index-len
unfolding ledger_in
returns-else-index-len c =
    let l = c.args.self.now in
    let le : length l.accounts.items ≤ c.args.seat = search rules in
    estranged l.accounts.items c.args.seat c.args.number l.strangers l.settled le
