use Rattle.hub.specs.LedgerViews.{ledger_in}
use Rattle.hub.proofs.LedgerLemmas.{emptied}
use Rattle.hub.proofs.ledger.Ledger.settle.Goals as goal

pub returns : goal.returns
unfolding ledger_in
returns c =
    let l = c.args.self.now in
    emptied l.accounts.items c.args.seat c.args.settled c.new.result l.strangers l.settled c.args.count c.new.ensures.items
