use Rattle.std.proofs.Common.{rules, ◌≡◌, ◌<◌, All, length, sym, subst, get_or}
use Rattle.histories.specs.Receipts.{IsOf}
use Rattle.hub.specs.Ledgers.{numbers_of}
use Rattle.hub.specs.LedgerViews.{account_in, ledger_in}
use Rattle.hub.proofs.LedgerLemmas.{seen_at}
use Rattle.hub.proofs.SettleLemmas.{agreed, agreed_of}
use Rattle.hub.proofs.audit.agrees.Goals as goal

pub returns : goal.returns
unfolding ledger_in
returns c =
    let l = c.args.ledger.now in
    let s = c.args.seat.now in
    let a = c.in-Some.account.now in
    let lt : s.number < length l.accounts.items = search rules in
    let is : a ≡ get_or l.accounts.items s.number a = search rules in
    let settled : a.settled ≡ s.settled = search rules in
    let numbers : numbers_of s.receipts ≡ a.due.items = search rules in (
      λ t. agreed (ledger_in l) c.args.first c.args.history.now c.requires s (account_in a) (seen_at l.accounts.items s.number a lt is) settled numbers
          (subst (All (IsOf c.args.first c.args.history.now)) c.receipts-2.ensures.receipts (c.are_of.ensures.0 t)),
      λ h. c.are_of.ensures.1 (subst (All (IsOf c.args.first c.args.history.now)) (sym c.receipts-2.ensures.receipts) (agreed_of (ledger_in l) c.args.first c.args.history.now s h)),
    )
