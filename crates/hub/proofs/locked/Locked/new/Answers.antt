use Rattle.std.proofs.Common.{◌≡◌, ◌∙◌, ap, arith, length, [], subst, sym}
use Rattle.std.proofs.lemmas.List.{length-replicate}
use Rattle.leases.specs.Openings.{opening_in}
use Rattle.leases.specs.Shown.{engine_in}
use Rattle.histories.specs.Histories.{Replays}
use Rattle.hub.specs.Ledgers.{IsLedger, PlainLedger}
use Rattle.hub.specs.LedgerViews.{fresh, ledger_in}
use Rattle.hub.proofs.KeepingLemmas.{fresh_kept}
use Rattle.hub.proofs.OpeningLemmas.{reached_nothing}
use Rattle.hub.proofs.locked.Locked.new.Goals as goal

pub invariant_of-locked : goal.invariant_of-locked
invariant_of-locked c =
    let ledger = sym (c.in_ok-ledger.ensures) in
    let machine = ap (λ e. e.machine) c.new-2.ensures.empty ∙ sym c.new-3.ensures in (
      subst (λ x. Replays (opening_in c.new-3.result) x (engine_in c.new-2.result).machine) (sym c.new-4.ensures.items) machine,
      omega (arith, c.if-history_limit-gt-MAX_HISTORY.false),
      omega (arith, c.if-seats-gt-MAX_SEATS.false),
      omega (arith, ap length c.new-4.ensures.items),
      record { nought = λ is. c.new-3.ensures },
      reached_nothing (opening_in c.new-3.result) c.new-3.ensures,
      subst (λ (l : PlainLedger). length l.accounts ≡ c.args.seats) ledger (length-replicate c.args.seats fresh),
      subst (λ x. IsLedger (ledger_in c.in_ok-ledger.ledger) 0 x) (sym c.new-4.ensures.items) (subst (λ (l : PlainLedger). IsLedger l 0 []) ledger (fresh_kept c.args.seats)),
    )
