use Rattle.std.proofs.Common.{rules, ◌≡◌, ◌<◌, ◌==◌, ℕ, count_by, length, refl, arith}
use Rattle.hub.specs.Seats.{PlainSeat}
use Rattle.hub.specs.LedgerViews.{ledger_in}
use Rattle.hub.proofs.AuditLemmas.{accounted, estranged_not}
use Rattle.hub.proofs.audit.is_accounted.Goals as goal

pub returns-then-ledger-ne0 : goal.returns-then-ledger-ne0
unfolding ledger_in
returns-then-ledger-ne0 c = (λ f. cc, λ a. absurd (c.if-ledger-ne0.true (estranged_not (ledger_in c.args.ledger.now) c.args.first c.args.history.now c.args.seats.now c.args.count c.requires.ledger c.requires.count a)))

pub returns : goal.returns
unfolding ledger_in
returns c =
    let l = ledger_in c.args.ledger.now in
    let once = c.if-not-is_each_once.ensures.0 refl in
    let each : (k : ℕ) → k < length l.accounts → count_by (λ (s : PlainSeat). s.number == k) c.args.seats.now ≡ 1 = λ k lt. once k (omega (arith, lt, c.requires.count)) in (
      λ t. accounted l c.args.first c.args.history.now c.requires.ledger c.args.seats.now each (c.all_agree.ensures.0 t) c.args.count c.requires.count (search rules) once (c.if-not-all_known.ensures.0 refl) c.if-ledger-ne0.false,
      λ a. c.all_agree.ensures.1 a.agree,
    )
