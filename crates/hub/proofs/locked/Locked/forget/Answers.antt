use Rattle.std.proofs.Common.{rules, ◌≡◌, ◌∙◌, ◌+◌, ap, arith, length, subst, sym}
use Rattle.leases.specs.Openings.{opening_in}
use Rattle.leases.specs.Shown.{engine_in}
use Rattle.laws_engine.specs.Openings.{forgotten}
use Rattle.histories.specs.Histories.{Replays}
use Rattle.hub.specs.Ledgers.{IsLedger}
use Rattle.hub.specs.LedgerViews.{ledger_in}
use Rattle.hub.proofs.KeepingLemmas.{forgotten_kept}
use Rattle.hub.proofs.OpeningLemmas.{opens_still, reached_further}
use Rattle.hub.proofs.locked.Locked.forget.Goals as goal

pub invariant_of-self-2 : goal.invariant_of-self-2
invariant_of-self-2 c =
    let d = c.self.inside in
    let many : c.len.result ≡ length d.history.items = search rules in
    let machine = ap (λ e. e.machine) c.in_ok-forget.ensures.forgotten ∙ sym c.in_ok-opening.ensures.opening in (
      subst (λ x. Replays (opening_in c.in_ok-opening.opening) x (engine_in c.forget.new.self).machine) (sym c.new.ensures.items) machine,
      c.self.invariant.1,
      c.self.invariant.2,
      omega (arith, many, c.self.invariant.3, ap length c.new.ensures.items),
      opens_still d.first c.len.result (opening_in d.opening) (engine_in d.engine).machine (opening_in c.in_ok-opening.opening) d.history.items c.self.invariant.4.nought c.self.invariant.0 many
          (λ none. c.in_ok-opening.ensures.opening ∙ ap (λ m. (forgotten (record (engine_in d.engine) { machine = m })).machine) none),
      reached_further d.first (d.first + c.len.result) (opening_in d.opening) (opening_in c.in_ok-opening.opening) d.history.items (engine_in d.engine) c.self.invariant.5 c.self.invariant.0 c.waiting.ensures.promises c.in_ok-opening.ensures.opening (ap (λ n. d.first + n) many),
      c.self.invariant.6,
      subst (λ x. IsLedger (ledger_in d.ledger) (d.first + c.len.result) x) (sym c.new.ensures.items) (forgotten_kept (ledger_in d.ledger) d.first (d.first + c.len.result) d.history.items (ap (λ n. d.first + n) many) c.self.invariant.7),
    )
