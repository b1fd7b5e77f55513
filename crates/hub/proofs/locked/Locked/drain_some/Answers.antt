use Rattle.std.proofs.Common.{refl, subst}
use Rattle.hub.specs.LedgerViews.{ledger_in}
use Rattle.hub.specs.Steps.{PlainLocked, engine_at, with_engine}
use Rattle.hub.specs.Workers.{DrainsSome}
use Rattle.hub.proofs.ReadyLemmas.{would_idle}
use Rattle.hub.proofs.locked.Locked.drain_some.Goals as goal

pub returns-clause-drains : goal.returns-clause-drains
unfolding engine_at
returns-clause-drains c =
    let e = c.drain_some.ensures in
    let l = c.self.inside in
    let old : PlainLocked = record { engine = l.engine; opening = l.opening; first = l.first; history = l.history.items; limit = l.limit; seats = l.seats; ledger = ledger_in l.ledger; has_ended = l.has_ended } in
    let new : PlainLocked = with_engine old c.drain_some.new.self in
    subst (λ (o : PlainLocked). DrainsSome o c.args.rows c.args.turns c.drain_some.result new) c.self.view_is
    (record {
      legal = c.self.invariant.0;
      runs = e.runs;
      others = e.others;
      machine = e.machine;
      most = e.most;
      some = e.some;
      more = e.more;
      last = e.last;
      idle = e.idle;
      all = e.all;
      rest = λ is. would_idle old new c.args.rows c.drain_some.result refl c.self.invariant.0 e.runs e.machine e.idle e.all is;
      fewer = e.fewer;
      below = e.below;
      looks = e.looks;
    })
