use Rattle.hub.proofs.ReadyLemmas.{ready_at}
use Rattle.hub.proofs.KnownLemmas.{goes_on}
use Rattle.hub.proofs.hub.Hub.wait_ready.Goals as goal
use Rattle.hub.proofs.hub.Hub.wait_ready.Goals.{in-None, in-Some+then-has_ended}

pub returns-then-has_ready : goal.returns-then-has_ready
returns-then-has_ready g c = ready_at _ _ c.has_ready.ensures c.if-has_ready.true

pub returns : goal.returns
returns g c =
    elim c.match-next.branch [
      | in-None w ↦ absurd (goes_on c.next.result c.next.ensures.steps w.in-None.is)
      | in-Some+then-has_ended w ↦ (_, _, w.has_ended.ensures.ended w.if-has_ended.true)
    ]
