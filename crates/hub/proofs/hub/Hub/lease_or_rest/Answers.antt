use Rattle.std.proofs.lemmas.Result.{err_from_is_err_and}
use Rattle.hub.proofs.KnownLemmas.{goes_on, rested_by, turned_or, withheld_or}
use Rattle.hub.proofs.hub.Hub.lease_or_rest.Goals as goal
use Rattle.hub.proofs.hub.Hub.lease_or_rest.Goals.{in-None, in-Some+in_ok-turn+in-Rest}

pub returns-in-Turn-clause-ok : goal.returns-in-Turn-clause-ok
returns-in-Turn-clause-ok g c = turned_or c.in_ok-turn.field-0 c.in-Turn.turn _ _ _ _ _ c.in-Turn.is c.in_ok-turn.ensures.ok

pub returns-clause-ok : goal.returns-clause-ok
returns-clause-ok g c =
    elim c.match-next.branch [
      | in-None w ↦ absurd (goes_on c.next.result c.next.ensures.steps w.in-None.is)
      | in-Some+in_ok-turn+in-Rest w ↦ rested_by w.in_ok-turn.field-0 _ _ _ _ _ w.in-Rest.is w.in_ok-turn.ensures.ok
    ]

pub returns-in_err-turn-clause-err : goal.returns-in_err-turn-clause-err
returns-in_err-turn-clause-err g c =
    let p = err_from_is_err_and c.from_residual.result c.from_residual.ensures.1 in
    rw (p.1, p.2) (withheld_or _ _ _ _ c.in_err-turn.ensures.err)
