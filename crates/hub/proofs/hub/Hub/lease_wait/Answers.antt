use Rattle.std.proofs.lemmas.Result.{err_from_is_err_and}
use Rattle.hub.proofs.KnownLemmas.{goes_on, over, turned, turned_before, withheld, withheld_before}
use Rattle.hub.proofs.hub.Hub.lease_wait.Goals as goal
use Rattle.hub.proofs.hub.Hub.lease_wait.Goals.{in-None, in-Some+in_ok-turn+in-Ended}

pub returns-in-Turn-clause-ok : goal.returns-in-Turn-clause-ok
returns-in-Turn-clause-ok g c = turned c.in_ok-turn.field-0 c.in-Turn.turn _ _ _ _ _ _ c.in-Turn.is c.in_ok-turn.ensures.ok

pub returns-clause-ok : goal.returns-clause-ok
returns-clause-ok g c =
    elim c.match-next.branch [
      | in-None w ↦ absurd (goes_on c.next.result c.next.ensures.steps w.in-None.is)
      | in-Some+in_ok-turn+in-Ended w ↦ over w.in_ok-turn.field-0 _ _ _ _ w.in-Ended.is w.in_ok-turn.ensures.ok
    ]

pub returns-in_err-turn-clause-err : goal.returns-in_err-turn-clause-err
returns-in_err-turn-clause-err g c =
    let p = err_from_is_err_and c.from_residual.result c.from_residual.ensures.1 in
    rw (p.1, p.2) (withheld _ _ _ _ _ c.in_err-turn.ensures.err)

pub returns-in-Turn-clause-going : goal.returns-in-Turn-clause-going
returns-in-Turn-clause-going g c = turned_before c.in_ok-turn.field-0 c.in-Turn.turn _ _ _ _ _ c.in-Turn.is c.in_ok-turn.ensures.ok

pub returns-in_err-turn-clause-going_err : goal.returns-in_err-turn-clause-going_err
returns-in_err-turn-clause-going_err g c =
    let p = err_from_is_err_and c.from_residual.result c.from_residual.ensures.1 in
    rw (p.1, p.2) (withheld_before _ _ _ _ c.in_err-turn.ensures.err)
