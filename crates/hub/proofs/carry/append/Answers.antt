use Rattle.leases.specs.Shown.{engine_in}
use Rattle.hub.proofs.AnsweredLemmas.{append_done}
use Rattle.hub.proofs.RefusedLemmas.{append_refused}
use Rattle.hub.proofs.carry.append.Goals as goal

pub returns-in-Ok-clause-ok : goal.returns-in-Ok-clause-ok
returns-in-Ok-clause-ok c =
    rw c.finished.ensures.given
    (append_done (engine_in c.args.engine.now) (engine_in c.append.new.self) _ _ _ c.in-Ok.ensures.does c.in-Ok.ensures.engine c.in-Ok.ensures.queues)

pub returns-in-Err-clause-err : goal.returns-in-Err-clause-err
returns-in-Err-clause-err c = append_refused (engine_in c.args.engine.now) _ _ _ _ c.in-Err.ensures.does
