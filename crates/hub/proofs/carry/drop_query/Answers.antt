use Rattle.leases.specs.Shown.{engine_in}
use Rattle.hub.proofs.AnsweredLemmas.{drop_done}
use Rattle.hub.proofs.RefusedLemmas.{drop_refused}
use Rattle.hub.proofs.carry.drop_query.Goals as goal

pub returns-in-Ok-clause-ok : goal.returns-in-Ok-clause-ok
returns-in-Ok-clause-ok c =
    rw c.finished.ensures.given (drop_done (engine_in c.args.engine.now) (engine_in c.drop_query.new.self) _ _ c.in-Ok.ensures.does c.in-Ok.ensures.world c.in-Ok.ensures.engine)

pub returns-in-Err-clause-err : goal.returns-in-Err-clause-err
returns-in-Err-clause-err c = drop_refused (engine_in c.args.engine.now) _ _ c.in-Err.ensures.does
