use Rattle.leases.specs.Shown.{engine_in}
use Rattle.hub.proofs.AnsweredLemmas.{register_done}
use Rattle.hub.proofs.RefusedLemmas.{register_refused}
use Rattle.hub.proofs.carry.register.Goals as goal

pub returns-in-Ok-clause-ok : goal.returns-in-Ok-clause-ok
returns-in-Ok-clause-ok c =
    rw c.numbered.ensures.given
    (register_done (engine_in c.args.engine.now) (engine_in c.query.new.self) _ _ _ _ c.in-Ok.ensures.does c.in-Ok.ensures.engine)

pub returns-in-Err-clause-err : goal.returns-in-Err-clause-err
returns-in-Err-clause-err c = register_refused (engine_in c.args.engine.now) _ _ _ _ _ c.in-Err.ensures.does
