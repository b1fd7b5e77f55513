use Rattle.std.proofs.Common.{subst, w64}
use Rattle.std.proofs.lemmas.Int.{to_z-of_z}
use Rattle.reference.specs.Commands.{Heartbeat}
use Rattle.reference.specs.Replies.{Done}
use Rattle.leases.specs.Shown.{engine_in}
use Rattle.hub.specs.Calls.{Answered, Refused}
use Rattle.hub.proofs.AnsweredLemmas.{heartbeat_done}
use Rattle.hub.proofs.RefusedLemmas.{heartbeat_refused}
use Rattle.hub.proofs.carry.heartbeat.Goals as goal

pub returns-in-Ok-clause-ok : goal.returns-in-Ok-clause-ok
returns-in-Ok-clause-ok c =
    let old = engine_in c.args.engine.now in
    let new = engine_in c.heartbeat.new.self in
    let done = heartbeat_done old new _ _ _ c.in-Ok.ensures.does c.in-Ok.ensures.engine c.in-Ok.ensures.closes c.in-Ok.ensures.queues in
    rw c.finished.ensures.given (subst (λ z. Answered old (Heartbeat c.args.stream z) Done new) (to_z-of_z w64 c.args.at c.ranges.at) done)

pub returns-in-Err-clause-err : goal.returns-in-Err-clause-err
returns-in-Err-clause-err c =
    subst (λ z. Refused (engine_in c.args.engine.now) (Heartbeat c.args.stream z) c.in-Err.fault) (to_z-of_z w64 c.args.at c.ranges.at)
    (heartbeat_refused (engine_in c.args.engine.now) _ _ _ _ c.in-Err.ensures.does)
