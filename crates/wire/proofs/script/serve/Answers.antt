use Rattle.wire.specs.Printed.{answer_of}
use Rattle.wire.proofs.Scripts.{serves_call, serves_fault}
use Rattle.wire.proofs.script.serve.Goals as goal

pub returns-in-Ok-clause-serves : goal.returns-in-Ok-clause-serves
returns-in-Ok-clause-serves g c whole defined reads =
    serves_call (g.E.Answering.world c.args.engine.now) c.in-Ok.request (answer_of c.answer.result) (g.E.Answering.world c.answer.new.engine) defined
    (rw c.in-Ok.is at reads) (c.answer.ensures.answers (λ needs. whole))

pub returns-in-Err-clause-serves : goal.returns-in-Err-clause-serves
returns-in-Err-clause-serves g c whole defined reads =
    serves_fault (g.E.Answering.world c.args.engine.now) c.in-Err.fault defined (rw c.in-Err.is at reads)
