use Rattle.std.proofs.Common.{subst, w64}
use Rattle.std.proofs.lemmas.Int.{to_z-of_z}
use Rattle.reference.specs.CallViews.{texts_of}
use Rattle.reference.specs.Commands.{Declare}
use Rattle.reference.specs.Replies.{Number}
use Rattle.leases.specs.Shown.{engine_in}
use Rattle.hub.specs.Calls.{Answered, Refused}
use Rattle.hub.proofs.AnsweredLemmas.{declare_done}
use Rattle.hub.proofs.RefusedLemmas.{declare_refused}
use Rattle.hub.proofs.carry.declare.Goals as goal

pub returns-in-Ok-clause-ok : goal.returns-in-Ok-clause-ok
returns-in-Ok-clause-ok c =
    let old = engine_in c.args.engine.now in
    let new = engine_in c.stream.new.self in
    let done = declare_done old new _ _ _ _ c.in-Ok.ensures.does c.in-Ok.ensures.engine in
    rw c.numbered.ensures.given
    (subst (λ z. Answered old (Declare c.args.name.now (texts_of c.args.columns.now) z) (Number c.in-Ok.number) new) (to_z-of_z w64 c.args.from c.ranges.from) done)

pub returns-in-Err-clause-err : goal.returns-in-Err-clause-err
returns-in-Err-clause-err c =
    subst (λ z. Refused (engine_in c.args.engine.now) (Declare c.args.name.now (texts_of c.args.columns.now) z) c.in-Err.fault) (to_z-of_z w64 c.args.from c.ranges.from)
    (declare_refused (engine_in c.args.engine.now) _ _ _ _ _ c.in-Err.ensures.does)
