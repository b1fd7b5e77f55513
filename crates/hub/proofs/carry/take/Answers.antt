use Rattle.std.proofs.Common.{of_z, subst, to_z, w64}
use Rattle.std.proofs.lemmas.Int.{to_z-of_z}
use Rattle.reference.specs.Commands.{Take}
use Rattle.leases.specs.Shown.{engine_in}
use Rattle.hub.specs.Calls.{Answered}
use Rattle.hub.proofs.AnsweredLemmas.{taken_shown}
use Rattle.hub.proofs.carry.take.Goals as goal

pub returns-clause-ok : goal.returns-clause-ok
returns-clause-ok c =
    let old = engine_in c.args.engine.now in
    let new = engine_in c.take_shown.new.self in
    subst (λ z. Answered old (Take c.args.query z) (c.in-Ok.replies.0) new) (to_z-of_z w64 c.args.limit c.ranges.limit)
    (taken_shown old new c.args.query (to_z w64 (of_z w64 c.args.limit)) _ _ c.in-Ok.ensures.given (rw c.deref.ensures at c.take_shown.ensures.takes) c.in_ok-shown.ensures.ok.1)
