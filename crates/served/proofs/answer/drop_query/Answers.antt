use Rattle.std.proofs.Common.{refl}
use Rattle.reference.specs.Replies as replies
use Rattle.wire.specs.Printed.{answer_of}
use Rattle.served.proofs.Requests.{dropped}
use Rattle.served.proofs.answer.drop_query.Goals as goal

pub returns-in-Some : goal.returns-in-Some
returns-in-Some g c =
    dropped c.args.query.now c.in-Some.number (λ r. r) (λ r. replies.Done) c.args.seat.now c.drop_query.new.seat c.drop_query.result (answer_of c.done.result)
    c.in-Some.ensures (λ x. refl) c.drop_query.ensures.ok c.drop_query.ensures.err c.done.ensures
