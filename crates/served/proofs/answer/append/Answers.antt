use Rattle.std.proofs.Common.{refl}
use Rattle.reference.specs.Commands.{Append}
use Rattle.reference.specs.Machine.{stream_named}
use Rattle.reference.specs.Replies as replies
use Rattle.reference.specs.declared.fault.Fault.TheVariants.{UnknownStream}
use Rattle.wire.specs.Printed.{answer_of}
use Rattle.served.proofs.Requests.{carried_by_name}
use Rattle.served.proofs.answer.append.Goals as goal

pub returns : goal.returns
returns g c =
    carried_by_name stream_named c.args.stream.now UnknownStream (λ n. Append n c.args.rows) c.args.seat.now c.append_named.new.seat (λ r. r) (λ r. replies.Done) c.append_named.result (answer_of c.done.result)
    (λ x. refl) c.append_named.ensures.ok c.append_named.ensures.err c.done.ensures
