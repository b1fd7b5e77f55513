use Rattle.std.proofs.Common.{refl, subst, w64}
use Rattle.std.proofs.lemmas.Int.{to_z-of_z}
use Rattle.reference.specs.Commands.{Heartbeat}
use Rattle.reference.specs.Machine.{stream_named}
use Rattle.reference.specs.Replies as replies
use Rattle.reference.specs.declared.fault.Fault.TheVariants.{UnknownStream}
use Rattle.wire.specs.Printed.{answer_of}
use Rattle.served.specs.Serving.{CarriesNamed}
use Rattle.served.proofs.Requests.{carried_by_name}
use Rattle.served.proofs.answer.close_instants.Goals as goal

pub returns : goal.returns
returns g c =
    subst (λ z. CarriesNamed stream_named c.args.stream.now UnknownStream (λ n. Heartbeat n z) c.args.seat.now (answer_of c.done.result) c.heartbeat_named-closed.new.seat) (to_z-of_z w64 c.args.at c.ranges.at)
    (carried_by_name stream_named c.args.stream.now UnknownStream (λ n. Heartbeat n _) c.args.seat.now c.heartbeat_named-closed.new.seat (λ r. r) (λ r. replies.Done) c.heartbeat_named-closed.result (answer_of c.done.result)
    (λ x. refl) c.heartbeat_named-closed.ensures.ok c.heartbeat_named-closed.ensures.err c.done.ensures)
