use Rattle.std.proofs.Common.{◌≡◌, IfOk, IfErr, subst, w64}
use Rattle.std.proofs.lemmas.Int.{to_z-of_z}
use Rattle.reference.specs.Commands.{Heartbeat}
use Rattle.reference.specs.Machine.{stream_named}
use Rattle.reference.specs.Replies as replies
use Rattle.reference.specs.declared.fault.Fault.TheVariants.{UnknownStream}
use Rattle.histories.specs.Histories.{Told}
use Rattle.hub.specs.Steps.{AcceptedNamed, DeclinedNamed}
use Rattle.hub.proofs.KnownLemmas.{accepted_named, declined_named, unnamed}
use Rattle.hub.proofs.locked.Locked.heartbeat_named.Goals as goal

pub returns-in-Some-clause-ok : goal.returns-in-Some-clause-ok
returns-in-Some-clause-ok c =
    subst (λ z. IfOk c.heartbeat.result (λ (r : Told). (r.entry.reply ≡ replies.Done) × AcceptedNamed stream_named c.args.stream.now (λ n. Heartbeat n z) c.args.self.now c.args.seat.now r c.heartbeat.new.self c.heartbeat.new.seat)) (to_z-of_z w64 c.args.at c.ranges.at)
    (accepted_named stream_named c.args.stream.now (λ n. Heartbeat n _) c.args.seat.now c.heartbeat.new.seat (λ (r : Told). r) (λ (r : Told). r.entry.reply ≡ replies.Done) c.heartbeat.result c.args.self.now c.heartbeat.new.self c.in-Some.number c.stream_named.result c.stream_named.ensures.is c.in-Some.is c.heartbeat.ensures.ok)

pub returns-in-Some-clause-err : goal.returns-in-Some-clause-err
returns-in-Some-clause-err c =
    subst (λ z. IfErr c.heartbeat.result (λ f. DeclinedNamed stream_named c.args.stream.now UnknownStream (λ n. Heartbeat n z) c.args.self.now c.args.seat.now f c.heartbeat.new.self c.heartbeat.new.seat)) (to_z-of_z w64 c.args.at c.ranges.at)
    (declined_named stream_named c.args.stream.now (λ n. Heartbeat n _) c.args.seat.now c.heartbeat.new.seat c.heartbeat.result UnknownStream c.args.self.now c.heartbeat.new.self c.in-Some.number c.stream_named.result c.stream_named.ensures.is c.in-Some.is c.heartbeat.ensures.err)

pub returns-in-None-clause-err : goal.returns-in-None-clause-err
returns-in-None-clause-err c = unnamed stream_named c.args.stream.now (λ n. Heartbeat n c.args.at) c.args.seat.now UnknownStream c.args.self.now c.stream_named.result c.stream_named.ensures.legal c.stream_named.ensures.is c.in-None.is
