use Rattle.std.proofs.Common.{◌≡◌, IfOk, IfErr, subst, w64}
use Rattle.std.proofs.lemmas.Int.{to_z-of_z}
use Rattle.reference.specs.Commands.{Heartbeat}
use Rattle.reference.specs.Machine.{stream_named}
use Rattle.reference.specs.Replies as replies
use Rattle.reference.specs.declared.fault.Fault.TheVariants.{UnknownStream}
use Rattle.histories.specs.Histories.{Told}
use Rattle.hub.specs.Steps.{SpurnedNamed, TookNamed}
use Rattle.hub.proofs.KnownLemmas.{spurned_named, took_named}
use Rattle.hub.proofs.hub.Hub.heartbeat_named.Goals as goal

pub returns-clause-ok : goal.returns-clause-ok
returns-clause-ok g c =
    subst (λ z. IfOk c.heartbeat_named-closed.result (λ (r : Told). (r.entry.reply ≡ replies.Done) × TookNamed stream_named c.args.stream.now (λ n. Heartbeat n z) c.args.seat.now r c.heartbeat_named-closed.new.seat)) (to_z-of_z w64 c.args.at c.ranges.at)
    (took_named stream_named c.args.stream.now (λ n. Heartbeat n _) c.args.seat.now c.heartbeat_named-closed.new.seat (λ (r : Told). r) (λ (r : Told). r.entry.reply ≡ replies.Done) c.heartbeat_named-closed.result _ _ c.heartbeat_named-closed.ensures.ok)

pub returns-clause-err : goal.returns-clause-err
returns-clause-err g c =
    subst (λ z. IfErr c.heartbeat_named-closed.result (λ f. SpurnedNamed stream_named c.args.stream.now UnknownStream (λ n. Heartbeat n z) c.args.seat.now f c.heartbeat_named-closed.new.seat)) (to_z-of_z w64 c.args.at c.ranges.at)
    (spurned_named stream_named c.args.stream.now (λ n. Heartbeat n _) c.args.seat.now c.heartbeat_named-closed.new.seat c.heartbeat_named-closed.result UnknownStream _ _ c.heartbeat_named-closed.ensures.err)
