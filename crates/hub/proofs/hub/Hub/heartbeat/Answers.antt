use Rattle.std.proofs.Common.{◌≡◌, IfOk, IfErr, subst, w64}
use Rattle.std.proofs.lemmas.Int.{to_z-of_z}
use Rattle.reference.specs.Replies as replies
use Rattle.reference.specs.Commands.{Heartbeat}
use Rattle.histories.specs.Histories.{Told}
use Rattle.hub.specs.Steps.{Spurned, Took}
use Rattle.hub.proofs.KnownLemmas.{spurned, took}
use Rattle.hub.proofs.hub.Hub.heartbeat.Goals as goal

pub returns-clause-ok : goal.returns-clause-ok
returns-clause-ok g c = subst (λ z. IfOk c.heartbeat-answer.result (λ (r : Told). (r.entry.reply ≡ replies.Done) × Took c.args.seat.now (Heartbeat c.args.stream z) (r) c.heartbeat-answer.new.seat)) (to_z-of_z w64 c.args.at c.ranges.at) (took (λ (r : Told). r) (λ (r : Told). r.entry.reply ≡ replies.Done) c.heartbeat-answer.result _ _ _ _ _ c.heartbeat-answer.ensures.ok)

pub returns-clause-err : goal.returns-clause-err
returns-clause-err g c = subst (λ z. IfErr c.heartbeat-answer.result (λ f. Spurned c.args.seat.now (Heartbeat c.args.stream z) f c.heartbeat-answer.new.seat)) (to_z-of_z w64 c.args.at c.ranges.at) (spurned c.heartbeat-answer.result _ _ _ _ _ c.heartbeat-answer.ensures.err)
