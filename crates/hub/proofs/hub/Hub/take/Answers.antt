use Rattle.std.proofs.Common.{◌≡◌, IfOk, IfErr, subst, w64}
use Rattle.std.proofs.lemmas.Int.{to_z-of_z}
use Rattle.reference.specs.Replies as replies
use Rattle.reference.specs.Commands.{Take}
use Rattle.std.specs.Arc.{arc_value}
use Rattle.hub.specs.Steps.{Spurned, Took}
use Rattle.hub.proofs.KnownLemmas.{spurned, took}
use Rattle.hub.proofs.hub.Hub.take.Goals as goal

pub returns-clause-ok : goal.returns-clause-ok
returns-clause-ok g c = subst (λ z. IfOk c.take.result (λ r. (r.1.entry.reply ≡ replies.Rows (arc_value r.0)) × Took c.args.seat.now (Take c.args.query z) (r.1) c.take.new.seat)) (to_z-of_z w64 c.args.limit c.ranges.limit) (took (λ r. r.1) (λ r. r.1.entry.reply ≡ replies.Rows (arc_value r.0)) c.take.result _ _ _ _ _ c.take.ensures.ok)

pub returns-clause-err : goal.returns-clause-err
returns-clause-err g c = subst (λ z. IfErr c.take.result (λ f. Spurned c.args.seat.now (Take c.args.query z) f c.take.new.seat)) (to_z-of_z w64 c.args.limit c.ranges.limit) (spurned c.take.result _ _ _ _ _ c.take.ensures.err)
