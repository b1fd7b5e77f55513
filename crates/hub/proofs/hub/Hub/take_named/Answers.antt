use Rattle.std.proofs.Common.{◌≡◌, IfOk, IfErr, subst, w64}
use Rattle.std.proofs.lemmas.Int.{to_z-of_z}
use Rattle.std.specs.Arc.{arc_value}
use Rattle.reference.specs.Commands.{Take}
use Rattle.reference.specs.Machine.{query_named}
use Rattle.reference.specs.Replies as replies
use Rattle.reference.specs.declared.fault.Fault.TheVariants.{UnknownQuery}
use Rattle.hub.specs.Steps.{SpurnedNamed, TookNamed}
use Rattle.hub.proofs.KnownLemmas.{spurned_named, took_named}
use Rattle.hub.proofs.hub.Hub.take_named.Goals as goal

pub returns-clause-ok : goal.returns-clause-ok
returns-clause-ok g c =
    subst (λ z. IfOk c.take_named.result (λ r. (r.1.entry.reply ≡ replies.Rows (arc_value r.0)) × TookNamed query_named c.args.query.now (λ n. Take n z) c.args.seat.now (r.1) c.take_named.new.seat)) (to_z-of_z w64 c.args.limit c.ranges.limit)
    (took_named query_named c.args.query.now (λ n. Take n _) c.args.seat.now c.take_named.new.seat (λ r. r.1) (λ r. r.1.entry.reply ≡ replies.Rows (arc_value r.0)) c.take_named.result _ _ c.take_named.ensures.ok)

pub returns-clause-err : goal.returns-clause-err
returns-clause-err g c =
    subst (λ z. IfErr c.take_named.result (λ f. SpurnedNamed query_named c.args.query.now UnknownQuery (λ n. Take n z) c.args.seat.now f c.take_named.new.seat)) (to_z-of_z w64 c.args.limit c.ranges.limit)
    (spurned_named query_named c.args.query.now (λ n. Take n _) c.args.seat.now c.take_named.new.seat c.take_named.result UnknownQuery _ _ c.take_named.ensures.err)
