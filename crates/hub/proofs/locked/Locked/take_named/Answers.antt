use Rattle.std.proofs.Common.{◌≡◌, IfOk, IfErr, subst, w64}
use Rattle.std.proofs.lemmas.Int.{to_z-of_z}
use Rattle.std.specs.Arc.{arc_value}
use Rattle.reference.specs.Commands.{Take}
use Rattle.reference.specs.Machine.{query_named}
use Rattle.reference.specs.Replies as replies
use Rattle.reference.specs.declared.fault.Fault.TheVariants.{UnknownQuery}
use Rattle.hub.specs.Steps.{AcceptedNamed, DeclinedNamed}
use Rattle.hub.proofs.KnownLemmas.{accepted_named, declined_named, unnamed}
use Rattle.hub.proofs.locked.Locked.take_named.Goals as goal

pub returns-in-Some-clause-ok : goal.returns-in-Some-clause-ok
returns-in-Some-clause-ok c =
    subst (λ z. IfOk c.take.result (λ r. (r.1.entry.reply ≡ replies.Rows (arc_value r.0)) × AcceptedNamed query_named c.args.query.now (λ n. Take n z) c.args.self.now c.args.seat.now (r.1) c.take.new.self c.take.new.seat)) (to_z-of_z w64 c.args.limit c.ranges.limit)
    (accepted_named query_named c.args.query.now (λ n. Take n _) c.args.seat.now c.take.new.seat (λ r. r.1) (λ r. r.1.entry.reply ≡ replies.Rows (arc_value r.0)) c.take.result c.args.self.now c.take.new.self c.in-Some.number c.query_named.result c.query_named.ensures.is c.in-Some.is c.take.ensures.ok)

pub returns-in-Some-clause-err : goal.returns-in-Some-clause-err
returns-in-Some-clause-err c =
    subst (λ z. IfErr c.take.result (λ f. DeclinedNamed query_named c.args.query.now UnknownQuery (λ n. Take n z) c.args.self.now c.args.seat.now f c.take.new.self c.take.new.seat)) (to_z-of_z w64 c.args.limit c.ranges.limit)
    (declined_named query_named c.args.query.now (λ n. Take n _) c.args.seat.now c.take.new.seat c.take.result UnknownQuery c.args.self.now c.take.new.self c.in-Some.number c.query_named.result c.query_named.ensures.is c.in-Some.is c.take.ensures.err)

pub returns-in-None-clause-err : goal.returns-in-None-clause-err
returns-in-None-clause-err c = unnamed query_named c.args.query.now (λ n. Take n c.args.limit) c.args.seat.now UnknownQuery c.args.self.now c.query_named.result c.query_named.ensures.legal c.query_named.ensures.is c.in-None.is
