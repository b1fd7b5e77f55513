use Rattle.std.proofs.Common.{ap, refl, subst, sym, w64}
use Rattle.std.proofs.lemmas.Int.{to_z-of_z}
use Rattle.std.specs.Arc.{arc_value}
use Rattle.reference.specs.Commands.{Take}
use Rattle.reference.specs.Machine.{query_named}
use Rattle.reference.specs.declared.fault.Fault.TheVariants.{UnknownQuery}
use Rattle.wire.specs.Printed.{refused, rows}
use Rattle.served.specs.Serving.{CarriesNamed, shown}
use Rattle.served.proofs.Requests.{accepted_by_name, refused_by_name}
use Rattle.served.proofs.answer.take.Goals as goal

pub returns-in-Ok : goal.returns-in-Ok
returns-in-Ok g c =
    subst (λ z. CarriesNamed query_named c.args.query.now UnknownQuery (λ n. Take n z) c.args.seat.now (rows (arc_value c.in-Ok.rows)) c.take_named.new.seat) (to_z-of_z w64 c.args.limit c.ranges.limit)
    (accepted_by_name query_named c.args.query.now UnknownQuery (λ n. Take n _) c.args.seat.now c.take_named.new.seat c.in-Ok.field-0-1 (rows (arc_value c.in-Ok.rows)) (ap shown (sym c.in-Ok.ensures.ok.0))
    c.in-Ok.ensures.ok.1)

pub returns : goal.returns
returns g c =
    subst (λ z. CarriesNamed query_named c.args.query.now UnknownQuery (λ n. Take n z) c.args.seat.now (refused c.in-Err.fault) c.take_named.new.seat) (to_z-of_z w64 c.args.limit c.ranges.limit)
    (refused_by_name query_named c.args.query.now UnknownQuery (λ n. Take n _) c.args.seat.now c.take_named.new.seat c.in-Err.fault (refused c.in-Err.fault) refl c.in-Err.ensures.err)
