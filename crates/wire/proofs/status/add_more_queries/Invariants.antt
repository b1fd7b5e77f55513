use Rattle.std.proofs.Common.{map, take}
use Rattle.reference.specs.StatusViews.{query_status_in}
use Rattle.wire.specs.Paged.{Writes}
use Rattle.wire.specs.Printed.{after_commas, query_status_text}
use Rattle.wire.proofs.status.add_more_queries.Given as goal

abbrev pub invariant-loop-query : goal.invariant-loop-query
invariant-loop-query g l = Writes (g.K.Sink.taken l.initial.sink) (g.K.Sink.failures l.initial.sink) l.initial.page
    (g.K.Sink.taken l.sink) (g.K.Sink.failures l.sink) l.page (after_commas query_status_text (map query_status_in (take l.query-index l.queries)))
