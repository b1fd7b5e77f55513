use Rattle.std.proofs.Common.{map, take}
use Rattle.reference.specs.StatusViews.{stream_status_in}
use Rattle.wire.specs.Paged.{Writes}
use Rattle.wire.specs.Printed.{after_commas, stream_status_text}
use Rattle.wire.proofs.status.add_more_streams.Given as goal

abbrev pub invariant-loop-stream : goal.invariant-loop-stream
invariant-loop-stream g l = Writes (g.K.Sink.taken l.initial.sink) (g.K.Sink.failures l.initial.sink) l.initial.page
    (g.K.Sink.taken l.sink) (g.K.Sink.failures l.sink) l.page (after_commas stream_status_text (map stream_status_in (take l.stream-index l.streams)))
