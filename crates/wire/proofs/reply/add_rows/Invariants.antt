use Rattle.std.proofs.Common.{take}
use Rattle.wire.specs.Paged.{Writes}
use Rattle.wire.specs.Printed.{rows_text}
use Rattle.wire.proofs.reply.add_rows.Given as goal

abbrev pub invariant-loop-number : goal.invariant-loop-number
invariant-loop-number g l = Writes (g.K.Sink.taken l.initial.sink) (g.K.Sink.failures l.initial.sink) l.initial.page
    (g.K.Sink.taken l.sink) (g.K.Sink.failures l.sink) l.page (rows_text (take l.number l.rows))
