use Rattle.std.proofs.Common.{take}
use Rattle.names.specs.Names.{names_of}
use Rattle.wire.specs.Paged.{Writes}
use Rattle.wire.specs.Printed.{after_commas, name_text}
use Rattle.wire.proofs.status.add_more_columns.Given as goal

abbrev pub invariant-loop-column : goal.invariant-loop-column
invariant-loop-column g l = Writes (g.K.Sink.taken l.initial.sink) (g.K.Sink.failures l.initial.sink) l.initial.page
    (g.K.Sink.taken l.sink) (g.K.Sink.failures l.sink) l.page (after_commas name_text (names_of (take l.column-index l.columns)))
