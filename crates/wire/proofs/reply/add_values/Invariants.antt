use Rattle.std.proofs.Common.{take}
use Rattle.wire.specs.Paged.{Writes}
use Rattle.wire.specs.Printed.{after_commas, value_text}
use Rattle.wire.proofs.reply.add_values.Given as goal

abbrev pub invariant-loop-value : goal.invariant-loop-value
invariant-loop-value g l = Writes (g.K.Sink.taken l.initial.sink) (g.K.Sink.failures l.initial.sink) l.initial.page
    (g.K.Sink.taken l.sink) (g.K.Sink.failures l.sink) l.page (after_commas value_text (take l.value-index l.values))
