use Rattle.std.proofs.Common.{take}
use Rattle.wire.specs.Paged.{Writes}
use Rattle.wire.specs.Printed.{after_commas, operator_text}
use Rattle.wire.proofs.reply.add_more_operators.Given as goal

abbrev pub invariant-loop-kind : goal.invariant-loop-kind
invariant-loop-kind g l = Writes (g.K.Sink.taken l.initial.sink) (g.K.Sink.failures l.initial.sink) l.initial.page
    (g.K.Sink.taken l.sink) (g.K.Sink.failures l.sink) l.page (after_commas operator_text (take l.kind-index l.operators))
