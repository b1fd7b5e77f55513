use Rattle.std.proofs.Common.{ap, arith}
use Rattle.reference.specs.Machine.{Stream}
use Rattle.reference.proofs.StreamLemmas.{accepted_each}
use Rattle.stream_store.proofs.stored.Stored.with_rows.Goals as goal

pub overflow_add-result : goal.overflow_add-result
overflow_add-result c = omega (arith, (accepted_each c.args.self.now c.args.rows.now c.requires).3, ap (λ (s : Stream). s.arrivals) c.self.view_is, c.len.ensures)
