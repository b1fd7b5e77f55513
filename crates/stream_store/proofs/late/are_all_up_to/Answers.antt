use Rattle.std.proofs.Common.{arith}
use Rattle.stream_store.proofs.KeyLemmas.{none_past}
use Rattle.stream_store.proofs.late.are_all_up_to.Goals as goal

pub returns-else-at-instant : goal.returns-else-at-instant
returns-else-at-instant c = λ h. none_past c.args.at c.in-Some.instant.now c.args.late.now.entries (omega (arith, c.if-at-instant.false)) c.in-Some.ensures.all_up_to
