use Rattle.std.proofs.Common.{◌≡◌, ◌+◌, length}
use Rattle.stream_store.specs.Open.{open_of}
use Rattle.stream_store.proofs.late.count.Given as goal

abbrev pub invariant-loop-open : goal.invariant-loop-open
invariant-loop-open l = l.count + length (open_of l.open-iterator) ≡ length (open_of l.late.entries)
