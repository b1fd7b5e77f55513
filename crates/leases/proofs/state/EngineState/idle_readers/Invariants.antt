use Rattle.std.proofs.Common.{◌≡◌, ◌++◌, drop}
use Rattle.leases.specs.ByStream.{over_stream}
use Rattle.leases.specs.Readers.{idle_slots}
use Rattle.leases.specs.Shown.{engine_in}
use Rattle.leases.proofs.state.EngineState.idle_readers.Given as goal

-- with the slots of the readers that are left, all are there
abbrev pub invariant-loop-reader : goal.invariant-loop-reader
invariant-loop-reader l = l.slots.items ++ idle_slots (engine_in l.self) (drop l.reader-index (over_stream l.stream l.self.readers)) ≡ idle_slots (engine_in l.self) (over_stream l.stream l.self.readers)
