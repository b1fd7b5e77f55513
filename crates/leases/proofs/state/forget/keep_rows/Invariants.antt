use Rattle.leases.proofs.CompactedLemmas.{IsKeptTo}
use Rattle.leases.proofs.state.forget.keep_rows.Given as goal

-- those before the next stream are compacted
abbrev pub invariant-loop-stream : goal.invariant-loop-stream
invariant-loop-stream l = IsKeptTo l.kept l.fn.streams l.streams l.stream
