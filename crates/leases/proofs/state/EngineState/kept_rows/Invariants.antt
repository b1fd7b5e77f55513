use Rattle.leases.proofs.KeptLemmas.{SaysFirst}
use Rattle.leases.proofs.state.EngineState.kept_rows.Given as goal

-- it is said of the streams before the next one
abbrev pub invariant-loop-stream : goal.invariant-loop-stream
invariant-loop-stream l = SaysFirst l.self l.kept.items l.stream
