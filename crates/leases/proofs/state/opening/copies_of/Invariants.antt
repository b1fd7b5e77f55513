use Rattle.leases.proofs.CopiedLemmas.{IsCopiedTo}
use Rattle.leases.proofs.state.opening.copies_of.Given as goal

-- those before the next stream are copied
abbrev pub invariant-loop-stream : goal.invariant-loop-stream
invariant-loop-stream l = IsCopiedTo l.kept l.streams l.copies.items l.stream
