use Rattle.leases.specs.ByStream.{lists}
use Rattle.leases.proofs.ByStreamLemmas.{AreForgotten}
use Rattle.leases.proofs.readers.forget_in_each.Given as goal

-- the query has left the lists before the place
abbrev pub invariant-loop-place : goal.invariant-loop-place
invariant-loop-place l = AreForgotten l.query l.place (lists l.fn.by_stream.items) (lists l.by_stream.items)
