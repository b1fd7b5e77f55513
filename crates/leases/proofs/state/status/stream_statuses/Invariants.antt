use Rattle.std.proofs.Common.{◌≡◌, map, take}
use Rattle.reference.specs.Status.{stream_status}
use Rattle.reference.specs.StatusViews.{stream_status_in}
use Rattle.leases.proofs.state.status.stream_statuses.Given as goal

-- it is said of the streams before this one
abbrev pub invariant-loop-stream : goal.invariant-loop-stream
invariant-loop-stream l = map stream_status_in l.all.items ≡ map stream_status (take l.stream-index l.streams)
