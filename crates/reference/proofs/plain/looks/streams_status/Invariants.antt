use Rattle.std.proofs.Common.{◌≡◌, take, map}
use Rattle.reference.specs.Status.{stream_status}
use Rattle.reference.specs.StatusViews.{stream_status_in}
use Rattle.reference.proofs.plain.looks.streams_status.Given as goal

abbrev pub invariant-loop-stream : goal.invariant-loop-stream
invariant-loop-stream l = map stream_status_in l.all.items ≡ map stream_status (take l.stream-index l.streams)
