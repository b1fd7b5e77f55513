use Rattle.std.proofs.Common.{◌≡◌, take}
use Rattle.std.specs.List.{sum_by}
use Rattle.hub.specs.Seats.{by_number}
use Rattle.hub.proofs.audit.count_alone.Given as goal

abbrev pub invariant-loop-seat : goal.invariant-loop-seat
invariant-loop-seat l = l.count ≡ sum_by (by_number l.first) (take l.seat-index l.seats)
