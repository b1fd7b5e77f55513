use denote.Param.Send.{sendable}
use Rattle.std.proofs.Crossing.{crosses}
use Rattle.hub.proofs.SendLemmas.{hub_sync}
use Rattle.served.proofs.SendLemmas.{alarm_sync, door_sync, seat_send}
use Rattle.served.proofs.server.fn.run_threads.scope.Goals as goal

pub spawn-requires-send-F : goal.spawn-requires-send-F
spawn-requires-send-F g c κs within = search (sendable, crosses, hub_sync) depth 20 fits 100000

pub spawn-requires-in-loop-seat-send-F : goal.spawn-requires-in-loop-seat-send-F
spawn-requires-in-loop-seat-send-F g c κs within = search (sendable, crosses, hub_sync, alarm_sync, door_sync, seat_send) depth 20 fits 100000
