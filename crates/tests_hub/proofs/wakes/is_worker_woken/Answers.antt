use denote.Param.Send.{sendable}
use Rattle.std.proofs.Crossing.{crosses, send}
use Rattle.hub.proofs.SendLemmas.{hub_sync}
use Rattle.tests_hub.proofs.wakes.is_worker_woken.Goals as goal

pub join-ended-requires-send-F : goal.join-ended-requires-send-F
join-ended-requires-send-F g c κs within = search (sendable, crosses, send, hub_sync) depth 20 fits 100000
