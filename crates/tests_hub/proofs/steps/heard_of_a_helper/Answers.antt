use denote.Param.Send.{sendable}
use Rattle.std.proofs.Crossing.{crosses, send}
use Rattle.hub.proofs.SendLemmas.{hub_sync}
use Rattle.tests_hub.proofs.steps.heard_of_a_helper.Goals as goal

pub join-waiting-requires-send-F : goal.join-waiting-requires-send-F
join-waiting-requires-send-F g c κs within = search (sendable, crosses, send, hub_sync) depth 20 fits 100000
