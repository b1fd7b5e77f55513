use denote.Param.Send.{IsSync, sendable}
use Rattle.std.proofs.Crossing.{crosses, send}
use Rattle.hub.proofs.SendLemmas.{hub_sync}
use Rattle.tests_hub.specs.contracts.calls.Waiters as waiters
use Rattle.tests_hub.proofs.calls.woken_once.Goals as goal

-- those that wait may be shared
waiters_sync : IsSync waiters.the_row
waiters_sync = search (sendable, crosses) depth 12

pub join-woken-requires-send-F : goal.join-woken-requires-send-F
join-woken-requires-send-F g c κs within = search (sendable, crosses, send, hub_sync, waiters_sync) depth 20 fits 100000
