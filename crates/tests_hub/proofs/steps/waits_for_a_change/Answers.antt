use denote.Param.Send.{IsSync, sendable}
use Rattle.std.proofs.Crossing.{crosses, send}
use Rattle.std.specs.contracts.sync.atomic.AtomicBool as flag
use Rattle.hub.proofs.SendLemmas.{hub_sync}
use Rattle.tests_hub.proofs.SendLemmas.{seat_send}
use Rattle.tests_hub.proofs.steps.waits_for_a_change.Goals as goal

-- a flag may be shared
flag_sync : IsSync flag.the_row
flag_sync = search (sendable, crosses) depth 12

pub join-was_held-requires-send-F : goal.join-was_held-requires-send-F
join-was_held-requires-send-F g c κs within = search (sendable, crosses, send, hub_sync, flag_sync, seat_send) depth 20 fits 100000
