use denote.Param.Send.{IsSync, sendable}
use Rattle.std.proofs.Crossing.{crosses, send}
use Rattle.std.specs.contracts.sync.atomic.AtomicBool as flag
use Rattle.hub.proofs.SendLemmas.{hub_sync}
use Rattle.tests_hub.proofs.wakes.is_pool_woken.Goals as goal

-- a flag may be shared
flag_sync : IsSync flag.the_row
flag_sync = search (sendable, crosses) depth 12

pub join-is_drained-requires-send-F : goal.join-is_drained-requires-send-F
join-is_drained-requires-send-F g c κs within = search (sendable, crosses, send, hub_sync, flag_sync) depth 20 fits 100000
