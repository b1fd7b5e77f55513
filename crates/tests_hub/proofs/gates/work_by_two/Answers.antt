use denote.Param.Send.{IsSync, sendable}
use denote.Param.SendFields.{declared_sync}
use denote.RattleType.{RattleType}
use denote.Ref.{NamedLft}
use Rattle.std.proofs.Crossing.{crosses, send}
use Rattle.hub.proofs.SendLemmas.{hub_sync}
use Rattle.tests_hub.proofs.gates.work_by_two.Goals as goal
use Rattle.tests_hub.specs.contracts.gates.Held as held

-- a gate may be shared
held_sync : (a : NamedLft) (T : RattleType) → IsSync T → IsSync (held.the_row a T)
held_sync a T sync = declared_sync (held.the_type a T) (search (sendable, crosses, sync) depth 20, (search (sendable, crosses) depth 12, (search (sendable, crosses) depth 12, (search (sendable, crosses) depth 12, (search (sendable, crosses) depth 12, (search (sendable, crosses) depth 12, tt))))))

pub join-requires-send-F : goal.join-requires-send-F
join-requires-send-F g c κs within = search (sendable, crosses, send, hub_sync, held_sync) depth 20 fits 100000
