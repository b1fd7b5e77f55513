use denote.Param.Send.{IsSync, sendable}
use denote.Param.SendFields.{declared_sync}
use denote.RattleType.{RattleType}
use denote.Ref.{NamedLft}
use Rattle.std.proofs.Crossing.{crosses}
use Rattle.hub.proofs.SendLemmas.{hub_sync}
use Rattle.tests_hub.proofs.scarcity.is_other_told.Goals as goal
use Rattle.tests_hub.specs.contracts.scarcity.Slow as slow

-- a gate may be shared
slow_sync : (a : NamedLft) (T : RattleType) → IsSync T → IsSync (slow.the_row a T)
slow_sync a T sync = declared_sync (slow.the_type a T) (search (sendable, crosses, sync) depth 20, (search (sendable, crosses, hub_sync) depth 20, (search (sendable, crosses) depth 12, (search (sendable, crosses) depth 12, tt))))

pub drain-requires-sync-G : goal.drain-requires-sync-G
drain-requires-sync-G g c κs within = search (sendable, crosses, slow_sync) depth 20 fits 100000
