use denote.Param.Send.{IsSend, sendable}
use Rattle.std.proofs.Crossing.{crosses, send}
use Rattle.hub.proofs.SendLemmas.{hub_sync}
use Rattle.tests_hub.specs.contracts.wakes.Asked as asked
use Rattle.tests_hub.proofs.SendLemmas.{seat_send}
use Rattle.tests_hub.proofs.wakes.is_woken_by_a_connection.Goals as goal

-- what a connection is asked may go to another thread
asked_send : IsSend asked.the_row
asked_send = search sendable depth 12

pub join-is_answered-requires-send-F : goal.join-is_answered-requires-send-F
join-is_answered-requires-send-F g c κs within = search (sendable, crosses, send, hub_sync, seat_send, asked_send) depth 20 fits 100000
