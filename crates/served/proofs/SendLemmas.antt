-- What the threads of a server hold may go to another thread.
use denote.Param.Send.{IsSend, IsSync, sendable, view_send}
use denote.Param.SendFields.{declared_send}
use Rattle.std.proofs.Crossing.{crosses}
use Rattle.std.specs.contracts.sync.Mutex as mutex
use Rattle.histories.specs.contracts.receipt.Receipt as receipt
use Rattle.histories.specs.contracts.receipt.Receipt.TheInside as receipt_inside
use Rattle.hub.specs.contracts.seat.Seat as seat
use Rattle.hub.specs.contracts.seat.Seat.TheInside as seat_inside
use Rattle.hub.proofs.SendLemmas.{entry_send}
use Rattle.served.specs.contracts.alarm.Alarm as alarm
use Rattle.served.specs.contracts.door.Door as door

receipt_send : IsSend receipt.the_row
receipt_send = view_send receipt_inside.the_row _ _ receipt.the_view _ (declared_send receipt_inside.the_type (search sendable depth 12, (entry_send, tt)))

pub seat_send : IsSend seat.the_row
seat_send = view_send seat_inside.the_row _ _ seat.the_view _ (declared_send seat_inside.the_type (search sendable depth 12, (search (sendable, crosses, receipt_send) depth 12, (search sendable depth 12, (search sendable depth 12, (search sendable depth 12, tt))))))

pub door_sync : IsSync (mutex.the_row door.the_row)
door_sync = search (sendable, crosses) depth 30 fits 400000

pub alarm_sync : IsSync alarm.the_row
alarm_sync = search (sendable, crosses) depth 30 fits 400000
