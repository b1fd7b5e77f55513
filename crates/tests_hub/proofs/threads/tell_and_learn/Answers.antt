use denote.Param.Send.{IsSend, sendable}
use denote.RattleType.{RattleType}
use Rattle.std.proofs.Crossing.{crosses, send, sync, frees}
use Rattle.std.specs.contracts.alloc.Global as heap
use Rattle.std.specs.contracts.impls.GlobalAllocator.TheImpl.{ghosts}
use Rattle.crossbeam_channel.proofs.channel.Receiver.TheSendSync.{the_send}
use Rattle.crossbeam_channel.specs.contracts.channel.Receiver as receiver
use Rattle.hub.proofs.SendLemmas.{hub_sync}
use Rattle.tests_hub.proofs.SendLemmas.{receipt_send, seat_send}
use Rattle.tests_hub.proofs.threads.tell_and_learn.Goals as goal

-- the receiving end of a channel may go to another thread
receiver_send : (T : RattleType) → IsSend T → IsSend (receiver.the_row T heap.the_row ghosts)
receiver_send T s = the_send T heap.the_row ghosts s send sync frees

pub join-one-requires-send-F : goal.join-one-requires-send-F
join-one-requires-send-F g c κs within = search (sendable, crosses, hub_sync, seat_send, receipt_send, receiver_send) depth 40 fits 1000000
