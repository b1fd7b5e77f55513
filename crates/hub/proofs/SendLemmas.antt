-- A hub may be shared among threads: what an engine is made of may go to another thread, from the lowest type on.
use denote.Param.Send.{IsSend, IsSync, sendable, view_send}
use denote.RattleType.{RattleType}
use denote.Enum.Declared as E
use denote.Hole.FixSend.{fix_send, fix_sync, Sends, Syncs}
use denote.Hole.Fix.{holes}
use Rattle.values.specs.declared.resolved.Condition.TheBlock as block
use denote.Param.SendFields.{declared_send, declared_sync}
use Rattle.std.proofs.Crossing.{crosses, Arc-send}
use Rattle.std.proofs.MapsCrossing as maps
use Rattle.values.specs.contracts.Value as value
use Rattle.values.specs.contracts.resolved.Condition as condition
use Rattle.values.specs.contracts.resolved.Resolved as resolved
use Rattle.plan.specs.contracts.node.Node as plan_node
use Rattle.envelope.specs.contracts.slope.Slope as slope
use Rattle.run_queue.specs.contracts.slots.Slot as slot
use Rattle.run_queue.specs.contracts.queue.RunQueue as run_queue
use Rattle.name_table.specs.contracts.table.NameTable as name_table
use Rattle.leases.specs.contracts.reader.WindowReader as reader
use Rattle.leases.specs.contracts.readers.Readers as readers
use Rattle.leases.specs.contracts.pace.Pace as pace
use Rattle.column.specs.contracts.mask.Mask as mask
use Rattle.column.specs.contracts.column.Column as column
use Rattle.column.specs.contracts.batch.Batch as batch
use Rattle.op_queue.specs.contracts.log.Log as log
use Rattle.op_queue.specs.contracts.queue.Piece as piece
use Rattle.op_queue.specs.contracts.queue.Queue as queue
use Rattle.op_queue.specs.contracts.item.Item as item
use Rattle.turn.specs.contracts.kinds.Kind as kind
use Rattle.row_bags.specs.contracts.row_bag.RowBag as row_bag
use Rattle.row_bags.specs.contracts.row_list.RowList as row_list
use Rattle.row_bags.specs.contracts.delta.Delta as delta
use Rattle.windows.specs.contracts.window.Window as window
use Rattle.windows.specs.contracts.window.WindowExcerpt as window_excerpt
use Rattle.windows.specs.contracts.instants.InstantWindow as instants
use Rattle.windows.specs.contracts.instants.InstantExcerpt as instant_excerpt
use Rattle.windows.specs.contracts.latest.LatestWindow as latest
use Rattle.windows.specs.contracts.row_deque.RowDeque as row_deque
use Rattle.windows.specs.contracts.row_table.RowTable as row_table
use Rattle.windows.specs.contracts.fallen_rows.FallenRows as fallen_rows
use Rattle.join.specs.contracts.state.Join as join
use Rattle.join.specs.contracts.matches.Matches as matches
use Rattle.group.specs.contracts.state.Group as group
use Rattle.group.specs.contracts.shape.GroupBy as group_by
use Rattle.group.specs.contracts.cells.Cell as cell
use Rattle.group.specs.contracts.key.GroupKey as key
use Rattle.group.specs.contracts.touch.Touch as touch
use Rattle.group.specs.contracts.slot_list.GroupSlot as group_slot
use Rattle.group.specs.contracts.slot_list.SlotList as slot_list
use Rattle.group.specs.contracts.slots.Slots as slots
use Rattle.group.specs.contracts.keyed.Keyed as keyed
use Rattle.group.specs.contracts.lists.ShownLists as shown_lists
use Rattle.group.specs.contracts.turn.GroupExcerpt as touched
use Rattle.to_stream.specs.contracts.RootExcerpt as lists
use Rattle.to_stream.specs.contracts.ToStream as to_stream
use Rattle.operators.specs.contracts.inboxes.Inbox as inbox
use Rattle.operators.specs.contracts.states.State as state
use Rattle.operators.specs.contracts.running.Operator as operator
use Rattle.operators.specs.contracts.running.Operator.TheInside as inside
use Rattle.query_runtime.specs.contracts.queries.RunningQuery as running
use Rattle.query_runtime.specs.contracts.waiting.WaitingAnswers as answers
use Rattle.stream_store.specs.contracts.streams.Streams as streams
use Rattle.stream_store.specs.contracts.stored.Stored as stored
use Rattle.stream_store.specs.contracts.open_rows.OpenRows as open_rows
use Rattle.plan.specs.contracts.operators.Plan as plan
use Rattle.turn.specs.contracts.turns.Turn as turn
use Rattle.turn.specs.contracts.shared.SharedItem as shared_item
use Rattle.turn.specs.contracts.shared.SharedExcerpt as shared_near
use Rattle.turn.specs.contracts.excerpts.Excerpt as near
use Rattle.turn.specs.contracts.nodes.TurnNode as node
use Rattle.leases.specs.contracts.registered.Registration as registration
use Rattle.leases.specs.contracts.remains.Remains as remains
use Rattle.leases.specs.contracts.undropped.RowLimit as row_limit
use Rattle.leases.specs.contracts.undropped.Undropped as undropped
use Rattle.leases.specs.contracts.state.EngineState as engine_state
use Rattle.leases.specs.contracts.opening.Opening as opening
use Rattle.leases.specs.contracts.engine.Engine as engine
use Rattle.leases.specs.contracts.engine.Engine.TheInside as engine_inside
use Rattle.histories.specs.contracts.entry.Entry as entry
use Rattle.histories.specs.contracts.command.Command as command
use Rattle.histories.specs.contracts.reply.CommandReply as reply
use Rattle.hub.specs.contracts.ledger.Account as account
use Rattle.hub.specs.contracts.ledger.Ledger as ledger
use Rattle.hub.specs.contracts.measure.HistoryMeasure as measure
use Rattle.hub.specs.contracts.locked.Locked as locked
use Rattle.hub.specs.contracts.locked.Locked.TheInside as locked_inside
use Rattle.hub.specs.contracts.hub.Hub as hub

pub value_send : IsSend value.the_row
value_send = search (sendable, crosses) depth 20

pub slope_send : IsSend slope.the_row
slope_send = search (sendable, crosses) depth 20

pub slot_send : IsSend slot.the_row
slot_send = search (sendable, slope_send) depth 20

pub queue_send : IsSend run_queue.the_row
queue_send = search (sendable, crosses, slot_send) depth 20

pub names_send : IsSend name_table.the_row
names_send = search (sendable, crosses, maps.crosses) depth 20

pub reader_send : IsSend reader.the_row
reader_send = search (sendable, crosses) depth 20

pub readers_send : IsSend readers.the_row
readers_send = search (sendable, crosses, reader_send) depth 20

pub mask_send : IsSend mask.the_row
mask_send = search (sendable, crosses) depth 20

pub column_send : IsSend column.the_row
column_send = search (sendable, crosses, mask_send) depth 20

pub batch_send : IsSend batch.the_row
batch_send = search (sendable, crosses, mask_send, column_send) depth 20

pub item_send : IsSend item.the_row
item_send = search (sendable, crosses, batch_send) depth 20

pub item_sync : IsSync item.the_row
item_sync = search (sendable, crosses) depth 40 fits 100000

pub shared_item_send : IsSend shared_item.the_row
shared_item_send = search (sendable, crosses, item_send, item_sync) depth 20 fits 100000

pub piece_send : IsSend piece.the_row
piece_send = search (sendable, crosses, batch_send) depth 20

pub waiting_send : IsSend queue.the_row
waiting_send = search (sendable, crosses, piece_send) depth 20

pub log_send : IsSend log.the_row
log_send = search (sendable, crosses) depth 20

pub row_bag_send : IsSend row_bag.the_row
row_bag_send = search (sendable, crosses, maps.crosses, value_send) depth 30

pub row_list_send : IsSend row_list.the_row
row_list_send = search (sendable, crosses, value_send) depth 30

pub delta_send : IsSend delta.the_row
delta_send = search (sendable, crosses, value_send) depth 30

pub row_deque_send : IsSend row_deque.the_row
row_deque_send = search (sendable, crosses, value_send) depth 30

pub instants_send : IsSend instants.the_row
instants_send = search (sendable, crosses, row_deque_send) depth 40

pub latest_send : IsSend latest.the_row
latest_send = search (sendable, crosses, maps.crosses, value_send, row_deque_send) depth 40 fits 100000

pub window_send : IsSend window.the_row
window_send = search (sendable, crosses, instants_send, latest_send) depth 30

pub join_send : IsSend join.the_row
join_send = search (sendable, crosses, row_bag_send) depth 40

pub group_by_send : IsSend group_by.the_row
group_by_send = search (sendable, crosses) depth 30

pub cell_send : IsSend cell.the_row
cell_send = search (sendable, crosses, maps.crosses, value_send) depth 30

-- groups by keys of so many values
pub key_send : (n : RattleType) → IsSend (key.the_row n)
key_send n = search (sendable, crosses, value_send) depth 30

pub touch_send : (n : RattleType) → IsSend (touch.the_row n)
touch_send n = search (sendable, crosses, key_send) depth 30

pub group_slot_send : (n : RattleType) → IsSend (group_slot.the_row n)
group_slot_send n = search (sendable, crosses, key_send, cell_send) depth 30

pub slot_list_send : (n : RattleType) → IsSend (slot_list.the_row n)
slot_list_send n = search (sendable, crosses, group_slot_send) depth 30

pub slots_send : (n : RattleType) → IsSend (slots.the_row n)
slots_send n = search (sendable, crosses, maps.crosses, key_send, slot_list_send) depth 30

pub keyed_send : (n : RattleType) → IsSend (keyed.the_row n)
keyed_send n = search (sendable, crosses, touch_send, slots_send) depth 30

pub group_send : IsSend group.the_row
group_send = search (sendable, crosses, maps.crosses, group_by_send, keyed_send) depth 40 fits 100000

pub to_stream_send : IsSend to_stream.the_row
to_stream_send = search (sendable, crosses, delta_send, row_list_send) depth 30

pub inbox_send : IsSend inbox.the_row
inbox_send = search (sendable, waiting_send) depth 20

pub state_send : IsSend state.the_row
state_send = search (sendable, window_send, join_send, group_send, to_stream_send) depth 20

pub kind_send : IsSend kind.the_row
kind_send = search (sendable, crosses, group_by_send) depth 30

pub kind_sync : IsSync kind.the_row
kind_sync = search (sendable, crosses) depth 40

pub node_send : IsSend node.the_row
node_send = search (sendable, crosses, kind_send, kind_sync) depth 12 fits 100000

pub operator_send : IsSend operator.the_row
operator_send = view_send inside.the_row _ _ operator.the_view _ (declared_send inside.the_type (Arc-send _ kind_send kind_sync, (state_send, (inbox_send, (inbox_send, tt)))))

pub answers_send : IsSend answers.the_row
answers_send = search (sendable, crosses, value_send) depth 30

pub running_send : IsSend running.the_row
running_send = search (sendable, crosses, operator_send, answers_send) depth 20

pub open_rows_send : IsSend open_rows.the_row
open_rows_send = search (sendable, crosses, maps.crosses, value_send) depth 40

pub stored_send : IsSend stored.the_row
stored_send = search (sendable, crosses, log_send, open_rows_send) depth 30

pub streams_send : IsSend streams.the_row
streams_send = search (sendable, crosses, stored_send, names_send) depth 30

pub row_table_send : IsSend row_table.the_row
row_table_send = search (sendable, crosses, value_send) depth 30

pub instant_excerpt_send : IsSend instant_excerpt.the_row
instant_excerpt_send = search (sendable, crosses, row_table_send) depth 40

pub fallen_rows_send : IsSend fallen_rows.the_row
fallen_rows_send = search (sendable, crosses, row_table_send) depth 40

pub window_excerpt_send : IsSend window_excerpt.the_row
window_excerpt_send = search (sendable, crosses, instant_excerpt_send, fallen_rows_send) depth 40

pub matches_send : IsSend matches.the_row
matches_send = search (sendable, crosses, value_send) depth 40

pub shown_lists_send : IsSend shown_lists.the_row
shown_lists_send = search (sendable, crosses, value_send) depth 40

pub touched_send : IsSend touched.the_row
touched_send = search (sendable, crosses, value_send, shown_lists_send) depth 40 fits 100000

pub lists_send : IsSend lists.the_row
lists_send = search (sendable, crosses, delta_send, row_list_send) depth 30

lists_sync : IsSync lists.the_row
lists_sync = search (sendable, crosses) depth 40 fits 100000

pub near_send : IsSend near.the_row
near_send = search (sendable, crosses, lists_send, window_excerpt_send, matches_send, touched_send) depth 40 fits 100000

pub near_sync : IsSync near.the_row
near_sync = search (sendable, crosses, lists_sync) depth 40 fits 100000

pub shared_near_send : IsSend shared_near.the_row
shared_near_send = search (sendable, crosses, near_send, near_sync) depth 20 fits 100000

layer_send : (h : block.the_members → RattleType) → ((j : block.the_members) → IsSend (h j)) → IsSend (E.row (condition.the_layer h))
layer_send h all = search (sendable, crosses, all) depth 30 fits 100000

step : (i : block.the_members) → Sends condition.the_ring i
step block.member-Condition = record { send = λ h all. layer_send h all }

hole_send : IsSend (holes condition.the_ring block.member-Condition)
hole_send = fix_send condition.the_ring step block.member-Condition

pub condition_send : IsSend condition.the_row
condition_send = search (sendable, crosses, hole_send) depth 30 fits 100000

pub resolved_send : IsSend resolved.the_row
resolved_send = search (sendable, crosses, condition_send) depth 30 fits 100000

pub plan_node_send : IsSend plan_node.the_row
plan_node_send = search (sendable, crosses, condition_send) depth 30 fits 100000

pub plan_send : IsSend plan.the_row
plan_send = declared_send plan.the_type (search (sendable, crosses, plan_node_send) depth 12 fits 100000, (search (sendable, crosses) depth 20 fits 100000, (search (sendable, crosses) depth 20 fits 100000, (search (sendable, crosses) depth 20 fits 100000, (resolved_send, tt)))))

layer_sync : (h : block.the_members → RattleType) → ((j : block.the_members) → IsSync (h j)) → IsSync (E.row (condition.the_layer h))
layer_sync h all = search (sendable, crosses, all) depth 30 fits 100000

sync_step : (i : block.the_members) → Syncs condition.the_ring i
sync_step block.member-Condition = record { sync = λ h all. layer_sync h all }

hole_sync : IsSync (holes condition.the_ring block.member-Condition)
hole_sync = fix_sync condition.the_ring sync_step block.member-Condition

condition_sync : IsSync condition.the_row
condition_sync = search (sendable, crosses, hole_sync) depth 30 fits 100000

resolved_sync : IsSync resolved.the_row
resolved_sync = search (sendable, crosses, condition_sync) depth 30 fits 100000

plan_node_sync : IsSync plan_node.the_row
plan_node_sync = search (sendable, crosses, condition_sync) depth 30 fits 100000

-- openings share the plans of queries
plan_sync : IsSync plan.the_row
plan_sync = declared_sync plan.the_type (search (sendable, crosses, plan_node_sync) depth 12 fits 100000, (search (sendable, crosses) depth 20 fits 100000, (search (sendable, crosses) depth 20 fits 100000, (search (sendable, crosses) depth 20 fits 100000, (resolved_sync, tt)))))

pub pace_send : IsSend pace.the_row
pace_send = search (sendable, crosses) depth 12

pub registration_send : IsSend registration.the_row
registration_send = declared_send registration.the_type (search (sendable, crosses, maps.crosses) depth 20 fits 100000, (Arc-send _ plan_send plan_sync, (search (sendable, crosses, slope_send) depth 12 fits 100000, (search (sendable, crosses) depth 20 fits 100000, (search sendable depth 12, (search sendable depth 12, (search (sendable, crosses) depth 12, (search sendable depth 12, (search sendable depth 12, (search sendable depth 12, (pace_send, tt)))))))))))

pub remains_send : IsSend remains.the_row
remains_send = search (sendable, running_send, answers_send) depth 20

pub turn_send : IsSend turn.the_row
turn_send = declared_send turn.the_type (search sendable depth 20, (node_send, (shared_item_send, (shared_near_send, tt))))

pub reply_send : IsSend reply.the_row
reply_send = search (sendable, crosses, value_send) depth 40

pub command_send : IsSend command.the_row
command_send = search (sendable, crosses, maps.crosses) depth 40

pub command_sync : IsSync command.the_row
command_sync = search (sendable, crosses, maps.crosses) depth 40

pub entry_send : IsSend entry.the_row
entry_send = search (sendable, crosses, command_send, command_sync, reply_send) depth 12 fits 100000

row_limit_send : IsSend row_limit.the_row
row_limit_send = search sendable depth 20

pub undropped_send : IsSend undropped.the_row
undropped_send = search (sendable, crosses, names_send, row_limit_send) depth 20

pub engine_state_send : IsSend engine_state.the_row
engine_state_send = declared_send engine_state.the_type (search (sendable, crosses) depth 20, (streams_send, (undropped_send, (search (sendable, crosses, registration_send) depth 12, (search (sendable, crosses, remains_send) depth 12, (readers_send, (search (sendable, crosses, turn_send) depth 12, (search sendable depth 12, (queue_send, (search sendable depth 12, (search sendable depth 12, tt)))))))))))

pub engine_send : IsSend engine.the_row
engine_send = view_send engine_inside.the_row _ _ engine.the_view _ (declared_send engine_inside.the_type (engine_state_send, tt))

pub opening_send : IsSend opening.the_row
opening_send = declared_send opening.the_type (search (sendable, crosses, stored_send) depth 12, (search (sendable, crosses, registration_send) depth 12, (search (sendable, crosses, answers_send) depth 12, tt)))

pub account_send : IsSend account.the_row
account_send = search (sendable, crosses) depth 20

pub ledger_send : IsSend ledger.the_row
ledger_send = search (sendable, crosses, account_send) depth 20

measure_send : IsSend measure.the_row
measure_send = search (sendable, crosses) depth 20

pub locked_send : IsSend locked.the_row
locked_send = view_send locked_inside.the_row _ _ locked.the_view _ (declared_send locked_inside.the_type (search (sendable, crosses) depth 20, (engine_send, (opening_send, (search sendable depth 12, (search (sendable, crosses, entry_send) depth 12, (search sendable depth 12, (search sendable depth 12, (ledger_send, (search sendable depth 12, (measure_send, (search sendable depth 12, tt))))))))))))

pub hub_sync : IsSync hub.the_row
hub_sync = search (sendable, crosses, locked_send) depth 20 fits 100000
