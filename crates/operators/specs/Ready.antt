-- TO BELIEVE: the theorem rests on these definitions, and no proof can check them.
-- An operator of a running query as a plain value, what waits for it, and when it is ready.
use Rattle.std.specs.Prelude.{ℕ, Bool, true, false, not, Option, None, List, cond, Some}
use Rattle.column.specs.declared.batch.Side.{Side}
use Rattle.column.specs.declared.batch.Side.TheVariants.{Left, Right}
use Rattle.join.specs.States.{side_of}
use Rattle.operators.specs.declared.states.State.{State}
use Rattle.operators.specs.declared.states.State.TheVariants.{Window, Nothing, Join, Groups, Root}
use Rattle.values.specs.Row.{Row}
use Rattle.op_queue.specs.Entries.{Entry, front_of}
use Rattle.op_queue.specs.Logs.{Closed, cursor_entries}
use Rattle.operators.specs.declared.inboxes.Inbox.{Inbox}
use Rattle.operators.specs.declared.inboxes.Inbox.TheVariants.{First, Between}
use Rattle.std.specs.Option.{option_map}
use Rattle.column.specs.Sides.{of_side}
use Rattle.op_queue.specs.declared.queue.Front.{Front}
use Rattle.op_queue.specs.declared.queue.Front.TheVariants as front
use Rattle.turn.specs.declared.kinds.Kind.{Kind}

-- the instant of the last tick that a root took
abbrev pub last_in : State → Option ℕ
last_in (Window s) = None
last_in Nothing = None
last_in (Join s) = None
last_in (Groups s) = None
last_in (Root s) = s.last

-- WHICH SIDE CAN BE USED
-- an operator with one input uses the left side, a join
-- any side that has not ticked in its current instant
abbrev pub is_left : Side → Bool
is_left Left = true
is_left Right = false

abbrev pub usable : State → Side → Bool
usable (Window s) side = is_left side
usable Nothing side = is_left side
usable (Join s) side = not (side_of s side).ticked
usable (Groups s) side = is_left side
usable (Root s) side = is_left side

-- the rows and ticks that wait, where the log is that of the stream
-- that a first queue reads; a queue between operators reads none
abbrev pub entries_in : Inbox → Closed → List (Entry Row)
entries_in (First c) log = cursor_entries c log
entries_in (Between q) log = q.entries

-- what it does, what it holds, and what waits on its
-- sides; an operator with one input has it on the left
pub record PlainOperator : Type 0 where
  pub kind : Kind
  pub state : State
  pub left : Inbox
  pub right : Inbox

abbrev pub inbox_of : PlainOperator → Side → Inbox
inbox_of o side = of_side side o.left o.right

-- the rows and ticks that wait on a side, where the
-- log is that of the stream that a first queue reads
abbrev pub waiting : PlainOperator → Closed → Side → List (Entry Row)
waiting o log side = entries_in (inbox_of o side) log

-- WHICH SIDE A LEASE TAKES
abbrev pub front_instant : Front → ℕ
front_instant (front.Row t) = t
front_instant (front.Tick t) = t

-- the instant at the front of the side, where the side can be used
abbrev pub ready_at : PlainOperator → Closed → Side → Option ℕ
ready_at o log side = cond (usable o.state side)
    (option_map front_instant (front_of (waiting o log side))) None

-- the left side where both can be used
abbrev pub first_ready : Option ℕ → Option ℕ → Option (Side × ℕ)
first_ready (Some t) right = Some (Left, t)
first_ready None (Some t) = Some (Right, t)
first_ready None None = None

abbrev pub ready : PlainOperator → Closed → Option (Side × ℕ)
ready o log = first_ready (ready_at o log Left) (ready_at o log Right)
