-- Runs of a state in place, with an item in hand and the queue above.
use Rattle.std.specs.Prelude.{ℕ, ◌≡◌, ◌<◌, Bool, true, List, [], ◌++◌, length, take}
use Rattle.values.specs.Row.{Row}
use Rattle.column.specs.declared.batch.Side.{Side}
use Rattle.op_queue.specs.Entries.{Entry}
use Rattle.op_queue.specs.Forward.{IsForward}
use Rattle.op_queue.specs.Items.{entries_of}
use Rattle.op_queue.specs.Queues.{HasGained, Waiting}
use Rattle.op_queue.specs.declared.item.Item.{Item}
use Rattle.op_queue.specs.declared.item.Item.TheVariants as item
use Rattle.group.specs.Turns as groups
use Rattle.group.specs.Turns.{RoomFor}
use Rattle.join.specs.Laws.{MayLeave}
use Rattle.join.specs.Turns as join
use Rattle.join.specs.States.{JoinState, side_of}
use Rattle.row_nodes.specs.Project.{projected}
use Rattle.row_nodes.specs.Select.{selected}
use Rattle.to_stream.specs.Turns as root
use Rattle.windows.specs.Windows as window
use Rattle.turn.specs.Turns.{Answered, Outs, Put}
use Rattle.turn.specs.declared.kinds.Kind.{Kind}
use Rattle.turn.specs.declared.kinds.Kind.TheVariants as kind
use Rattle.operators.specs.Inboxes.{all_begins, all_entries, begins_in, is_fed, queued}
use Rattle.operators.specs.Operators.{HasNamedColumns}
use Rattle.operators.specs.States.{IsWindowAfter}
use Rattle.operators.specs.declared.inboxes.Inbox.{Inbox}
use Rattle.operators.specs.declared.states.State.{State}
use Rattle.operators.specs.declared.states.State.TheVariants.{Window, Nothing, Join, Groups, Root}

-- WHAT A TURN OF A STATE IS; the kind says no more than what Select and Project do
abbrev pub IsRowNode : Kind → Type 0
IsRowNode kind.Window = ⊥
IsRowNode (kind.Select steps) = Unit {0}
IsRowNode (kind.Project columns) = Unit {0}
IsRowNode kind.Join = ⊥
IsRowNode (kind.Group g) = ⊥
IsRowNode kind.ToStream = ⊥

abbrev pub row_outs : Kind → Item → List (Entry Row)
row_outs kind.Window i = []
row_outs (kind.Select steps) i = selected steps i
row_outs (kind.Project columns) i = projected columns i
row_outs kind.Join i = []
row_outs (kind.Group g) i = []
row_outs kind.ToStream i = []

pub record MayTakeRows (k : Kind) (i : Item) : Type 0 where
  pub row_node : IsRowNode k
  pub named : HasNamedColumns k i

pub record MayTakeSide (s : JoinState) (side : Side) (i : Item) : Type 0 where
  pub wide : join.IsItemWide (side_of s side).width i
  pub room : join.HasRoom (side_of s side) i
  pub legal : MayLeave s side i

abbrev pub MayTake : Kind → State → Side → Item → Type 0
MayTake k (Window s) side i = window.MayTake s i
MayTake k Nothing side i = MayTakeRows k i
MayTake k (Join s) side i = MayTakeSide s side i
MayTake k (Groups s) side i = RoomFor s i
MayTake k (Root s) side i = root.HasRoom s i

abbrev pub outs_from : Kind → State → Side → Item → Outs
outs_from k (Window s) side i = Put (window.out i (window.near s i))
outs_from k Nothing side i = Put (row_outs k i)
outs_from k (Join s) side i = Put (join.out side i (join.near s side i))
outs_from k (Groups s) side i = Put (groups.out s.group i (groups.near s i))
outs_from k (Root s) side i = Answered (root.out i (root.near s i))

abbrev pub IsAfterItem : State → Side → Item → State → Type 0
IsAfterItem (Window s) side i new = IsWindowAfter s i new
IsAfterItem Nothing side i new = new ≡ Nothing
IsAfterItem (Join s) side i new = new ≡ Join (join.next s side i)
IsAfterItem (Groups s) side i new =
    new ≡ Groups (groups.next s i (groups.change s.group i (groups.near s i)))
IsAfterItem (Root s) side i new = new ≡ Root (root.next s i)

-- WHERE MEMORY RAN OUT among an item's rows: groups and roots have taken the first of them
abbrev pub rows_in : Item → List (Bool × Row)
rows_in (item.Rows t b) = b
rows_in (item.Tick t) = []

abbrev pub TookRows : State → List (Bool × Row) → State → Type 0
TookRows (Window s) b new = ⊥
TookRows Nothing b new = ⊥
TookRows (Join s) b new = ⊥
TookRows (Groups s) b new = new ≡ Groups (groups.rows_after s b)
TookRows (Root s) b new = new ≡ Root (root.taken s b)

pub record HasTaken (s : State) (i : Item) (n : ℕ) (new : State) : Type 0 where
  pub fewer : n < length (entries_of i)
  pub took : TookRows s (take n (rows_in i)) new

-- of a root: it takes the item, what it answers, and the state after it
abbrev pub MayAnswer : State → Item → Type 0
MayAnswer (Window s) i = ⊥
MayAnswer Nothing i = ⊥
MayAnswer (Join s) i = ⊥
MayAnswer (Groups s) i = ⊥
MayAnswer (Root s) i = root.HasRoom s i

abbrev pub answers_from : State → Item → List (ℕ × Row)
answers_from (Window s) i = []
answers_from Nothing i = []
answers_from (Join s) i = []
answers_from (Groups s) i = []
answers_from (Root s) i = root.out i (root.near s i)

abbrev pub after_answers : State → Item → State
after_answers (Window s) i = Window s
after_answers Nothing i = Nothing
after_answers (Join s) i = Join s
after_answers (Groups s) i = Groups s
after_answers (Root s) i = Root (root.next s i)

-- of the queue above: what is put out may come to its back
abbrev pub MayQueue : Outs → Waiting → Type 0
MayQueue (Put es) q = IsForward (q.entries ++ es)
MayQueue (Answered given) q = ⊥

abbrev pub HasQueued : Outs → Waiting → Waiting → Type 0
HasQueued (Put es) old new = HasGained es old new
HasQueued (Answered given) old new = ⊥

-- the same of a side's input
pub record MayCome (es : List (Entry Row)) (old : Inbox) : Type 0 where
  pub fed : is_fed old ≡ true
  pub forward : IsForward (queued old ++ es)

abbrev pub MayComeAll : Outs → Inbox → Type 0
MayComeAll (Put es) old = MayCome es old
MayComeAll (Answered given) old = ⊥

pub record HasCome (es : List (Entry Row)) (old new : Inbox) : Type 0 where
  pub queued : queued new ≡ queued old ++ es
  pub fed : is_fed new ≡ is_fed old
  pub items : List Item
  pub stand : all_entries items ≡ es
  pub begins : begins_in new ≡ begins_in old ++ all_begins items

abbrev pub HaveCome : Outs → Inbox → Inbox → Type 0
HaveCome (Put es) old new = HasCome es old new
HaveCome (Answered given) old new = ⊥
