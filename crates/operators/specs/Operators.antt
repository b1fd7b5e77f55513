-- Which operators fit their kind, and what a turn makes of one.
use Rattle.std.specs.Prelude.{◌≡◌, List, ◌++◌, length}
use Rattle.values.specs.Row.{Row}
use Rattle.column.specs.declared.batch.Side.{Side}
use Rattle.column.specs.declared.batch.Side.TheVariants.{Left, Right}
use Rattle.op_queue.specs.Entries.{Entry}
use Rattle.op_queue.specs.Items.{entries_of}
use Rattle.op_queue.specs.Logs.{Closed}
use Rattle.op_queue.specs.declared.item.Item.{Item}
use Rattle.group.specs.Groups.{GroupBy}
use Rattle.group.specs.Turns.{GroupState}
use Rattle.join.specs.States.{JoinState}
use Rattle.to_stream.specs.Turns as root
use Rattle.windows.specs.Windows.{WindowState}
use Rattle.row_nodes.specs.Project.{AreColumns}
use Rattle.row_nodes.specs.Select.{FitItem}
use Rattle.turn.specs.declared.kinds.Kind.{Kind}
use Rattle.turn.specs.declared.kinds.Kind.TheVariants as kind
use Rattle.turn.specs.declared.outcomes.Change.{Change}
use Rattle.operators.specs.Inboxes.{IsDropped, all_begins, begins_in, is_fed, queued}
use Rattle.operators.specs.States.{IsNext}
use Rattle.operators.specs.declared.states.State.{State}
use Rattle.operators.specs.declared.states.State.TheVariants.{Window, Nothing, Join, Groups, Root}
use Rattle.operators.specs.Ready.{PlainOperator, inbox_of}

abbrev pub other : Side → Side
other Left = Right
other Right = Left

-- THE STATE IS ONE OF THE KIND
abbrev pub IsOfWindow : State → Type 0
IsOfWindow s = (held : WindowState) × (s ≡ Window held)

abbrev pub IsOfJoin : State → Type 0
IsOfJoin s = (held : JoinState) × (s ≡ Join held)

abbrev pub IsOfGroup : GroupBy → State → Type 0
IsOfGroup g s = (held : GroupState) × (s ≡ Groups held) × (held.group ≡ g)

abbrev pub IsOfRoot : State → Type 0
IsOfRoot s = (held : root.State) × (s ≡ Root held)

abbrev pub Belongs : Kind → State → Type 0
Belongs kind.Window s = IsOfWindow s
Belongs (kind.Select steps) s = s ≡ Nothing
Belongs (kind.Project columns) s = s ≡ Nothing
Belongs kind.Join s = IsOfJoin s
Belongs (kind.Group g) s = IsOfGroup g s
Belongs kind.ToStream s = IsOfRoot s

-- the item has the columns that Select's condition or Project's list speaks of
abbrev pub HasNamedColumns : Kind → Item → Type 0
HasNamedColumns kind.Window i = Unit {0}
HasNamedColumns (kind.Select steps) i = FitItem steps i
HasNamedColumns (kind.Project columns) i = AreColumns columns i
HasNamedColumns kind.Join i = Unit {0}
HasNamedColumns (kind.Group g) i = Unit {0}
HasNamedColumns kind.ToStream i = Unit {0}

-- AFTER A TURN with an item of the side: the item has left its
-- queue, the other queue is as it was, and the state is the next one
pub record IsFinished (o : PlainOperator) (log : Closed) (side : Side) (i : Item) (c : Change)
    (new : PlainOperator) : Type 0 where
  pub kind : new.kind ≡ o.kind
  pub state : IsNext o.state side i c new.state
  pub dropped : IsDropped (length (entries_of i)) log (inbox_of o side) (inbox_of new side)
  pub other : inbox_of new (other side) ≡ inbox_of o (other side)

-- AFTER IT WAS FED: these wait too, at the back of the side's queue, and all else is as it was
pub record IsFed (o : PlainOperator) (side : Side) (es : List (Entry Row))
    (new : PlainOperator) : Type 0 where
  pub kind : new.kind ≡ o.kind
  pub state : new.state ≡ o.state
  pub queued : queued (inbox_of new side) ≡ queued (inbox_of o side) ++ es
  pub fed : is_fed (inbox_of new side) ≡ is_fed (inbox_of o side)
  pub other : inbox_of new (other side) ≡ inbox_of o (other side)

-- and each of these items came as a batch or a tick of its own, behind the batches that waited
pub record KeepsBatches (o : PlainOperator) (side : Side) (items : List Item)
    (new : PlainOperator) : Type 0 where
  pub begins : begins_in (inbox_of new side) ≡ begins_in (inbox_of o side) ++ all_begins items
