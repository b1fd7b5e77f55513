-- What operators hold, as plain values: the excerpt that
-- an item needs of it, and what is held after a turn.
use Rattle.std.specs.Prelude.{◌≡◌}
use Rattle.column.specs.declared.batch.Side.{Side}
use Rattle.op_queue.specs.declared.item.Item.{Item}
use Rattle.group.specs.Turns as groups
use Rattle.group.specs.Turns.{RoomFor}
use Rattle.join.specs.Laws.{MayLeave}
use Rattle.join.specs.Turns as join
use Rattle.join.specs.States.{side_of}
use Rattle.to_stream.specs.Turns as root
use Rattle.windows.specs.Widths.{IsItemWide}
use Rattle.windows.specs.Windows as window
use Rattle.windows.specs.Windows.{WindowState, width_of}
use Rattle.turn.specs.Turns.{FitsGroup, FitsJoin, FitsRoot, FitsWindow}
use Rattle.turn.specs.declared.excerpts.Excerpt.{Excerpt}
use Rattle.turn.specs.declared.excerpts.Excerpt.TheVariants as near
use Rattle.turn.specs.declared.outcomes.Change.{Change}
use Rattle.operators.specs.declared.states.State.{State}
use Rattle.operators.specs.declared.states.State.TheVariants.{Window, Nothing, Join, Groups, Root}

-- THE EXCERPT
abbrev pub near_of : State → Side → Item → Excerpt
near_of (Window s) side i = near.Window (window.near s i)
near_of Nothing side i = near.Nothing
near_of (Join s) side i = near.Met (join.near s side i)
near_of (Groups s) side i = near.Groups (groups.near s i)
near_of (Root s) side i = near.Lists (root.near s i)

-- the item has the columns that the look-up of the excerpt asks for
abbrev pub HasColumns : State → Side → Item → Type 0
HasColumns (Window s) side i = IsItemWide (width_of s) i
HasColumns Nothing side i = Unit {0}
HasColumns (Join s) side i = join.IsItemWide (side_of s side).width i
HasColumns (Groups s) side i = Unit {0}
HasColumns (Root s) side i = Unit {0}

-- the excerpt has the kind and the columns that a turn of the state's operator asks for
abbrev pub FitsState : State → Item → Excerpt → Type 0
FitsState (Window s) i n = FitsWindow i n
FitsState Nothing i n = n ≡ near.Nothing
FitsState (Join s) i n = FitsJoin i n
FitsState (Groups s) i n = FitsGroup n
FitsState (Root s) i n = FitsRoot n

-- THE NEXT STATE
abbrev pub IsWindowAfter : WindowState → Item → State → Type 0
IsWindowAfter s i (Window new) = window.IsNext s i new
IsWindowAfter s i Nothing = ⊥
IsWindowAfter s i (Join new) = ⊥
IsWindowAfter s i (Groups new) = ⊥
IsWindowAfter s i (Root new) = ⊥

-- the state after a turn with the item and the change: a function, except for windows of last rows,
-- whose map may be in any order
abbrev pub IsNext : State → Side → Item → Change → State → Type 0
IsNext (Window s) side i c new = IsWindowAfter s i new
IsNext Nothing side i c new = new ≡ Nothing
IsNext (Join s) side i c new = new ≡ Join (join.next s side i)
IsNext (Groups s) side i c new = new ≡ Groups (groups.next s i c.shown)
IsNext (Root s) side i c new = new ≡ Root (root.next s i)

-- THE CALLER'S CONDITIONS of the next state: instants come one after the other, the item has the
-- columns, and counts are within bounds
abbrev pub Takes : State → Side → Item → Change → Type 0
Takes (Window s) side i c = window.MayTake s i
Takes Nothing side i c = Unit {0}
Takes (Join s) side i c = join.HasRoom (side_of s side) i
Takes (Groups s) side i c = RoomFor s i
Takes (Root s) side i c = root.HasRoom s i

-- WHAT CAME BEFORE: of a join the rows that leave are among those that its side has taken
abbrev pub HasStood : State → Side → Item → Type 0
HasStood (Window s) side i = Unit {0}
HasStood Nothing side i = Unit {0}
HasStood (Join s) side i = MayLeave s side i
HasStood (Groups s) side i = Unit {0}
HasStood (Root s) side i = Unit {0}
