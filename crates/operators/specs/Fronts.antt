-- Runs of a state in place with what stands first in an inbox.
use Rattle.std.specs.Prelude.{ℕ, ◌≡◌, ◌<◌, ◌++◌, Bool, List, length}
use Rattle.values.specs.Row.{Row}
use Rattle.column.specs.declared.batch.Side.{Side}
use Rattle.op_queue.specs.Entries.{Entry}
use Rattle.op_queue.specs.Items.{IsFrontPart, entries_of}
use Rattle.op_queue.specs.Logs.{Closed}
use Rattle.op_queue.specs.Queues.{HasGained, HasLeft, Waiting}
use Rattle.op_queue.specs.declared.item.Item.{Item}
use Rattle.op_queue.specs.declared.item.Item.TheVariants as item
use Rattle.group.specs.Turns as groups
use Rattle.group.specs.Turns.{GroupState}
use Rattle.join.specs.Turns as join
use Rattle.join.specs.States.{JoinState}
use Rattle.to_stream.specs.Turns as root
use Rattle.turn.specs.declared.kinds.Kind.{Kind}
use Rattle.operators.specs.InPlace.{HasQueued, HaveCome, IsAfterItem, MayAnswer, MayComeAll}
use Rattle.operators.specs.InPlace.{MayTake, TookRows, after_answers, answers_from, outs_from}
use Rattle.operators.specs.Inboxes.{IsDropped, IsInboxWithin, cut_of}
use Rattle.operators.specs.Ready.{entries_in}
use Rattle.operators.specs.States.{FitsState, near_of}
use Rattle.operators.specs.declared.inboxes.Inbox.{Inbox}
use Rattle.operators.specs.declared.inboxes.Inbox.TheVariants.{Between}
use Rattle.operators.specs.declared.states.State.{State}

-- THE CALLER'S CONDITIONS: something waits, and whatever
-- stands first there may be taken, and put out what it does
pub record IsRunnable (rows : ℕ) (log : Closed) (from : Inbox) : Type 0 where
  pub waits : 0 < length (entries_in from log)
  pub some : 0 < rows
  pub within : IsInboxWithin from log

abbrev pub AllFirst : ℕ → List (Entry Row) → (Item → Type 0) → Type 0
AllFirst rows es P = (i : Item) → IsFrontPart rows es i → P i

abbrev pub MayTakeFirst : Kind → State → Side → ℕ → Closed → Inbox → Type 0
MayTakeFirst k s side rows log from = AllFirst rows (entries_in from log) (λ i. MayTake k s side i)

-- once the item has left
abbrev pub AllLeft : ℕ → Closed → Inbox → (Item → Type 0) → Type 0
AllLeft rows log from P = (i : Item) (from2 : Inbox) → IsFrontPart rows (entries_in from log) i
    → IsDropped (length (entries_of i)) log from from2 → P i

abbrev pub MayComeFirst : Kind → State → Side → ℕ → Closed → Inbox → Inbox → Type 0
MayComeFirst k s side rows log from to =
    AllLeft rows log from (λ i. MayComeAll (outs_from k s side i) to)

abbrev pub MayAnswerFirst : State → ℕ → Closed → Inbox → Type 0
MayAnswerFirst s rows log from = AllFirst rows (entries_in from log) (MayAnswer s)

-- THE ITEM: what comes out at once of the front
pub record IsInFront (rows : ℕ) (log : Closed) (from : Inbox) (i : Item) : Type 0 where
  pub part : IsFrontPart rows (entries_in from log) i
  pub cut : entries_of i ≡ cut_of rows from log

-- AFTER A RUN: it has left, and what is put out at it has come to a queue, or to an inbox
pub record HasRunTo (k : Kind) (side : Side) (rows : ℕ) (log : Closed) (s : State) (from : Inbox)
    (q : Waiting) (s2 : State) (from2 : Inbox) (q2 : Waiting) : Type 0 where
  pub item : Item
  pub front : IsInFront rows log from item
  pub fits : FitsState s item (near_of s side item)
  pub dropped : IsDropped (length (entries_of item)) log from from2
  pub next : IsAfterItem s side item s2
  pub put : HasQueued (outs_from k s side item) q q2

pub record HasRunFirst (k : Kind) (side : Side) (rows : ℕ) (log : Closed) (s : State)
    (from to : Inbox) (s2 : State) (from2 to2 : Inbox) : Type 0 where
  pub item : Item
  pub front : IsInFront rows log from item
  pub fits : FitsState s item (near_of s side item)
  pub dropped : IsDropped (length (entries_of item)) log from from2
  pub next : IsAfterItem s side item s2
  pub come : HaveCome (outs_from k s side item) to to2

-- or it was answered
pub record HasAnsweredFirst (rows : ℕ) (log : Closed) (s : State) (from : Inbox)
    (answers : List (ℕ × Row)) (s2 : State) (from2 : Inbox) (answers2 : List (ℕ × Row))
    : Type 0 where
  pub item : Item
  pub front : IsInFront rows log from item
  pub dropped : IsDropped (length (entries_of item)) log from from2
  pub next : s2 ≡ after_answers s item
  pub given : answers2 ≡ answers ++ answers_from s item

-- the same of the state of a root
pub record RootHasRun (rows : ℕ) (log : Closed) (s : root.State) (from : Inbox)
    (answers : List (ℕ × Row)) (s2 : root.State) (from2 : Inbox) (answers2 : List (ℕ × Row))
    : Type 0 where
  pub item : Item
  pub front : IsInFront rows log from item
  pub dropped : IsDropped (length (entries_of item)) log from from2
  pub next : s2 ≡ root.next s item
  pub given : answers2 ≡ answers ++ root.out item (root.near s item)

-- OF ONE STATE, over the queue that it reads
pub record JoinHasRun (side : Side) (rows : ℕ) (s : JoinState) (w q : Waiting) (s2 : JoinState)
    (w2 q2 : Waiting) : Type 0 where
  pub item : Item
  pub left : HasLeft rows w w2 item
  pub fits : join.Fits item (join.near s side item)
  pub next : s2 ≡ join.next s side item
  pub put : HasGained (join.out side item (join.near s side item)) q q2

pub record GroupsHaveRun (rows : ℕ) (s : GroupState) (w q : Waiting) (s2 : GroupState)
    (w2 q2 : Waiting) : Type 0 where
  pub item : Item
  pub left : HasLeft rows w w2 item
  pub next : s2 ≡ groups.next s item (groups.change s.group item (groups.near s item))
  pub put : HasGained (groups.out s.group item (groups.near s item)) q q2

-- WHERE MEMORY RAN OUT among the rows of the item: the first of
-- them were taken and have left, as those of a smaller item
pub record HasTakenFirst (rows : ℕ) (log : Closed) (s : State) (from : Inbox) (s2 : State)
    (from2 : Inbox) : Type 0 where
  pub count : ℕ
  pub some : 0 < count
  pub fewer : count < rows
  pub instant : ℕ
  pub batch : List (Bool × Row)
  pub front : IsInFront count log from (item.Rows instant batch)
  pub dropped : IsDropped (length (entries_of (item.Rows instant batch))) log from from2
  pub took : TookRows s batch s2

abbrev pub HasTakenOf : ℕ → State → Waiting → State → Waiting → Type 0
HasTakenOf rows s w s2 w2 =
    (log : Closed) → HasTakenFirst rows log s (Between w) s2 (Between w2)
