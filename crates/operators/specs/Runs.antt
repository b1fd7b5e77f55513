-- Turns that an operator runs in place, with what stands first on one of its sides.
use Rattle.std.specs.Prelude.{ℕ, zero, suc, ⊤, ◌≡◌, ◌<◌, Bool, true, false, List, ◌++◌, length}
use Rattle.std.specs.Prelude.{Result, Ok, Err}
use Rattle.values.specs.Row.{Row}
use Rattle.column.specs.declared.batch.Side.{Side}
use Rattle.op_queue.specs.Entries.{Entry}
use Rattle.op_queue.specs.Forward.{IsForward}
use Rattle.op_queue.specs.Items.{IsFrontPart, entries_of}
use Rattle.op_queue.specs.Logs.{Closed}
use Rattle.op_queue.specs.declared.item.Item.{Item}
use Rattle.turn.specs.Turns.{Answered, FitsKind, Outs, Put, change_at, outs_at, outs_in}
use Rattle.turn.specs.declared.excerpts.Excerpt.{Excerpt}
use Rattle.turn.specs.declared.kinds.Kind.{Kind}
use Rattle.turn.specs.declared.kinds.Kind.TheVariants as kind
use Rattle.turn.specs.declared.outcomes.Change.{Change}
use Rattle.turn.specs.declared.parts.Parts.{Parts}
use Rattle.operators.specs.Inboxes.{IsInboxWithin, all_entries, cut_of, is_fed, queued}
use Rattle.operators.specs.Operators.{Belongs, HasNamedColumns, IsFed, IsFinished, KeepsBatches}
use Rattle.operators.specs.Operators.{other}
use Rattle.operators.specs.Ready.{PlainOperator, inbox_of, waiting}
use Rattle.operators.specs.States.{HasColumns, HasStood, Takes, near_of}
use Rattle.operators.specs.declared.runs.Refused.{Refused}
use Rattle.operators.specs.declared.runs.Refused.TheVariants.{Before, Within}

-- the root of a query gives answers
abbrev pub is_root : Kind → Bool
is_root kind.Window = false
is_root (kind.Select steps) = false
is_root (kind.Project columns) = false
is_root kind.Join = false
is_root (kind.Group g) = false
is_root kind.ToStream = true

-- what a turn with the item puts out, and what it changes
abbrev pub outs_with : PlainOperator → Side → Item → Outs
outs_with o side i = outs_at o.kind side i (near_of o.state side i)

abbrev pub change_with : PlainOperator → Side → Item → Change
change_with o side i = change_at o.kind i (near_of o.state side i)

-- THE CALLER'S CONDITIONS of the operator: something
-- waits there, and it takes whatever stands first
pub record TakesItem (o : PlainOperator) (side : Side) (i : Item) : Type 0 where
  pub belongs : Belongs o.kind o.state
  pub columns : HasColumns o.state side i
  pub named : HasNamedColumns o.kind i
  pub takes : Takes o.state side i (change_with o side i)
  pub stood : HasStood o.state side i

pub record MayRun (o : PlainOperator) (log : Closed) (side : Side) (rows : ℕ) : Type 0 where
  pub waits : 0 < length (waiting o log side)
  pub some : 0 < rows
  pub within : IsInboxWithin (inbox_of o side) log
  pub takes : (i : Item) → IsFrontPart rows (waiting o log side) i → TakesItem o side i

-- of the operator above: once the item has left, what a
-- turn with it puts out may come to the back of its queue
pub record MayGain (to : PlainOperator) (side : Side) (es : List (Entry Row)) : Type 0 where
  pub fed : is_fed (inbox_of to side) ≡ true
  pub forward : IsForward (queued (inbox_of to side) ++ es)

abbrev pub MayPut : Outs → PlainOperator → Side → Type 0
MayPut (Put es) to side = MayGain to side es
MayPut (Answered given) to side = ⊥

abbrev pub MayPutAfter : PlainOperator → Closed → Side → Item → PlainOperator → Side → Type 0
MayPutAfter o log side i to to_side =
    (new : PlainOperator) → IsFinished o log side i (change_with o side i) new
    → MayPut (outs_with o side i) to to_side

abbrev pub MayPutFirst : PlainOperator → Closed → Side → ℕ → PlainOperator → Side → Type 0
MayPutFirst o log side rows to to_side =
    (i : Item) → IsFrontPart rows (waiting o log side) i → MayPutAfter o log side i to to_side

-- of a root: it gives answers
abbrev pub IsGiven : Outs → Type 0
IsGiven (Put es) = ⊥
IsGiven (Answered given) = Unit {0}

abbrev pub GivesFirst : PlainOperator → Closed → Side → ℕ → Type 0
GivesFirst o log side rows = (i : Item) → IsFrontPart rows (waiting o log side) i
    → IsGiven (outs_with o side i)

-- THE ITEM that is run: what comes out at once of the
-- side's front, of which a turn with the excerpt may be run
pub record IsInHand (o : PlainOperator) (log : Closed) (side : Side) (rows : ℕ)
    (i : Item) : Type 0 where
  pub part : IsFrontPart rows (waiting o log side) i
  pub cut : entries_of i ≡ cut_of rows (inbox_of o side) log
  pub fits : FitsKind o.kind side i (near_of o.state side i)

-- what a turn makes of an item with an excerpt
pub record IsMade (k : Kind) (side : Side) (i : Item) (n : Excerpt) (d : Parts) : Type 0 where
  pub item : d.item ≡ i
  pub outputs : outs_in d.outputs ≡ outs_at k side i n
  pub change : d.change ≡ change_at k i n

-- WHAT WAS PUT OUT stands at the back of the queue above, each item as a batch or a tick of its own
pub record HasGained (to : PlainOperator) (side : Side) (es : List (Entry Row))
    (new : PlainOperator) : Type 0 where
  pub fed : IsFed to side es new
  pub items : List Item
  pub stand : all_entries items ≡ es
  pub batches : KeepsBatches to side items new

abbrev pub HasPutTo : Outs → PlainOperator → Side → PlainOperator → Type 0
HasPutTo (Put es) to side new = HasGained to side es new
HasPutTo (Answered given) to side new = ⊥

-- or behind the answers that wait
abbrev pub HasGiven : Outs → List (ℕ × Row) → List (ℕ × Row) → Type 0
HasGiven (Put es) old new = ⊥
HasGiven (Answered given) old new = new ≡ old ++ given

-- AFTER A RUN: the item has left, the state is the next one, and what the turn puts out has gone on
pub record HasRunBelow (o : PlainOperator) (log : Closed) (side : Side) (rows : ℕ)
    (to : PlainOperator) (to_side : Side) (new new_to : PlainOperator) : Type 0 where
  pub item : Item
  pub held : IsInHand o log side rows item
  pub finished : IsFinished o log side item (change_with o side item) new
  pub put : HasPutTo (outs_with o side item) to to_side new_to

pub record HasRunRoot (o : PlainOperator) (log : Closed) (side : Side) (rows : ℕ)
    (answers : List (ℕ × Row)) (new : PlainOperator) (new_answers : List (ℕ × Row)) : Type 0 where
  pub item : Item
  pub held : IsInHand o log side rows item
  pub finished : IsFinished o log side item (change_with o side item) new
  pub given : HasGiven (outs_with o side item) answers new_answers

-- AFTER A RUN that ran out of memory among the rows: it was one of fewer rows
pub record HasRunBelowLess (o : PlainOperator) (log : Closed) (side : Side) (rows : ℕ)
    (to : PlainOperator) (to_side : Side) (new new_to : PlainOperator) : Type 0 where
  pub count : ℕ
  pub some : 0 < count
  pub fewer : count < rows
  pub run : HasRunBelow o log side count to to_side new new_to

pub record HasRunRootLess (o : PlainOperator) (log : Closed) (side : Side) (rows : ℕ)
    (answers : List (ℕ × Row)) (new : PlainOperator) (new_answers : List (ℕ × Row)) : Type 0 where
  pub count : ℕ
  pub some : 0 < count
  pub fewer : count < rows
  pub run : HasRunRoot o log side count answers new new_answers

-- A RUN THAT RAN OUT OF MEMORY left all as it was, or had taken some of an item's rows, where the
-- operator takes them one after the other
abbrev pub Stops : Refused → Type 0 → Type 0 → Type 0
Stops Before same held = same
Stops Within same held = held

-- the same of one that counts the rows which it has taken
abbrev pub StopsAt : ℕ → Type 0 → Type 0 → Type 0
StopsAt zero same held = same
StopsAt (suc n) same held = held

-- all else of an operator is as it was, where one side and the state may have changed, or one side
pub record IsElse (side : Side) (old new : PlainOperator) : Type 0 where
  pub kind : new.kind ≡ old.kind
  pub other : inbox_of new (other side) ≡ inbox_of old (other side)

pub record IsAbove (side : Side) (old new : PlainOperator) : Type 0 where
  pub kind : new.kind ≡ old.kind
  pub state : new.state ≡ old.state
  pub other : inbox_of new (other side) ≡ inbox_of old (other side)

-- what a run has done that leaves all as it was if it runs out of memory
abbrev pub refused_before : {E : Type 0} → Result ⊤ E → Result ⊤ Refused
refused_before (Ok u) = Ok u
refused_before (Err e) = Err Before

abbrev pub none_taken : {E : Type 0} → Result ⊤ E → Result ⊤ ℕ
none_taken (Ok u) = Ok u
none_taken (Err e) = Err zero
