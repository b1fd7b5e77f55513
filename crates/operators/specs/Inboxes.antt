-- What waits for an operator: rows and ticks of a stream's
-- log, or of a queue that another operator fills.
use Rattle.std.specs.Prelude.{ℕ, ◌≡◌, Bool, true, false, min, List, [], take, drop}
use Rattle.std.specs.List.{flat_map}
use Rattle.values.specs.Row.{Row}
use Rattle.op_queue.specs.Cursors.{GoesOn, IsWithin}
use Rattle.op_queue.specs.Entries.{Entry}
use Rattle.op_queue.specs.Items.{entries_of, front_part}
use Rattle.op_queue.specs.Logs.{Closed, cursor_entries}
use Rattle.op_queue.specs.Queues.{at_once, first_begins}
use Rattle.op_queue.specs.declared.item.Item.{Item}
use Rattle.operators.specs.declared.inboxes.Inbox.{Inbox}
use Rattle.operators.specs.declared.inboxes.Inbox.TheVariants.{First, Between}
use Rattle.operators.specs.Ready.{entries_in}

-- a first queue's cursor has passed no more than its log has
abbrev pub IsInboxWithin : Inbox → Closed → Type 0
IsInboxWithin (First c) log = IsWithin c log
IsInboxWithin (Between q) log = Unit {0}

-- other operators fill it
abbrev pub is_fed : Inbox → Bool
is_fed (First c) = false
is_fed (Between q) = true

-- what other operators have put there
abbrev pub queued : Inbox → List (Entry Row)
queued (First c) = []
queued (Between q) = q.entries

-- which of these begin a batch or are a tick; of a stream's log batches are only cut out
abbrev pub begins_in : Inbox → List Bool
begins_in (First c) = []
begins_in (Between q) = q.begins

-- the front that comes out at once: a tick, or at most so many of
-- the rows that came as one batch, or that a log has of one instant
abbrev pub cut_of : ℕ → Inbox → Closed → List (Entry Row)
cut_of rows (First c) log = front_part (min rows 1024) (cursor_entries c log)
cut_of rows (Between q) log = take (min rows (at_once q.begins)) q.entries

abbrev pub all_entries : List Item → List (Entry Row)
all_entries items = flat_map entries_of items

-- which of their entries begin an item: of each item the first
abbrev pub all_begins : List Item → List Bool
all_begins items = flat_map (λ i. first_begins (entries_of i)) items

-- a first queue reads the same rows as before, and
-- goes on where its log ends if it has not passed that
abbrev pub ReadsOn : Closed → Inbox → Inbox → Type 0
ReadsOn log (First c) (First d) = GoesOn log c d
ReadsOn log (First c) (Between w) = ⊥
ReadsOn log (Between u) (First d) = ⊥
ReadsOn log (Between u) (Between w) = Unit {0}

-- the first n rows and ticks have left; the batches behind them are as
-- they came, and so is what is left of a batch of which some have left
pub record IsDropped (n : ℕ) (log : Closed) (old new : Inbox) : Type 0 where
  pub entries : entries_in new log ≡ drop n (entries_in old log)
  pub begins : begins_in new ≡ drop n (begins_in old)
  pub within : IsInboxWithin new log
  pub same : is_fed new ≡ is_fed old
  pub reads_on : ReadsOn log old new
