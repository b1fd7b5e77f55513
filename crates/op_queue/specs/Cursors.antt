-- The queue that a cursor stands for over its log.
use Rattle.std.specs.Prelude.{◌≡◌, ℕ, zero, suc, ◌+◌, ◌-◌, ◌<◌, ◌≤◌, max, List, [], ◌∷◌, ◌++◌}
use Rattle.std.specs.Prelude.{length}
use Rattle.values.specs.Row.{Row}
use Rattle.values.specs.Window.{Element}
use Rattle.op_queue.specs.Entries.{Entry, TickAt}
use Rattle.op_queue.specs.Logs.{Closed, shown, span_entries, cursor_entries}
use Rattle.op_queue.specs.Closings.{HasNoRows}
use Rattle.op_queue.specs.declared.cursor.Cursor.{Cursor}

-- the cursor has passed no more rows of its instant than the log has
abbrev pub IsWithin : Cursor → Closed → Type 0
IsWithin c log = c.passed ≤ length (shown c.place c.at log.elements)

-- the cursor reads the same rows as before, and goes
-- on where the log ends if it has not passed that
pub record GoesOn (log : Closed) (old new : Cursor) : Type 0 where
  pub place : new.place ≡ old.place
  pub next : max new.at log.until ≡ max old.at log.until

-- the ticks of d instants from n on
abbrev pub ticks : ℕ → ℕ → List (Entry Row)
ticks n zero = []
ticks n (suc d) = TickAt n ∷ ticks (n + 1) d

-- of some instants, those below b, nothing but the ticks waits, and they are closed
pub record IsClear (b : ℕ) (log : Closed) (c : Cursor) : Type 0 where
  pub before : c.at < b
  pub closed : b ≤ log.until
  pub none : HasNoRows c.at b log

-- these ticks have left
pub record HasLeft (b : ℕ) (log : Closed) (c d : Cursor) : Type 0 where
  pub entries : cursor_entries c log ≡ ticks c.at (b - c.at) ++ cursor_entries d log
  pub within : IsWithin d log
  pub goes_on : GoesOn log c d

-- the queue of every cursor gains the rows and ticks of
-- the instants that the log closed, and nothing else
pub record GainsClosed (old : Closed) (es : List Element) (until : ℕ) (new : Closed) : Type 0 where
  pub gains : (c : Cursor) → IsWithin c old
      → cursor_entries c new ≡ cursor_entries c old
      ++ span_entries c.place es (max c.at old.until) until
  pub within : (c : Cursor) → IsWithin c old → IsWithin c new
