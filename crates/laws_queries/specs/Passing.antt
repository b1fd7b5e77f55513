-- A query passes instants at which it has nothing to do: its operators' states stay, and the ticks
-- of these instants leave its windows' queues.
use Rattle.std.specs.Prelude.{ℕ, zero, suc, ◌≡◌, ◌+◌, ◌-◌, ◌<◌, false, List, [], ◌∷◌}
use Rattle.std.specs.Prelude.{◌++◌, length}
use Rattle.values.specs.Row.{Row}
use Rattle.reference.specs.Machine.{Machine, Registered}
use Rattle.column.specs.declared.batch.Side.TheVariants.{Right}
use Rattle.op_queue.specs.Entries.{Entry, TickAt}
use Rattle.op_queue.specs.Logs.{Closed}
use Rattle.join.specs.Turns.{with_marks}
use Rattle.to_stream.specs.Turns as root
use Rattle.windows.specs.Windows.{Stays}
use Rattle.operators.specs.Inboxes.{IsInboxWithin, ReadsOn, is_fed}
use Rattle.operators.specs.Ready.{PlainOperator, entries_in, waiting}
use Rattle.operators.specs.declared.inboxes.Inbox.{Inbox}
use Rattle.operators.specs.declared.inboxes.Inbox.TheVariants.{First, Between}
use Rattle.operators.specs.declared.states.State.{State}
use Rattle.operators.specs.declared.states.State.TheVariants as state
use Rattle.laws_dataflow.specs.Roots.{below_root}
use Rattle.laws_queries.specs.Queries.{IsRunning}
use Rattle.laws_queries.specs.Plain.{log_at, operator_at}
use Rattle.laws_queries.specs.Rooms.{IsBounded}

-- NOTHING IS TO BE DONE from the instant n to below b: no row leaves a window or enters it,
-- and no group was touched since the last tick
abbrev pub IsQuiet : ℕ → ℕ → State → Type 0
IsQuiet n b (state.Window s) = Stays n b s
IsQuiet n b state.Nothing = Unit {0}
IsQuiet n b (state.Join s) = Unit {0}
IsQuiet n b (state.Groups s) = s.touched ≡ []
IsQuiet n b (state.Root s) = Unit {0}

-- the state is the same after these instants, except that no side of a join has ticked
abbrev pub passed_state : State → State
passed_state (state.Window s) = state.Window s
passed_state state.Nothing = state.Nothing
passed_state (state.Join s) = state.Join (with_marks s false false)
passed_state (state.Groups s) = state.Groups s
passed_state (state.Root s) = state.Root s

-- the ticks of d instants from n on
abbrev pub ticks : ℕ → ℕ → List (Entry Row)
ticks n zero = []
ticks n (suc d) = TickAt n ∷ ticks (n + 1) d

-- A WINDOW'S QUEUE: the ticks from the instant n to below b are in front, and they leave
pub record TicksLeave (b n : ℕ) (log : Closed) (old new : Inbox) : Type 0 where
  pub before : n < b
  pub queue : entries_in old log ≡ ticks n (b - n) ++ entries_in new log
  pub same : is_fed new ≡ is_fed old
  pub within : IsInboxWithin new log
  pub reads_on : ReadsOn log old new

-- nothing waits in a queue between operators, and it stays so
abbrev pub LeftPasses : ℕ → ℕ → Closed → Inbox → Inbox → Type 0
LeftPasses b n log (First c) new = TicksLeave b n log (First c) new
LeftPasses b n log (Between q) new = (q.entries ≡ []) × (new ≡ Between q)

-- AN OPERATOR below the root passes the instants below b; a window passes those from `from` on
pub record Passes (b : ℕ) (log : Closed) (o o2 : PlainOperator) : Type 0 where
  pub kind : o2.kind ≡ o.kind
  pub state : o2.state ≡ passed_state o.state
  pub from : ℕ
  pub quiet : IsQuiet from b o.state
  pub left : LeftPasses b from log o.left o2.left
  pub none : waiting o log Right ≡ []
  pub right : o2.right ≡ o.right

-- THE ROOT does: nothing has entered or left since its last tick, and it answers with nothing; it
-- has then ticked at the instant before b
pub record PassesAtRoot (b : ℕ) (log : Closed) (o o2 : PlainOperator) : Type 0 where
  pub held : root.State
  pub is : o.state ≡ state.Root held
  pub still : held.delta ≡ record { entered = []; left = [] }
  pub silent : root.shown held.operator held.delta held.whole ≡ []
  pub kind : o2.kind ≡ o.kind
  pub state : o2.state ≡ state.Root (root.ticked held (b - 1))
  pub left : LeftPasses b 0 log o.left o2.left
  pub right : o2.right ≡ o.right

-- A QUERY passes the instants below b: each of its operators does
pub record QueryPasses (m : Machine) (q : Registered) (b : ℕ)
    (os os2 : List PlainOperator) : Type 0 where
  pub many : length os2 ≡ length os
  pub below : (k : ℕ) → k < below_root q.nodes
      → Passes b (log_at m q k) (operator_at os k) (operator_at os2 k)
  pub root : PassesAtRoot b (log_at m q (below_root q.nodes))
      (operator_at os (below_root q.nodes)) (operator_at os2 (below_root q.nodes))

-- it runs on then, with the answers that it had given
abbrev pub RunsOnAtPassing : List ℕ → List ℕ → Machine → Registered → Type 0
RunsOnAtPassing vs ws m q =
    (os os2 : List PlainOperator) (given : List (ℕ × Row)) (b : ℕ) → IsBounded vs m q
    → IsRunning vs ws m q os given → QueryPasses m q b os os2 → IsRunning vs ws m q os2 given
