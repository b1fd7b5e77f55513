-- TO BELIEVE: the theorem rests on these definitions, and no proof can check them.
-- What lies under the lock, and its steps: each changes the engine by one call at most.
use Rattle.std.specs.Prelude.{◌≡◌, ℕ, ◌+◌, ◌<◌, ◌≤◌, ◌^◌, ◌⊎◌, List, [], ◌∷◌, ◌++◌, length, Bool}
use Rattle.std.specs.Prelude.{false, true, Option, None, Result, Ok, Err, ⊤, IfErr, OnErr, OnOk}
use Rattle.std.specs.Prelude.{Some}
use Rattle.reference.specs.Commands.{Command}
use Rattle.reference.specs.Looks.{Look, Seen, Sees}
use Rattle.reference.specs.Machine.{Machine, empty, query_named}
use Rattle.reference.specs.declared.fault.Fault.{Fault}
use Rattle.reference.specs.declared.fault.Fault.TheVariants.{Foreign, HistoryFull, OutOfMemory}
use Rattle.laws_engine.specs.Engines.{PlainEngine, world_of}
use Rattle.laws_engine.specs.Openings.{forgotten}
use Rattle.laws_engine.specs.Promises.{HasAllWaiting}
use Rattle.leases.specs.Openings.{opening_in}
use Rattle.leases.specs.Looks.{Shows}
use Rattle.leases.specs.Shown.{engine_in}
use Rattle.leases.specs.Turns.{Leases}
use Rattle.leases.specs.declared.leased.Leased.{Leased}
use Rattle.leases.specs.declared.leased.Leased.TheVariants as leased
use Rattle.leases.specs.declared.opening.Opening.{Opening}
use Rattle.leases.specs.declared.state.EngineState.{EngineState}
use Rattle.histories.specs.Histories.{Entry, Replays, Told}
use Rattle.hub.specs.Seats.{PlainSeat, reach}
use Rattle.hub.specs.Ledgers.{Agrees, PlainLedger, cleared_of, noted, settled_of}
use Rattle.hub.specs.Calls.{Answered, Refused}

-- the engine as it is kept, the opening that the history starts from and how many entries it
-- replaces, the entries of the history, how many it may have, how many seats there are, what is
-- kept of their calls, and whether the end was called
pub record PlainLocked : Type 0 where
  pub engine : EngineState
  pub opening : Opening
  pub first : ℕ
  pub history : List Entry
  pub limit : ℕ
  pub seats : ℕ
  pub ledger : PlainLedger
  pub has_ended : Bool

-- the engine as a plain value; not unfolded, so that
-- what is said of it stays short where the lock is taken
unfoldable pub engine_at : PlainLocked → PlainEngine
engine_at l = engine_in l.engine

-- ONLY THE ENGINE is another
abbrev pub with_engine : PlainLocked → EngineState → PlainLocked
with_engine l s = record l { engine = s }

-- and as a plain value it is the same
abbrev pub IsSame : PlainLocked → PlainLocked → Type 0
IsSame old new = (new ≡ with_engine old new.engine) × (engine_at new ≡ engine_at old)

-- the history leads from the machine that it starts from to the engine's
abbrev pub IsReplayed : PlainLocked → Type 0
IsReplayed l = Replays (opening_in l.opening) l.history (engine_at l).machine

-- AN OPENING THAT REPLACES NO ENTRY is that of a machine that received nothing
pub record OpensAt (first : ℕ) (m : Machine) : Type 0 where
  pub nought : first ≡ 0 → m ≡ empty

-- the number of the next entry: how many were ever accepted
abbrev pub next_number : PlainLocked → ℕ
next_number l = l.first + length l.history

-- there is room for one entry more, and a number for it
abbrev pub HasRoom : PlainLocked → Type 0
HasRoom l = (length l.history < l.limit) × (next_number l < 2 ^ 63)

abbrev pub IsFull : PlainLocked → Type 0
IsFull l = (l.limit ≤ length l.history) ⊎ (2 ^ 63 ≤ next_number l)

-- AN ACCEPTED COMMAND of a seat: one call changes the engine, there is one entry and one receipt,
-- and its number is due. It is above all that the seat settled, holds or has learnt
pub record Accepted (old : PlainLocked) (seat : PlainSeat) (c : Command) (r : Told)
    (new : PlainLocked) (seat' : PlainSeat) : Type 0 where
  pub legal : IsReplayed old
  pub engine : Answered (engine_at old) c r.entry.reply (engine_at new)
  pub history : new ≡ record (with_engine old new.engine) {
    history = old.history ++ r.entry ∷ [];
    ledger = noted old.ledger seat.number (next_number old);
  }
  pub room : HasRoom old
  pub number : r.number ≡ next_number old
  pub by : r.entry.seat ≡ seat.number
  pub command : r.entry.command ≡ c
  pub above : reach seat ≤ r.number
  pub told : seat' ≡ record seat { receipts = seat.receipts ++ r ∷ [] }

-- why a command is refused: the hub's own faults come before all others.
-- The history is full; the seat knows a number that no entry has
abbrev pub Declines : PlainLocked → PlainSeat → Command → Fault → Type 0
Declines l s c HistoryFull = IsFull l
Declines l s c (Foreign n) = HasRoom l × (n ≡ next_number l) × (n < reach s)
Declines l s c f = HasRoom l × (reach s ≤ next_number l) × Refused (engine_at l) c f

-- A REFUSED COMMAND changes nothing
pub record Declined (old : PlainLocked) (seat : PlainSeat) (c : Command) (f : Fault)
    (new : PlainLocked) (seat' : PlainSeat) : Type 0 where
  pub legal : IsReplayed old
  pub same : IsSame old new
  pub kept : seat' ≡ seat
  pub line : Declines old seat c f

-- IF IT FORGETS, the engine does, and the history restarts from the machine that is left: no entry
-- is in it, and numbers go on. If it runs out of memory, nothing changes
abbrev pub HasForgotten : PlainLocked → PlainLocked → Type 0
HasForgotten old new = (engine_at new ≡ forgotten (engine_at old))
    × (opening_in new.opening ≡ (forgotten (engine_at old)).machine)
    × (new ≡ record (with_engine old new.engine) {
      opening = new.opening;
      first = next_number old;
      history = [];
    })

pub record Forgets (old : PlainLocked) (result : Result ⊤ Fault) (new : PlainLocked) : Type 0 where
  pub legal : IsReplayed old
  pub ok : OnOk result (HasForgotten old new)
  pub err : OnErr result (IsSame old new)
  pub want : IfErr result (λ f. f ≡ OutOfMemory)

-- THE HUB FORGETS, or nothing is done. It never
-- does for a caller that never lets it forget by itself
pub record ForgetsWhenDue (old : PlainLocked) (values : ℕ) (result : Result Bool Fault)
    (new : PlainLocked) : Type 0 where
  pub legal : IsReplayed old
  pub forgot : result ≡ Ok true → HasForgotten old new
  pub not_due : result ≡ Ok false → new ≡ old
  pub never : values ≡ 0 → result ≡ Ok false
  pub err : OnErr result (IsSame old new)
  pub want : IfErr result (λ f. f ≡ OutOfMemory)

-- A SEAT SETTLED, and the hub forgets if it agreed and that is due
abbrev pub ForgetsAfter : PlainLocked → Bool → ℕ → PlainLocked → Type 0
ForgetsAfter settled true values new =
    (forgot : Result Bool Fault) × ForgetsWhenDue settled values forgot new
ForgetsAfter settled false values new = new ≡ settled

-- A SEAT THAT AGREES with the hub settles: its receipts go, and seat and hub both keep how many
-- calls that were, and up to which number
pub record HasSettled (old : PlainLocked) (seat : PlainSeat) (new : PlainLocked)
    (seat' : PlainSeat) : Type 0 where
  pub agrees : Agrees old.ledger old.first old.history seat
  pub emptied : seat' ≡ record seat { receipts = []; settled = settled_of old.first seat }
  pub noted : new ≡ record old { ledger = cleared_of old.ledger old.first seat }

-- ONE THAT DIFFERS keeps its receipts, and nothing changes
pub record HasDiffered (old : PlainLocked) (seat : PlainSeat) (new : PlainLocked)
    (seat' : PlainSeat) : Type 0 where
  pub differs : ¬ Agrees old.ledger old.first old.history seat
  pub kept : seat' ≡ seat
  pub same : new ≡ old

pub record Settles (old : PlainLocked) (seat : PlainSeat) (result : Bool) (new : PlainLocked)
    (seat' : PlainSeat) : Type 0 where
  pub legal : IsReplayed old
  pub settled : result ≡ true → HasSettled old seat new seat'
  pub differed : result ≡ false → HasDiffered old seat new seat'

-- WHAT WORKERS CALL, as of the engine. Each says that the history
-- before it was legal, so it is legal whenever the lock is free
pub record Hands (old : PlainLocked) (rows : ℕ) (result : Result Leased Fault)
    (new : PlainLocked) : Type 0 where
  pub legal : IsReplayed old
  pub leases : Leases (engine_at old) rows result (engine_at new)
  pub idle : result ≡ Ok leased.Idle → HasAllWaiting (engine_at new)

-- no turn goes out, for this fault
pub record Withholds (old : PlainLocked) (rows : ℕ) (f : Fault) (new : PlainLocked) : Type 0 where
  pub legal : IsReplayed old
  pub refuses : Leases (engine_at old) rows (Err f) (engine_at new)

-- nothing is ready: each query that runs and has no
-- turn out holds all its closed answers that were not taken
pub record IsIdle (old : PlainLocked) (rows : ℕ) (new : PlainLocked) : Type 0 where
  pub legal : IsReplayed old
  pub idle : Leases (engine_at old) rows (Ok leased.Idle) (engine_at new)
  pub all : HasAllWaiting (engine_at new)

-- and no turn is out
pub record Rests (old : PlainLocked) (rows : ℕ) (new : PlainLocked) : Type 0 where
  pub idle : IsIdle old rows new
  pub returned : (engine_at old).leases ≡ []

pub record FindsQuery (l : PlainLocked) (name : List ℕ) (found : Option ℕ) : Type 0 where
  pub legal : IsReplayed l
  pub is : found ≡ query_named (engine_at l).machine name

-- what a look shows; its query's name is looked up in the same step
pub record SeesLook (l : PlainLocked) (look : Look) (result : Result Seen Fault) : Type 0 where
  pub legal : IsReplayed l
  pub sees : Sees (world_of (engine_at l)) look result
  pub is : Shows (engine_at l) look result

-- WHAT A SEAT KNOWS of its call: what lay under the lock had a
-- legal history, and took exactly this command, or refused it
abbrev pub Took : PlainSeat → Command → Told → PlainSeat → Type 0
Took seat c r seat' = (old : PlainLocked) × (new : PlainLocked) × Accepted old seat c r new seat'

abbrev pub Spurned : PlainSeat → Command → Fault → PlainSeat → Type 0
Spurned seat c f seat' = (old : PlainLocked) × (new : PlainLocked) × Declined old seat c f new seat'

-- A CALL THAT NAMES a stream or a query: its number is what the name has in that very state
abbrev pub AcceptedNamed : (Machine → List ℕ → Option ℕ) → List ℕ → (ℕ → Command) → PlainLocked
    → PlainSeat → Told → PlainLocked → PlainSeat → Type 0
AcceptedNamed number_of name command old seat r new seat' =
    (n : ℕ) × (number_of (engine_at old).machine name ≡ Some n)
    × Accepted old seat (command n) r new seat'

-- refused by that number; or nothing has that name, which is the fault
abbrev pub DeclinedNamed : (Machine → List ℕ → Option ℕ) → List ℕ → Fault → (ℕ → Command)
    → PlainLocked → PlainSeat → Fault → PlainLocked → PlainSeat → Type 0
DeclinedNamed number_of name unknown command old seat f new seat' =
    ((n : ℕ) × (number_of (engine_at old).machine name ≡ Some n)
    × Declined old seat (command n) f new seat')
    ⊎ (IsReplayed old × (number_of (engine_at old).machine name ≡ None) × (f ≡ unknown)
    × (new ≡ old) × (seat' ≡ seat))

abbrev pub TookNamed : (Machine → List ℕ → Option ℕ) → List ℕ → (ℕ → Command) → PlainSeat → Told
    → PlainSeat → Type 0
TookNamed number_of name command seat r seat' = (old : PlainLocked) × (new : PlainLocked)
    × AcceptedNamed number_of name command old seat r new seat'

abbrev pub SpurnedNamed : (Machine → List ℕ → Option ℕ) → List ℕ → Fault → (ℕ → Command)
    → PlainSeat → Fault → PlainSeat → Type 0
SpurnedNamed number_of name unknown command seat f seat' = (old : PlainLocked)
    × (new : PlainLocked) × DeclinedNamed number_of name unknown command old seat f new seat'
