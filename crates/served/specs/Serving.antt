-- TO BELIEVE: the theorem rests on these definitions, and no proof can check them.
-- What a seat of a hub answers the requests of a script, while other seats call as well.
use Rattle.std.specs.Prelude.{◌≡◌, ◌≢◌, ◌≤◌, ℕ, Bool, true, false, ◌&&◌, List, ◌++◌, Option, Some}
use Rattle.std.specs.Prelude.{None, Result, Ok, Err, ◌⊎◌, ⊤}
use Rattle.histories.specs.Histories.{Told}
use Rattle.hub.specs.Seats.{PlainSeat}
use Rattle.hub.specs.Steps as hub
use Rattle.hub.specs.Steps.{PlainLocked, FindsQuery, Hands, Rests, SeesLook, Spurned, SpurnedNamed}
use Rattle.hub.specs.Steps.{Took, TookNamed}
use Rattle.leases.specs.declared.leased.Leased.TheVariants.{Idle}
use Rattle.reference.specs.Commands.{Command, Declare, Register, Append, Heartbeat, Take, Drop}
use Rattle.reference.specs.Looks.{Look, Seen}
use Rattle.reference.specs.Machine.{Machine, query_named, stream_named}
use Rattle.reference.specs.Replies as replies
use Rattle.reference.specs.Replies.{Reply}
use Rattle.reference.specs.declared.fault.Fault.{Fault}
use Rattle.reference.specs.declared.fault.Fault.TheVariants.{BadLimit, OutOfMemory, TooManyLeases}
use Rattle.reference.specs.declared.fault.Fault.TheVariants.{UnknownQuery, UnknownStream}
use Rattle.wire.specs.Calls.{Call, declare, register, append, heartbeat, drain, take_rows}
use Rattle.wire.specs.Calls.{drop_query, forget, look}
use Rattle.wire.specs.Exchanges as exchanges
use Rattle.wire.specs.Printed.{Answer, done, rows, refused, unread}
use Rattle.wire.specs.Script.{seen_or}
use Rattle.wire.specs.declared.request.Request.TheVariants as request
use Rattle.wire.specs.declared.request.WireFault.{WireFault}
use Rattle.wire.specs.declared.request.WireFault.TheVariants as in_line
use Rattle.workers.specs.Full.{WasFull}
use Rattle.workers.specs.declared.pool.TheConstants.{MAX_WORKERS}

-- ---- one request

-- what a request is answered whose command has this reply in the history
abbrev pub shown : Reply → Answer
shown (replies.Number n) = done
shown replies.Done = done
shown (replies.Rows taken) = rows taken

-- ACCEPTED: one step of the hub, one entry of its history,
-- and one receipt, whose reply is what is answered
abbrev pub IsAccepted : PlainSeat → Command → Answer → PlainSeat → Type 0
IsAccepted seat command answer seat' =
    (told : Told) × (answer ≡ shown told.entry.reply) × Took seat command told seat'

-- REFUSED: one step of the hub that changes nothing
abbrev pub IsRefused : PlainSeat → Command → Answer → PlainSeat → Type 0
IsRefused seat command answer seat' =
    (fault : Fault) × (answer ≡ refused fault) × Spurned seat command fault seat'

-- a command of the seat was answered so
abbrev pub Carries : PlainSeat → Command → Answer → PlainSeat → Type 0
Carries seat command answer seat' =
    IsAccepted seat command answer seat' ⊎ IsRefused seat command answer seat'

-- the same of a command that names a stream or a query: one step of the hub looks the
-- number up and carries the command out, or refuses it. `unknown` is the fault if nothing
-- has this name in that step
abbrev pub CarriesNamed : (Machine → List ℕ → Option ℕ) → List ℕ → Fault → (ℕ → Command)
    → PlainSeat → Answer → PlainSeat → Type 0
CarriesNamed number_of name unknown command seat answer seat' =
    ((told : Told) × (answer ≡ shown told.entry.reply)
    × TookNamed number_of name command seat told seat')
    ⊎ ((fault : Fault) × (answer ≡ refused fault)
    × SpurnedNamed number_of name unknown command seat fault seat')

-- the same of a drop. Its number is looked up before, in a step of its own: another seat may
-- drop that query in between, and then the drop is refused
abbrev pub DropsNamed : List ℕ → PlainSeat → Answer → PlainSeat → Type 0
DropsNamed name seat answer seat' =
    ((n : ℕ) × ((l : PlainLocked) × FindsQuery l name (Some n))
    × Carries seat (Drop n) answer seat')
    ⊎ (((l : PlainLocked) × FindsQuery l name None) × (answer ≡ refused UnknownQuery)
    × (seat' ≡ seat))

-- what a look is answered: one step of the hub looks the query's number up and looks
abbrev pub Shows : Look → Answer → Type 0
Shows asked answer =
    (l : PlainLocked) × (result : Result Seen Fault) × (answer ≡ seen_or result)
    × SeesLook l asked result

-- ---- forgetting

-- THE HUB FORGOT in one step, or it ran out of memory and nothing was changed
abbrev pub Forgets : Answer → Type 0
Forgets done = (old : PlainLocked) × (new : PlainLocked) × hub.Forgets old (Ok tt) new
Forgets (refused fault) = (old : PlainLocked) × (new : PlainLocked)
    × hub.Forgets old (Err fault) new
Forgets answer = ⊥

-- ---- drains

-- there was a moment when no operator might take anything
abbrev pub WasIdle : ℕ → Type 0
WasIdle most = (old : PlainLocked) × (new : PlainLocked) × Hands old most (Ok Idle) new

-- and no turn was out
abbrev pub WasAtRest : ℕ → Type 0
WasAtRest most = (old : PlainLocked) × (new : PlainLocked) × Rests old most new

-- a pool has 1 to 64 workers
abbrev pub IsPool : ℕ → Type 0
IsPool workers = (1 ≤ workers) × (workers ≤ MAX_WORKERS)

-- THE DRAIN OF A POOL was answered so. `done`: at some moment nothing was ready and no turn was
-- out. `BadLimit`: exactly if these are no pool's workers. `TooManyLeases`: at some moment an
-- operator was ready, and no turn went out. `OutOfMemory`: nothing says when
abbrev pub PoolDrains : ℕ → ℕ → Answer → Type 0
PoolDrains workers most done = IsPool workers × WasAtRest most
PoolDrains workers most (refused BadLimit) = ¬ IsPool workers
PoolDrains workers most (refused OutOfMemory) = IsPool workers
PoolDrains workers most (refused TooManyLeases) = IsPool workers × WasFull most
PoolDrains workers most answer = ⊥

-- THE DRAIN OF A CLIENT'S OWN THREAD was answered so. `done`: at some moment nothing was ready.
-- `TooManyLeases`: at some moment an operator was ready, and no turn went out. `OutOfMemory`:
-- nothing says when
abbrev pub ClientDrains : ℕ → Answer → Type 0
ClientDrains most done = WasIdle most
ClientDrains most (refused OutOfMemory) = ⊤
ClientDrains most (refused TooManyLeases) = WasFull most
ClientDrains most answer = ⊥

-- ---- requests

-- THE CALL of a request was answered so, and left this
-- seat; `drains` says what a drain may be answered
abbrev pub Serves : (Answer → Type 0) → PlainSeat → Call → Answer → PlainSeat → Type 0
Serves drains seat (declare name columns start) answer seat' =
    Carries seat (Declare name columns start) answer seat'
Serves drains seat (register name text chart) answer seat' =
    Carries seat (Register name text chart) answer seat'
Serves drains seat (append stream more) answer seat' =
    CarriesNamed stream_named stream UnknownStream (λ n. Append n more) seat answer seat'
Serves drains seat (heartbeat stream at) answer seat' =
    CarriesNamed stream_named stream UnknownStream (λ n. Heartbeat n at) seat answer seat'
Serves drains seat drain answer seat' = drains answer × (seat' ≡ seat)
Serves drains seat (take_rows query limit) answer seat' =
    CarriesNamed query_named query UnknownQuery (λ n. Take n limit) seat answer seat'
Serves drains seat forget answer seat' = Forgets answer × (seat' ≡ seat)
Serves drains seat (drop_query query) answer seat' = DropsNamed query seat answer seat'
Serves drains seat (look asked) answer seat' = Shows asked answer × (seat' ≡ seat)

-- the request was answered; the answer to a line that is no request is its fault, and it calls
-- nothing
abbrev pub IsServed : (Answer → Type 0) → PlainSeat → Result Call WireFault → Answer
    → PlainSeat → Type 0
IsServed drains seat (Ok call) answer seat' = Serves drains seat call answer seat'
IsServed drains seat (Err fault) answer seat' = (answer ≡ unread fault) × (seat' ≡ seat)

-- or memory ran out while the line was read; of a line that is too long it does not
abbrev pub LacksMemory : PlainSeat → Result Call WireFault → Answer → PlainSeat → Type 0
LacksMemory seat request answer seat' =
    (request ≢ Err in_line.LineTooLong) × (answer ≡ unread in_line.OutOfMemory) × (seat' ≡ seat)

-- A REQUEST WAS ANSWERED SO
abbrev pub Replies : (Answer → Type 0) → PlainSeat → Result Call WireFault → Answer
    → PlainSeat → Type 0
Replies drains seat request answer seat' =
    IsServed drains seat request answer seat' ⊎ LacksMemory seat request answer seat'

-- ---- whether the hub forgot

-- the request is to forget
abbrev pub asks_forget : Result Call WireFault → Bool
asks_forget (Ok forget) = true
asks_forget request = false

-- the call was accepted, and nothing is handed out
abbrev pub is_done : Answer → Bool
is_done done = true
is_done answer = false

-- the request is to forget, and was answered `done`
abbrev pub forgets : Result Call WireFault → Answer → Bool
forgets request answer = asks_forget request && is_done answer

-- ---- all requests

-- THE REQUESTS were answered by this text, one line a request, and left this seat;
-- `forgot` is true exactly if one of them was to forget, and was answered `done`
abbrev pub Runs : (Answer → Type 0) → PlainSeat → List (Result Call WireFault) → List ℕ → Bool
    → PlainSeat → Type 0
Runs drains = exchanges.Runs (Replies drains) forgets

-- the first of these requests were carried out: the
-- written text is a prefix of what they are answered
abbrev pub Stands : (Answer → Type 0) → PlainSeat → List (Result Call WireFault) → List ℕ
    → PlainSeat → Type 0
Stands drains = exchanges.Stands (Replies drains) forgets

-- only more receipts are in the seat
abbrev pub Keeps : PlainSeat → PlainSeat → Type 0
Keeps old new = (more : List Told) × (new ≡ record old { receipts = old.receipts ++ more })

-- ---- a seat that settles

-- the seat settled in a step of the hub, or it is as it was
abbrev pub MaySettle : PlainSeat → PlainSeat → Type 0
MaySettle seat seat' = (seat' ≡ seat) ⊎ ((old : PlainLocked) × (new : PlainLocked)
    × (result : Bool) × hub.Settles old seat result new seat')

-- A REQUEST WAS ANSWERED SO by a seat that may settle before it and after it
abbrev pub SettlesAround : (Answer → Type 0) → PlainSeat → Result Call WireFault → Answer
    → PlainSeat → Type 0
SettlesAround drains seat request answer seat' =
    (first : PlainSeat) × (last : PlainSeat) × MaySettle seat first
    × Replies drains first request answer last × MaySettle last seat'

-- THE REQUESTS were answered by this text, as `Runs` says, by a seat that may settle
abbrev pub RunsSettling : (Answer → Type 0) → PlainSeat → List (Result Call WireFault) → List ℕ
    → Bool → PlainSeat → Type 0
RunsSettling drains = exchanges.Runs (SettlesAround drains) forgets

-- the first of them were carried out, as `Stands` says
abbrev pub StandsSettling : (Answer → Type 0) → PlainSeat → List (Result Call WireFault) → List ℕ
    → PlainSeat → Type 0
StandsSettling drains = exchanges.Stands (SettlesAround drains) forgets
