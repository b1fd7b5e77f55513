-- TO BELIEVE: the theorem rests on these definitions, and no proof can check them.
-- The text that a script of requests is answered.
use Rattle.std.specs.Prelude.{◌≡◌, ℕ, ℤ, Bool, true, false, List, [], ◌∷◌, ◌++◌, Option, Some, None}
use Rattle.std.specs.Prelude.{Result, Ok, Err, ◌⊎◌, ⊤}
use Rattle.values.specs.Row.{Row}
use Rattle.reference.specs.Alike.{Alike}
use Rattle.reference.specs.Looks.{Seen, look_at}
use Rattle.reference.specs.Looks as looks
use Rattle.reference.specs.World.{World, Step, MayLackMemory, StopsEarly, stream_named, query_named}
use Rattle.reference.specs.World.{declare_step, register_step, append_step, heartbeat_step}
use Rattle.reference.specs.World.{drain_step, take_step, drop_step}
use Rattle.reference.specs.declared.fault.Fault.{Fault}
use Rattle.reference.specs.declared.fault.Fault.TheVariants as in_engine
use Rattle.reference.specs.declared.fault.Fault.TheVariants.{TooManyLeases}
use Rattle.wire.specs.Calls.{Call, declare, register, append, heartbeat, drain, take_rows}
use Rattle.wire.specs.Calls.{drop_query, forget, look}
use Rattle.wire.specs.Printed.{Answer, done, rows, seen, refused, unread, line_of}
use Rattle.wire.specs.Requests.{requests_of}
use Rattle.wire.specs.declared.request.WireFault.{WireFault}
use Rattle.wire.specs.declared.request.WireFault.TheVariants.{LineTooLong, OutOfMemory}

abbrev pub done_of : {A : Type 0} → Result A Fault → Answer
done_of (Ok a) = done
done_of (Err f) = refused f

abbrev pub rows_of : Result (List (ℤ × Row)) Fault → Answer
rows_of (Ok taken) = rows taken
rows_of (Err f) = refused f

abbrev pub seen_or : Result Seen Fault → Answer
seen_or (Ok found) = seen found
seen_or (Err f) = refused f

abbrev pub done_step : {A : Type 0} → Step A → Answer × World
done_step step = (done_of step.0, step.1)

abbrev pub rows_step : Step (List (ℤ × Row)) → Answer × World
rows_step step = (rows_of step.0, step.1)

-- a call that names a stream or a query
abbrev pub if_named : World → Fault → (ℕ → Answer × World) → Option ℕ → Answer × World
if_named w fault step None = (refused fault, w)
if_named w fault step (Some n) = step n

-- what a call is answered, and the world after it; the rows of a drain's turns
-- change nothing, and giving up rows changes nothing that a later call tells
abbrev pub answered : World → Call → Answer × World
answered w (declare name columns start) = done_step (declare_step w name columns start)
answered w (register name text chart) = done_step (register_step w name text chart)
answered w (append stream more) =
    if_named w in_engine.UnknownStream (λ n. done_step (append_step w n more))
    (stream_named w stream)
answered w (heartbeat stream at) =
    if_named w in_engine.UnknownStream (λ n. done_step (heartbeat_step w n at))
    (stream_named w stream)
answered w drain = done_step (drain_step w 1)
answered w (take_rows query limit) =
    if_named w in_engine.UnknownQuery (λ n. rows_step (take_step w n limit)) (query_named w query)
answered w (drop_query query) =
    if_named w in_engine.UnknownQuery (λ n. done_step (drop_step w n)) (query_named w query)
answered w forget = (done, w)
answered w (look asked) = (seen_or (look_at w asked), w)

-- what a request is answered, and the world after it; a line that is no request changes nothing
abbrev pub served : World → Result Call WireFault → Answer × World
served w (Err fault) = (unread fault, w)
served w (Ok call) = answered w call

-- the reply lines of requests
abbrev pub replies : World → List (Result Call WireFault) → List (List ℕ)
replies w [] = []
replies w (request ∷ more) = line_of (served w request).0 ∷ replies (served w request).1 more

-- the reply lines of a text
abbrev pub script : World → List ℕ → List (List ℕ)
script w text = replies w (requests_of text)

-- The engine's answer to this call says that something was wanted: memory, of
-- which a drop takes none, or numbers for turns, which a drain alone gives.
abbrev pub is_scarce_answer : Call → Answer → Bool
is_scarce_answer (drop_query query) answer = false
is_scarce_answer call (refused in_engine.OutOfMemory) = true
is_scarce_answer drain (refused TooManyLeases) = true
is_scarce_answer call answer = false

-- The reply to this request says so, or that memory was wanted
-- where its line was read; none is where it is too long.
abbrev pub is_scarce_reply : Result Call WireFault → Answer → Bool
is_scarce_reply (Err LineTooLong) answer = false
is_scarce_reply request (unread OutOfMemory) = true
is_scarce_reply (Ok call) answer = is_scarce_answer call answer
is_scarce_reply (Err fault) answer = false

-- Where the reply to a drain says that numbers for turns were wanted, they were.
abbrev pub RestsOn : Type 0 → Result Call WireFault → Answer → Type 0
RestsOn wanted request answer = request ≡ Ok drain → answer ≡ refused TooManyLeases → wanted

-- an answer as the result of a call: a refusal, or what was asked for
abbrev pub result_of : Answer → Result Answer Fault
result_of (refused fault) = Err fault
result_of answer = Ok answer

-- What a call leaves that says that something was scarce: all is as it was, but that a drain may
-- have made some of the answers wait. Want of memory may stand in place of an acceptance, and of a
-- query's fault, and of no other.
abbrev pub LeavesOff : World → Call → World → Type 0
LeavesOff old drain new = StopsEarly old (drain_step old 1) new
LeavesOff old call new = (new ≡ old) × MayLackMemory (result_of (answered old call).0)

-- The answer is the defined one, and no later call tells the world after it from the defined one.
abbrev pub LeadsAlike : Answer × World → Answer → World → Type 0
LeadsAlike defined answer new = (defined.0 ≡ answer) × Alike defined.1 new

-- A call leads to the defined answer and world. Behind a drain, and
-- where it is asked for, rows are given up, which no later call tells.
abbrev pub LeadsTo : Call → Answer × World → Answer → World → Type 0
LeadsTo drain defined answer new = LeadsAlike defined answer new
LeadsTo forget defined answer new = LeadsAlike defined answer new
LeadsTo call defined answer new = defined ≡ (answer, new)

-- The engine's answer to a call and the world after it are the
-- defined ones, unless the answer says that something was scarce.
abbrev pub AnswersCall : World → Call → Answer → World → Type 0
AnswersCall old call answer new =
    (is_scarce_answer call answer ≡ false → LeadsTo call (answered old call) answer new)
    × (is_scarce_answer call answer ≡ true → LeavesOff old call new)

-- An engine has to be whole for its drains, its takes and most of
-- its looks to be answered so, and to give up rows unseen.
abbrev pub NeedsWhole : Call → Type 0
NeedsWhole drain = ⊤
NeedsWhole (take_rows query limit) = ⊤
NeedsWhole (look asked) = looks.NeedsWhole asked
NeedsWhole forget = ⊤
NeedsWhole call = ⊥

-- The text begins with a reply to this request that says that memory, or
-- numbers for a drain's turns, were scarce; numbers only where there are none.
abbrev pub BeginsScarce : Type 0 → Result Call WireFault → List ℕ → Type 0
BeginsScarce wanted request written =
    (answer : Answer) × (rest : List ℕ) × (is_scarce_reply request answer ≡ true)
    × RestsOn wanted request answer
    × (written ≡ line_of answer ++ rest)

-- The text written in answer to these requests is these lines, one a request,
-- up to one that says that memory, or numbers for a drain's turns, were scarce.
abbrev pub Says : Type 0 → List (Result Call WireFault) → List (List ℕ) → List ℕ → Type 0
Says wanted [] [] written = written ≡ []
Says wanted (request ∷ requests) (line ∷ lines) written =
    ((rest : List ℕ) × (written ≡ line ++ rest) × Says wanted requests lines rest)
    ⊎ BeginsScarce wanted request written
Says wanted requests lines written = ⊥

-- The written text begins as such a text.
abbrev pub Begins : Type 0 → List (Result Call WireFault) → List (List ℕ) → List ℕ → Type 0
Begins wanted requests lines written =
    (more : List ℕ) × Says wanted requests lines (written ++ more)

-- From the world `first` on these requests were answered by the written text, and no later request
-- tells this world from the one that they lead to; up to a reply that says that memory, or numbers
-- for a drain's turns, were scarce.
abbrev pub Runs : Type 0 → World → List (Result Call WireFault) → List ℕ → World → Type 0
Runs wanted first [] written now = (written ≡ []) × Alike first now
Runs wanted first (request ∷ more) written now =
    ((rest : List ℕ) × (written ≡ line_of (served first request).0 ++ rest)
    × Runs wanted (served first request).1 more rest now)
    ⊎ BeginsScarce wanted request written

-- The first of these requests were carried out, and
-- stand: the written text begins what they are answered.
abbrev pub Stands : Type 0 → World → List (Result Call WireFault) → List ℕ → World → Type 0
Stands wanted first requests written now =
    (carried : List (Result Call WireFault)) × (rest : List (Result Call WireFault))
    × (more : List ℕ)
    × (requests ≡ carried ++ rest) × Runs wanted first carried (written ++ more) now

-- Of the lines written in answer to these requests, one a request,
-- one says that memory, or numbers for a drain's turns, were scarce.
abbrev pub TellsScarcity : Type 0 → List (Result Call WireFault) → List ℕ → Type 0
TellsScarcity wanted [] written = ⊥
TellsScarcity wanted (request ∷ more) written =
    BeginsScarce wanted request written
    ⊎ ((answer : Answer) × (rest : List ℕ) × (written ≡ line_of answer ++ rest)
    × TellsScarcity wanted more rest)

-- What a sink took is a text that P holds of, where source and sink tell their bytes.
abbrev pub Scripts : (List ℕ → List ℕ → Type 0) → Option (List ℕ) → Option (List ℕ)
    → Option (List ℕ) → Type 0
Scripts P source old new =
    (text : List ℕ) (held : List ℕ) → source ≡ Some text → old ≡ Some held
    → (written : List ℕ) × (new ≡ Some (held ++ written)) × P text written
