-- TO BELIEVE: the theorem rests on these definitions, and no proof can check them.
-- What the programs do.
use Rattle.std.specs.Prelude.{◌≡◌, ◌≢◌, ℕ, Bool, true, false, List, [], ◌∷◌, Option, None, ◌⊎◌}
use Rattle.std.specs.Prelude.{codes}
use Rattle.clap.specs.Words.{Kinds, IsAmong, Text}
use Rattle.clap.specs.declared.error.kind.ErrorKind.TheVariants.{DisplayHelp, DisplayVersion}
use Rattle.reference.specs.Machine.{Machine, empty}
use Rattle.reference.specs.World.{World}
use Rattle.wire.specs.Devices.{Rises}
use Rattle.wire.specs.Requests.{requests_of}
use Rattle.wire.specs.declared.fault.ScriptFault.{ScriptFault}
use Rattle.wire.specs.declared.fault.ScriptFault.TheVariants.{Read, Write, Memory}
use Rattle.wire.specs.Script.{script, Says, Begins, Runs, Scripts, Stands}
use Rattle.wire.specs.Printed.{Answer}
use Rattle.command_lines.specs.CommandLine.{number_or, run_text}
use Rattle.histories.specs.Histories.{Entry, IsLegal}
use Rattle.hub.specs.Audits.{IsAccounted, alone}
use Rattle.hub.specs.Ledgers.{PlainLedger}
use Rattle.hub.specs.Reached.{IsReachedBy}
use Rattle.hub.specs.Seats.{IsAudited, PlainSeat, opened}
use Rattle.hub.specs.Steps.{OpensAt}
use Rattle.served.specs.Errors.{IsTold, accept_line, audit_line, bind_line, close_line, memory_line}
use Rattle.served.specs.Errors.{thread_line}
use Rattle.served.specs.Serving as of_seat

-- At the status 0 the sink took the script's text of what the source gave, and else a prefix of it.
-- A reply may say that the numbers for turns ran out only if `wanted` holds. The most rows of a
-- turn, which the words may say, are not in it: they change no reply.
abbrev pub Answers : Type 0 → World → ℕ → Option (List ℕ) → Option (List ℕ)
    → Option (List ℕ) → Type 0
Answers wanted world status source old new =
    (status ≡ 0 → Scripts (λ text written. Says wanted (requests_of text)
    (script world text) written) source old new)
    × Scripts (λ text written. Begins wanted (requests_of text) (script world text) written)
    source old new

-- The requests lead from the world `first` to the world `now`:
-- at the status 0 all of them, and else those carried out.
abbrev pub Leads : Type 0 → World → World → ℕ → Option (List ℕ) → Option (List ℕ)
    → Option (List ℕ) → Type 0
Leads wanted first now status source old new =
    (status ≡ 0 → Scripts (λ text written. Runs wanted first (requests_of text) written now)
    source old new)
    × Scripts (λ text written. Stands wanted first (requests_of text) written now) source old new

-- All receipts of the only seat are the entries of a legal history,
-- each once and in order, from the empty machine.
abbrev pub IsWhole : PlainSeat → Type 0
IsWhole seat = (entries : List Entry) × IsLegal empty entries × IsAudited (seat ∷ []) 1 0 entries

-- Those from an opening on are the entries of a legal history, each once and in order. Of those
-- that the opening replaces, the numbers are there. As many accepted commands led to it, from
-- nothing. If it replaces none, it is the empty machine.
abbrev pub IsSince : PlainSeat → Type 0
IsSince seat =
    (opening : Machine) × (first : ℕ) × (entries : List Entry) × IsLegal opening entries
    × OpensAt first opening × IsReachedBy first opening × IsAudited (seat ∷ []) 1 first entries

-- What the receipts of the only seat are, by whether a request to forget was answered `done`.
abbrev pub IsAlone : Bool → PlainSeat → Type 0
IsAlone false seat = IsWhole seat
IsAlone true seat = IsSince seat

-- At the status 0 the sink took what the only seat of a hub is answered by steps of it, one line a
-- request. If none of them forgot, all its receipts are then a legal history, and else those from
-- an opening on. At another status it took a prefix of such answers. `drains` says what a drain may
-- be answered.
abbrev pub Shares : (Answer → Type 0) → ℕ → Option (List ℕ) → Option (List ℕ)
    → Option (List ℕ) → Type 0
Shares drains status source old new =
    (status ≡ 0 → Scripts (λ text written. (seat : PlainSeat) × (forgot : Bool)
    × of_seat.Runs drains (opened 0) (requests_of text) written forgot seat × IsAlone forgot seat)
    source old new)
    × Scripts (λ text written. (seat : PlainSeat)
    × of_seat.Stands drains (opened 0) (requests_of text) written seat) source old new

-- Every accepted call of the only seat was compared with the history once, by value: when it
-- settled, or at the end. The seat let go of the receipts that it settled. The history is legal
-- from an opening, which as many accepted commands led to as it replaces.
abbrev pub IsKept : PlainSeat → Type 0
IsKept seat =
    (opening : Machine) × (first : ℕ) × (entries : List Entry) × (l : PlainLedger)
    × IsLegal opening entries × OpensAt first opening × IsReachedBy first opening
    × IsAccounted l (seat ∷ []) 1 first entries × (alone first (seat ∷ []) ≡ 0)

-- The same as `Shares`, of a seat that settles: at the status 0 all its calls were compared.
abbrev pub SharesSettling : (Answer → Type 0) → ℕ → Option (List ℕ) → Option (List ℕ)
    → Option (List ℕ) → Type 0
SharesSettling drains status source old new =
    (status ≡ 0 → Scripts (λ text written. (seat : PlainSeat) × (forgot : Bool)
    × of_seat.RunsSettling drains (opened 0) (requests_of text) written forgot seat × IsKept seat)
    source old new)
    × Scripts (λ text written. (seat : PlainSeat)
    × of_seat.StandsSettling drains (opened 0) (requests_of text) written seat) source old new

-- the words ask for workers
abbrev pub AsksWorkers : List Text → Type 0
AsksWorkers words = run_text (codes "workers") words ≢ None

-- the most rows of a turn that the words ask for
abbrev pub turn_of : List Text → ℕ
turn_of words = number_or 256 (run_text (codes "turn") words)

-- words that are refused, and that ask for no help
abbrev pub IsWrong : Kinds → Type 0
IsWrong kinds = (kinds ≢ []) × (¬ IsAmong DisplayHelp kinds) × (¬ IsAmong DisplayVersion kinds)

-- what is said of a fault
abbrev pub fault_line : ScriptFault → List ℕ
fault_line Read = codes "cqlrun: read failed\n"
fault_line Write = codes "cqlrun: write failed\n"
fault_line Memory = codes "cqlrun: out of memory\n"

-- what is said if the history and the seat differ at the end
abbrev pub differs_line : List ℕ
differs_line = codes "cqlrun: close failed\n"

-- a sink was given some text
abbrev pub ToldSome : {E : Type 0} → (E → Option (List ℕ)) → (E → ℕ) → E → E → Type 0
ToldSome taken failures old new = (text : List ℕ) × (text ≢ []) × IsTold taken failures old new text

-- Either the source failed or the sink, the other one did not, and the line says which.
abbrev pub Failed : {I O : Type 0} → (I → ℕ) → I → I → (O → ℕ) → O → O → (List ℕ → Type 0) → Type 0
Failed reads source source' writes sink sink' told =
    (Rises (reads source) (reads source') × (writes sink' ≡ writes sink) × told (fault_line Read))
    ⊎ (Rises (writes sink) (writes sink') × (reads source' ≡ reads source)
    × told (fault_line Write))

-- No device failed, and the line says that the history and the seat differ.
abbrev pub Differs : {I O : Type 0} → (I → ℕ) → I → I → (O → ℕ) → O → O → (List ℕ → Type 0) → Type 0
Differs reads source source' writes sink sink' told =
    (reads source' ≡ reads source) × (writes sink' ≡ writes sink) × told differs_line

-- what is said if a server ends with the status 1
abbrev pub IsServerFailure : (List ℕ → Type 0) → Type 0
IsServerFailure told = told bind_line ⊎ (told accept_line ⊎ told audit_line ⊎ told close_line)

-- and with the status 3
abbrev pub IsServerLack : (List ℕ → Type 0) → Type 0
IsServerLack told = told memory_line ⊎ told thread_line

-- the statuses of words that are not wrong
abbrev pub IsOfRun : ℕ → Type 0
IsOfRun status = (status ≡ 0) ⊎ (status ≡ 1) ⊎ (status ≡ 3)

-- the statuses of words that are wrong
abbrev pub IsOfWrong : ℕ → Type 0
IsOfWrong status = (status ≡ 2) ⊎ (status ≡ 3)
