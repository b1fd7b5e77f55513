-- TO BELIEVE: the theorem rests on these definitions, and no proof can check them.
-- What a client may look at, with the query by name, and what it sees.
use Rattle.std.specs.Prelude.{◌≡◌, ⊤, ℕ, ℤ, List, Option, Some, None, Result, Ok, Err, IfOk, IfErr}
use Rattle.std.specs.Prelude.{string_bytes}
use Rattle.values.specs.Row.{Row}
use Rattle.envelope.specs.Fraction.{Fraction}
use Rattle.plan.specs.declared.node.NodeKind.{NodeKind}
use Rattle.reference.specs.Status.{Status, status_of}
use Rattle.reference.specs.StatusViews.{status_in}
use Rattle.reference.specs.Steps.{AreNext}
use Rattle.reference.specs.World.{World, peek_at, query_named, slopes_at}
use Rattle.reference.specs.declared.fault.Fault.{Fault}
use Rattle.reference.specs.declared.fault.Fault.TheVariants.{OutOfMemory, UnknownQuery}
use Rattle.reference.specs.declared.look.Look as coded_look
use Rattle.reference.specs.declared.look.Look.TheVariants as asked
use Rattle.reference.specs.declared.look.Seen as coded_seen
use Rattle.reference.specs.declared.look.Seen.TheVariants as shown

-- WHAT IS LOOKED AT
pub data Look : Type 0 where
  -- the answers that a take of the query of a name would hand out, at most so many
  peek_rows : List ℕ → ℤ → Look
  -- the operators of the query of a name
  show_plan : List ℕ → Look
  -- how far each stream and each undropped query is
  show_status : Look

abbrev pub look_of : coded_look.Look → Look
look_of (asked.Peek query limit) = peek_rows (string_bytes query) limit
look_of (asked.Plan query) = show_plan (string_bytes query)
look_of asked.Status = show_status

-- WHAT IS SEEN
pub data Seen : Type 0 where
  -- answers of a query, each with its instant
  answers : List (ℤ × Row) → Seen
  -- what each operator of a query does, and its slope
  operators : List (NodeKind × Fraction) → Seen
  -- how far each query and each stream is
  status : Status → Seen

abbrev pub seen_of : coded_seen.Seen → Seen
seen_of (shown.Answers found) = answers found
seen_of (shown.Operators found) = operators found.items
seen_of (shown.Status found) = status (status_in found)

abbrev pub seen_in : Result coded_seen.Seen Fault → Result Seen Fault
seen_in (Ok found) = Ok (seen_of found)
seen_in (Err fault) = Err fault

-- what was found, as what is seen
abbrev pub seen_as : {A : Type 0} → (A → Seen) → Result A Fault → Result Seen Fault
seen_as kind (Ok found) = Ok (kind found)
seen_as kind (Err fault) = Err fault

-- a look at the query of a number; there is none if nothing has its name
abbrev pub at_query : (ℕ → Result Seen Fault) → Option ℕ → Result Seen Fault
at_query seen None = Err UnknownQuery
at_query seen (Some n) = seen n

-- WHAT A LOOK SEES OF A WORLD
abbrev pub look_at : World → Look → Result Seen Fault
look_at w (peek_rows name limit) =
    at_query (λ n. seen_as answers (peek_at w n limit)) (query_named w name)
look_at w (show_plan name) = at_query (λ n. seen_as operators (slopes_at w n)) (query_named w name)
look_at w show_status = Ok (status (status_of w))

-- AN ENGINE has to be whole for such a look to see that
abbrev pub NeedsWhole : Look → Type 0
NeedsWhole (peek_rows name limit) = ⊤
NeedsWhole (show_plan name) = ⊥
NeedsWhole show_status = ⊤

-- the look saw this of the query of a number; it was refused if nothing has its name
abbrev pub SeesAt : (ℕ → Result Seen Fault → Type 0) → Option ℕ → Result Seen Fault → Type 0
SeesAt Sees None result = result ≡ Err UnknownQuery
SeesAt Sees (Some n) result = Sees n result

-- the look was answered with something of this kind that was found, or refused as finding it was
abbrev pub SeesFound : {A : Type 0} → (A → Seen) → (Result A Fault → Type 0) → Result Seen Fault
    → Type 0
SeesFound {A = A} kind IsFound result =
    (found : Result A Fault) × (result ≡ seen_as kind found) × IsFound found

-- WHAT A LOOK SEES OF ANY ENGINE, whole or not
abbrev pub Sees : World → Look → Result Seen Fault → Type 0
Sees w (peek_rows name limit) result =
    SeesAt (λ n. SeesFound answers (λ found. IfOk found (AreNext w.machine n limit)))
    (query_named w name) result
Sees w (show_plan name) result = ⊤
Sees w show_status result =
    SeesFound status (λ found. IfErr found (λ fault. fault ≡ OutOfMemory)) result
