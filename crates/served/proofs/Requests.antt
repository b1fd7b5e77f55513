-- One request of a seat.
use Rattle.std.proofs.Common.{◌≡◌, ◌∙◌, ℕ, Bool, true, false, ◌&&◌, List, [], ◌∷◌, ◌++◌, Option, Some, Result, Ok, Err, refl, ap, sym, subst, append_assoc, ◌⊎◌, inl, inr, arith}
use Rattle.std.specs.Prelude.{◌≤◌, ◌↔◌, ⊤, IfOk, IfErr, IsErrOf}
use Rattle.std.proofs.lemmas.Bool.{cases_lt}
use Rattle.histories.specs.Histories.{Told}
use Rattle.hub.specs.Seats.{PlainSeat}
use Rattle.hub.specs.Steps as hub
use Rattle.hub.specs.Steps.{PlainLocked, FindsQuery, Hands, Spurned, SpurnedNamed, Took, TookNamed}
use Rattle.leases.specs.declared.leased.Leased.{Leased}
use Rattle.leases.specs.declared.leased.Leased.TheVariants.{Idle}
use Rattle.reference.specs.Commands.{Command, Drop}
use Rattle.reference.specs.Machine.{Machine, query_named, stream_named}
use Rattle.reference.specs.Replies.{Reply}
use Rattle.reference.specs.declared.fault.Fault.{Fault}
use Rattle.reference.specs.declared.fault.Fault.TheVariants.{BadLimit, OutOfMemory, TooManyLeases}
use Rattle.reference.specs.World.{IsTurnSize}
use Rattle.wire.specs.Calls.{Call, declare, register, append, heartbeat, drain, take_rows, drop_query, forget, look, call_of}
use Rattle.wire.specs.Answering.{Leads}
use Rattle.wire.specs.Printed.{Answer, done, refused, unread}
use Rattle.wire.specs.Reading.{Reads}
use Rattle.wire.specs.Script.{done_of}
use Rattle.wire.specs.declared.request.Request.{Request}
use Rattle.wire.specs.declared.request.WireFault.{WireFault}
use Rattle.wire.specs.declared.request.WireFault.TheVariants.{NotJson, BadRequest, LineTooLong}
use Rattle.wire.specs.declared.request.WireFault.TheVariants as in_line
use Rattle.workers.specs.Full.{WasFull}
use Rattle.workers.specs.declared.pool.TheConstants.{MAX_WORKERS}
use Rattle.served.specs.Serving.{Carries, CarriesNamed, DropsNamed, Forgets, IsPool, Keeps, MaySettle, PoolDrains, Replies, Runs, RunsSettling, Serves, SettlesAround, WasAtRest, WasIdle, asks_forget, forgets, is_done, shown}

-- a command whose acceptance is answered `done`
pub carried : {A : Type 0} (told : A → Told) (reply : A → Reply) (seat seat' : PlainSeat) (command : Command) (r : Result A Fault) (answer : Answer)
    → ((x : A) → shown (reply x) ≡ done)
    → IfOk r (λ x. ((told x).entry.reply ≡ reply x) × Took seat command (told x) seat') → IfErr r (λ f. Spurned seat command f seat')
    → answer ≡ done_of r → Carries seat command answer seat'
carried told reply seat seat' command (Ok x) answer plain ok err is = inl (told x, is ∙ sym (plain x) ∙ ap shown (sym ok.0), ok.1)
carried told reply seat seat' command (Err f) answer plain ok err is = inr (f, is, err)

-- the same of a drop, after a look-up found the number
pub dropped : {A : Type 0} (name : List ℕ) (n : ℕ) (told : A → Told) (reply : A → Reply) (seat seat' : PlainSeat) (r : Result A Fault) (answer : Answer)
    → ((l : PlainLocked) × FindsQuery l name (Some n)) → ((x : A) → shown (reply x) ≡ done)
    → IfOk r (λ x. ((told x).entry.reply ≡ reply x) × Took seat (Drop n) (told x) seat') → IfErr r (λ f. Spurned seat (Drop n) f seat')
    → answer ≡ done_of r → DropsNamed name seat answer seat'
dropped name n told reply seat seat' r answer found plain ok err is =
    inl (n, found, carried told reply seat seat' (Drop n) r answer plain ok err is)

-- the same of a command whose call looked the number up
module _ (number_of : Machine → List ℕ → Option ℕ) (name : List ℕ) (unknown : Fault) (command : ℕ → Command) (seat seat' : PlainSeat) where
  pub accepted_by_name : (told : Told) (answer : Answer) → answer ≡ shown told.entry.reply → TookNamed number_of name command seat told seat' → CarriesNamed number_of name unknown command seat answer seat'
  accepted_by_name told answer is h = inl (told, is, h)

  pub refused_by_name : (f : Fault) (answer : Answer) → answer ≡ refused f → SpurnedNamed number_of name unknown command seat f seat' → CarriesNamed number_of name unknown command seat answer seat'
  refused_by_name f answer is h = inr (f, is, h)

  pub carried_by_name : {A : Type 0} (told : A → Told) (reply : A → Reply) (r : Result A Fault) (answer : Answer) → ((x : A) → shown (reply x) ≡ done)
      → IfOk r (λ x. ((told x).entry.reply ≡ reply x) × TookNamed number_of name command seat (told x) seat') → IfErr r (λ f. SpurnedNamed number_of name unknown command seat f seat')
      → answer ≡ done_of r → CarriesNamed number_of name unknown command seat answer seat'
  carried_by_name told reply (Ok x) answer plain ok err is = accepted_by_name (told x) answer (is ∙ sym (plain x) ∙ ap shown (sym ok.0)) ok.1
  carried_by_name told reply (Err f) answer plain ok err is = refused_by_name f answer is err

-- ---- what was read of a line

pub serves_request : (R : Answer → Type 0) (seat seat' : PlainSeat) (request : Request) (answer : Answer) (defined : Result Call WireFault) → defined ≡ Ok (call_of request)
    → Serves R seat (call_of request) answer seat' → Replies R seat defined answer seat'
serves_request R seat seat' request answer defined is served = subst (λ d. Replies R seat d answer seat') (sym is) (inl served)

pub serves_fault : (R : Answer → Type 0) (seat : PlainSeat) (fault : WireFault) (defined : Result Call WireFault) → Reads defined (Err fault) → Replies R seat defined (unread fault) seat
serves_fault R seat NotJson defined is = subst (λ d. Replies R seat d (unread NotJson) seat) (sym is) (inl (refl, refl))
serves_fault R seat BadRequest defined is = subst (λ d. Replies R seat d (unread BadRequest) seat) (sym is) (inl (refl, refl))
serves_fault R seat LineTooLong defined is = subst (λ d. Replies R seat d (unread LineTooLong) seat) (sym is) (inl (refl, refl))
serves_fault R seat in_line.OutOfMemory defined is = inr (is, refl, refl)

-- ---- forgetting

-- the hub forgot, or was refused memory for it, and the request is answered so
pub forgot : (r : Result ⊤ Fault) (answer : Answer) → ((old : PlainLocked) × (new : PlainLocked) × hub.Forgets old r new) → answer ≡ done_of r → Forgets answer
forgot (Ok u) answer h is =
    subst Forgets (sym is) (h.0, h.1, record { legal = h.2.legal; ok = h.2.ok; err = h.2.err; want = h.2.want })
forgot (Err fault) answer h is = subst Forgets (sym is) h

-- ---- drains

-- a lease that was refused for turns left none to go out
pub full_of : (old new : PlainLocked) (most : ℕ) (r : Result Leased Fault) → r ≡ Err TooManyLeases → Hands old most r new → WasFull most
full_of old new most r is h =
    let given = subst (λ (x : Result Leased Fault). Hands old most x new) is h in
    (old, new, record { legal = given.legal; refuses = given.leases })

-- these are a pool's workers, or they are not
is_pool : (workers : ℕ) → IsPool workers ⊎ (¬ IsPool workers)
is_pool workers = elim (cases_lt 0 workers) [
  | inr none ↦ inr (λ p. absurd (omega (arith, p.0, none)))
  | inl some ↦ elim (cases_lt MAX_WORKERS workers) [
    | inl many ↦ inr (λ p. absurd (omega (arith, p.1, many)))
    | inr few ↦ inl (omega (arith, some), few)
  ]
]

-- what is refused just where workers or rows are out of range, and these rows are in range
abbrev pub AreRefused : {T : Type 0} → ℕ → ℕ → Result T Fault → Type 0
AreRefused workers most r = IsErrOf r BadLimit ↔ (¬ ((1 ≤ workers) × (workers ≤ MAX_WORKERS) × IsTurnSize most))

in_range : {T : Type 0} (workers most : ℕ) (r : Result T Fault) → AreRefused workers most r → (IsErrOf r BadLimit → ⊥) → IsPool workers
in_range workers most r bad other = elim (is_pool workers) [
  | inl pool ↦ pool
  | inr none ↦ absurd (other (bad.1 (λ all. none (all.0, all.1))))
]

pub pool_drained : {T : Type 0} (workers most : ℕ) (r : Result T Fault) (answer : Answer) → IsTurnSize most → IfOk r (λ _. WasAtRest most) → AreRefused workers most r
    → IfErr r (λ f. f ≡ TooManyLeases → WasFull most) → IfErr r (λ f. (f ≡ BadLimit) ⊎ (f ≡ TooManyLeases) ⊎ (f ≡ OutOfMemory)) → answer ≡ done_of r → PoolDrains workers most answer
pool_drained workers most (Ok x) answer rows rest bad full short is = subst (PoolDrains workers most) (sym is) (in_range workers most (Ok x) bad (λ e. cc), rest)
pool_drained workers most (Err f) answer rows rest bad full (inl limit) is =
    subst (PoolDrains workers most) (sym (is ∙ ap refused limit)) (λ (pool : IsPool workers). bad.0 (ap Err limit) (pool.0, pool.1, rows))
pool_drained workers most (Err f) answer rows rest bad full (inr (inl turns)) is =
    subst (PoolDrains workers most) (sym (is ∙ ap refused turns)) (in_range workers most (Err f) bad (λ e. cc), full turns)
pool_drained workers most (Err f) answer rows rest bad full (inr (inr memory)) is =
    subst (PoolDrains workers most) (sym (is ∙ ap refused memory)) (in_range workers most (Err f) bad (λ e. cc))

-- a moment at which nothing was ready
pub idle_moment : (most : ℕ) (r : Result Bool Fault) → r ≡ Ok false → (r ≡ Ok false → (l : PlainLocked) × Hands l most (Ok Idle) l) → WasIdle most
idle_moment most r is idle = let h = idle is in (h.0, h.0, h.1)

-- ---- the seat

keeps_itself : (seat : PlainSeat) → Keeps seat seat
keeps_itself seat = ([], ap (λ l. record seat { receipts = l }) (sym (append_none seat.receipts)))
  where
    append_none : (l : List Told) → l ++ [] ≡ l
    append_none [] = refl
    append_none (x ∷ xs) = ap (λ l. x ∷ l) (append_none xs)

keeps_same : (seat seat' : PlainSeat) → seat' ≡ seat → Keeps seat seat'
keeps_same seat seat' e = subst (Keeps seat) (sym e) (keeps_itself seat)

keeps_carried : (seat : PlainSeat) (command : Command) (answer : Answer) (seat' : PlainSeat) → Carries seat command answer seat' → Keeps seat seat'
keeps_carried seat command answer seat' (inl a) = (a.0 ∷ [], a.2.2.told)
keeps_carried seat command answer seat' (inr r) = keeps_same seat seat' r.2.2.kept

kept_by_name : (number_of : Machine → List ℕ → Option ℕ) (name : List ℕ) (unknown : Fault) (command : ℕ → Command) (old : PlainLocked) (seat : PlainSeat) (f : Fault) (new : PlainLocked) (seat' : PlainSeat)
    → hub.DeclinedNamed number_of name unknown command old seat f new seat' → seat' ≡ seat
kept_by_name number_of name unknown command old seat f new seat' (inl d) = d.2.kept
kept_by_name number_of name unknown command old seat f new seat' (inr d) = d.4

keeps_named : (number_of : Machine → List ℕ → Option ℕ) (name : List ℕ) (unknown : Fault) (command : ℕ → Command) (seat : PlainSeat) (answer : Answer) (seat' : PlainSeat)
    → CarriesNamed number_of name unknown command seat answer seat' → Keeps seat seat'
keeps_named number_of name unknown command seat answer seat' (inl a) = (a.0 ∷ [], a.2.2.2.told)
keeps_named number_of name unknown command seat answer seat' (inr r) =
    keeps_same seat seat' (kept_by_name number_of name unknown command r.2.0 seat r.0 r.2.1 seat' r.2.2)

keeps_dropped : (name : List ℕ) (seat : PlainSeat) (answer : Answer) (seat' : PlainSeat) → DropsNamed name seat answer seat' → Keeps seat seat'
keeps_dropped name seat answer seat' (inl c) = keeps_carried seat (Drop c.0) answer seat' c.2
keeps_dropped name seat answer seat' (inr u) = keeps_same seat seat' u.2

keeps_served : (R : Answer → Type 0) (seat : PlainSeat) (call : Call) (answer : Answer) (seat' : PlainSeat) → Serves R seat call answer seat' → Keeps seat seat'
keeps_served R seat (declare name columns start) answer seat' s = keeps_carried seat _ answer seat' s
keeps_served R seat (register name text chart) answer seat' s = keeps_carried seat _ answer seat' s
keeps_served R seat (append stream more) answer seat' s = keeps_named stream_named stream _ _ seat answer seat' s
keeps_served R seat (heartbeat stream at) answer seat' s = keeps_named stream_named stream _ _ seat answer seat' s
keeps_served R seat drain answer seat' s = keeps_same seat seat' s.1
keeps_served R seat (take_rows query limit) answer seat' s = keeps_named query_named query _ _ seat answer seat' s
keeps_served R seat forget answer seat' s = keeps_same seat seat' s.1
keeps_served R seat (drop_query query) answer seat' s = keeps_dropped query seat answer seat' s
keeps_served R seat (look asked) answer seat' s = keeps_same seat seat' s.1

keeps_replied : (R : Answer → Type 0) (seat : PlainSeat) (request : Result Call WireFault) (answer : Answer) (seat' : PlainSeat) → Replies R seat request answer seat' → Keeps seat seat'
keeps_replied R seat (Ok call) answer seat' (inl s) = keeps_served R seat call answer seat' s
keeps_replied R seat (Err fault) answer seat' (inl s) = keeps_same seat seat' s.1
keeps_replied R seat request answer seat' (inr l) = keeps_same seat seat' l.2

keeps_both : (a b c : PlainSeat) → Keeps a b → Keeps b c → Keeps a c
keeps_both a b c k l = (
  k.0 ++ l.0,
  l.1 ∙ ap (λ (s : PlainSeat). record s { receipts = s.receipts ++ l.0 }) k.1 ∙ ap (λ m. record a { receipts = m }) (append_assoc a.receipts k.0 l.0),
)

-- a request of this kind was served as its call was
pub serves_as : (R : Answer → Type 0) (seat seat' : PlainSeat) (request kind : Request) (answer : Answer) → request ≡ kind → Serves R seat (call_of kind) answer seat' → Serves R seat (call_of request) answer seat'
serves_as R seat seat' request kind answer is s = subst (λ r. Serves R seat (call_of r) answer seat') (sym is) s

-- ---- whether the hub forgot

-- a request that was read forgets as its call does
pub forgets_as : (request : Request) (answer : Answer) (asks does told : Bool) (defined : Result Call WireFault)
    → asks ≡ asks_forget (Ok (call_of request)) → does ≡ is_done answer → told ≡ (asks && does) → defined ≡ Ok (call_of request) → told ≡ forgets defined answer
forgets_as request answer asks does told defined is so tells read =
    tells ∙ ap (λ b. b && does) is ∙ ap (λ b. asks_forget (Ok (call_of request)) && b) so ∙ sym (ap (λ d. forgets d answer) read)

-- for a line that is no request no hub forgets
pub forgets_none : (fault : WireFault) (defined : Result Call WireFault) → false ≡ forgets defined (unread fault)
forgets_none fault defined = sym (and_none (asks_forget defined))
  where
    and_none : (b : Bool) → (b && false) ≡ false
    and_none true = refl
    and_none false = refl

-- ---- all requests

keeps_runs : (R : Answer → Type 0) (first last : PlainSeat) (requests : List (Result Call WireFault)) (written : List ℕ) (forgot : Bool) → Runs R first requests written forgot last → Keeps first last
keeps_runs R first last [] written forgot runs = keeps_same first last runs.2
keeps_runs R first last (request ∷ more) written forgot runs =
    keeps_both first runs.1 last (keeps_replied R first request runs.0 runs.1 runs.6) (keeps_runs R runs.1 last more runs.2 runs.3 runs.7)

-- requests that lead from a seat to another keep what it held
pub keeps_led : (R : Answer → Type 0) (first last : PlainSeat) → Leads (Replies R) forgets first last → Keeps first last
keeps_led R first last led = keeps_runs R first last led.0 led.1 led.2 led.3

-- ---- a seat that settles

-- a seat that agrees settles, and one that differs does not: its number stays
number_settled : (result : Bool) (old new : PlainLocked) (seat seat' : PlainSeat) → hub.Settles old seat result new seat' → seat'.number ≡ seat.number
number_settled true old new seat seat' s = ap (λ (x : PlainSeat). x.number) (s.settled refl).emptied
number_settled false old new seat seat' s = ap (λ (x : PlainSeat). x.number) (s.differed refl).kept

number_may_settle : (seat seat' : PlainSeat) → MaySettle seat seat' → seat'.number ≡ seat.number
number_may_settle seat seat' (inl e) = ap (λ (x : PlainSeat). x.number) e
number_may_settle seat seat' (inr s) = number_settled s.2 s.0 s.1 seat seat' s.3

number_kept : (seat seat' : PlainSeat) → Keeps seat seat' → seat'.number ≡ seat.number
number_kept seat seat' k = ap (λ (x : PlainSeat). x.number) k.1

number_around : (R : Answer → Type 0) (seat : PlainSeat) (request : Result Call WireFault) (answer : Answer) (seat' : PlainSeat) → SettlesAround R seat request answer seat' → seat'.number ≡ seat.number
number_around R seat request answer seat' s =
    number_may_settle s.1 seat' s.4 ∙ number_kept s.0 s.1 (keeps_replied R s.0 request answer s.1 s.3) ∙ number_may_settle seat s.0 s.2

number_runs : (R : Answer → Type 0) (first last : PlainSeat) (requests : List (Result Call WireFault)) (written : List ℕ) (forgot : Bool) → RunsSettling R first requests written forgot last → last.number ≡ first.number
number_runs R first last [] written forgot runs = ap (λ (x : PlainSeat). x.number) runs.2
number_runs R first last (request ∷ more) written forgot runs =
    number_runs R runs.1 last more runs.2 runs.3 runs.7 ∙ number_around R first request runs.0 runs.1 runs.6

-- requests that lead from a seat to another keep its number
pub number_led : (R : Answer → Type 0) (first last : PlainSeat) → Leads (SettlesAround R) forgets first last → last.number ≡ first.number
number_led R first last led = number_runs R first last led.0 led.1 led.2 led.3

-- answered by a seat that settled before it, or after it
pub around : (R : Answer → Type 0) (seat first last seat' : PlainSeat) (request : Result Call WireFault) (answer : Answer)
    → MaySettle seat first → Replies R first request answer last → MaySettle last seat' → SettlesAround R seat request answer seat'
around R seat first last seat' request answer before replied after = (first, last, before, replied, after)
