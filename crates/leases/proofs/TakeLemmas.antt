-- A take of the first answers that wait: what it makes of the lists that an engine keeps.
use Rattle.std.proofs.Common.{◌≡◌, ◌<◌, ◌≤◌, ◌+◌, ◌^◌, ℕ, zero, suc, ℤ, pos, negsuc, Bool, true, false, cond, Option, Some, None, option_and_then, Result, Ok, Err, List, [], ◌∷◌, drop, get_or, length, map, min, set, slice_get, take, refl, sym, ap, ◌∙◌, subst, arith, of_z, w64}
use Rattle.std.proofs.lemmas.List.{length-map, length-take}
use Rattle.std.proofs.lemmas.Option.{slice_get_within}
use Rattle.std.proofs.Math.Seq.{map-set_same}
use Rattle.laws_engine.proofs.BoundLemmas.{taken_room, waiting_signed}
use Rattle.laws_engine.proofs.InstantLemmas.{few_closed_stand}
use Rattle.laws_engine.specs.Bounds.{HaveFewClosed}
use Rattle.arrayvec.specs.ArrayVec.{ArrayVec}
use Rattle.values.specs.Row.{Row}
use Rattle.names.specs.Faults.{first_of}
use Rattle.operators.specs.Ready.{PlainOperator}
use Rattle.reference.proofs.StepLemmas.{get_or-map, set-change}
use Rattle.reference.specs.CallViews.{handed_of}
use Rattle.reference.specs.Commands.{Take, change, first_fault, of_query, take_tests, took}
use Rattle.reference.specs.Inputs.{are_signed}
use Rattle.reference.specs.Machine as machine
use Rattle.reference.specs.Machine.{Registered, unless_dropped}
use Rattle.leases.specs.Undropped.{undropped_of}
use Rattle.leases.proofs.LimitLemmas.{undropped_again}
use Rattle.reference.specs.World.{handed}
use Rattle.reference.specs.declared.fault.Fault.{Fault}
use Rattle.reference.specs.declared.fault.Fault.TheVariants as fault
use Rattle.reference.specs.declared.fault.Fault.TheVariants.{Query, BadName, NameTaken, BadColumns, TooMany, UnknownStream, UnknownQuery, BadWidth, ValueRange, InstantRange, Late, Backward, Leap, StreamFull, BadLimit, UnknownLease, Stranger, TooManyLeases, HistoryFull, OutOfMemory, Foreign}
use Rattle.laws_queries.specs.Registrations.{HaveColumnNames}
use Rattle.laws_queries.specs.Plain.{PlainQuery, operator_at}
use Rattle.laws_engine.specs.Calls.{IsTake, remains_after, taken}
use Rattle.laws_engine.specs.Engines.{Broken, Dropped, IsExhausted, PlainEngine, PlainRemains}
use Rattle.laws_engine.specs.Engines.{Running, answers_in, query_at, remains_at}
use Rattle.laws_engine.specs.Good.{GoodEngine, IsIn}
use Rattle.laws_engine.proofs.TakeLemmas.{take_good}
use Rattle.leases.specs.Readers.{readers_from, readers_of, runs}
use Rattle.leases.proofs.ListedLemmas.{readers_changed}
use Rattle.leases.specs.Shown.{engine_in}
use Rattle.leases.specs.Sound.{IsSound, is_gone}
use Rattle.leases.specs.Takes.{HandsOut, Peeks, ShowsFirst, Takes, count_in, count_of}
use Rattle.leases.specs.Views.{HasKind, query_of, remains_of}
use Rattle.turn.specs.declared.turns.Turn.{Turn}
use Rattle.leases.specs.declared.remains.Remains.{Remains}
use Rattle.leases.specs.declared.limits.TheConstants.{LEASE_NUMBERS, MAX_LEASES}
use Rattle.leases.specs.declared.registered.Registration.{Registration}
use Rattle.leases.specs.declared.state.EngineState.{EngineState}

-- THE LIMIT of a take that is accepted is no negative number
take_refused : (tests : List (Bool × Fault)) (o : Option Registered) → of_query tests o ≡ None → first_of tests ≡ None
take_refused tests None h = absurd (cc)
take_refused tests (Some q) h = h

limit_tested : (limit : ℤ) → first_of (take_tests limit) ≡ None → limit ≡ pos (of_z w64 limit)
limit_tested (pos n) h = refl
limit_tested (negsuc n) h = absurd (cc)

pub limit_is : (e : PlainEngine) (n : ℕ) (limit : ℤ) → None ≡ first_fault e.machine (Take n limit) → limit ≡ pos (of_z w64 limit)
limit_is e n limit h = limit_tested limit (take_refused (take_tests limit) (machine.query_at e.machine n) (sym h))

-- THE QUERY of an accepted take is there
there : (tests : List (Bool × Fault)) (qs : List Registered) (n : ℕ) → of_query tests (option_and_then unless_dropped (slice_get qs n)) ≡ None → (q : Registered) × ((slice_get qs n ≡ Some q) × (q.is_dropped ≡ false))
there tests [] n h = absurd (cc)
there tests (q ∷ qs) zero h = here q.is_dropped refl h
  where
    here : (b : Bool) → q.is_dropped ≡ b → of_query tests (cond b None (Some q)) ≡ None → (r : Registered) × ((Some q ≡ Some r) × (r.is_dropped ≡ false))
    here true e none = absurd (cc)
    here false e none = (q, (refl, e))
there tests (q ∷ qs) (suc n) h = there tests qs n h

pub query_there : (e : PlainEngine) (n : ℕ) (limit : ℤ) → first_fault e.machine (Take n limit) ≡ None → (q : Registered) × ((query_at e n ≡ Some q) × (q.is_dropped ≡ false))
query_there e n limit h = there (take_tests limit) e.machine.queries n h

pub registered_within : (s : EngineState) (n : ℕ) (limit : ℤ) → first_fault (engine_in s).machine (Take n limit) ≡ None → n < length s.registered.items
registered_within s n limit h =
    let q = query_there (engine_in s) n limit h in
    let within : n < length (map query_of s.registered.items) = slice_get_within (engine_in s).machine.queries n q.0 q.1.0 in
    subst (λ z. n < z) (length-map s.registered.items query_of) within

pub remains_within : (s : EngineState) (n : ℕ) (limit : ℤ) → IsSound s → first_fault (engine_in s).machine (Take n limit) ≡ None → n < length s.remains.items
remains_within s n limit sound h =
    let a : n < length s.registered.items = registered_within s n limit h in
    let b : length (map remains_of s.remains.items) ≡ length (map query_of s.registered.items) = sound.good.many in
    omega (arith, a, b, length-map s.remains.items remains_of, length-map s.registered.items query_of)

-- what is left of it
pub remains_is : (s : EngineState) (n : ℕ) (x : Remains) → n < length s.remains.items → x ≡ get_or s.remains.items n x → remains_at (engine_in s) n ≡ remains_of x
remains_is s n x within is = get_or-map remains_of s.remains.items n x Dropped within ∙ ap remains_of (sym is)

pub signed_at : (s : EngineState) (n : ℕ) (limit : ℤ) (x : Remains) → IsSound s → first_fault (engine_in s).machine (Take n limit) ≡ None → x ≡ get_or s.remains.items n x → are_signed (answers_in (remains_of x)) ≡ true
signed_at s n limit x sound h is =
    let q = query_there (engine_in s) n limit h in
    subst (λ k. are_signed (answers_in k) ≡ true) (remains_is s n x (remains_within s n limit sound h) is) (waiting_signed (engine_in s) n q.0 sound.good sound.closed q.1.0)

-- HOW MANY were taken
slice_at : {X : Type 0} (xs : List X) (n : ℕ) (x d : X) → slice_get xs n ≡ Some x → get_or xs n d ≡ x
slice_at [] n x d h = absurd (cc)
slice_at (y ∷ xs) zero x d h = cc
slice_at (y ∷ xs) (suc n) x d h = slice_at xs n x d h

pub taken_at : (s : EngineState) (n : ℕ) (q : Registered) (r : Registration) → n < length s.registered.items → query_at (engine_in s) n ≡ Some q → r ≡ get_or s.registered.items n r → q ≡ query_of r
taken_at s n q r within at is =
    sym (slice_at (map query_of s.registered.items) n q (query_of r) at) ∙ get_or-map query_of s.registered.items n r (query_of r) within ∙ ap query_of (sym is)

pub room_at : (s : EngineState) (n : ℕ) (limit : ℤ) (x : Remains) (r : Registration) (count : ℕ) → IsSound s → first_fault (engine_in s).machine (Take n limit) ≡ None → x ≡ get_or s.remains.items n x → r ≡ get_or s.registered.items n r
    → count ≤ length (answers_in (remains_of x)) → r.taken + count < 2 ^ 101
room_at s n limit x r count sound h is_remains is_registered few =
    let q = query_there (engine_in s) n limit h in
    let room = taken_room (engine_in s) n q.0 sound.good sound.closed q.1.0 q.1.1 in
    let same : q.0.taken ≡ r.taken = ap (λ z. z.taken) (taken_at s n q.0 r (registered_within s n limit h) q.1.0 is_registered) in
    let waits : length (answers_in (remains_at (engine_in s) n)) ≡ length (answers_in (remains_of x)) = ap (λ k. length (answers_in k)) (remains_is s n x (remains_within s n limit sound h) is_remains) in
    omega (arith, room, same, waits, few)

-- as many rows as were handed out
handed_many : (rows : List (ℤ × ArrayVec (Option ℤ))) (waits : List (ℕ × Row)) (count : ℕ) → handed_of rows ≡ handed (take count waits) → count ≤ length waits → length rows ≡ count
handed_many rows waits count h few =
    let a : length (handed_of rows) ≡ length (handed (take count waits)) = ap length h in
    let b : length (handed_of rows) ≡ length rows = length-map rows _ in
    let c : length (handed (take count waits)) ≡ length (take count waits) = length-map (take count waits) _ in
    omega (arith, a, b, c, length-take count waits)

pub flat_many : (rows : List (ℤ × Row)) (k : PlainRemains) (limit : ℕ) → rows ≡ handed (take (count_in k limit) (answers_in k)) → length rows ≡ count_in k limit
flat_many rows k limit h =
    let a : length rows ≡ length (handed (take (count_in k limit) (answers_in k))) = ap length h in
    let c : length (handed (take (count_in k limit) (answers_in k))) ≡ length (take (count_in k limit) (answers_in k)) = length-map (take (count_in k limit) (answers_in k)) _ in
    omega (arith, a, c, length-take (count_in k limit) (answers_in k))

pub rows_many : (rows : List (ℤ × ArrayVec (Option ℤ))) (k : PlainRemains) (limit : ℕ) → handed_of rows ≡ handed (take (count_in k limit) (answers_in k)) → length rows ≡ count_in k limit
rows_many rows k limit h = handed_many rows (answers_in k) (count_in k limit) h (omega arith)

pub few_handed : (k : PlainRemains) (limit : ℕ) → count_in k limit ≤ length (answers_in k)
few_handed k limit = omega arith

-- THE ENGINE after a take that is refused is as it was
abbrev with_remains : PlainEngine → List PlainRemains → PlainEngine
with_remains e ks = record e { queries = ks }

pub stays : (s : EngineState) (e2 : PlainEngine) (n : ℕ) (x y : Remains) → n < length s.remains.items → x ≡ get_or s.remains.items n x → remains_of y ≡ remains_of x → e2 ≡ with_remains (engine_in s) (map remains_of (set s.remains.items n y)) → e2 ≡ engine_in s
stays s e2 n x y within is same made = made ∙ ap (with_remains (engine_in s)) (map-set_same remains_of s.remains.items n y x (same ∙ ap remains_of is))

-- after one that hands out answers it is what the take makes of it
abbrev with_both : PlainEngine → List Registered → List PlainRemains → PlainEngine
with_both e qs ks = record e { machine = record { streams = e.machine.streams; queries = qs }; queries = ks }

pub is_taken : (s : EngineState) (e2 : PlainEngine) (n : ℕ) (limit : ℤ) (x y : Remains) (r r2 : Registration) (count : ℕ) → n < length s.remains.items → n < length s.registered.items → x ≡ get_or s.remains.items n x → r ≡ get_or s.registered.items n r
    → remains_of y ≡ remains_after count (remains_of x) → query_of r2 ≡ took count (query_of r) → e2 ≡ with_both (engine_in s) (map query_of (set s.registered.items n r2)) (map remains_of (set s.remains.items n y))
    → e2 ≡ taken (engine_in s) n limit count
is_taken s e2 n limit x y r r2 count here there is_remains is_registered keeps takes made =
    made
    ∙ ap (λ qs. with_both (engine_in s) qs (map remains_of (set s.remains.items n y))) (set-change query_of (took count) s.registered.items n r2 r there (takes ∙ ap (λ z. took count (query_of z)) is_registered))
    ∙ ap (with_both (engine_in s) (change n (took count) (map query_of s.registered.items))) (set-change remains_of (remains_after count) s.remains.items n y x here (keeps ∙ ap (λ z. remains_after count (remains_of z)) is_remains))

-- WHAT IT KNOWS OF ITSELF after a take
pub sound_again : (s s2 : EngineState) → IsSound s → engine_in s2 ≡ engine_in s → s2.leases.items ≡ s.leases.items → s2.next ≡ s.next → s2.undropped ≡ s.undropped → s2.readers ≡ s.readers → IsSound s2
sound_again s s2 h same leases next undropped readers = record {
  good = subst GoodEngine (sym same) h.good;
  kinds = λ g i. subst (λ e. HasKind e g) (sym same) (h.kinds g (subst (λ ls. IsIn ls g) leases i));
  few = subst (λ ls. length ls ≤ MAX_LEASES) (sym leases) h.few;
  numbers = subst (λ n. n ≤ LEASE_NUMBERS) (sym next) h.numbers;
  named = undropped ∙ h.named ∙ ap (λ e. undropped_of e.machine.queries) (sym same);
  gone = subst (λ e. map (λ q. q.is_dropped) e.machine.queries ≡ map is_gone e.queries) (sym same) h.gone;
  columns = subst (λ e. HaveColumnNames e.machine) (sym same) h.columns;
  closed = subst (λ e. HaveFewClosed e.machine) (sym same) h.closed;
  readers = readers ∙ h.readers ∙ ap readers_of (sym same);
}

took_by : {X : Type 0} (f : Registered → X) (count n : ℕ) (qs : List Registered) → ((q : Registered) → f (took count q) ≡ f q) → map f (change n (took count) qs) ≡ map f qs
took_by f count n [] h = refl
took_by f count zero (q ∷ qs) h = ap (λ z. z ∷ map f qs) (h q)
took_by f count (suc n) (q ∷ qs) h = ap (λ zs. f q ∷ zs) (took_by f count n qs h)

gone_after : (count : ℕ) (k : PlainRemains) → is_gone (remains_after count k) ≡ is_gone k
gone_after count (Running p) = refl
gone_after count (Broken answers upto) = refl
gone_after count Dropped = refl

gone_taken : (count n : ℕ) (ks : List PlainRemains) → map is_gone (change n (remains_after count) ks) ≡ map is_gone ks
gone_taken count n [] = refl
gone_taken count zero (k ∷ ks) = ap (λ z. z ∷ map is_gone ks) (gone_after count k)
gone_taken count (suc n) (k ∷ ks) = ap (λ zs. is_gone k ∷ zs) (gone_taken count n ks)

-- it runs as before
runs_after : (count : ℕ) (k : PlainRemains) → runs (remains_after count k) ≡ runs k
runs_after count (Running p) = refl
runs_after count (Broken answers upto) = refl
runs_after count Dropped = refl

runs_taken : (count n : ℕ) (ks : List PlainRemains) → map runs (change n (remains_after count) ks) ≡ map runs ks
runs_taken count n [] = refl
runs_taken count zero (k ∷ ks) = ap (λ z. z ∷ map runs ks) (runs_after count k)
runs_taken count (suc n) (k ∷ ks) = ap (λ zs. runs k ∷ zs) (runs_taken count n ks)

-- a query that runs ran before, with the same operators
record Ran (k : PlainRemains) (p : PlainQuery) : Type 0 where
  before : PlainQuery
  ran : k ≡ Running before
  operators : p.operators ≡ before.operators

ran_after : (count : ℕ) (k : PlainRemains) (p : PlainQuery) → remains_after count k ≡ Running p → Ran k p
ran_after count (Running before) p h = record { before = before; ran = refl; operators = let e : record before { answers = drop count before.answers } ≡ p = running_same h in ap (λ z. z.operators) (sym e) }
  where
    running_same : {a b : PlainQuery} → Running a ≡ Running b → a ≡ b
    running_same e = cc
ran_after count (Broken answers upto) p h = absurd (cc)
ran_after count Dropped p h = absurd (cc)

ran_at : (count n j : ℕ) (ks : List PlainRemains) (p : PlainQuery) → get_or (change n (remains_after count) ks) j Dropped ≡ Running p → Ran (get_or ks j Dropped) p
ran_at count n j [] p h = record { before = p; ran = h; operators = refl }
ran_at count zero zero (k ∷ ks) p h = ran_after count k p h
ran_at count zero (suc j) (k ∷ ks) p h = record { before = p; ran = h; operators = refl }
ran_at count (suc n) zero (k ∷ ks) p h = record { before = p; ran = h; operators = refl }
ran_at count (suc n) (suc j) (k ∷ ks) p h = ran_at count n j ks p h

kind_taken : (e : PlainEngine) (n : ℕ) (limit : ℤ) (count : ℕ) (g : Turn) → HasKind e g → HasKind (taken e n limit count) g
kind_taken e n limit count g h p running =
    let r = ran_at count n g.node.query e.queries p running in
    subst (λ os. g.node.kind ≡ (get_operator os g.node.operator).kind) (sym r.operators) (h r.before r.ran)
  where
    get_operator : List PlainOperator → ℕ → PlainOperator
    get_operator os k = operator_at os k

pub sound_taken : (s s2 : EngineState) (n : ℕ) (limit : ℤ) (count : ℕ) → IsSound s → IsTake (engine_in s) n limit count → engine_in s2 ≡ taken (engine_in s) n limit count → s2.leases.items ≡ s.leases.items → s2.next ≡ s.next → s2.undropped ≡ s.undropped
    → s2.readers ≡ s.readers → IsSound s2
sound_taken s s2 n limit count h t is leases next undropped readers = record {
  good = subst GoodEngine (sym is) (take_good (engine_in s) n limit count h.good t);
  kinds = λ g i. subst (λ e. HasKind e g) (sym is) (kind_taken (engine_in s) n limit count g (h.kinds g (subst (λ ls. IsIn ls g) leases i)));
  few = subst (λ ls. length ls ≤ MAX_LEASES) (sym leases) h.few;
  numbers = subst (λ k. k ≤ LEASE_NUMBERS) (sym next) h.numbers;
  named = undropped ∙ h.named ∙ sym (ap (λ e. undropped_of e.machine.queries) is ∙ undropped_again (took count) n (engine_in s).machine.queries (λ q. refl) (λ q k. refl));
  gone = ap (λ e. map (λ q. q.is_dropped) e.machine.queries) is ∙ took_by (λ q. q.is_dropped) count n (engine_in s).machine.queries (λ q. refl) ∙ h.gone ∙ sym (ap (λ e. map is_gone e.queries) is ∙ gone_taken count n (engine_in s).queries);
  columns = subst (λ e. HaveColumnNames e.machine) (sym is) h.columns;
  closed = subst (λ e. HaveFewClosed e.machine) (sym is) (few_closed_stand.goes_on (engine_in s).machine (Take n limit) count t.accepted h.closed);
  readers =
      readers ∙ h.readers
      ∙ sym (ap readers_of is ∙ readers_changed (took count) (λ q j. refl) (λ q. refl) 0 n (engine_in s).machine.queries (map runs (change n (remains_after count) (engine_in s).queries))
      ∙ ap (readers_from 0 (engine_in s).machine.queries) (runs_taken count n (engine_in s).queries));
}

-- A TAKE THAT IS REFUSED
module _ {A : Type 0} (view : A → List (ℤ × Row)) (old new : PlainEngine) (n limit : ℕ) (x y : PlainRemains) (none : first_fault old.machine (Take n (pos limit)) ≡ None) (at : remains_at old n ≡ x) where
  refused_so : (f : Fault) → HandsOut view x limit (Err f) y → (y ≡ x → new ≡ old) → Takes view old n (pos limit) (Err f) new
  refused_so OutOfMemory h same = (none, same h.0, λ gone. h.1 (subst IsExhausted at gone))
  refused_so fault.Broken h same = (none, subst IsExhausted (sym at) h.0, same h.1)
  refused_so (Query z) h same = absurd h
  refused_so BadName h same = absurd h
  refused_so NameTaken h same = absurd h
  refused_so BadColumns h same = absurd h
  refused_so TooMany h same = absurd h
  refused_so UnknownStream h same = absurd h
  refused_so UnknownQuery h same = absurd h
  refused_so BadWidth h same = absurd h
  refused_so ValueRange h same = absurd h
  refused_so InstantRange h same = absurd h
  refused_so Late h same = absurd h
  refused_so Backward h same = absurd h
  refused_so Leap h same = absurd h
  refused_so StreamFull h same = absurd h
  refused_so BadLimit h same = absurd h
  refused_so UnknownLease h same = absurd h
  refused_so Stranger h same = absurd h
  refused_so HistoryFull h same = absurd h
  refused_so (Foreign entries) h same = absurd h
  refused_so TooManyLeases h same = absurd h

remains_by : {A : Type 0} (view : A → List (ℤ × Row)) (x y : PlainRemains) (limit : ℕ) (f : Fault) → HandsOut view x limit (Err f) y → y ≡ x
remains_by view x y limit OutOfMemory h = h.0
remains_by view x y limit fault.Broken h = h.1
remains_by view x y limit (Query z) h = absurd h
remains_by view x y limit BadName h = absurd h
remains_by view x y limit NameTaken h = absurd h
remains_by view x y limit BadColumns h = absurd h
remains_by view x y limit TooMany h = absurd h
remains_by view x y limit UnknownStream h = absurd h
remains_by view x y limit UnknownQuery h = absurd h
remains_by view x y limit BadWidth h = absurd h
remains_by view x y limit ValueRange h = absurd h
remains_by view x y limit InstantRange h = absurd h
remains_by view x y limit Late h = absurd h
remains_by view x y limit Backward h = absurd h
remains_by view x y limit Leap h = absurd h
remains_by view x y limit StreamFull h = absurd h
remains_by view x y limit BadLimit h = absurd h
remains_by view x y limit UnknownLease h = absurd h
remains_by view x y limit Stranger h = absurd h
remains_by view x y limit HistoryFull h = absurd h
remains_by view x y limit (Foreign entries) h = absurd h
remains_by view x y limit TooManyLeases h = absurd h

pub refused_same : {A : Type 0} (view : A → List (ℤ × Row)) (s : EngineState) (e2 : PlainEngine) (n limit : ℕ) (x y : Remains) (f : Fault) → IsSound s → first_fault (engine_in s).machine (Take n (pos limit)) ≡ None → x ≡ get_or s.remains.items n x
    → HandsOut view (remains_of x) limit (Err f) (remains_of y) → e2 ≡ with_remains (engine_in s) (map remains_of (set s.remains.items n y)) → e2 ≡ engine_in s
refused_same view s e2 n limit x y f sound none is h made = stays s e2 n x y (remains_within s n (pos limit) sound none) is (remains_by view (remains_of x) (remains_of y) limit f h) made

pub refused_takes : {A : Type 0} (view : A → List (ℤ × Row)) (s : EngineState) (e2 : PlainEngine) (n limit : ℕ) (x y : Remains) (f : Fault) (r : Result A Fault) → r ≡ Err f → IsSound s → first_fault (engine_in s).machine (Take n (pos limit)) ≡ None
    → x ≡ get_or s.remains.items n x → HandsOut view (remains_of x) limit (Err f) (remains_of y) → e2 ≡ with_remains (engine_in s) (map remains_of (set s.remains.items n y)) → Takes view (engine_in s) n (pos limit) r e2
refused_takes view s e2 n limit x y f r err sound none is h made =
    subst (λ z. Takes view (engine_in s) n (pos limit) z e2) (sym err)
    (refused_so view (engine_in s) e2 n limit (remains_of x) (remains_of y) none (remains_is s n x (remains_within s n (pos limit) sound none) is) f h
    (λ same. stays s e2 n x y (remains_within s n (pos limit) sound none) is same made))

-- A TAKE THAT HANDS OUT ROWS
pub handed_takes : {A : Type 0} (view : A → List (ℤ × Row)) (s : EngineState) (e2 : PlainEngine) (n limit : ℕ) (x y : Remains) (r r2 : Registration) (rows : A) → IsSound s → first_fault (engine_in s).machine (Take n (pos limit)) ≡ None
    → x ≡ get_or s.remains.items n x → r ≡ get_or s.registered.items n r → HandsOut view (remains_of x) limit (Ok rows) (remains_of y) → query_of r2 ≡ took (count_in (remains_of x) limit) (query_of r)
    → e2 ≡ with_both (engine_in s) (map query_of (set s.registered.items n r2)) (map remains_of (set s.remains.items n y)) → Takes view (engine_in s) n (pos limit) (Ok rows) e2
handed_takes view s e2 n limit x y r r2 rows sound none is_remains is_registered h takes made =
    let within : n < length s.remains.items = remains_within s n (pos limit) sound none in
    let at : remains_at (engine_in s) n ≡ remains_of x = remains_is s n x within is_remains in
    let count : count_in (remains_of x) limit ≡ count_of (engine_in s) n (pos limit) = ap (λ k. min limit (length (answers_in k))) (sym at) in (
      none,
      h.0 ∙ ap (λ c. handed (take c (answers_in (remains_of x)))) count ∙ ap (λ k. handed (take (count_of (engine_in s) n (pos limit)) (answers_in k))) (sym at),
      is_taken s e2 n (pos limit) x y r r2 (count_in (remains_of x) limit) within (registered_within s n (pos limit) none) is_remains is_registered h.1 takes made ∙ ap (taken (engine_in s) n (pos limit)) count,
      (λ b. h.2 (subst IsExhausted at b)),
    )

-- A PEEK
shown_at : {A : Type 0} (view : A → List (ℤ × Row)) (e : PlainEngine) (n limit : ℕ) (k : PlainRemains) (r : Result A Fault) → first_fault e.machine (Take n (pos limit)) ≡ None → remains_at e n ≡ k → ShowsFirst view k limit r → Peeks view e n (pos limit) r
shown_at view e n limit k (Ok rows) none at h =
    let count : count_in k limit ≡ count_of e n (pos limit) = ap (λ x. min limit (length (answers_in x))) (sym at) in (
      none,
      h.0 ∙ ap (λ c. handed (take c (answers_in k))) count ∙ ap (λ x. handed (take (count_of e n (pos limit)) (answers_in x))) (sym at),
      refl,
      (λ b. h.2 (subst IsExhausted at b)),
    )
shown_at view e n limit k (Err f) none at h = refused_so view e e n limit k k none at f h (λ same. refl)

pub shown_peeks : {A : Type 0} (view : A → List (ℤ × Row)) (s : EngineState) (n limit : ℕ) (x : Remains) (r : Result A Fault) → IsSound s → first_fault (engine_in s).machine (Take n (pos limit)) ≡ None → x ≡ get_or s.remains.items n x
    → ShowsFirst view (remains_of x) limit r → Peeks view (engine_in s) n (pos limit) r
shown_peeks view s n limit x r sound none is h = shown_at view (engine_in s) n limit (remains_of x) r none (remains_is s n x (remains_within s n (pos limit) sound none) is) h

-- WHAT A PEEK SHOWED is what is handed out
pub shown_hands : (s : EngineState) (n limit : ℕ) (x : Remains) (k : PlainRemains) (rows : List (ℤ × Row)) → IsSound s → Peeks (λ r. r) (engine_in s) n (pos limit) (Ok rows) → x ≡ get_or s.remains.items n x
    → k ≡ remains_after (count_in (remains_of x) limit) (remains_of x) → HandsOut (λ r. r) (remains_of x) limit (Ok rows) k
shown_hands s n limit x k rows sound peeks is_remains made =
    let at : remains_at (engine_in s) n ≡ remains_of x = remains_is s n x (remains_within s n (pos limit) sound peeks.0) is_remains in (
      subst (λ (r : PlainRemains). rows ≡ handed (take (min limit (length (answers_in r))) (answers_in r))) at peeks.1,
      made,
      subst (λ (r : PlainRemains). IsExhausted r → ⊥) at peeks.3,
    )
