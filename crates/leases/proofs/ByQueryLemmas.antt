-- A drain that takes query by query goes through turns of operators that might be leased, whatever their slopes.
use Rattle.std.proofs.Common.{◌≡◌, ◌≢◌, ◌<◌, ◌≤◌, ◌+◌, ◌++◌, ◌⊎◌, ⊎_elim, inl, inr, ℕ, zero, suc, not, true, false, Some, None, Result, Ok, Err, IfErr, OnOk, List, [], ◌∷◌, length, map, refl, sym, ap, ◌∙◌, subst, arith}
use Rattle.std.proofs.lemmas.Bool.Decides.{nat_tests}
use Rattle.std.specs.Prelude.{⊤, Bool, ◌||◌, ◌&&◌, is_some, nat_le}
use Rattle.std.specs.List.{AllByRecursion}
use Rattle.values.specs.Row.{Row}
use Rattle.reference.specs.World.{Drains, drain_fault, drain_step}
use Rattle.reference.specs.declared.fault.Fault.{Fault}
use Rattle.reference.specs.declared.fault.Fault.TheVariants as fault
use Rattle.reference.specs.declared.fault.Fault.TheVariants.{Query, BadName, NameTaken, BadColumns, TooMany, UnknownStream, UnknownQuery, BadWidth, ValueRange, InstantRange, Late, Backward, Leap, StreamFull, BadLimit, UnknownLease, Stranger, TooManyLeases, HistoryFull, OutOfMemory, Foreign}
use Rattle.run_queue.specs.Slots.{first_of}
use Rattle.run_queue.specs.Slots as slots
use Rattle.names.specs.Faults as faults
use Rattle.reference.specs.declared.limits.TheConstants.{MAX_TURN}
use Rattle.turn.specs.declared.turns.Turn.{Turn}
use Rattle.laws_engine.specs.Engines.{Broken, Dropped, Lease, PlainEngine, PlainRemains, Running}
use Rattle.laws_engine.specs.Engines.{remains_at, world_of}
use Rattle.laws_engine.specs.Good.{GoodEngine}
use Rattle.laws_engine.specs.Histories.{Finishes}
use Rattle.laws_engine.specs.Orders.{SameKind, SameKinds}
use Rattle.laws_engine.proofs.HistoryLemmas.{step_good}
use Rattle.laws_engine.proofs.LeaseLemmas.{leasable_ready, ready_good}
use Rattle.laws_engine.proofs.OrderLemmas.{finish_kinds, kind_on, kind_same, pass_kinds}
use Rattle.laws_engine.proofs.PassingLemmas.{pass_good}
use Rattle.leases.specs.ByQuery.{AnyStep, GoesAndComes, GoesOutOfAny, HasRunOut, HaveComeHome, HaveRunAny, IsAnyStep, LessAny, PassedAny, RanAny, RanShort, RanShortBelow, RunsByQuery, RunsOnce, SomeHaveRunAny, SomeWereDone, SomeWereLess, is_less, one_was_less}
use Rattle.leases.specs.Drains.{HaveRun, IsDone, LeavesOthers, OneHasRunLess, Passed, Ran, RanOutBelow, RanOutOfMemory, RunsTurns, Step, as_drained}
use Rattle.leases.specs.Sound.{is_gone}
use Rattle.leases.specs.Turns.{HasReady, IsFull, IsTurnOf, lease_fault}
use Rattle.leases.specs.Views.{lease_of}
use Rattle.leases.specs.Whole.{IsWholeEngine}
use Rattle.leases.specs.declared.limits.TheConstants.{LEASE_NUMBERS, MAX_LEASES}
use Rattle.leases.proofs.AloneLemmas.{or_neither}
use Rattle.leases.proofs.DrainLemmas.{comes_machine, comes_next, limit_is}
use Rattle.leases.proofs.NumberLemmas.{HasGivenMore}
use Rattle.leases.proofs.WorldLemmas.{all_reached, all_wait, drain_done, drain_refused, stops_early}

-- STEPS AND STEPS
any_on : (rows : ℕ) (e1 e2 e3 : PlainEngine) (steps later : List AnyStep) → HaveRunAny rows e1 steps e2 → HaveRunAny rows e2 later e3 → HaveRunAny rows e1 (steps ++ later) e3
any_on rows e1 e2 e3 [] later ran next = subst (λ e. HaveRunAny rows e later e3) ran next
any_on rows e1 e2 e3 (s ∷ steps) later ran next = (ran.0, (ran.1.0, any_on rows ran.0 e2 e3 steps later ran.1.1 next))

both_done : (steps later : List AnyStep) → AllByRecursion (λ s. is_less s ≡ false) steps → AllByRecursion (λ s. is_less s ≡ false) later → AllByRecursion (λ s. is_less s ≡ false) (steps ++ later)
both_done [] later a b = b
both_done (s ∷ steps) later a b = (a.0, both_done steps later a.1 b)

pub done_none : (rows : ℕ) (e e2 : PlainEngine) → e2 ≡ e → SomeWereDone rows e e2
done_none rows e e2 same = ([], (same, tt))

pub done_on : (rows : ℕ) (e1 e2 e3 : PlainEngine) → SomeWereDone rows e1 e2 → SomeWereDone rows e2 e3 → SomeWereDone rows e1 e3
done_on rows e1 e2 e3 one two = (one.0 ++ two.0, (any_on rows e1 e2 e3 one.0 two.0 one.1.0 two.1.0, both_done one.0 two.0 one.1.1 two.1.1))

-- one of them ran out of memory
or_right : (a b : Bool) → b ≡ true → (a || b) ≡ true
or_right true b h = refl
or_right false b h = h

or_later : (a b c : Bool) → (b ≡ true → c ≡ true) → (a || b) ≡ true → (a || c) ≡ true
or_later true b c f h = refl
or_later false b c f h = f h

less_behind : (steps later : List AnyStep) → one_was_less later ≡ true → one_was_less (steps ++ later) ≡ true
less_behind [] later h = h
less_behind (s ∷ steps) later h = or_right (is_less s) (one_was_less (steps ++ later)) (less_behind steps later h)

less_before : (steps later : List AnyStep) → one_was_less steps ≡ true → one_was_less (steps ++ later) ≡ true
less_before [] later h = absurd (let bad : false ≡ true = h in cc)
less_before (s ∷ steps) later h = or_later (is_less s) (one_was_less steps) (one_was_less (steps ++ later)) (less_before steps later) h

pub less_since : (rows : ℕ) (e1 e2 e3 : PlainEngine) → SomeWereDone rows e1 e2 → SomeWereLess rows e2 e3 → SomeWereLess rows e1 e3
less_since rows e1 e2 e3 one two = (one.0 ++ two.0, (any_on rows e1 e2 e3 one.0 two.0 one.1.0 two.1.0, less_behind one.0 two.0 two.1.1))

pub less_then : (rows : ℕ) (e1 e2 e3 : PlainEngine) → SomeWereLess rows e1 e2 → SomeWereDone rows e2 e3 → SomeWereLess rows e1 e3
less_then rows e1 e2 e3 one two = (one.0 ++ two.0, (any_on rows e1 e2 e3 one.0 two.0 one.1.0 two.1.0, less_before one.0 two.0 one.1.1))

pub less_twice : (rows : ℕ) (e1 e2 e3 : PlainEngine) → SomeWereLess rows e1 e2 → SomeWereLess rows e2 e3 → SomeWereLess rows e1 e3
less_twice rows e1 e2 e3 one two = (one.0 ++ two.0, (any_on rows e1 e2 e3 one.0 two.0 one.1.0 two.1.0, less_before one.0 two.0 one.1.1))

-- a query came home, by whether one did
none_less : (steps : List AnyStep) → one_was_less steps ≡ false → AllByRecursion (λ s. is_less s ≡ false) steps
none_less [] h = tt
none_less (s ∷ steps) h = let neither = or_neither (is_less s) (one_was_less steps) h in (neither.0, none_less steps neither.1)

pub came_home : (rows : ℕ) (all less : Bool) (e e2 : PlainEngine) (steps : List AnyStep) → HaveRunAny rows e steps e2 → one_was_less steps ≡ less → all ≡ not less → HaveComeHome rows all e e2
came_home rows true true e e2 steps run is home = absurd (let bad : true ≡ false = home in cc)
came_home rows true false e e2 steps run is home = (steps, (run, none_less steps is))
came_home rows false true e e2 steps run is home = (steps, (run, is))
came_home rows false false e e2 steps run is home = absurd (let bad : false ≡ true = home in cc)

runs_out_on : (rows : ℕ) (e1 e2 e3 : PlainEngine) → SomeWereDone rows e1 e2 → RanShort rows e2 e3 → RanShort rows e1 e3
runs_out_on rows e1 e2 e3 one h = ⊎_elim
    (λ less. inl (less_since rows e1 e2 e3 one less))
    (λ lacked. inr (done_on rows e1 e2 e3 one lacked.0, lacked.1, lacked.2))
    h

-- whether or not one did
done_any : (rows : ℕ) (e e2 : PlainEngine) → SomeWereDone rows e e2 → SomeHaveRunAny rows e e2
done_any rows e e2 h = (h.0, h.1.0)

short_any : (rows : ℕ) (e e2 : PlainEngine) → RanShort rows e e2 → SomeHaveRunAny rows e e2
short_any rows e e2 h = ⊎_elim (λ less. (less.0, less.1.0)) (λ lacked. done_any rows e e2 lacked.0) h

some_on : (rows : ℕ) (e1 e2 e3 : PlainEngine) → SomeHaveRunAny rows e1 e2 → SomeHaveRunAny rows e2 e3 → SomeHaveRunAny rows e1 e3
some_on rows e1 e2 e3 one two = (one.0 ++ two.0, any_on rows e1 e2 e3 one.0 two.0 one.1 two.1)

-- A TURN OF GREATEST SLOPE is one of an operator that might be leased
goes_of_any : (rows : ℕ) (e : PlainEngine) (t : Turn) (out : PlainEngine) → GoodEngine e → IsTurnOf e rows t out → GoesOutOfAny rows e (lease_of t) out
goes_of_any rows e t out good h = (h.query, (h.plain, (record { ready = leasable_ready e (lease_of t) h.query h.plain h.slot good h.leasable; cut = h.cut }, h.after)))

out_good : (rows : ℕ) (e out : PlainEngine) (l : Lease) → GoodEngine e → GoesOutOfAny rows e l out → GoodEngine out
out_good rows e out l good h = subst GoodEngine (sym h.1.1.1) (ready_good e l h.0 h.1.0 good h.1.1.0.ready)

turn_good : (rows : ℕ) (l : Lease) (e e2 : PlainEngine) → GoodEngine e → GoesAndComes rows e l e2 → GoodEngine e2
turn_good rows l e e2 good h = step_good h.0 e2 (Finishes l) (out_good rows e h.0 l good h.1.0) h.1.1

pub any_good : (rows : ℕ) (s : AnyStep) (e e2 : PlainEngine) → GoodEngine e → IsAnyStep rows e s e2 → GoodEngine e2
any_good rows (RanAny l) e e2 good h = turn_good rows l e e2 good h
any_good rows (PassedAny n b) e e2 good h = pass_good e n b e2 good h
any_good rows (LessAny n l) e e2 good h = turn_good n l e e2 good h.2

one_any : (rows : ℕ) (s : Step) (e e2 : PlainEngine) → GoodEngine e → IsDone rows e s e2 → (s2 : AnyStep) × (IsAnyStep rows e s2 e2 × (is_less s2 ≡ false))
one_any rows (Ran t) e e2 good h = (RanAny (lease_of t), ((h.0, (goes_of_any rows e t h.0 good h.1.0, h.1.1)), refl))
one_any rows (Passed n b) e e2 good h = (PassedAny n b, (h, refl))

all_any : (rows : ℕ) (steps : List Step) (e e2 : PlainEngine) → GoodEngine e → HaveRun rows e steps e2 → GoodEngine e2 × SomeWereDone rows e e2
all_any rows [] e e2 good h = (subst GoodEngine (sym h) good, ([], (h, tt)))
all_any rows (s ∷ steps) e e2 good h =
    let one = one_any rows s e h.0 good h.1.0 in
    let later = all_any rows steps h.0 e2 (any_good rows one.0 e h.0 good one.1.0) h.1.1 in
    (later.0, (one.0 ∷ later.1.0, ((h.0, (one.1.0, later.1.1.0)), (one.1.1, later.1.1.1))))

-- turns of greatest slope were done
pub few_done : (old new : PlainEngine) (rows : ℕ) → GoodEngine old → RunsTurns old rows (Ok tt) new → SomeWereDone rows old new
few_done old new rows good h = (all_any rows h.1.0 old new good h.1.1).1

one_less : (rows : ℕ) (e e2 : PlainEngine) → GoodEngine e → OneHasRunLess rows e e2 → SomeWereLess rows e e2
one_less rows e e2 good h =
    let t : Turn = h.ran.0 in
    let turn : GoesAndComes h.count e (lease_of t) e2 = (h.ran.1.0, (goes_of_any h.count e t h.ran.1.0 good h.ran.1.1.0, h.ran.1.1.1)) in
    (LessAny h.count (lease_of t) ∷ [], ((e2, ((h.some, h.fewer, turn), refl)), refl))

wanted_any : (rows : ℕ) (e e2 : PlainEngine) → GoodEngine e → RanOutOfMemory rows e e2 → RanShort rows e e2
wanted_any rows e e2 good (inl h) = inr (done_none rows e e2 h.2, subst (λ z. lease_fault z rows ≡ None) (sym h.2) h.0, subst HasReady (sym h.2) h.1)
wanted_any rows e e2 good (inr h) = inl (one_less rows e e2 good h)

-- THE WHOLE DRAIN: query by query, and then turn by turn
both_limits : (rows : ℕ) → drain_fault rows ≡ None → drain_fault rows ≡ Some BadLimit → ⊥
both_limits rows a b = absurd (let bad : None ≡ Some BadLimit = sym a ∙ b in cc)

pub drained : (old mid new : PlainEngine) (rows : ℕ) (r : Result ⊤ Fault) → GoodEngine mid → drain_fault rows ≡ None → SomeWereDone rows old mid → RunsTurns mid rows r new → RunsOnce old rows r new
drained old mid new rows (Ok u) good none first h = done_on rows old mid new first (all_any rows h.1.0 mid new good h.1.1).1
drained old mid new rows (Err BadLimit) good none first h = absurd (both_limits rows none h.0)
drained old mid new rows (Err TooManyLeases) good none first h = (done_on rows old mid new first (all_any rows h.1.0.0 mid new good h.1.0.1).1, h.1.1, h.1.2)
drained old mid new rows (Err OutOfMemory) good none first h =
    let ran = all_any rows h.1.1.0.0 mid h.1.0 good h.1.1.0.1 in
    runs_out_on rows old mid new first (runs_out_on rows mid h.1.0 new ran.1 (wanted_any rows h.1.0 new ran.0 h.1.1.1))
drained old mid new rows (Err (Query x)) good none first h = absurd h
drained old mid new rows (Err BadName) good none first h = absurd h
drained old mid new rows (Err NameTaken) good none first h = absurd h
drained old mid new rows (Err BadColumns) good none first h = absurd h
drained old mid new rows (Err TooMany) good none first h = absurd h
drained old mid new rows (Err UnknownStream) good none first h = absurd h
drained old mid new rows (Err UnknownQuery) good none first h = absurd h
drained old mid new rows (Err BadWidth) good none first h = absurd h
drained old mid new rows (Err ValueRange) good none first h = absurd h
drained old mid new rows (Err InstantRange) good none first h = absurd h
drained old mid new rows (Err Late) good none first h = absurd h
drained old mid new rows (Err Backward) good none first h = absurd h
drained old mid new rows (Err Leap) good none first h = absurd h
drained old mid new rows (Err StreamFull) good none first h = absurd h
drained old mid new rows (Err fault.Broken) good none first h = absurd h
drained old mid new rows (Err UnknownLease) good none first h = absurd h
drained old mid new rows (Err Stranger) good none first h = absurd h
drained old mid new rows (Err HistoryFull) good none first h = absurd h
drained old mid new rows (Err (Foreign entries)) good none first h = absurd h

-- TRIES with fewer rows each: a step of the later ones is one that took fewer
fewer_step : (rows few : ℕ) (s : AnyStep) (e e2 : PlainEngine) → 0 < few → few < rows → IsAnyStep few e s e2 → (s2 : AnyStep) × IsAnyStep rows e s2 e2
fewer_step rows few (RanAny l) e e2 some less h = (LessAny few l, (some, less, h))
fewer_step rows few (PassedAny n b) e e2 some less h = (PassedAny n b, h)
fewer_step rows few (LessAny n l) e e2 some less h = (LessAny n l, (h.0, omega (arith, h.1, less), h.2))

fewer_steps : (rows few : ℕ) (steps : List AnyStep) (e e2 : PlainEngine) → 0 < few → few < rows → HaveRunAny few e steps e2 → SomeHaveRunAny rows e e2
fewer_steps rows few [] e e2 some less h = ([], h)
fewer_steps rows few (s ∷ steps) e e2 some less h =
    let one = fewer_step rows few s e h.0 some less h.1.0 in
    let later = fewer_steps rows few steps h.0 e2 some less h.1.1 in
    (one.0 ∷ later.0, (h.0, (one.1, later.1)))

fewer_any : (rows few : ℕ) (e e2 : PlainEngine) → 0 < few → few < rows → SomeHaveRunAny few e e2 → SomeHaveRunAny rows e e2
fewer_any rows few e e2 some less h = fewer_steps rows few h.0 e e2 some less h.1

allowed_too : (bad worse full : Bool) → faults.first_of ((bad, BadLimit) ∷ []) ≡ None → faults.first_of ((worse, BadLimit) ∷ (full, TooManyLeases) ∷ []) ≡ None → faults.first_of ((bad, BadLimit) ∷ (full, TooManyLeases) ∷ []) ≡ None
allowed_too true worse full none h = absurd (let wrong : Some BadLimit ≡ None = none in cc)
allowed_too false true full none h = absurd (let wrong : Some BadLimit ≡ None = h in cc)
allowed_too false false full none h = h

allowed_all : (e : PlainEngine) (rows few : ℕ) → drain_fault rows ≡ None → lease_fault e few ≡ None → lease_fault e rows ≡ None
allowed_all e rows few none h =
    allowed_too (not (nat_le 1 rows && nat_le rows MAX_TURN)) (not (nat_le 1 few && nat_le few MAX_TURN))
    (is_some (slots.first_of e.slots) && (nat_le MAX_LEASES (length e.leases) || nat_le LEASE_NUMBERS e.next)) none h

within_limits : (a b : Bool) → faults.first_of ((not (a && b), BadLimit) ∷ []) ≡ None → (a ≡ true) × (b ≡ true)
within_limits true true h = (refl, refl)
within_limits true false h = absurd (let wrong : Some BadLimit ≡ None = h in cc)
within_limits false b h = absurd (let wrong : Some BadLimit ≡ None = h in cc)

pub accepted_too : (rows few : ℕ) → drain_fault rows ≡ None → 0 < few → few < rows → drain_fault few ≡ None
accepted_too rows few none some less =
    let is : nat_le rows MAX_TURN ≡ true = (within_limits (nat_le 1 rows) (nat_le rows MAX_TURN) none).1 in
    let within : rows ≤ MAX_TURN = grind (arith, nat_tests) in
    let most : nat_le few MAX_TURN ≡ true = grind (arith, nat_tests) in
    let one : nat_le 1 few ≡ true = grind (arith, nat_tests) in
    subst (λ a. faults.first_of ((not (a && nat_le few MAX_TURN), BadLimit) ∷ []) ≡ None) (sym one)
    (subst (λ b. faults.first_of ((not (true && b), BadLimit) ∷ []) ≡ None) (sym most) refl)

pub tried_again : (old mid new : PlainEngine) (rows few : ℕ) (r : Result ⊤ Fault) → drain_fault rows ≡ None → drain_fault few ≡ None → 0 < few → few < rows → RunsOnce old rows (Err OutOfMemory) mid → RunsByQuery mid few r new
    → RunsByQuery old rows r new
tried_again old mid new rows few (Ok u) none fine some less first h = (none, some_on rows old mid new (short_any rows old mid first) (fewer_any rows few mid new some less h.1))
tried_again old mid new rows few (Err BadLimit) none fine some less first h = absurd (both_limits few fine h.0)
tried_again old mid new rows few (Err TooManyLeases) none fine some less first h = (none, (some_on rows old mid new (short_any rows old mid first) (fewer_any rows few mid new some less h.1.0), h.1.1, h.1.2))
tried_again old mid new rows few (Err OutOfMemory) none fine some less first h =
    (none, (some_on rows old mid new (short_any rows old mid first) (fewer_any rows few mid new some less h.1.0), allowed_all new rows few none h.1.1, h.1.2))
tried_again old mid new rows few (Err (Query x)) none fine some less first h = absurd h
tried_again old mid new rows few (Err BadName) none fine some less first h = absurd h
tried_again old mid new rows few (Err NameTaken) none fine some less first h = absurd h
tried_again old mid new rows few (Err BadColumns) none fine some less first h = absurd h
tried_again old mid new rows few (Err TooMany) none fine some less first h = absurd h
tried_again old mid new rows few (Err UnknownStream) none fine some less first h = absurd h
tried_again old mid new rows few (Err UnknownQuery) none fine some less first h = absurd h
tried_again old mid new rows few (Err BadWidth) none fine some less first h = absurd h
tried_again old mid new rows few (Err ValueRange) none fine some less first h = absurd h
tried_again old mid new rows few (Err InstantRange) none fine some less first h = absurd h
tried_again old mid new rows few (Err Late) none fine some less first h = absurd h
tried_again old mid new rows few (Err Backward) none fine some less first h = absurd h
tried_again old mid new rows few (Err Leap) none fine some less first h = absurd h
tried_again old mid new rows few (Err StreamFull) none fine some less first h = absurd h
tried_again old mid new rows few (Err fault.Broken) none fine some less first h = absurd h
tried_again old mid new rows few (Err UnknownLease) none fine some less first h = absurd h
tried_again old mid new rows few (Err Stranger) none fine some less first h = absurd h
tried_again old mid new rows few (Err HistoryFull) none fine some less first h = absurd h
tried_again old mid new rows few (Err (Foreign entries)) none fine some less first h = absurd h

-- A TRY that is not followed by another: none of a single row takes fewer
is_no_less : (s : AnyStep) (e e2 : PlainEngine) → IsAnyStep 1 e s e2 → is_less s ≡ false
is_no_less (RanAny l) e e2 h = refl
is_no_less (PassedAny n b) e e2 h = refl
is_no_less (LessAny n l) e e2 h = absurd (omega (arith, h.0, h.1))

never_less : (steps : List AnyStep) (e e2 : PlainEngine) → HaveRunAny 1 e steps e2 → one_was_less steps ≡ false
never_less [] e e2 h = refl
never_less (s ∷ steps) e e2 h = subst (λ b. (b || one_was_less steps) ≡ false) (sym (is_no_less s e h.0 h.1.0)) (never_less steps h.0 e2 h.1.1)

none_less_of_one : (rows : ℕ) (e e2 : PlainEngine) → drain_fault rows ≡ None → rows ≤ 1 → SomeWereLess rows e e2 → ⊥
none_less_of_one zero e e2 none small h = absurd (let wrong : Some BadLimit ≡ None = none in cc)
none_less_of_one (suc zero) e e2 none small h = absurd (let is : true ≡ false = sym h.1.1 ∙ never_less h.0 e e2 h.1.0 in cc)
none_less_of_one (suc (suc n)) e e2 none small h = absurd (omega (arith, small))

pub tried_last : (old new : PlainEngine) (rows : ℕ) (r : Result ⊤ Fault) → drain_fault rows ≡ None → (r ≡ Err OutOfMemory → rows ≤ 1) → RunsOnce old rows r new → RunsByQuery old rows r new
tried_last old new rows (Ok u) none last h = (none, done_any rows old new h)
tried_last old new rows (Err TooManyLeases) none last h = (none, (done_any rows old new h.0, h.1, h.2))
tried_last old new rows (Err OutOfMemory) none last h = (
  none,
  ⊎_elim
      (λ less. absurd (none_less_of_one rows old new none (last refl) less))
      (λ lacked. (done_any rows old new lacked.0, lacked.1, lacked.2))
      h,
)
tried_last old new rows (Err BadLimit) none last h = absurd h
tried_last old new rows (Err (Query x)) none last h = absurd h
tried_last old new rows (Err BadName) none last h = absurd h
tried_last old new rows (Err NameTaken) none last h = absurd h
tried_last old new rows (Err BadColumns) none last h = absurd h
tried_last old new rows (Err TooMany) none last h = absurd h
tried_last old new rows (Err UnknownStream) none last h = absurd h
tried_last old new rows (Err UnknownQuery) none last h = absurd h
tried_last old new rows (Err BadWidth) none last h = absurd h
tried_last old new rows (Err ValueRange) none last h = absurd h
tried_last old new rows (Err InstantRange) none last h = absurd h
tried_last old new rows (Err Late) none last h = absurd h
tried_last old new rows (Err Backward) none last h = absurd h
tried_last old new rows (Err Leap) none last h = absurd h
tried_last old new rows (Err StreamFull) none last h = absurd h
tried_last old new rows (Err fault.Broken) none last h = absurd h
tried_last old new rows (Err UnknownLease) none last h = absurd h
tried_last old new rows (Err Stranger) none last h = absurd h
tried_last old new rows (Err HistoryFull) none last h = absurd h
tried_last old new rows (Err (Foreign entries)) none last h = absurd h

pub last_below : (rows end : ℕ) (old new : PlainEngine) → drain_fault rows ≡ None → rows ≤ 1 → RanShortBelow rows end old new → new.next < end
last_below rows end old new none small h = ⊎_elim (λ less. absurd (none_less_of_one rows old new none small less)) (λ below. below) h

-- or it is refused
pub refused_by_query : (e : PlainEngine) (rows : ℕ) (f : Fault) → Some f ≡ drain_fault rows → RunsByQuery e rows (Err f) e
refused_by_query e rows f h =
    let is : f ≡ BadLimit = limit_is rows f h in
    subst (λ z. RunsByQuery e rows (Err z) e) (sym is) (sym h ∙ ap Some is, refl)

-- WHAT A DRAIN GOES THROUGH
pub ends : (old new : PlainEngine) (rows : ℕ) (r : Result ⊤ Fault) → RunsByQuery old rows r new → SomeHaveRunAny rows old new
ends old new rows (Ok u) h = h.1
ends old new rows (Err BadLimit) h = ([], h.1)
ends old new rows (Err TooManyLeases) h = h.1.0
ends old new rows (Err OutOfMemory) h = h.1.0
ends old new rows (Err (Query x)) h = absurd h
ends old new rows (Err BadName) h = absurd h
ends old new rows (Err NameTaken) h = absurd h
ends old new rows (Err BadColumns) h = absurd h
ends old new rows (Err TooMany) h = absurd h
ends old new rows (Err UnknownStream) h = absurd h
ends old new rows (Err UnknownQuery) h = absurd h
ends old new rows (Err BadWidth) h = absurd h
ends old new rows (Err ValueRange) h = absurd h
ends old new rows (Err InstantRange) h = absurd h
ends old new rows (Err Late) h = absurd h
ends old new rows (Err Backward) h = absurd h
ends old new rows (Err Leap) h = absurd h
ends old new rows (Err StreamFull) h = absurd h
ends old new rows (Err fault.Broken) h = absurd h
ends old new rows (Err UnknownLease) h = absurd h
ends old new rows (Err Stranger) h = absurd h
ends old new rows (Err HistoryFull) h = absurd h
ends old new rows (Err (Foreign entries)) h = absurd h

-- the machine is as it was
turn_machine : (rows : ℕ) (l : Lease) (e e2 : PlainEngine) → GoesAndComes rows e l e2 → e2.machine ≡ e.machine
turn_machine rows l e e2 h = comes_machine h.0 e2 l h.1.1.1.0 h.1.1.1.1.0 h.1.1.1.1.1.0 h.1.1.1.1.1.1 ∙ ap (λ z. z.machine) h.1.0.1.1.1

any_machine : (rows : ℕ) (s : AnyStep) (e e2 : PlainEngine) → IsAnyStep rows e s e2 → e2.machine ≡ e.machine
any_machine rows (RanAny l) e e2 h = turn_machine rows l e e2 h
any_machine rows (PassedAny n b) e e2 h = ap (λ z. z.machine) h.is
any_machine rows (LessAny n l) e e2 h = turn_machine n l e e2 h.2

all_machine : (rows : ℕ) (steps : List AnyStep) (e e2 : PlainEngine) → HaveRunAny rows e steps e2 → e2.machine ≡ e.machine
all_machine rows [] e e2 h = ap (λ z. z.machine) h
all_machine rows (s ∷ steps) e e2 h = all_machine rows steps h.0 e2 h.1.1 ∙ any_machine rows s e h.0 h.1.0

pub by_query_machine : (old new : PlainEngine) (rows : ℕ) (r : Result ⊤ Fault) → RunsByQuery old rows r new → new.machine ≡ old.machine
by_query_machine old new rows r h = let t = ends old new rows r h in all_machine rows t.0 old new t.1

-- and numbers are given, none taken back
turn_counts : (rows : ℕ) (l : Lease) (e e2 : PlainEngine) → GoesAndComes rows e l e2 → e.next + 1 ≡ e2.next
turn_counts rows l e e2 h =
    let home : e2.next ≡ h.0.next = comes_next h.0 e2 l h.1.1.1.0 h.1.1.1.1.0 h.1.1.1.1.1.0 h.1.1.1.1.1.1 in
    let went : h.0.next ≡ e.next + 1 = ap (λ z. z.next) h.1.0.1.1.1 in
    omega (arith, home, went)

any_counts : (rows : ℕ) (s : AnyStep) (e e2 : PlainEngine) → IsAnyStep rows e s e2 → e.next + 1 ≡ e2.next
any_counts rows (RanAny l) e e2 h = turn_counts rows l e e2 h
any_counts rows (PassedAny n b) e e2 h = let one : e2.next ≡ e.next + 1 = ap (λ z. z.next) h.is in omega (arith, one)
any_counts rows (LessAny n l) e e2 h = turn_counts n l e e2 h.2

all_give : (rows : ℕ) (steps : List AnyStep) (e e2 : PlainEngine) → HaveRunAny rows e steps e2 → HasGivenMore e e2
all_give rows [] e e2 h = let same : e2.next ≡ e.next = ap (λ z. z.next) h in omega (arith, same)
all_give rows (s ∷ steps) e e2 h =
    let one : e.next + 1 ≡ h.0.next = any_counts rows s e h.0 h.1.0 in
    let more : h.0.next ≤ e2.next = all_give rows steps h.0 e2 h.1.1 in
    omega (arith, one, more)

pub done_gives : (rows : ℕ) (e e2 : PlainEngine) → SomeWereDone rows e e2 → HasGivenMore e e2
done_gives rows e e2 h = all_give rows h.0 e e2 h.1.0

pub by_query_gives : (old new : PlainEngine) (rows : ℕ) (r : Result ⊤ Fault) → RunsByQuery old rows r new → HasGivenMore old new
by_query_gives old new rows r h = let t = ends old new rows r h in all_give rows t.0 old new t.1

-- SOMETHING HAS RUN where something was ready, and nothing is any more
some_any : (rows : ℕ) (steps : List AnyStep) (e e2 : PlainEngine) → HaveRunAny rows e steps e2 → HasReady e → first_of e2.slots ≡ None → e.next < e2.next
some_any rows [] e e2 h ready none =
    let never : is_some (first_of e.slots) ≡ false = ap (λ z. is_some (first_of z.slots)) (sym h) ∙ ap is_some none in
    absurd (cc)
some_any rows (s ∷ steps) e e2 h ready none =
    let one : e.next + 1 ≡ h.0.next = any_counts rows s e h.0 h.1.0 in
    let more : h.0.next ≤ e2.next = all_give rows steps h.0 e2 h.1.1 in
    omega (arith, one, more)

pub some_by_query : (old new : PlainEngine) (rows turns : ℕ) (r : Result Bool Fault) → RunsByQuery old rows (as_drained r) new → (r ≡ Ok true → new.next ≡ old.next + turns) → (r ≡ Ok false → first_of new.slots ≡ None)
    → turns ≢ 0 → HasReady old → OnOk r (old.next < new.next)
some_by_query old new rows turns (Ok true) ran last idle some ready =
    let all : new.next ≡ old.next + turns = last refl in
    omega (arith, all, some)
some_by_query old new rows turns (Ok false) ran last idle some ready = some_any rows ran.1.0 old new ran.1.1 ready (idle refl)
some_by_query old new rows turns (Err f) ran last idle some ready = tt

-- NOTHING HAS RUN where no number was taken
none_any : (rows : ℕ) (steps : List AnyStep) (e e2 : PlainEngine) → HaveRunAny rows e steps e2 → e2.next ≤ e.next → e2 ≡ e
none_any rows [] e e2 h none = h
none_any rows (s ∷ steps) e e2 h none =
    let one : e.next + 1 ≡ h.0.next = any_counts rows s e h.0 h.1.0 in
    let more : h.0.next ≤ e2.next = all_give rows steps h.0 e2 h.1.1 in
    absurd (omega (arith, one, more, none))

pub done_nothing : (rows : ℕ) (e e2 : PlainEngine) → SomeWereDone rows e e2 → e2.next ≤ e.next → e2 ≡ e
done_nothing rows e e2 h none = none_any rows h.0 e e2 h.1.0 none

pub less_takes : (rows : ℕ) (e e2 : PlainEngine) → SomeWereLess rows e e2 → e.next < e2.next
less_takes rows e e2 h = takes h.0 e h.1.0 h.1.1 where
  takes : (steps : List AnyStep) (e1 : PlainEngine) → HaveRunAny rows e1 steps e2 → one_was_less steps ≡ true → e1.next < e2.next
  takes [] e1 ran some = absurd (let bad : false ≡ true = some in cc)
  takes (s ∷ steps) e1 ran some =
      let one : e1.next + 1 ≡ ran.0.next = any_counts rows s e1 ran.0 ran.1.0 in
      let more : ran.0.next ≤ e2.next = all_give rows steps ran.0 e2 ran.1.1 in
      omega (arith, one, more)

pub none_by_query : (old new : PlainEngine) (rows : ℕ) (r : Result Bool Fault) → RunsByQuery old rows (as_drained r) new → new.next ≤ old.next → IfErr r (λ f. f ≡ BadLimit) → new ≡ old
none_by_query old new rows (Ok more) ran none refused = none_any rows ran.1.0 old new ran.1.1 none
none_by_query old new rows (Err f) ran none refused =
    let ended : RunsByQuery old rows (Err BadLimit) new = subst (λ (x : Fault). RunsByQuery old rows (Err x) new) refused ran in
    ended.1

-- MEMORY RAN OUT before an end
pub out_below : (rows end : ℕ) (old mid new : PlainEngine) → GoodEngine mid → SomeWereDone rows old mid → RanOutBelow rows end mid new → RanShortBelow rows end old new
out_below rows end old mid new good first h =
    let ran = all_any rows h.1.0.0 mid h.0 good h.1.0.1 in
    ⊎_elim
    (λ lacked. inr (subst (λ (z : PlainEngine). z.next < end) (sym lacked.2) h.1.1.1))
    (λ less. inl (less_since rows old mid new first (less_since rows mid h.0 new ran.1 (one_less rows h.0 new ran.0 less))))
    h.1.1.0

-- NO QUERY BREAKS, also where memory runs out
turn_kinds : (rows : ℕ) (l : Lease) (e e2 : PlainEngine) → GoodEngine e → GoesAndComes rows e l e2 → SameKinds e e2
turn_kinds rows l e e2 good h n =
    kind_on (remains_at e n) (remains_at h.0 n) (remains_at e2 n)
    (subst (λ z. SameKind (remains_at e n) (remains_at z n)) (sym h.1.0.1.1.1) (kind_same (remains_at e n)))
    (finish_kinds h.0 e2 l (out_good rows e h.0 l good h.1.0) h.1.1 n)

any_kinds : (rows : ℕ) (s : AnyStep) (e e2 : PlainEngine) → GoodEngine e → IsAnyStep rows e s e2 → SameKinds e e2
any_kinds rows (RanAny l) e e2 good h = turn_kinds rows l e e2 good h
any_kinds rows (PassedAny n b) e e2 good h = pass_kinds e n b e2 good h
any_kinds rows (LessAny n l) e e2 good h = turn_kinds n l e e2 good h.2

all_kinds : (rows : ℕ) (steps : List AnyStep) (e e2 : PlainEngine) → GoodEngine e → HaveRunAny rows e steps e2 → SameKinds e e2
all_kinds rows [] e e2 good h n = subst (λ z. SameKind (remains_at e n) (remains_at z n)) (sym h) (kind_same (remains_at e n))
all_kinds rows (s ∷ steps) e e2 good h n =
    kind_on (remains_at e n) (remains_at h.0 n) (remains_at e2 n) (any_kinds rows s e h.0 good h.1.0 n)
    (all_kinds rows steps h.0 e2 (any_good rows s e h.0 good h.1.0) h.1.1 n)

broken_kind : (a : PlainRemains) (answers : List (ℕ × Row)) (upto : ℕ) → SameKind a (Broken answers upto) → a ≡ Broken answers upto
broken_kind (Running p) answers upto h = absurd h
broken_kind (Broken others there) answers upto h = ap (λ z. Broken z there) h.0 ∙ ap (Broken answers) h.1
broken_kind Dropped answers upto h = absurd h

tried_whole : (rows : ℕ) (old mid : PlainEngine) → GoodEngine old → IsWholeEngine old → mid.leases ≡ old.leases → SomeHaveRunAny rows old mid → IsWholeEngine mid
tried_whole rows old mid good whole leases h = record {
  returned = leases ∙ whole.returned;
  unbroken = λ n answers upto is. whole.unbroken n answers upto
      (broken_kind (remains_at old n) answers upto (subst (SameKind (remains_at old n)) is (all_kinds rows h.0 old mid good h.1 n)));
}

pub stays_whole : (rows : ℕ) (old mid : PlainEngine) → GoodEngine old → IsWholeEngine old → mid.leases ≡ old.leases → SomeWereDone rows old mid → IsWholeEngine mid
stays_whole rows old mid good whole leases h = tried_whole rows old mid good whole leases (h.0, h.1.0)

pub less_whole : (rows : ℕ) (old mid : PlainEngine) → GoodEngine old → IsWholeEngine old → mid.leases ≡ old.leases → SomeWereLess rows old mid → IsWholeEngine mid
less_whole rows old mid good whole leases h = tried_whole rows old mid good whole leases (h.0, h.1.0)

-- NUMBERS are wanted where no turn is out and it is refused a lease
none_out : (e : PlainEngine) → IsFull e → e.leases ≡ [] → LEASE_NUMBERS ≤ e.next
none_out e (inl many) none = let few : length e.leases ≡ 0 = ap length none in absurd (omega (arith, many, few))
none_out e (inr all) none = all

pub wants_all : (old new : PlainEngine) (rows : ℕ) (r : Result ⊤ Fault) → RunsByQuery old rows r new → LeavesOthers old new → old.leases ≡ [] → r ≡ Err TooManyLeases → LEASE_NUMBERS ≤ new.next
wants_all old new rows r ran leaves none is =
    let ended : RunsByQuery old rows (Err TooManyLeases) new = subst (λ (x : Result ⊤ Fault). RunsByQuery old rows x new) is ran in
    none_out new ended.1.1 (leaves ∙ none)

-- AS CLIENTS SEE IT
stops : (old new : PlainEngine) (rows : ℕ) → new.machine ≡ old.machine → GoodEngine new → (f : Fault) → RunsByQuery old rows (Err f) new → Drains (world_of old) (drain_step (world_of old) rows) (Err f) (world_of new)
stops old new rows machine good BadLimit h = drain_refused old new rows machine BadLimit h.0 h.1
stops old new rows machine good TooManyLeases h = stops_early old new rows machine good h.0
stops old new rows machine good OutOfMemory h = stops_early old new rows machine good h.0
stops old new rows machine good (Query x) h = absurd h
stops old new rows machine good BadName h = absurd h
stops old new rows machine good NameTaken h = absurd h
stops old new rows machine good BadColumns h = absurd h
stops old new rows machine good TooMany h = absurd h
stops old new rows machine good UnknownStream h = absurd h
stops old new rows machine good UnknownQuery h = absurd h
stops old new rows machine good BadWidth h = absurd h
stops old new rows machine good ValueRange h = absurd h
stops old new rows machine good InstantRange h = absurd h
stops old new rows machine good Late h = absurd h
stops old new rows machine good Backward h = absurd h
stops old new rows machine good Leap h = absurd h
stops old new rows machine good StreamFull h = absurd h
stops old new rows machine good fault.Broken h = absurd h
stops old new rows machine good UnknownLease h = absurd h
stops old new rows machine good Stranger h = absurd h
stops old new rows machine good HistoryFull h = absurd h
stops old new rows machine good (Foreign entries) h = absurd h

pub by_query_does : (old new : PlainEngine) (rows : ℕ) (r : Result ⊤ Fault) → GoodEngine new → map (λ q. q.is_dropped) new.machine.queries ≡ map is_gone new.queries → RunsByQuery old rows r new
    → OnOk r (first_of new.slots ≡ None) → IsWholeEngine new → Drains (world_of old) (drain_step (world_of old) rows) r (world_of new)
by_query_does old new rows (Ok u) g gone runs idle whole =
    drain_done old new rows (by_query_machine old new rows (Ok u) runs) runs.0 (all_wait new g whole idle gone) (all_reached new g whole idle gone) u
by_query_does old new rows (Err f) g gone runs idle whole = stops old new rows (by_query_machine old new rows (Err f) runs) g f runs
