-- Turns that go out and come back one after the other leave the machine as it is, the turns of others out, and an engine that was whole whole.
use Rattle.std.proofs.Common.{◌≡◌, ◌≢◌, ◌==◌, ◌≤◌, ◌<◌, ◌⊎◌, ℕ, zero, suc, ◌+◌, ◌&&◌, not, nat_le, Bool, true, false, inl, inr, Some, None, IfErr, IsErrAnd, OnErr, OnOk, is_some, Result, Ok, Err, List, [], ◌∷◌, ◌++◌, length, get_or, set, refl, sym, ap, ◌∙◌, subst, arith, eq-eqb}
use Rattle.std.specs.Prelude.{⊤}
use Rattle.std.proofs.lemmas.Bool.{ne_eqb}
use Rattle.values.specs.Row.{Row}
use Rattle.turn.specs.declared.turns.Turn.{Turn}
use Rattle.names.specs.Faults as faults
use Rattle.reference.specs.Machine.{Registered}
use Rattle.reference.specs.World.{drain_fault}
use Rattle.reference.specs.declared.fault.Fault.{Fault}
use Rattle.reference.specs.declared.fault.Fault.TheVariants as fault
use Rattle.reference.specs.declared.fault.Fault.TheVariants.{Query, BadName, NameTaken, BadColumns, TooMany, UnknownStream, UnknownQuery, BadWidth, ValueRange, InstantRange, Late, Backward, Leap, StreamFull, BadLimit, UnknownLease, Stranger, TooManyLeases, HistoryFull, OutOfMemory, Foreign}
use Rattle.reference.specs.declared.limits.TheConstants.{MAX_TURN}
use Rattle.laws_queries.specs.Plain.{PlainQuery}
use Rattle.run_queue.specs.Slots.{first_of}
use Rattle.laws_engine.proofs.HistoryLemmas.{step_good}
use Rattle.laws_engine.proofs.LeaseLemmas.{lease_good}
use Rattle.laws_engine.proofs.PassingLemmas.{pass_good}
use Rattle.laws_engine.specs.Calls.{others}
use Rattle.laws_engine.specs.Engines.{Broken, Dropped, Lease, PlainEngine, PlainRemains, Running}
use Rattle.laws_engine.specs.Engines.{remains_at}
use Rattle.laws_engine.specs.Good.{GoodEngine, IsIn}
use Rattle.laws_engine.specs.Histories as history
use Rattle.laws_engine.specs.Histories.{ComesBack, IsCallStep}
use Rattle.laws_engine.specs.Passing.{HasPassed}
use Rattle.leases.specs.Drains.{HaveRun, IsDone, LeavesOthers, OneHasRun, OneOrMoreHaveRun, OneTurnHasRun, Passed, Ran, RanOutBelow, RanOutOfMemory, RunsFirst, RunsTurns, SomeHaveRun, Step, as_drained}
use Rattle.leases.specs.Passing.{OneHasPassed}
use Rattle.leases.specs.Turns.{HasReady, IsTurnOf}
use Rattle.leases.specs.Views.{lease_of}
use Rattle.leases.specs.Whole.{IsWholeEngine}
use Rattle.leases.specs.declared.limits.TheConstants.{LEASE_NUMBERS, MAX_LEASES}

-- TURNS ONE AFTER THE OTHER
pub none_run : (rows : ℕ) (e : PlainEngine) → SomeHaveRun rows e e
none_run rows e = ([], refl)

-- one more is done
one_more : (rows : ℕ) (e1 e2 e3 : PlainEngine) (steps : List Step) (s : Step) → HaveRun rows e1 steps e2 → IsDone rows e2 s e3 → HaveRun rows e1 (steps ++ s ∷ []) e3
one_more rows e1 e2 e3 [] s ran done = (e3, (subst (λ e. IsDone rows e s e3) ran done, refl))
one_more rows e1 e2 e3 (r ∷ steps) s ran done = (ran.0, (ran.1.0, one_more rows ran.0 e2 e3 steps s ran.1.1 done))

pub turn_has_run : (rows : ℕ) (e1 e2 : PlainEngine) → OneTurnHasRun rows e1 e2 → OneHasRun rows e1 e2
turn_has_run rows e1 e2 one = (Ran one.0, one.1)

pub more_run : (rows : ℕ) (e1 e2 e3 : PlainEngine) → SomeHaveRun rows e1 e2 → OneHasRun rows e2 e3 → SomeHaveRun rows e1 e3
more_run rows e1 e2 e3 ran one = (ran.0 ++ one.0 ∷ [], one_more rows e1 e2 e3 ran.0 one.0 ran.1 one.1)

-- and some more are
some_more : (rows : ℕ) (e1 e2 e3 : PlainEngine) (steps later : List Step) → HaveRun rows e1 steps e2 → HaveRun rows e2 later e3 → HaveRun rows e1 (steps ++ later) e3
some_more rows e1 e2 e3 [] later ran next = subst (λ e. HaveRun rows e later e3) ran next
some_more rows e1 e2 e3 (s ∷ steps) later ran next = (ran.0, (ran.1.0, some_more rows ran.0 e2 e3 steps later ran.1.1 next))

pub run_on : (rows : ℕ) (e1 e2 e3 : PlainEngine) → SomeHaveRun rows e1 e2 → SomeHaveRun rows e2 e3 → SomeHaveRun rows e1 e3
run_on rows e1 e2 e3 ran next = (ran.0 ++ next.0, some_more rows e1 e2 e3 ran.0 next.0 ran.1 next.1)

pub run_more : (rows : ℕ) (e1 e2 e3 : PlainEngine) → SomeHaveRun rows e1 e2 → OneOrMoreHaveRun rows e2 e3 → SomeHaveRun rows e1 e3
run_more rows e1 e2 e3 ran next = more_run rows e1 next.0 e3 (run_on rows e1 e2 next.0 ran next.1.0) next.1.1

-- a query passes
pub pass_runs : (rows : ℕ) (e1 e2 : PlainEngine) → OneHasPassed e1 e2 → OneOrMoreHaveRun rows e1 e2
pass_runs rows e1 e2 h = (e1, (([], refl), (Passed h.0 h.1.0, h.1.1)))

-- AN ERROR that is handed on
pub same_err : {A E : Type 0} (r : Result A E) (e : E) (Q : Result A E → Type 0) → IsErrAnd r (λ f. f ≡ e) → Q (Err e) → Q r
same_err (Ok a) e Q h q = absurd h
same_err (Err f) e Q h q = subst (λ z. Q (Err z)) (sym h) q

-- A STEP has run a turn, or there was none
pub has_run : (e1 e2 : PlainEngine) (rows : ℕ) (ran : Bool) → ran ≡ true → RunsFirst e1 rows (Ok ran) e2 → OneOrMoreHaveRun rows e1 e2
has_run e1 e2 rows ran is h = subst (λ b. RunsFirst e1 rows (Ok b) e2) is h

pub has_none : (e1 e2 : PlainEngine) (rows : ℕ) (ran : Bool) → ran ≡ false → RunsFirst e1 rows (Ok ran) e2 → (first_of e1.slots ≡ None) × (e2 ≡ e1)
has_none e1 e2 rows ran is h = subst (λ b. RunsFirst e1 rows (Ok b) e2) is h

-- A DRAIN THAT IS REFUSED does nothing
told_limit : (b : Bool) (f : Fault) → Some f ≡ faults.first_of ((b, BadLimit) ∷ []) → f ≡ BadLimit
told_limit true f h = cc
told_limit false f h = absurd (cc)

pub refused_drain : (e : PlainEngine) (rows : ℕ) (f : Fault) → Some f ≡ drain_fault rows → RunsTurns e rows (Err f) e × LeavesOthers e e
refused_drain e rows f h =
    let is : f ≡ BadLimit = told_limit (not (nat_le 1 rows && nat_le rows MAX_TURN)) f h in
    let limit : drain_fault rows ≡ Some BadLimit = sym h ∙ ap Some is in
    subst (λ z. RunsTurns e rows (Err z) e × LeavesOthers e e) (sym is) ((limit, refl), refl)

abbrev pub failed : Fault → Result Bool Fault
failed f = Err f

same_fault : {f g : Fault} → failed f ≡ failed g → f ≡ g
same_fault e = cc

limit_only : BadLimit ≡ TooManyLeases → ⊥
limit_only e = absurd (cc)

pub never_full : (rows : ℕ) (f : Fault) → Some f ≡ drain_fault rows → failed f ≡ failed TooManyLeases → ⊥
never_full rows f h full = limit_only (sym (told_limit (not (nat_le 1 rows && nat_le rows MAX_TURN)) f h) ∙ same_fault full)

pub never_out : (rows : ℕ) (f : Fault) → Some f ≡ drain_fault rows → failed f ≡ failed OutOfMemory → ⊥
never_out rows f h out = never_both (sym (told_limit (not (nat_le 1 rows && nat_le rows MAX_TURN)) f h) ∙ same_fault out)
  where
    never_both : BadLimit ≡ OutOfMemory → ⊥
    never_both e = absurd (cc)

pub only_looked : (r : Result Bool Fault) (before until : ℕ) → OnErr r (before < until) → until ≤ before → IfErr r (λ f. f ≡ BadLimit)
only_looked (Ok more) before until h none = tt
only_looked (Err f) before until h none = absurd (omega (arith, h, none))

pub limit_is : (rows : ℕ) (f : Fault) → Some f ≡ drain_fault rows → f ≡ BadLimit
limit_is rows f h = told_limit (not (nat_le 1 rows && nat_le rows MAX_TURN)) f h

-- MEMORY RAN OUT in a step, below the end of all
pub ends_below : (rows end until : ℕ) (e1 e2 e3 : PlainEngine) → SomeHaveRun rows e1 e2 → RanOutBelow rows end e2 e3 → end ≤ until → RanOutBelow rows until e1 e3
ends_below rows end until e1 e2 e3 ran h within = (h.0, (run_on rows e1 e2 h.0 ran h.1.0, (h.1.1.0, omega (arith, h.1.1.1, within))))

-- A STEP THAT IS REFUSED ends a drain
pub step_ends : (e1 e2 e3 : PlainEngine) (rows : ℕ) (f : Fault) → drain_fault rows ≡ None → SomeHaveRun rows e1 e2 → RunsFirst e2 rows (Err f) e3 → RunsTurns e1 rows (Err f) e3
step_ends e1 e2 e3 rows OutOfMemory none ran h = (none, (h.0, (run_on rows e1 e2 h.0 ran h.1.0, h.1.1)))
step_ends e1 e2 e3 rows TooManyLeases none ran h =
    (none, (subst (SomeHaveRun rows e1) (sym h.0) ran, subst (λ e. (MAX_LEASES ≤ length e.leases) ⊎ (LEASE_NUMBERS ≤ e.next)) (sym h.0) h.1, subst HasReady (sym h.0) h.2))
step_ends e1 e2 e3 rows (Query x) none ran h = absurd h
step_ends e1 e2 e3 rows BadName none ran h = absurd h
step_ends e1 e2 e3 rows NameTaken none ran h = absurd h
step_ends e1 e2 e3 rows BadColumns none ran h = absurd h
step_ends e1 e2 e3 rows TooMany none ran h = absurd h
step_ends e1 e2 e3 rows UnknownStream none ran h = absurd h
step_ends e1 e2 e3 rows UnknownQuery none ran h = absurd h
step_ends e1 e2 e3 rows BadWidth none ran h = absurd h
step_ends e1 e2 e3 rows ValueRange none ran h = absurd h
step_ends e1 e2 e3 rows InstantRange none ran h = absurd h
step_ends e1 e2 e3 rows Late none ran h = absurd h
step_ends e1 e2 e3 rows Backward none ran h = absurd h
step_ends e1 e2 e3 rows Leap none ran h = absurd h
step_ends e1 e2 e3 rows StreamFull none ran h = absurd h
step_ends e1 e2 e3 rows BadLimit none ran h = absurd h
step_ends e1 e2 e3 rows fault.Broken none ran h = absurd h
step_ends e1 e2 e3 rows UnknownLease none ran h = absurd h
step_ends e1 e2 e3 rows Stranger none ran h = absurd h
step_ends e1 e2 e3 rows HistoryFull none ran h = absurd h
step_ends e1 e2 e3 rows (Foreign entries) none ran h = absurd h

-- where turns or numbers were wanted it did nothing
pub full_stays : (e1 e2 : PlainEngine) (rows : ℕ) (f : Fault) → failed f ≡ failed TooManyLeases → RunsFirst e1 rows (Err f) e2 → e2.next ≡ e1.next
full_stays e1 e2 rows f is h =
    let stays : RunsFirst e1 rows (Err TooManyLeases) e2 = subst (λ z. RunsFirst e1 rows (Err z) e2) (same_fault is) h in
    ap (λ e. e.next) stays.0

-- A TURN THAT IS RUN
pub comes_machine : (e1 e2 : PlainEngine) (l : Lease) (q : Registered) (p p2 : PlainQuery) → ComesBack e1 l q p p2 e2 → e2.machine ≡ e1.machine
comes_machine e1 e2 l q p p2 (inl h) = ap (λ e. e.machine) h.1
comes_machine e1 e2 l q p p2 (inr h) = ap (λ e. e.machine) h.1

pub comes_next : (e1 e2 : PlainEngine) (l : Lease) (q : Registered) (p p2 : PlainQuery) → ComesBack e1 l q p p2 e2 → e2.next ≡ e1.next
comes_next e1 e2 l q p p2 (inl h) = ap (λ e. e.next) h.1
comes_next e1 e2 l q p p2 (inr h) = ap (λ e. e.next) h.1

comes_leases : (e1 e2 : PlainEngine) (l : Lease) (q : Registered) (p p2 : PlainQuery) → ComesBack e1 l q p p2 e2 → e2.leases ≡ others l.number e1.leases
comes_leases e1 e2 l q p p2 (inl h) = ap (λ e. e.leases) h.1
comes_leases e1 e2 l q p p2 (inr h) = ap (λ e. e.leases) h.1

comes_queries : (e1 e2 : PlainEngine) (l : Lease) (q : Registered) (p p2 : PlainQuery) → ComesBack e1 l q p p2 e2 → e2.queries ≡ set e1.queries l.query (Running p2)
comes_queries e1 e2 l q p p2 (inl h) = ap (λ e. e.queries) h.1
comes_queries e1 e2 l q p p2 (inr h) = ap (λ e. e.queries) h.1

-- it took a number
done_counts : (e1 e2 : PlainEngine) (rows : ℕ) (s : Step) → IsDone rows e1 s e2 → e2.next ≡ e1.next + 1
done_counts e1 e2 rows (Ran t) one =
    let home = one.1.1 in
    comes_next one.0 e2 (lease_of t) home.1.0 home.1.1.0 home.1.1.1.0 home.1.1.1.1 ∙ ap (λ e. e.next) one.1.0.after
done_counts e1 e2 rows (Passed n b) one = ap (λ e. e.next) one.is

pub step_counts : (e1 e2 : PlainEngine) (rows : ℕ) → OneHasRun rows e1 e2 → e2.next ≡ e1.next + 1
step_counts e1 e2 rows one = done_counts e1 e2 rows one.0 one.1

-- and so did some, if any
pub have_given : (rows : ℕ) (steps : List Step) (e1 e2 : PlainEngine) → HaveRun rows e1 steps e2 → e1.next ≤ e2.next
have_given rows [] e1 e2 ran = let same : e2.next ≡ e1.next = ap (λ e. e.next) ran in omega (arith, same)
have_given rows (s ∷ steps) e1 e2 ran =
    let first : ran.0.next ≡ e1.next + 1 = done_counts e1 ran.0 rows s ran.1.0 in
    let more : ran.0.next ≤ e2.next = have_given rows steps ran.0 e2 ran.1.1 in
    omega (arith, first, more)

pub steps_count : (e1 e2 : PlainEngine) (rows : ℕ) → OneOrMoreHaveRun rows e1 e2 → e1.next < e2.next
steps_count e1 e2 rows h =
    let some : e1.next ≤ h.0.next = have_given rows h.1.0.0 e1 h.0 h.1.0.1 in
    let last : e2.next ≡ h.0.next + 1 = step_counts h.0 e2 rows h.1.1 in
    omega (arith, some, last)

-- at least one did where something was ready and nothing is, and none where no number was taken
some_since : (rows : ℕ) (steps : List Step) (e1 e2 : PlainEngine) → HaveRun rows e1 steps e2 → HasReady e1 → first_of e2.slots ≡ None → e1.next < e2.next
some_since rows [] e1 e2 ran ready none =
    let never : is_some (first_of e1.slots) ≡ false = ap (λ e. is_some (first_of e.slots)) (sym ran) ∙ ap is_some none in
    absurd (cc)
some_since rows (s ∷ steps) e1 e2 ran ready none =
    let first : ran.0.next ≡ e1.next + 1 = done_counts e1 ran.0 rows s ran.1.0 in
    let more : ran.0.next ≤ e2.next = have_given rows steps ran.0 e2 ran.1.1 in
    omega (arith, first, more)

none_since : (rows : ℕ) (steps : List Step) (e1 e2 : PlainEngine) → HaveRun rows e1 steps e2 → e2.next ≤ e1.next → e2 ≡ e1
none_since rows [] e1 e2 ran none = ran
none_since rows (s ∷ steps) e1 e2 ran none =
    let first : ran.0.next ≡ e1.next + 1 = done_counts e1 ran.0 rows s ran.1.0 in
    let more : ran.0.next ≤ e2.next = have_given rows steps ran.0 e2 ran.1.1 in
    absurd (omega (arith, first, more, none))

pub looks_only : (old new : PlainEngine) (rows : ℕ) (r : Result Bool Fault) → RunsTurns old rows (as_drained r) new → new.next ≤ old.next → IfErr r (λ f. f ≡ BadLimit) → new ≡ old
looks_only old new rows (Ok more) ran none refused = none_since rows ran.1.0 old new ran.1.1 none
looks_only old new rows (Err f) ran none refused =
    let limit : RunsTurns old rows (Err BadLimit) new = subst (λ z. RunsTurns old rows (Err z) new) refused ran in
    limit.1

pub some_ran : (old new : PlainEngine) (rows turns : ℕ) (r : Result Bool Fault) → RunsTurns old rows (as_drained r) new → (r ≡ Ok true → new.next ≡ old.next + turns) → (r ≡ Ok false → first_of new.slots ≡ None)
    → turns ≢ 0 → HasReady old → OnOk r (old.next < new.next)
some_ran old new rows turns (Ok true) ran last idle some ready =
    let all : new.next ≡ old.next + turns = last refl in
    omega (arith, all, some)
some_ran old new rows turns (Ok false) ran last idle some ready = some_since rows ran.1.0 old new ran.1.1 ready (idle refl)
some_ran old new rows turns (Err f) ran last idle some ready = tt

-- THE MACHINE is as it was
done_machine : (rows : ℕ) (s : Step) (e1 e2 : PlainEngine) → IsDone rows e1 s e2 → e2.machine ≡ e1.machine
done_machine rows (Ran t) e1 e2 one =
    let home = one.1.1 in
    comes_machine one.0 e2 (lease_of t) home.1.0 home.1.1.0 home.1.1.1.0 home.1.1.1.1 ∙ ap (λ e. e.machine) one.1.0.after
done_machine rows (Passed n b) e1 e2 one = ap (λ e. e.machine) one.is

have_machine : (rows : ℕ) (steps : List Step) (e1 e2 : PlainEngine) → HaveRun rows e1 steps e2 → e2.machine ≡ e1.machine
have_machine rows [] e1 e2 ran = ap (λ e. e.machine) ran
have_machine rows (s ∷ steps) e1 e2 ran = have_machine rows steps ran.0 e2 ran.1.1 ∙ done_machine rows s e1 ran.0 ran.1.0

last_machine : (rows : ℕ) (e1 e2 : PlainEngine) → RanOutOfMemory rows e1 e2 → e2.machine ≡ e1.machine
last_machine rows e1 e2 (inl h) = ap (λ e. e.machine) h.2
last_machine rows e1 e2 (inr h) = done_machine h.count (Ran h.ran.0) e1 e2 h.ran.1

pub drain_machine : (old new : PlainEngine) (rows : ℕ) (r : Result ⊤ Fault) → RunsTurns old rows r new → new.machine ≡ old.machine
drain_machine old new rows (Ok u) h = have_machine rows h.1.0 old new h.1.1
drain_machine old new rows (Err BadLimit) h = ap (λ e. e.machine) h.1
drain_machine old new rows (Err TooManyLeases) h = have_machine rows h.1.0.0 old new h.1.0.1
drain_machine old new rows (Err OutOfMemory) h = last_machine rows h.1.0 new h.1.1.1 ∙ have_machine rows h.1.1.0.0 old h.1.0 h.1.1.0.1
drain_machine old new rows (Err (Query x)) h = absurd h
drain_machine old new rows (Err BadName) h = absurd h
drain_machine old new rows (Err NameTaken) h = absurd h
drain_machine old new rows (Err BadColumns) h = absurd h
drain_machine old new rows (Err TooMany) h = absurd h
drain_machine old new rows (Err UnknownStream) h = absurd h
drain_machine old new rows (Err UnknownQuery) h = absurd h
drain_machine old new rows (Err BadWidth) h = absurd h
drain_machine old new rows (Err ValueRange) h = absurd h
drain_machine old new rows (Err InstantRange) h = absurd h
drain_machine old new rows (Err Late) h = absurd h
drain_machine old new rows (Err Backward) h = absurd h
drain_machine old new rows (Err Leap) h = absurd h
drain_machine old new rows (Err StreamFull) h = absurd h
drain_machine old new rows (Err fault.Broken) h = absurd h
drain_machine old new rows (Err UnknownLease) h = absurd h
drain_machine old new rows (Err Stranger) h = absurd h
drain_machine old new rows (Err HistoryFull) h = absurd h
drain_machine old new rows (Err (Foreign entries)) h = absurd h

-- THE TURNS OF OTHERS
last_left : (l : Lease) → others l.number (l ∷ []) ≡ []
last_left l = let same : (l.number == l.number) ≡ true = eq-eqb l.number l.number refl in rw same refl

pub all_left : (ls : List Lease) (l : Lease) → ((a : Lease) → IsIn ls a → a.number < l.number) → others l.number (ls ++ l ∷ []) ≡ ls
all_left [] l h = last_left l
all_left (x ∷ ls) l h =
    let other : (x.number == l.number) ≡ false = ne_eqb x.number l.number (λ e. absurd (omega (arith, e, h x (inl refl)))) in
    rw other (ap (λ rest. x ∷ rest) (all_left ls l (λ a i. h a (inr i))))

module _ (e1 e2 : PlainEngine) (rows : ℕ) (t : Turn) (good : GoodEngine e1) (out : IsTurnOf e1 rows t e2) where
  abbrev turn : Lease
  turn = lease_of t

  before : (a : Lease) → IsIn e1.leases a → a.number < turn.number
  before a i = omega (arith, (good.leases a i).numbered, out.leasable.number)

  others_left : others turn.number e2.leases ≡ e1.leases
  others_left = ap (λ e. others turn.number e.leases) out.after ∙ all_left e1.leases turn before

  leaves : (e3 : PlainEngine) → IsCallStep e2 (history.Finishes turn) e3 → e3.leases ≡ e1.leases
  leaves e3 home = comes_leases e2 e3 turn home.1.0 home.1.1.0 home.1.1.1.0 home.1.1.1.1 ∙ others_left

done_leaves : (e1 e2 : PlainEngine) (rows : ℕ) (s : Step) → GoodEngine e1 → IsDone rows e1 s e2 → e2.leases ≡ e1.leases
done_leaves e1 e2 rows (Ran t) good one = leaves e1 one.0 rows t good one.1.0 e2 one.1.1
done_leaves e1 e2 rows (Passed n b) good one = ap (λ e. e.leases) one.is

step_leaves : (e1 e2 : PlainEngine) (rows : ℕ) → GoodEngine e1 → OneHasRun rows e1 e2 → e2.leases ≡ e1.leases
step_leaves e1 e2 rows good one = done_leaves e1 e2 rows one.0 good one.1

-- an engine stays good over steps, and they leave the turns of others
one_good : (e1 e2 : PlainEngine) (rows : ℕ) (s : Step) → GoodEngine e1 → IsDone rows e1 s e2 → GoodEngine e2
one_good e1 e2 rows (Ran t) good one =
    let went = one.1.0 in
    let out : GoodEngine one.0 = subst GoodEngine (sym went.after) (lease_good e1 (lease_of t) went.query went.plain went.slot good went.leasable) in
    step_good one.0 e2 (history.Finishes (lease_of t)) out one.1.1
one_good e1 e2 rows (Passed n b) good one = pass_good e1 n b e2 good one

have_good : (rows : ℕ) (steps : List Step) (e1 e2 : PlainEngine) → GoodEngine e1 → HaveRun rows e1 steps e2 → GoodEngine e2
have_good rows [] e1 e2 good ran = subst GoodEngine (sym ran) good
have_good rows (s ∷ steps) e1 e2 good ran = have_good rows steps ran.0 e2 (one_good e1 ran.0 rows s good ran.1.0) ran.1.1

have_left : (rows : ℕ) (steps : List Step) (e1 e2 : PlainEngine) → GoodEngine e1 → HaveRun rows e1 steps e2 → e2.leases ≡ e1.leases
have_left rows [] e1 e2 good ran = ap (λ e. e.leases) ran
have_left rows (s ∷ steps) e1 e2 good ran =
    have_left rows steps ran.0 e2 (one_good e1 ran.0 rows s good ran.1.0) ran.1.1 ∙ done_leaves e1 ran.0 rows s good ran.1.0

pub steps_leave : (e1 e2 : PlainEngine) (rows : ℕ) → GoodEngine e1 → OneOrMoreHaveRun rows e1 e2 → e2.leases ≡ e1.leases
steps_leave e1 e2 rows good h = step_leaves h.0 e2 rows (have_good rows h.1.0.0 e1 h.0 good h.1.0.1) h.1.1 ∙ have_left rows h.1.0.0 e1 h.0 good h.1.0.1

last_leaves : (e1 e2 : PlainEngine) (rows : ℕ) → GoodEngine e1 → RanOutOfMemory rows e1 e2 → e2.leases ≡ e1.leases
last_leaves e1 e2 rows good (inl h) = ap (λ e. e.leases) h.2
last_leaves e1 e2 rows good (inr h) = done_leaves e1 e2 h.count (Ran h.ran.0) good h.ran.1

pub refused_leaves : (old e1 e2 : PlainEngine) (rows : ℕ) (f : Fault) → e1.leases ≡ old.leases → GoodEngine e1 → RunsFirst e1 rows (Err f) e2 → LeavesOthers old e2
refused_leaves old e1 e2 rows OutOfMemory same good h =
    last_leaves h.0 e2 rows (have_good rows h.1.0.0 e1 h.0 good h.1.0.1) h.1.1 ∙ have_left rows h.1.0.0 e1 h.0 good h.1.0.1 ∙ same
refused_leaves old e1 e2 rows TooManyLeases same good h = ap (λ e. e.leases) h.0 ∙ same
refused_leaves old e1 e2 rows (Query x) same good h = absurd h
refused_leaves old e1 e2 rows BadName same good h = absurd h
refused_leaves old e1 e2 rows NameTaken same good h = absurd h
refused_leaves old e1 e2 rows BadColumns same good h = absurd h
refused_leaves old e1 e2 rows TooMany same good h = absurd h
refused_leaves old e1 e2 rows UnknownStream same good h = absurd h
refused_leaves old e1 e2 rows UnknownQuery same good h = absurd h
refused_leaves old e1 e2 rows BadWidth same good h = absurd h
refused_leaves old e1 e2 rows ValueRange same good h = absurd h
refused_leaves old e1 e2 rows InstantRange same good h = absurd h
refused_leaves old e1 e2 rows Late same good h = absurd h
refused_leaves old e1 e2 rows Backward same good h = absurd h
refused_leaves old e1 e2 rows Leap same good h = absurd h
refused_leaves old e1 e2 rows StreamFull same good h = absurd h
refused_leaves old e1 e2 rows BadLimit same good h = absurd h
refused_leaves old e1 e2 rows fault.Broken same good h = absurd h
refused_leaves old e1 e2 rows UnknownLease same good h = absurd h
refused_leaves old e1 e2 rows Stranger same good h = absurd h
refused_leaves old e1 e2 rows HistoryFull same good h = absurd h
refused_leaves old e1 e2 rows (Foreign entries) same good h = absurd h

-- A WHOLE ENGINE stays whole when a turn went out and came back
unbroken_set : (ks : List PlainRemains) (i n : ℕ) (p : PlainQuery) (answers : List (ℕ × Row)) (upto : ℕ) → get_or (set ks i (Running p)) n Dropped ≡ Broken answers upto → get_or ks n Dropped ≡ Broken answers upto
unbroken_set [] i n p answers upto h = h
unbroken_set (k ∷ ks) zero zero p answers upto h = absurd (cc)
unbroken_set (k ∷ ks) zero (suc n) p answers upto h = h
unbroken_set (k ∷ ks) (suc i) zero p answers upto h = h
unbroken_set (k ∷ ks) (suc i) (suc n) p answers upto h = unbroken_set ks i n p answers upto h

module _ (e1 e2 : PlainEngine) (rows : ℕ) (t : Turn) (whole : IsWholeEngine e1) (one : IsDone rows e1 (Ran t) e2) where
  abbrev l : Lease
  l = lease_of t

  abbrev home : IsCallStep one.0 (history.Finishes l) e2
  home = one.1.1

  back : ComesBack one.0 l home.1.0 home.1.1.0 home.1.1.1.0 e2
  back = home.1.1.1.1

  none_left : e2.leases ≡ []
  none_left =
      comes_leases one.0 e2 l home.1.0 home.1.1.0 home.1.1.1.0 back ∙ ap (λ e. others l.number e.leases) one.1.0.after ∙ ap (λ ls. others l.number (ls ++ l ∷ [])) whole.returned ∙ last_left l

  none_broken : (n : ℕ) (answers : List (ℕ × Row)) (upto : ℕ) → remains_at e2 n ≡ Broken answers upto → ⊥
  none_broken n answers upto h =
      let remains : e2.queries ≡ set e1.queries l.query (Running home.1.1.1.0) = comes_queries one.0 e2 l home.1.0 home.1.1.0 home.1.1.1.0 back ∙ ap (λ e. set e.queries l.query (Running home.1.1.1.0)) one.1.0.after in
      whole.unbroken n answers upto (unbroken_set e1.queries l.query n home.1.1.1.0 answers upto (ap (λ ks. get_or ks n Dropped) (sym remains) ∙ h))

  turn_whole : IsWholeEngine e2
  turn_whole = record { returned = none_left; unbroken = none_broken }

-- and when a query passed
pass_whole : (e1 e2 : PlainEngine) (n b : ℕ) → IsWholeEngine e1 → HasPassed e1 n b e2 → IsWholeEngine e2
pass_whole e1 e2 n b whole h = record {
  returned = ap (λ e. e.leases) h.is ∙ whole.returned;
  unbroken = λ k answers upto is. whole.unbroken k answers upto (unbroken_set e1.queries n k h.after answers upto (ap (λ e. remains_at e k) (sym h.is) ∙ is));
}

done_whole : (e1 e2 : PlainEngine) (rows : ℕ) (s : Step) → IsWholeEngine e1 → IsDone rows e1 s e2 → IsWholeEngine e2
done_whole e1 e2 rows (Ran t) whole one = turn_whole e1 e2 rows t whole one
done_whole e1 e2 rows (Passed n b) whole one = pass_whole e1 e2 n b whole one

have_whole : (rows : ℕ) (steps : List Step) (e1 e2 : PlainEngine) → IsWholeEngine e1 → HaveRun rows e1 steps e2 → IsWholeEngine e2
have_whole rows [] e1 e2 whole ran = subst IsWholeEngine (sym ran) whole
have_whole rows (s ∷ steps) e1 e2 whole ran = have_whole rows steps ran.0 e2 (done_whole e1 ran.0 rows s whole ran.1.0) ran.1.1

pub steps_whole : (e1 e2 : PlainEngine) (rows : ℕ) → IsWholeEngine e1 → OneOrMoreHaveRun rows e1 e2 → IsWholeEngine e2
steps_whole e1 e2 rows whole h = done_whole h.0 e2 rows h.1.1.0 (have_whole rows h.1.0.0 e1 h.0 whole h.1.0.1) h.1.1.1

-- and when memory ran out, or a step was refused
last_whole : (e1 e2 : PlainEngine) (rows : ℕ) → IsWholeEngine e1 → RanOutOfMemory rows e1 e2 → IsWholeEngine e2
last_whole e1 e2 rows whole (inl h) = subst IsWholeEngine (sym h.2) whole
last_whole e1 e2 rows whole (inr h) = done_whole e1 e2 h.count (Ran h.ran.0) whole h.ran.1

pub refused_whole : (e1 e2 : PlainEngine) (rows : ℕ) (f : Fault) → IsWholeEngine e1 → RunsFirst e1 rows (Err f) e2 → IsWholeEngine e2
refused_whole e1 e2 rows OutOfMemory whole h = last_whole h.0 e2 rows (have_whole rows h.1.0.0 e1 h.0 whole h.1.0.1) h.1.1
refused_whole e1 e2 rows TooManyLeases whole h = subst IsWholeEngine (sym h.0) whole
refused_whole e1 e2 rows (Query x) whole h = absurd h
refused_whole e1 e2 rows BadName whole h = absurd h
refused_whole e1 e2 rows NameTaken whole h = absurd h
refused_whole e1 e2 rows BadColumns whole h = absurd h
refused_whole e1 e2 rows TooMany whole h = absurd h
refused_whole e1 e2 rows UnknownStream whole h = absurd h
refused_whole e1 e2 rows UnknownQuery whole h = absurd h
refused_whole e1 e2 rows BadWidth whole h = absurd h
refused_whole e1 e2 rows ValueRange whole h = absurd h
refused_whole e1 e2 rows InstantRange whole h = absurd h
refused_whole e1 e2 rows Late whole h = absurd h
refused_whole e1 e2 rows Backward whole h = absurd h
refused_whole e1 e2 rows Leap whole h = absurd h
refused_whole e1 e2 rows StreamFull whole h = absurd h
refused_whole e1 e2 rows BadLimit whole h = absurd h
refused_whole e1 e2 rows fault.Broken whole h = absurd h
refused_whole e1 e2 rows UnknownLease whole h = absurd h
refused_whole e1 e2 rows Stranger whole h = absurd h
refused_whole e1 e2 rows HistoryFull whole h = absurd h
refused_whole e1 e2 rows (Foreign entries) whole h = absurd h
