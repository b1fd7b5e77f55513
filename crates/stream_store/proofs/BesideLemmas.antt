-- Calls on streams as calls on each machine that has them.
use Rattle.std.proofs.Common.{◌≡◌, ◌<◌, ◌∙◌, ℕ, ℤ, suc, nat_abs, ◌+◌, ◌++◌, nat_lt, Bool, true, false, not, Option, Some, None, is_some, Result, Ok, Err, OnOk, OnErr, List, [], ◌∷◌, length, get_or, nat_le, refl, sym, ap, subst}
use Rattle.std.specs.Prelude.{slice_get}
use Rattle.std.specs.List.{list_any}
use Rattle.std.proofs.lemmas.Option.{slice_get_read}
use Rattle.values.specs.Row.{Row}
use Rattle.values.specs.Window.{Element}
use Rattle.op_queue.specs.Cursors.{GainsClosed}
use Rattle.reference.specs.Machine.{Stream, Registered, Machine, stream_named}
use Rattle.reference.specs.Commands.{first_fault, declare_fault, declared, append_tests, appended, closed_to, change, are_columns, is_crowded, is_instant, of_stream, rows_tests, Declare, Heartbeat}
use Rattle.names.specs.Faults.{first_of}
use Rattle.cql_reader.specs.Lexis.{is_name}
use Rattle.reference.specs.declared.limits.TheConstants.{MAX_STREAMS}
use Rattle.reference.specs.declared.fault.Fault.{Fault}
use Rattle.reference.specs.declared.fault.Fault.TheVariants.{Query, BadName, NameTaken, BadColumns, TooMany, UnknownStream, UnknownQuery, BadWidth, ValueRange, InstantRange, Late, Backward, Leap, StreamFull, BadLimit, Broken, UnknownLease, Stranger, TooManyLeases, HistoryFull, OutOfMemory, Foreign}
use Rattle.reference.specs.Places.{machine_of}
use Rattle.reference.specs.Told.{IsTold}
use Rattle.reference.specs.World.{World, Step, Does, Looks, unless, declare_step, append_step}
use Rattle.reference.proofs.StreamLemmas.{accepted_each, first_part, none_first, none_later, passed_there, stopped_there}
use Rattle.reference.proofs.StepLemmas.{refused, done, lacked}
use Rattle.stream_store.specs.Beside.{beside, DoesBeside, DoesBesideSuch, IsLimit, limited_tests}
use Rattle.stream_store.specs.Closing.{closed_of}
use Rattle.stream_store.specs.Gains.{closing_of, closing_at, closing_in, unless_faulty, QueuesGain}

nothing : {X : Type 0} (o : Option X) → is_some o ≡ false → o ≡ None
nothing None h = refl
nothing (Some x) h = cc

-- the name of an accepted declaration is free
pub name_free : (m : Machine) (name : List ℕ) (columns : List (List ℕ)) (start : ℤ) → declare_fault m name columns start ≡ None → stream_named m name ≡ None
name_free m name columns start h =
    let last : List (Bool × Fault) = (not (are_columns columns), BadColumns) ∷ (not (is_instant start), InstantRange) ∷ (nat_le MAX_STREAMS (length m.streams), TooMany) ∷ [] in
    nothing (stream_named m name) (none_first (is_some (stream_named m name)) NameTaken last (none_later (not (is_name name)) BadName ((is_some (stream_named m name), NameTaken) ∷ last) h))

-- ---- a step on each machine that has the streams
module _ {A B : Type 0} (view : A → B) (step : World → Step B) (old next : List Stream) (a : B) (first : Option Fault)
    (is : (qs : List Registered) (ws : List (List (ℕ × Row))) (us : List ℕ) → step (beside qs ws us old) ≡ unless first (beside qs ws us old) a (beside qs ws us next)) where
  pub beside_refused : (f : Fault) → Some f ≡ first → IsTold f → DoesBeside view step old (Err f) old
  beside_refused f e t = record {
    does = λ qs ws us. subst (λ (s : Step B). Does view (beside qs ws us old) s (Err f) (beside qs ws us old)) (sym (is qs ws us)) (refused view (beside qs ws us old) (beside qs ws us next) a first f e t);
  }

  pub beside_lacked : (new : List Stream) → None ≡ first → new ≡ old → DoesBeside view step old (Err OutOfMemory) new
  beside_lacked new e same = record {
    does = λ qs ws us. subst (λ (s : Step B). Does view (beside qs ws us old) s (Err OutOfMemory) (beside qs ws us new)) (sym (is qs ws us))
        (lacked view (beside qs ws us old) (beside qs ws us next) a first (beside qs ws us new) e (ap (beside qs ws us) same));
  }

  pub beside_done : (r : A) (new : List Stream) → None ≡ first → view r ≡ a → new ≡ next → DoesBeside view step old (Ok r) new
  beside_done r new e v same = record {
    does = λ qs ws us. subst (λ (s : Step B). Does view (beside qs ws us old) s (Ok r) (beside qs ws us new)) (sym (is qs ws us))
        (done view (beside qs ws us old) (beside qs ws us next) a first r (beside qs ws us new) e v (ap (beside qs ws us) same));
  }

-- ---- the same beside such queries
module _ {A B : Type 0} (Such : List Registered → Type 0) (view : A → B) (step : World → Step B) (old next : List Stream) (a : B) (first : Option Fault)
    (is : (qs : List Registered) (ws : List (List (ℕ × Row))) (us : List ℕ) → Such qs → step (beside qs ws us old) ≡ unless first (beside qs ws us old) a (beside qs ws us next)) where
  pub such_refused : (f : Fault) → Some f ≡ first → IsTold f → DoesBesideSuch Such view step old (Err f) old
  such_refused f e t = record {
    does = λ qs ws us h. subst (λ (s : Step B). Does view (beside qs ws us old) s (Err f) (beside qs ws us old)) (sym (is qs ws us h)) (refused view (beside qs ws us old) (beside qs ws us next) a first f e t);
  }

  pub such_lacked : (new : List Stream) → None ≡ first → new ≡ old → DoesBesideSuch Such view step old (Err OutOfMemory) new
  such_lacked new e same = record {
    does = λ qs ws us h. subst (λ (s : Step B). Does view (beside qs ws us old) s (Err OutOfMemory) (beside qs ws us new)) (sym (is qs ws us h))
        (lacked view (beside qs ws us old) (beside qs ws us next) a first (beside qs ws us new) e (ap (beside qs ws us) same));
  }

  pub such_done : (r : A) (new : List Stream) → None ≡ first → view r ≡ a → new ≡ next → DoesBesideSuch Such view step old (Ok r) new
  such_done r new e v same = record {
    does = λ qs ws us h. subst (λ (s : Step B). Does view (beside qs ws us old) s (Ok r) (beside qs ws us new)) (sym (is qs ws us h))
        (done view (beside qs ws us old) (beside qs ws us next) a first r (beside qs ws us new) e v (ap (beside qs ws us) same));
  }

pub declare_is : (old : List Stream) (name : List ℕ) (columns : List (List ℕ)) (start : ℤ) (qs : List Registered) (ws : List (List (ℕ × Row))) (us : List ℕ)
    → declare_step (beside qs ws us old) name columns start ≡ unless (first_fault (machine_of old) (Declare name columns start)) (beside qs ws us old) (length old) (beside qs ws us (declared (machine_of old) name columns start).streams)
unfolding declare_step
declare_is old name columns start qs ws us = refl

-- AN APPEND by the row limit of the machine's queries
same_last : (tests : List (Bool × Fault)) (c d : Bool) (f : Fault) → (first_of tests ≡ None → c ≡ d) → first_of (tests ++ (c, f) ∷ []) ≡ first_of (tests ++ (d, f) ∷ [])
same_last [] c d f h = ap (λ (b : Bool). first_of ((b, f) ∷ [])) (h refl)
same_last ((true, g) ∷ tests) c d f h = refl
same_last ((false, g) ∷ tests) c d f h = same_last tests c d f h

limited_first : (n most : ℕ) (rows : List (ℤ × List (Option ℤ))) (qs : List Registered) → IsLimit n most qs → (o : Option Stream) → of_stream (rows_tests qs n rows) o ≡ of_stream (limited_tests most rows) o
limited_first n most rows qs limit None = refl
limited_first n most rows qs limit (Some s) =
    same_last (append_tests s rows) (list_any (is_crowded n (s.arrivals + length rows)) qs) (nat_lt most (s.arrivals + length rows)) StreamFull
    (λ none. limit.crowds (s.arrivals + length rows) (accepted_each s rows none).3)

pub append_is : (old : List Stream) (n most : ℕ) (rows : List (ℤ × List (Option ℤ))) (qs : List Registered) (ws : List (List (ℕ × Row))) (us : List ℕ) → IsLimit n most qs
    → append_step (beside qs ws us old) n rows ≡ unless (of_stream (limited_tests most rows) (slice_get old n)) (beside qs ws us old) tt (beside qs ws us (change n (appended rows) old))
unfolding append_step
append_is old n most rows qs ws us limit =
    ap (λ (o : Option Fault). unless o (beside qs ws us old) tt (beside qs ws us (change n (appended rows) old))) (limited_first n most rows qs limit (slice_get old n))

-- the tests with the limit, one part behind the other
pub refused_limited : (most : ℕ) (rows : List (ℤ × List (Option ℤ))) (s : Stream) (f : Fault) → Some f ≡ first_of (append_tests s rows) → Some f ≡ first_of (limited_tests most rows s)
refused_limited most rows s f h = stopped_there (append_tests s rows) ((nat_lt most (s.arrivals + length rows), StreamFull) ∷ []) f h

pub passed_limited : (most k : ℕ) (rows : List (ℤ × List (Option ℤ))) (s : Stream) (o : Option Fault) → None ≡ first_of (append_tests s rows) → k ≡ s.arrivals + length rows → o ≡ first_of ((nat_lt most k, StreamFull) ∷ [])
    → o ≡ first_of (limited_tests most rows s)
passed_limited most k rows s o h many e =
    e
    ∙ ap (λ (m : ℕ). first_of ((nat_lt most m, StreamFull) ∷ [])) many
    ∙ passed_there (append_tests s rows) ((nat_lt most (s.arrivals + length rows), StreamFull) ∷ []) h

-- what passes with the limit passes without
pub unlimited : (most : ℕ) (rows : List (ℤ × List (Option ℤ))) (o : Option Stream) → of_stream (limited_tests most rows) o ≡ None → of_stream (λ s. append_tests s rows) o ≡ None
unlimited most rows None h = cc
unlimited most rows (Some s) h = first_part (append_tests s rows) ((nat_lt most (s.arrivals + length rows), StreamFull) ∷ []) h

-- ---- one stream changed
pub kept_name : {A E : Type 0} (r : Result A E) (f : Stream → Stream) (new old : Stream) → (f old).name ≡ old.name → OnOk r (new ≡ f old) → OnErr r (new ≡ old) → new.name ≡ old.name
kept_name (Ok a) f new old same ok err = ap (λ (s : Stream). s.name) ok ∙ same
kept_name (Err e) f new old same ok err = ap (λ (s : Stream). s.name) err

pub gained : {A E : Type 0} (r : Result A E) (xs : List Stream) (n : ℕ) (at : ℤ) (old new : Stream) → n < length xs → old ≡ get_or xs n old → OnOk r (new ≡ closed_to at old)
    → OnOk r (GainsClosed (closed_of old) (closing_of at old) (suc (nat_abs at)) (closed_of new)) → OnOk r (QueuesGain (slice_get xs n) at)
gained (Err e) xs n at old new lt same ok gains = tt
gained (Ok a) xs n at old new lt same ok gains =
    subst (λ (o : Option Stream). QueuesGain o at) (sym (slice_get_read xs (length xs) n old refl lt same))
    (subst (λ (s : Stream). GainsClosed (closed_of old) (closing_of at old) (suc (nat_abs at)) (closed_of s)) ok gains)

-- ---- a look
looked_told : {A : Type 0} (view : A → List Element) (es : List Element) (f : Fault) → IsTold f → Looks view (unless_faulty (Some f) es) (Err f)
looked_told view es (Query fault) t = refl
looked_told view es BadName t = refl
looked_told view es NameTaken t = refl
looked_told view es BadColumns t = refl
looked_told view es TooMany t = refl
looked_told view es UnknownStream t = refl
looked_told view es UnknownQuery t = refl
looked_told view es BadWidth t = refl
looked_told view es ValueRange t = refl
looked_told view es InstantRange t = refl
looked_told view es Late t = refl
looked_told view es Backward t = refl
looked_told view es Leap t = refl
looked_told view es StreamFull t = refl
looked_told view es BadLimit t = refl
looked_told view es Broken t = refl
looked_told view es UnknownLease t = refl
looked_told view es Stranger t = refl
looked_told view es HistoryFull t = refl
looked_told view es (Foreign entries) t = refl
looked_told view es TooManyLeases t = refl
looked_told view es OutOfMemory t = absurd t

module _ {A : Type 0} (view : A → List Element) (streams : List Stream) (n : ℕ) (at : ℤ) where
  pub closing_refused : (f : Fault) → Some f ≡ first_fault (machine_of streams) (Heartbeat n at) → IsTold f → Looks view (closing_in streams n at) (Err f)
  unfolding closing_in
  closing_refused f e t = subst (λ (o : Option Fault). Looks view (unless_faulty o (closing_at streams n at)) (Err f)) e (looked_told view (closing_at streams n at) f t)

  pub closing_lacked : None ≡ first_fault (machine_of streams) (Heartbeat n at) → Looks view (closing_in streams n at) (Err OutOfMemory)
  unfolding closing_in
  closing_lacked e = subst (λ (o : Option Fault). Looks view (unless_faulty o (closing_at streams n at)) (Err OutOfMemory)) e tt

pub closing_found : (streams : List Stream) (n : ℕ) (at : ℤ) (es : List Element) → None ≡ first_fault (machine_of streams) (Heartbeat n at) → es ≡ closing_at streams n at → closing_in streams n at ≡ Ok es
unfolding closing_in
closing_found streams n at es e same = ap (λ o. unless_faulty o (closing_at streams n at)) (sym e) ∙ ap (λ xs. Ok xs) (sym same)
