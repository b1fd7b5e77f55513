-- Why a command is refused: what the engine's clauses say of a call that answers a fault.
use Rattle.std.proofs.Common.{◌≡◌, ◌⊎◌, inl, inr, ℕ, ℤ, Bool, true, false, not, ◌&&◌, Option, Some, None, Result, Ok, Err, List, [], ◌∷◌, ◌++◌, refl, sym, ap, subst}
use Rattle.std.specs.List.{list_all}
use Rattle.std.specs.Prelude.{⊤, slice_get}
use Rattle.names.specs.Faults.{first_of}
use Rattle.reference.specs.Commands.{Command, Declare, Register, Append, Heartbeat, Take, Drop, Found, declare_tests, first_fault, found, heartbeat_tests, of_query, of_stream, query_tests, register_tests, rows_tests, take_tests}
use Rattle.reference.specs.Machine.{Machine, Registered, Stream, query_at}
use Rattle.reference.specs.World.{Does, Step, World, append_step, declare_step, drop_step, heartbeat_step, register_step, unless}
use Rattle.reference.specs.declared.fault.Fault.{Fault}
use Rattle.reference.specs.declared.fault.Fault.TheVariants.{Query, BadName, NameTaken, BadColumns, TooMany, UnknownStream, UnknownQuery, BadWidth, ValueRange, InstantRange, Late, Backward, Leap, StreamFull, BadLimit, Broken, UnknownLease, Stranger, TooManyLeases, HistoryFull, OutOfMemory, Foreign}
use Rattle.reference.specs.declared.fault.QueryFault.{QueryFault}
use Rattle.laws_engine.specs.Engines.{PlainEngine, world_of}
use Rattle.leases.specs.Takes.{Takes}
use Rattle.hub.specs.Calls.{IsFirst, IsSpent, Refused}

-- THE FAULTS of a machine's tests are none of a hub's own, and none of them says that a query is broken
abbrev is_beyond : Fault → Bool
is_beyond Broken = true
is_beyond HistoryFull = true
is_beyond (Foreign n) = true
is_beyond f = false

abbrev all_within : List (Bool × Fault) → Bool
all_within tests = list_all (λ t. not (is_beyond t.1)) tests

head_within : (b rest : Bool) → (not b && rest) ≡ true → (b ≡ false) × (rest ≡ true)
head_within true rest h = absurd (cc)
head_within false rest h = (refl, h)

some_is : (f g : Fault) (o : Option Fault) → o ≡ Some f → o ≡ Some g → f ≡ g
some_is f g o p q = cc

none_beyond : (tests : List (Bool × Fault)) (f : Fault) → all_within tests ≡ true → first_of tests ≡ Some f → is_beyond f ≡ false
none_beyond [] f all h = absurd (cc)
none_beyond ((true, g) ∷ tests) f all h = subst (λ x. is_beyond x ≡ false) (some_is g f (Some g) refl h) (head_within (is_beyond g) (all_within tests) all).0
none_beyond ((false, g) ∷ tests) f all h = none_beyond tests f (head_within (is_beyond g) (all_within tests) all).1 h

text_within : (r : Result Found QueryFault) → all_within (query_tests r) ≡ true
text_within (Ok f) = refl
text_within (Err fault) = refl

of_stream_within : (tests : Stream → List (Bool × Fault)) (o : Option Stream) (f : Fault) → ((s : Stream) → all_within (tests s) ≡ true) → of_stream tests o ≡ Some f → is_beyond f ≡ false
of_stream_within tests None f all h = subst (λ x. is_beyond x ≡ false) (some_is UnknownStream f (Some UnknownStream) refl h) refl
of_stream_within tests (Some s) f all h = none_beyond (tests s) f (all s) h

of_query_within : (tests : List (Bool × Fault)) (o : Option Registered) (f : Fault) → all_within tests ≡ true → of_query tests o ≡ Some f → is_beyond f ≡ false
of_query_within tests None f all h = subst (λ x. is_beyond x ≡ false) (some_is UnknownQuery f (Some UnknownQuery) refl h) refl
of_query_within tests (Some q) f all h = none_beyond tests f all h

within : (m : Machine) (c : Command) (f : Fault) → first_fault m c ≡ Some f → is_beyond f ≡ false
within m (Declare name columns start) f h = none_beyond (declare_tests _ _ name columns start) f refl h
within m (Register name text chart) f h = none_beyond (register_tests m name ++ query_tests (found m text chart)) f (text_within (found m text chart)) h
within m (Append n rows) f h = of_stream_within (rows_tests m.queries n rows) (slice_get m.streams n) f (λ s. refl) h
within m (Heartbeat n at) f h = of_stream_within (λ s. heartbeat_tests s at) (slice_get m.streams n) f (λ s. refl) h
within m (Take n limit) f h = of_query_within (take_tests limit) (query_at m n) f refl h
within m (Drop n) f h = of_query_within [] (query_at m n) f refl h

beyond : (m : Machine) (c : Command) (f : Fault) → is_beyond f ≡ true → first_fault m c ≡ Some f → ⊥
beyond m c f is h = let k = within m c f h in absurd (cc)

-- THE FIRST TEST that fails
abbrev Line : PlainEngine → Command → Fault → Type 0
Line e c f = IsFirst (first_fault e.machine c) (IsSpent e c) f

first_line : (e : PlainEngine) (c : Command) (f : Fault) → first_fault e.machine c ≡ Some f → Line e c f
first_line e c (Query x) h = h
first_line e c BadName h = h
first_line e c NameTaken h = h
first_line e c BadColumns h = h
first_line e c TooMany h = h
first_line e c UnknownStream h = h
first_line e c UnknownQuery h = h
first_line e c BadWidth h = h
first_line e c ValueRange h = h
first_line e c InstantRange h = h
first_line e c Late h = h
first_line e c Backward h = h
first_line e c Leap h = h
first_line e c StreamFull h = h
first_line e c BadLimit h = h
first_line e c Broken h = absurd (beyond e.machine c Broken refl h)
first_line e c UnknownLease h = h
first_line e c Stranger h = h
first_line e c TooManyLeases h = h
first_line e c HistoryFull h = absurd (beyond e.machine c HistoryFull refl h)
first_line e c OutOfMemory h = tt
first_line e c (Foreign n) h = absurd (beyond e.machine c (Foreign n) refl h)

first_refused : (e : PlainEngine) (c : Command) (f : Fault) → first_fault e.machine c ≡ Some f → Refused e c f
first_refused e c f h = record { line = first_line e c f h }

-- a call that was refused
faulted : {A B : Type 0} (view : A → B) (old : World) (step : Step B) (f : Fault) (new : World) → Does view old step (Err f) new → (f ≡ OutOfMemory) ⊎ (step ≡ (Err f, new))
faulted view old step (Query x) new h = inr h
faulted view old step BadName new h = inr h
faulted view old step NameTaken new h = inr h
faulted view old step BadColumns new h = inr h
faulted view old step TooMany new h = inr h
faulted view old step UnknownStream new h = inr h
faulted view old step UnknownQuery new h = inr h
faulted view old step BadWidth new h = inr h
faulted view old step ValueRange new h = inr h
faulted view old step InstantRange new h = inr h
faulted view old step Late new h = inr h
faulted view old step Backward new h = inr h
faulted view old step Leap new h = inr h
faulted view old step StreamFull new h = inr h
faulted view old step BadLimit new h = inr h
faulted view old step Broken new h = inr h
faulted view old step UnknownLease new h = inr h
faulted view old step Stranger new h = inr h
faulted view old step TooManyLeases new h = inr h
faulted view old step HistoryFull new h = inr h
faulted view old step OutOfMemory new h = inl refl
faulted view old step (Foreign n) new h = inr h

ok_or_err : {A : Type 0} (a : A) (f : Fault) (r : Result A Fault) → r ≡ Ok a → r ≡ Err f → ⊥
ok_or_err a f r p q = absurd (cc)

err_is : {A : Type 0} (f g : Fault) (r : Result A Fault) → r ≡ Err f → r ≡ Err g → Some f ≡ Some g
err_is f g r p q = cc

first_of_step : {A : Type 0} (first : Option Fault) (old made new : World) (a : A) (f : Fault) → (unless first old a made).0 ≡ Err f → first ≡ Some f
first_of_step {A = A} None old made new a f h = absurd (ok_or_err a f (Ok a) refl h)
first_of_step {A = A} (Some g) old made new a f h = err_is g f (Err g) refl h

refused_by : {A B : Type 0} (view : A → B) (e : PlainEngine) (c : Command) (old made new : World) (a : B) (f : Fault)
    → Does view old (unless (first_fault e.machine c) old a made) (Err f) new → Refused e c f
refused_by {B = B} view e c old made new a f h =
    elim (faulted view old (unless (first_fault e.machine c) old a made) f new h) [
      | inl wants ↦ subst (λ g. Refused e c g) (sym wants) (record { line = tt })
      | inr step ↦ first_refused e c f (first_of_step (first_fault e.machine c) old made new a f (ap (λ (s : Step B). s.0) step))
    ]

module _ (e : PlainEngine) (new : World) (f : Fault) where
  pub declare_refused : (name : List ℕ) (columns : List (List ℕ)) (start : ℤ) → Does (λ (n : ℕ). n) (world_of e) (declare_step (world_of e) name columns start) (Err f) new
      → Refused e (Declare name columns start) f
  unfolding declare_step
  declare_refused name columns start h = refused_by (λ (n : ℕ). n) e (Declare name columns start) (world_of e) _ new _ f h

  pub register_refused : (name text : List ℕ) (chart : Option (List (ℤ × ℤ))) → Does (λ (n : ℕ). n) (world_of e) (register_step (world_of e) name text chart) (Err f) new
      → Refused e (Register name text chart) f
  unfolding register_step
  register_refused name text chart h = refused_by (λ (n : ℕ). n) e (Register name text chart) (world_of e) _ new _ f h

  pub append_refused : (s : ℕ) (rows : List (ℤ × List (Option ℤ))) → Does {A = ⊤} (λ u. u) (world_of e) (append_step (world_of e) s rows) (Err f) new → Refused e (Append s rows) f
  unfolding append_step
  append_refused s rows h = refused_by {A = ⊤} (λ u. u) e (Append s rows) (world_of e) _ new _ f h

  pub heartbeat_refused : (s : ℕ) (at : ℤ) → Does {A = ⊤} (λ u. u) (world_of e) (heartbeat_step (world_of e) s at) (Err f) new → Refused e (Heartbeat s at) f
  unfolding heartbeat_step
  heartbeat_refused s at h = refused_by {A = ⊤} (λ u. u) e (Heartbeat s at) (world_of e) _ new _ f h

pub drop_refused : (e : PlainEngine) (f : Fault) (n : ℕ) → Err f ≡ (drop_step (world_of e) n).0 → Refused e (Drop n) f
unfolding drop_step
drop_refused e f n h = first_refused e (Drop n) f (first_of_step (first_fault e.machine (Drop n)) (world_of e) _ (world_of e) tt f (sym h))

take_line : {A : Type 0} (view : A → List (ℤ × List (Option ℤ))) (e new : PlainEngine) (n : ℕ) (limit : ℤ) (f : Fault) → Takes view e n limit (Err f) new → Line e (Take n limit) f
take_line view e new n limit (Query x) h = h.0
take_line view e new n limit BadName h = h.0
take_line view e new n limit NameTaken h = h.0
take_line view e new n limit BadColumns h = h.0
take_line view e new n limit TooMany h = h.0
take_line view e new n limit UnknownStream h = h.0
take_line view e new n limit UnknownQuery h = h.0
take_line view e new n limit BadWidth h = h.0
take_line view e new n limit ValueRange h = h.0
take_line view e new n limit InstantRange h = h.0
take_line view e new n limit Late h = h.0
take_line view e new n limit Backward h = h.0
take_line view e new n limit Leap h = h.0
take_line view e new n limit StreamFull h = h.0
take_line view e new n limit BadLimit h = h.0
take_line view e new n limit Broken h = (h.0, h.1)
take_line view e new n limit UnknownLease h = h.0
take_line view e new n limit Stranger h = h.0
take_line view e new n limit TooManyLeases h = h.0
take_line view e new n limit HistoryFull h = absurd (beyond e.machine (Take n limit) HistoryFull refl h.0)
take_line view e new n limit OutOfMemory h = tt
take_line view e new n limit (Foreign k) h = absurd (beyond e.machine (Take n limit) (Foreign k) refl h.0)

pub take_refused : {A : Type 0} (view : A → List (ℤ × List (Option ℤ))) (e new : PlainEngine) (n : ℕ) (limit : ℤ) (f : Fault) → Takes view e n limit (Err f) new → Refused e (Take n limit) f
take_refused view e new n limit f h = record { line = take_line view e new n limit f h }
