-- Streams that are declared, lengthened and closed under an engine: what its calls say of its streams, and that it stays sound.
use Rattle.std.proofs.Common.{◌≡◌, ℕ, ℤ, Option, Some, None, Result, Ok, Err, OnOk, OnErr, List, length, refl, sym, ap, subst}
use Rattle.std.specs.Prelude.{⊤}
use Rattle.reference.specs.Commands.{Append, Command, Declare, after, first_fault}
use Rattle.reference.specs.Machine.{Stream}
use Rattle.reference.specs.declared.fault.Fault.{Fault}
use Rattle.reference.specs.declared.fault.Fault.TheVariants.{Query, BadName, NameTaken, BadColumns, TooMany, UnknownStream, UnknownQuery, BadWidth, ValueRange, InstantRange, Late, Backward, Leap, StreamFull, BadLimit, Broken, UnknownLease, Stranger, TooManyLeases, HistoryFull, OutOfMemory, Foreign}
use Rattle.reference.specs.World.{Does, Step, World, append_step, declare_step, unless}
use Rattle.laws_queries.specs.Registrations.{HaveColumnNames}
use Rattle.laws_queries.proofs.NewestLemmas.{registrations_stand}
use Rattle.laws_engine.specs.Bounds.{HaveFewClosed}
use Rattle.laws_engine.proofs.InstantLemmas.{few_closed_stand}
use Rattle.laws_engine.specs.Calls.{appended, declared}
use Rattle.laws_engine.specs.Engines.{PlainEngine, world_of}
use Rattle.laws_engine.specs.Good.{GoodEngine}
use Rattle.laws_engine.proofs.AppendedLemmas.{append_good}
use Rattle.laws_engine.proofs.DeclaredLemmas.{declare_good}
use Rattle.leases.specs.Shown.{engine_in}
use Rattle.leases.specs.Sound.{IsSound}
use Rattle.leases.specs.declared.state.EngineState.{EngineState}

-- WHAT A STEP SAYS: accepted, no test failed; refused, all is as it was
module _ {A B : Type 0} (view : A → B) (old next : World) (b : B) where
  went : (first : Option Fault) (a : A) (new : World) → Does view old (unless first old b next) (Ok a) new → (first ≡ None) × (new ≡ next)
  went None a new h = (refl, sym (ap (λ (s : Step B). s.1) h))
  went (Some f) a new h = absurd (let g : Err f ≡ Ok (view a) = ap (λ (s : Step B). s.0) h in cc)

  as_was : (first : Option Fault) (f : Fault) (new : World) → unless first old b next ≡ (Err f, new) → new ≡ old
  as_was None f new h = absurd (let g : Ok b ≡ Err f = ap (λ (s : Step B). s.0) h in cc)
  as_was (Some g) f new h = sym (ap (λ (s : Step B). s.1) h)

  stayed : (first : Option Fault) (f : Fault) (new : World) → Does view old (unless first old b next) (Err f) new → new ≡ old
  stayed first (Query fault) new h = as_was first (Query fault) new h
  stayed first BadName new h = as_was first BadName new h
  stayed first NameTaken new h = as_was first NameTaken new h
  stayed first BadColumns new h = as_was first BadColumns new h
  stayed first TooMany new h = as_was first TooMany new h
  stayed first UnknownStream new h = as_was first UnknownStream new h
  stayed first UnknownQuery new h = as_was first UnknownQuery new h
  stayed first BadWidth new h = as_was first BadWidth new h
  stayed first ValueRange new h = as_was first ValueRange new h
  stayed first InstantRange new h = as_was first InstantRange new h
  stayed first Late new h = as_was first Late new h
  stayed first Backward new h = as_was first Backward new h
  stayed first Leap new h = as_was first Leap new h
  stayed first StreamFull new h = as_was first StreamFull new h
  stayed first BadLimit new h = as_was first BadLimit new h
  stayed first Broken new h = as_was first Broken new h
  stayed first UnknownLease new h = as_was first UnknownLease new h
  stayed first Stranger new h = as_was first Stranger new h
  stayed first HistoryFull new h = as_was first HistoryFull new h
  stayed first (Foreign entries) new h = as_was first (Foreign entries) new h
  stayed first TooManyLeases new h = as_was first TooManyLeases new h
  stayed first OutOfMemory new h = h.0

-- THE ENGINE with other streams
abbrev pub over_streams : PlainEngine → List Stream → PlainEngine
over_streams e streams = record e { machine = record e.machine { streams = streams } }

-- after a command
abbrev pub commanded : PlainEngine → Command → PlainEngine
commanded e c = record e { machine = after e.machine c 0 }

abbrev Did : {A B : Type 0} → (A → B) → B → PlainEngine → Command → Result A Fault → List Stream → Type 0
Did view b e c r streams = Does view (world_of e) (unless (first_fault e.machine c) (world_of e) b (record (world_of e) { machine = after e.machine c 0 })) r (world_of (over_streams e streams))

module _ {A B : Type 0} (view : A → B) (b : B) (e : PlainEngine) (c : Command) (streams : List Stream) where
  accepted : (a : A) → Did view b e c (Ok a) streams → (first_fault e.machine c ≡ None) × (over_streams e streams ≡ commanded e c)
  accepted a d =
      let w = went view (world_of e) (record (world_of e) { machine = after e.machine c 0 }) b (first_fault e.machine c) a (world_of (over_streams e streams)) d in
      (w.0, ap (λ (x : World). record e { machine = x.machine }) w.1)

  refused : (f : Fault) → Did view b e c (Err f) streams → over_streams e streams ≡ e
  refused f d =
      ap (λ (x : World). record e { machine = x.machine }) (stayed view (world_of e) (record (world_of e) { machine = after e.machine c 0 }) b (first_fault e.machine c) f (world_of (over_streams e streams)) d)

  changes : (r : Result A Fault) → Did view b e c r streams → OnOk r (over_streams e streams ≡ commanded e c)
  changes (Ok a) d = (accepted a d).1
  changes (Err f) d = tt

  changes_not : (r : Result A Fault) → Did view b e c r streams → OnErr r (over_streams e streams ≡ e)
  changes_not (Ok a) d = tt
  changes_not (Err f) d = refused f d

-- IT STAYS SOUND
abbrev pub at_streams : EngineState → List Stream → EngineState
at_streams s streams = record s { streams = streams }

pub sound_over : (s : EngineState) (streams : List Stream) → IsSound s → GoodEngine (over_streams (engine_in s) streams) → HaveColumnNames (over_streams (engine_in s) streams).machine
    → HaveFewClosed (over_streams (engine_in s) streams).machine → IsSound (at_streams s streams)
sound_over s streams h good columns closed = record { good = good; kinds = λ g i. h.kinds g i; few = h.few; numbers = h.numbers; named = h.named; gone = h.gone; columns = columns; closed = closed; readers = h.readers }

stays_sound : {A B : Type 0} (view : A → B) (b : B) (s : EngineState) (c : Command) (streams : List Stream) → IsSound s → (first_fault (engine_in s).machine c ≡ None → GoodEngine (commanded (engine_in s) c))
    → (r : Result A Fault) → Did view b (engine_in s) c r streams → IsSound (at_streams s streams)
stays_sound view b s c streams h good (Ok a) d =
    let w = accepted view b (engine_in s) c streams a d in
    sound_over s streams h (subst GoodEngine (sym w.1) (good w.0))
    (subst (λ (x : PlainEngine). HaveColumnNames x.machine) (sym w.1) (registrations_stand.goes_on (engine_in s).machine c 0 w.0 h.columns))
    (subst (λ (x : PlainEngine). HaveFewClosed x.machine) (sym w.1) (few_closed_stand.goes_on (engine_in s).machine c 0 w.0 h.closed))
stays_sound view b s c streams h good (Err f) d =
    subst (λ (z : List Stream). IsSound (at_streams s z)) (sym (ap (λ (x : PlainEngine). x.machine.streams) (refused view b (engine_in s) c streams f d))) h

-- A DECLARATION
module _ (s : EngineState) (streams : List Stream) (name : List ℕ) (columns : List (List ℕ)) (start : ℤ) (r : Result ℕ Fault) where
  pub declare_changes : Does (λ (n : ℕ). n) (world_of (engine_in s)) (declare_step (world_of (engine_in s)) name columns start) r (world_of (over_streams (engine_in s) streams)) → OnOk r (over_streams (engine_in s) streams ≡ declared (engine_in s) name columns start)
  unfolding declare_step
  declare_changes d = changes (λ (n : ℕ). n) (length s.streams) (engine_in s) (Declare name columns start) streams r d

  pub declare_changes_not : Does (λ (n : ℕ). n) (world_of (engine_in s)) (declare_step (world_of (engine_in s)) name columns start) r (world_of (over_streams (engine_in s) streams)) → OnErr r (over_streams (engine_in s) streams ≡ engine_in s)
  unfolding declare_step
  declare_changes_not d = changes_not (λ (n : ℕ). n) (length s.streams) (engine_in s) (Declare name columns start) streams r d

  pub declare_sound : IsSound s → Does (λ (n : ℕ). n) (world_of (engine_in s)) (declare_step (world_of (engine_in s)) name columns start) r (world_of (over_streams (engine_in s) streams)) → IsSound (at_streams s streams)
  unfolding declare_step
  declare_sound h d = stays_sound (λ (n : ℕ). n) (length s.streams) s (Declare name columns start) streams h (λ ok. declare_good (engine_in s) name columns start h.good ok) r d

-- AN APPEND
module _ (s : EngineState) (streams : List Stream) (n : ℕ) (rows : List (ℤ × List (Option ℤ))) (r : Result ⊤ Fault) where
  pub append_changes : Does (λ (u : ⊤). u) (world_of (engine_in s)) (append_step (world_of (engine_in s)) n rows) r (world_of (over_streams (engine_in s) streams)) → OnOk r (over_streams (engine_in s) streams ≡ appended (engine_in s) n rows)
  unfolding append_step
  append_changes d = changes (λ (u : ⊤). u) tt (engine_in s) (Append n rows) streams r d

  pub append_changes_not : Does (λ (u : ⊤). u) (world_of (engine_in s)) (append_step (world_of (engine_in s)) n rows) r (world_of (over_streams (engine_in s) streams)) → OnErr r (over_streams (engine_in s) streams ≡ engine_in s)
  unfolding append_step
  append_changes_not d = changes_not (λ (u : ⊤). u) tt (engine_in s) (Append n rows) streams r d

  pub append_sound : IsSound s → Does (λ (u : ⊤). u) (world_of (engine_in s)) (append_step (world_of (engine_in s)) n rows) r (world_of (over_streams (engine_in s) streams)) → IsSound (at_streams s streams)
  unfolding append_step
  append_sound h d = stays_sound (λ (u : ⊤). u) tt s (Append n rows) streams h (λ ok. append_good (engine_in s) n rows h.good ok) r d
