-- At which marks a machine may be replaced by its opening.
use Rattle.std.specs.Prelude.{ℕ, ◌≡◌, ◌<◌, ◌≤◌, ◌+◌, ◌⊎◌, ⊤, true, false, max, Option, Some, List}
use Rattle.std.specs.Prelude.{[], drop, length, get_or, slice_get}
use Rattle.std.specs.List.{AllByRecursion}
use Rattle.values.specs.Row.{Row}
use Rattle.values.specs.Moving.{HasStep}
use Rattle.values.specs.Window.{Element, Window, Instants, LastRows, shows}
use Rattle.values.specs.Needs.{is_needed}
use Rattle.reference.specs.Machine.{Machine, Registered, Stream, until_for}
use Rattle.laws_forgetting.specs.Below.{answers_below}

-- elements have numbers below the count of what came
abbrev pub AreNumbered : List Stream → Type 0
AreNumbered streams = AllByRecursion
    (λ s. AllByRecursion (λ e. e.arrival < s.arrivals) s.elements) streams

-- A MARK, with the answers that wait there: its instants
-- are closed, and its answers were taken or wait
pub record IsMark (m : Machine) (q : Registered) (next : ℕ)
    (waiting : List (ℕ × Row)) : Type 0 where
  pub first : q.first ≤ q.start
  pub began : q.start ≤ next
  pub closed : next ≤ max q.first (until_for m.streams q.places)
  pub taken : q.taken ≤ length (answers_below m q next)
  pub waits : waiting ≡ drop q.taken (answers_below m q next)

-- there is a mark for each query, and it is one where the
-- query was not dropped; elements are numbered as they come
pub record MayOpen (m : Machine) (marks : List (Option ℕ))
    (waiting : List (List (ℕ × Row))) : Type 0 where
  pub marked : length marks ≡ length m.queries
  pub listed : length waiting ≡ length m.queries
  pub each : (n : ℕ) (q : Registered) → slice_get m.queries n ≡ Some q → q.is_dropped ≡ false
      → (next : ℕ) × ((slice_get marks n ≡ Some (Some next))
      × IsMark m q next (get_or waiting n []))
  pub numbered : AreNumbered m.streams

-- WHAT A WINDOW NEEDS
-- its step, if it has one, is one instant or more
abbrev pub Moves : Window → Type 0
Moves (Instants r) = HasStep r
Moves (LastRows columns n) = ⊤

-- the window shows the element at some instant from the mark on,
-- when nothing more comes; `next` is the instant after the mark
abbrev pub IsShownFrom : ℕ → Window → ℕ → List Element → Element → Type 0
IsShownFrom start w next es e = (t : ℕ) × ((next ≤ t + 1) × (shows start w t es e ≡ true))

-- just what is above the mark, and what is shown from it on
pub record NeedsJust (start : ℕ) (w : Window) (next : ℕ) (es : List Element) : Type 0 where
  pub shown : (e : Element) → is_needed start w next es e ≡ true
      → (next ≤ e.instant) ⊎ IsShownFrom start w next es e
  pub needed : (e : Element) → (next ≤ e.instant) ⊎ IsShownFrom start w next es e
      → is_needed start w next es e ≡ true
