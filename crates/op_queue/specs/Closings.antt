-- What a stream closes, and what waits in its log.
use Rattle.std.specs.Prelude.{◌≡◌, ℕ, ◌<◌, ◌≤◌, ◌&&◌, nat_le, Bool, List, [], length, get_or}
use Rattle.std.specs.List.{All}
use Rattle.std.specs.List.Sorted.{IsNonDecreasingBy}
use Rattle.values.specs.Window.{Element}
use Rattle.op_queue.specs.Logs.{Closed, shown}

-- by instant, then arrival
pub record IsInOrder (es : List Element) : Type 0 where
  pub instants : IsNonDecreasingBy (λ e. e.instant) es
  pub arrivals : (i j : ℕ) (d : Element) → i ≤ j → j < length es
      → (get_or es i d).instant ≡ (get_or es j d).instant
      → (get_or es i d).arrival ≤ (get_or es j d).arrival

-- elements of the stream's width and of instants from the open one to below `until`, in order
pub record IsClosing (log : Closed) (es : List Element) (until : ℕ) : Type 0 where
  pub later : log.until ≤ until
  pub wide : All (λ e. length e.row ≡ log.width) es
  pub ordered : IsInOrder es
  pub opened : All (λ e. log.until ≤ e.instant) es
  pub closed : All (λ e. e.instant < until) es

-- no element is of an instant from the one on to below the other
pub record HasNoRows (start until : ℕ) (log : Closed) : Type 0 where
  pub none : (place t : ℕ) → start ≤ t → t < until → shown place t log.elements ≡ []

-- the element is of the instant `start` or later, and arrived at the place or later
abbrev pub is_waiting : ℕ → ℕ → Element → Bool
is_waiting place start e = nat_le start e.instant && nat_le place e.arrival
