-- What bounds the answers of a query: its streams have closed few
-- instants, and what was answered before its start was few rows.
use Rattle.std.specs.Prelude.{ℕ, ◌≡◌, ◌+◌, ◌-◌, ◌*◌, ◌<◌, ◌≤◌, ◌^◌, None, length}
use Rattle.std.specs.List.{AllByRecursion}
use Rattle.values.specs.Row.{Row}
use Rattle.reference.specs.Commands.{Command, after, first_fault}
use Rattle.reference.specs.Machine.{Machine, Registered, Stream, empty}
use Rattle.reference.specs.Opening.{all_instants}

-- how many instants there are: the greatest is 2 ^ 40
abbrev pub instants : ℕ
instants = all_instants

-- no stream has closed more instants than there are
pub record HasFewClosed (s : Stream) : Type 0 where
  pub few : s.first_open ≤ instants

-- the earlier answers of a query are of instants that there are, and with 2 ^ 60 rows
-- at each instant from its start on they are no more than 2 ^ 60 rows at each instant
pub record HasFewEarlier (q : Registered) : Type 0 where
  pub early : AllByRecursion (λ (a : ℕ × Row). a.0 < instants) q.earlier
  pub few : length q.earlier + (instants - q.start) * 2 ^ 60 ≤ instants * 2 ^ 60

pub record HaveFewClosed (m : Machine) : Type 0 where
  pub streams : AllByRecursion HasFewClosed m.streams
  pub queries : AllByRecursion HasFewEarlier m.queries

-- IT IS SO at first, and after each command that the machine accepts
pub record FewClosedStand : Type 0 where
  pub start : HaveFewClosed empty
  pub goes_on : (m : Machine) (c : Command) (count : ℕ) → first_fault m c ≡ None → HaveFewClosed m
      → HaveFewClosed (after m c count)
