-- What bounds the rows of a query's operators: it has one to four
-- sources, and of each at most so many rows count, by how many they are.
use Rattle.std.specs.Prelude.{ℕ, ◌≡◌, ◌-◌, ◌≤◌, ◌<◌, nat_le, List, length, get_or}
use Rattle.std.specs.List.{AllByRecursion, filter}
use Rattle.plan.specs.Nodes.{Window}
use Rattle.reference.specs.Commands.{rows_of_each}
use Rattle.reference.specs.Machine.{Machine, Registered, Stream}
use Rattle.laws_dataflow.specs.Nets.{Cell, input_of, left_of, right_of}
use Rattle.laws_dataflow.specs.Operators.{net_of}
use Rattle.laws_dataflow.specs.Plans.{IsPlanOf, arrivals_at, value_of, world_of}
use Rattle.laws_dataflow.specs.Roots.{below_root}
use Rattle.laws_queries.specs.Counts.{HasRoom, most_rows, source_rows}
use Rattle.laws_queries.specs.Roots.{HasRootRoom}

-- of the elements of a stream at most as many came behind the first ones as rows came since
pub record CountsArrivals (s : Stream) : Type 0 where
  pub since : (place : ℕ) → length (filter (λ e. nat_le place e.arrival) s.elements)
      ≤ s.arrivals - place

-- to the stream of each source no more rows came since the registration than may count
abbrev pub HasFewSince : List Stream → Registered → Type 0
HasFewSince streams q = AllByRecursion
    (λ p. arrivals_at streams p - p.arrivals ≤ rows_of_each (length q.places)) q.places

-- the query over sources so wide
pub record IsBounded (vs : List ℕ) (m : Machine) (q : Registered) : Type 0 where
  pub plan : IsPlanOf vs q.meaning q.nodes
  pub places : length q.places ≡ length vs
  pub few : length vs ≤ 4
  pub counted : AllByRecursion CountsArrivals m.streams
  pub since : HasFewSince m.streams q

-- ITS OPERATORS below the root have room, whatever their cells
abbrev pub PlanHasRoom : Machine → Registered → Type 0
PlanHasRoom m q =
    (cells : ℕ → Cell) (k : ℕ) → k < below_root q.nodes
    → HasRoom q.nodes k (get_or q.nodes k (Window 0))
    (input_of (value_of m q) cells (left_of (net_of q.nodes k)))
    (input_of (value_of m q) cells (right_of (net_of q.nodes k)))

-- AND ITS ROOT has
abbrev pub RootHasRoom : Machine → Registered → Type 0
RootHasRoom m q = (cells : ℕ → Cell)
    → HasRootRoom (most_rows q.nodes (below_root q.nodes - 1))
    (input_of (value_of m q) cells (below_root q.nodes - 1))

-- AND WHAT COUNTS OF ITS SOURCES is within the bound
abbrev pub HasShortInputs : Machine → Registered → Type 0
HasShortInputs m q = (s : ℕ) → (world_of m q).came s ≤ source_rows q.nodes
