-- What is true of the machine at all times: its streams have few rows, each as wide as their
-- columns, and its queries run plans over streams so wide, to which no more rows came since than
-- may count for them.
use Rattle.std.specs.Prelude.{ℕ, ◌≡◌, ◌≤◌, ◌<◌, false, None, List, length, map, get_or, slice_get}
use Rattle.std.specs.List.{AllByRecursion}
use Rattle.std.specs.Option.{option_map_or}
use Rattle.cql_reader.specs.declared.TheConstants.{MAX_SOURCES}
use Rattle.reference.specs.declared.limits.TheConstants.{MAX_STREAM_ROWS}
use Rattle.reference.specs.Machine.{Machine, Registered, Stream, empty}
use Rattle.reference.specs.Commands.{Command, after, first_fault}
use Rattle.laws_dataflow.specs.Laws.{Stands}
use Rattle.laws_dataflow.specs.Plans.{IsPlanOf}
use Rattle.laws_queries.specs.Rooms.{CountsArrivals, HasFewSince, IsBounded}

-- the rows are as wide as the columns, and counted
pub record IsStream (s : Stream) : Type 0 where
  pub wide : AllByRecursion (λ e. length e.row ≡ length s.columns) s.elements
  pub counted : CountsArrivals s
  pub few : s.arrivals ≤ MAX_STREAM_ROWS

-- how many columns the stream of a number has
abbrev pub columns_of : List Stream → ℕ → ℕ
columns_of streams n = option_map_or (λ s. length s.columns) (slice_get streams n) 0

-- those of a query's sources
abbrev pub widths_of : List Stream → Registered → List ℕ
widths_of streams q = map (λ p. columns_of streams p.stream) q.places

-- a query runs the plan of what it means, over streams that are there, no more than a text may name
pub record IsQuery (streams : List Stream) (q : Registered) : Type 0 where
  pub plan : IsPlanOf (widths_of streams q) q.meaning q.nodes
  pub few : length (widths_of streams q) ≤ MAX_SOURCES
  pub known : AllByRecursion (λ p. p.stream < length streams) q.places

-- THE ROW LIMIT is kept for each query that was not dropped
abbrev pub KeepsItsLimit : List Stream → Registered → Type 0
KeepsItsLimit streams q = q.is_dropped ≡ false → HasFewSince streams q

pub record IsMachine (m : Machine) : Type 0 where
  pub streams : AllByRecursion IsStream m.streams
  pub queries : AllByRecursion (IsQuery m.streams) m.queries
  pub limits : AllByRecursion (KeepsItsLimit m.streams) m.queries

-- IT IS SO at first, and after each command that the machine accepts
pub record MachinesStand : Type 0 where
  pub start : IsMachine empty
  pub goes_on : (m : Machine) (c : Command) (count : ℕ) → first_fault m c ≡ None → IsMachine m
      → IsMachine (after m c count)

-- a command changes the widths of no query's sources
pub record CommandsKeep (m m2 : Machine) (q : Registered) : Type 0 where
  pub widths : widths_of m2.streams q ≡ widths_of m.streams q
  pub query : IsQuery m2.streams q

-- ITS QUERIES stand over its streams, and are bounded while they keep their limit
pub record QueriesStand (m : Machine) : Type 0 where
  pub each : (k : ℕ) (d : Registered) → k < length m.queries
      → IsQuery m.streams (get_or m.queries k d)
  pub keep_limits : (k : ℕ) (d : Registered) → k < length m.queries
      → KeepsItsLimit m.streams (get_or m.queries k d)
  pub stands : (q : Registered) → IsQuery m.streams q → Stands (widths_of m.streams q) m q
  pub bounded : (q : Registered) → IsQuery m.streams q → HasFewSince m.streams q
      → IsBounded (widths_of m.streams q) m q
  pub keeps : (c : Command) (count : ℕ) (q : Registered) → IsQuery m.streams q
      → CommandsKeep m (after m c count) q
