-- What is true of the rows of the machine's streams at all
-- times: their order of arrival, and the range of their values.
use Rattle.std.specs.Prelude.{ℕ, ◌≡◌, ◌<◌, None, List}
use Rattle.std.specs.List.{All, AllByRecursion}
use Rattle.values.specs.Ranges.{IsAnswerValue}
use Rattle.plan.specs.Nodes as plan
use Rattle.reference.specs.Commands.{Command, after, first_fault}
use Rattle.reference.specs.Machine.{Machine, Registered, Stream, empty}
use Rattle.laws_dataflow.specs.Roots.{below_root}
use Rattle.laws_queries.specs.Widths.{width_at}
use Rattle.laws_queries.specs.Machines.{IsMachine, columns_of}
use Rattle.stream_store.specs.Stored.{IsByArrival}
use Rattle.laws_queries.specs.Queries.{ReadsRows}
use Rattle.laws_queries.specs.Plain.{node_at, place_of}

-- the elements came one after the other, with numbers below
-- the next one, and their values are of the answers' range
pub record HasRows (s : Stream) : Type 0 where
  pub arrival : IsByArrival s.elements
  pub below : AllByRecursion (λ e. e.arrival < s.arrivals) s.elements
  pub values : AllByRecursion (λ e. All IsAnswerValue e.row) s.elements

abbrev pub HaveRows : Machine → Type 0
HaveRows m = AllByRecursion HasRows m.streams

-- the rows that a window puts out have as many columns as its stream
abbrev pub AreSourceWidths : List ℕ → Machine → Registered → Type 0
AreSourceWidths ws m q = (k s : ℕ) → k < below_root q.nodes → node_at q k ≡ plan.Window s
    → width_at ws k ≡ columns_of m.streams (place_of q s).stream

-- IT IS SO at first, and after each command that the
-- machine accepts; so its queries read rows of their width
pub record RowsStand : Type 0 where
  pub start : HaveRows empty
  pub goes_on : (m : Machine) (c : Command) (count : ℕ) → first_fault m c ≡ None → HaveRows m
      → HaveRows (after m c count)
  pub reads : (ws : List ℕ) (m : Machine) (q : Registered) → HaveRows m → IsMachine m
      → AreSourceWidths ws m q → ReadsRows ws m q
