-- A query at its registration: what its text and the machine's streams
-- make sure of, so that the operators of its plan can be made, and run.
use Rattle.std.specs.Prelude.{ℕ, ◌≡◌, ◌<◌, ◌≤◌, None, Ok, Option, Some, List, [], ℤ, length, map}
use Rattle.std.specs.Prelude.{sum, get_or}
use Rattle.std.specs.List.{All, AllByRecursion}
use Rattle.values.specs.declared.TheConstants.{MAX_COLUMNS}
use Rattle.values.specs.Answers.{Resolved}
use Rattle.values.specs.Condition.{Condition}
use Rattle.values.specs.Relation.{Shape, Listed, Grouped}
use Rattle.values.specs.Resolved.{window_of}
use Rattle.values.specs.Window as shown
use Rattle.values.specs.declared.resolved.Window.{Window}
use Rattle.row_nodes.specs.Steps.{truths_needed}
use Rattle.operators.specs.Ready.{PlainOperator}
use Rattle.plan.specs.Views.{nodes_of}
use Rattle.plan.specs.declared.node.Node.{Node}
use Rattle.physical_plans.specs.Beginnings.{AreMade, HaveNarrowRows, IsMakeable}
use Rattle.physical_plans.specs.Beginnings as made
use Rattle.reference.specs.Commands.{Command, Found, Register, after, first_fault, found}
use Rattle.reference.specs.Commands.{registered_as}
use Rattle.reference.specs.Machine.{Machine, Registered, Stream, empty, opens}
use Rattle.laws_dataflow.specs.Plans.{inputs_of, world_of}
use Rattle.laws_queries.specs.Machines.{IsMachine, IsQuery, widths_of}
use Rattle.laws_queries.specs.Queries.{IsRunning}
use Rattle.laws_queries.specs.Rows.{AreSourceWidths, HaveRows}

-- THE MEANING OF A TEXT
-- how many columns the query's rows have
abbrev pub shape_width : Shape → ℕ
shape_width (Listed columns) = length columns
shape_width (Grouped by items) = length items

-- lists of columns and of items, and those of Group By, are not too long
abbrev pub IsNarrowShape : Shape → Type 0
IsNarrowShape (Listed columns) = length columns ≤ MAX_COLUMNS
IsNarrowShape (Grouped by items) = (length by ≤ MAX_COLUMNS) × (length items ≤ MAX_COLUMNS)

-- lists of Partition By are not too long
abbrev pub IsTextWindow : shown.Window → Type 0
IsTextWindow (shown.Instants r) = Unit {0}
IsTextWindow (shown.LastRows columns n) = length columns ≤ MAX_COLUMNS

-- the steps of the condition have room
abbrev pub NeedsFewTruths : Option Condition → Type 0
NeedsFewTruths None = Unit {0}
NeedsFewTruths (Some c) = truths_needed c ≤ 67

-- over sources so wide
pub record IsFit (vs : List ℕ) (meaning : Resolved) : Type 0 where
  pub some : AllByRecursion (λ v. 0 < v) vs
  pub together : sum vs ≤ MAX_COLUMNS
  pub windows : AllByRecursion IsTextWindow meaning.windows
  pub condition : NeedsFewTruths meaning.condition
  pub shown : 0 < shape_width meaning.shape
  pub narrow : IsNarrowShape meaning.shape

-- THE OPERATORS of the code's plan are those of the query, over its windows
pub record IsCoded (windows : List Window) (nodes : List Node) (q : Registered) : Type 0 where
  pub shows : q.meaning.windows ≡ map window_of windows
  pub runs : q.nodes ≡ nodes_of nodes

-- they may be made
pub record MayMake (windows : List Window) (vs : List ℕ) (nodes : List Node) : Type 0 where
  pub narrow : HaveNarrowRows vs [] nodes
  pub makeable : All (IsMakeable windows (made.widths_of vs nodes)) nodes

-- no element counts for the query yet, no row came since its
-- registration, and its first instant lies above all that is closed
pub record IsFresh (m : Machine) (q : Registered) : Type 0 where
  pub inputs : (k : ℕ) → get_or (inputs_of m q) k [] ≡ []
  pub opens : (k : ℕ) → get_or (opens m.streams q.places) k 0 ≤ q.first
  pub starts : q.start ≡ q.first
  pub came : (k : ℕ) → (world_of m q).came k ≡ 0
  pub early : q.earlier ≡ []

-- how long the stream of each source was
abbrev pub lengths_of : Registered → List ℕ
lengths_of q = map (λ p. p.arrivals) q.places

-- A QUERY OVER SOURCES SO WIDE, of a meaning that fits: its operators may be made; as they are
-- made, they run, and have given nothing; and its windows put out rows as wide as their streams'
pub record Starts (vs : List ℕ) (m : Machine) (q : Registered) : Type 0 where
  pub may : (windows : List Window) (nodes : List Node) → IsCoded windows nodes q
      → MayMake windows vs nodes
  pub runs : (windows : List Window) (nodes : List Node) (os : List PlainOperator)
      → IsCoded windows nodes q → IsFresh m q
      → AreMade windows vs (made.widths_of vs nodes) (lengths_of q) q.first nodes os
      → IsRunning vs (made.widths_of vs nodes) m q os []
  pub reads : (windows : List Window) (nodes : List Node) → IsCoded windows nodes q
      → vs ≡ widths_of m.streams q → AreSourceWidths (made.widths_of vs nodes) m q

-- THE STREAMS have 1 to 8 columns
pub record HasColumnNames (s : Stream) : Type 0 where
  pub some : 0 < length s.columns
  pub few : length s.columns ≤ 8

abbrev pub HaveColumnNames : Machine → Type 0
HaveColumnNames m = AllByRecursion HasColumnNames m.streams

-- THE NEWEST QUERY, of a text that the machine accepts
pub record IsNewest (m : Machine) (name source : List ℕ)
    (given : Option (List (ℤ × ℤ))) : Type 0 where
  pub found_as : Found
  pub is : found m source given ≡ Ok found_as
  pub query : IsQuery m.streams (registered_as m name found_as)
  pub fresh : IsFresh m (registered_as m name found_as)

-- IT IS SO of each accepted registration; and streams are named
-- at first, and after each command that the machine accepts
pub record RegistrationsStand : Type 0 where
  pub newest : (m : Machine) (name source : List ℕ) (given : Option (List (ℤ × ℤ)))
      → first_fault m (Register name source given) ≡ None → IsMachine m → HaveRows m
      → IsNewest m name source given
  pub start : HaveColumnNames empty
  pub goes_on : (m : Machine) (c : Command) (count : ℕ) → first_fault m c ≡ None → HaveColumnNames m
      → HaveColumnNames (after m c count)
  -- so the sources of a query have a column or more each, and at most MAX_COLUMNS together
  pub some : (m : Machine) (q : Registered) → HaveColumnNames m → IsQuery m.streams q
      → AllByRecursion (λ v. 0 < v) (widths_of m.streams q)
  pub together : (m : Machine) (q : Registered) → HaveColumnNames m → IsQuery m.streams q
      → sum (widths_of m.streams q) ≤ MAX_COLUMNS
