-- What holds for each query that is read.
use Rattle.std.specs.Prelude.{ℕ, ◌<◌, ◌≤◌, Option, Some, None, length, All as Each'}
use Rattle.values.specs.Ranges.{IsStreamNumber}
use Rattle.values.specs.Moving.{HasStep}
use Rattle.values.specs.declared.reach.Reach.{Reach}
use Rattle.values.specs.declared.reach.Reach.TheVariants as reach
use Rattle.cql_reader.specs.Query.{Query, Entries, All, Each, WrittenWindow, Instants, Rows}
use Rattle.cql_reader.specs.Query.{Partition, WrittenOperand, Named, Number, WrittenCondition}
use Rattle.cql_reader.specs.Query.{Compared, Not, And, Or}
use Rattle.cql_reader.specs.declared.TheConstants.{MAX_SOURCES}

-- a list that is given item by item has one
abbrev pub HasItems : Entries → Type 0
HasItems All = Unit {0}
HasItems (Each entries) = 0 < length entries

abbrev pub IsRowCount : ℕ → Type 0
IsRowCount rows = (1 ≤ rows) × (rows ≤ 65536)

-- the numbers of a window of instants are at most 1,099,511,627,776
abbrev pub IsInRange : Reach → Type 0
IsInRange reach.All = Unit {0}
IsInRange (reach.Last instants) = instants ≤ 1099511627776
IsInRange (reach.Steps instants step) = (instants ≤ 1099511627776) × (step ≤ 1099511627776)

-- a window's numbers are in their ranges, and there are columns to part by
abbrev pub IsGoodWindow : WrittenWindow → Type 0
IsGoodWindow (Instants r) = HasStep r × IsInRange r
IsGoodWindow (Rows rows) = IsRowCount rows
IsGoodWindow (Partition by rows) = (0 < length by) × IsRowCount rows

abbrev pub IsGoodOperand : WrittenOperand → Type 0
IsGoodOperand (Named reference) = Unit {0}
IsGoodOperand (Number z) = IsStreamNumber z

-- a condition's numbers are those of a stream
abbrev pub IsGoodCondition : WrittenCondition → Type 0
IsGoodCondition (Compared a how b) = IsGoodOperand a × IsGoodOperand b
IsGoodCondition (Not a) = IsGoodCondition a
IsGoodCondition (And a b) = IsGoodCondition a × IsGoodCondition b
IsGoodCondition (Or a b) = IsGoodCondition a × IsGoodCondition b

abbrev pub IsGoodWhere : Option WrittenCondition → Type 0
IsGoodWhere None = Unit {0}
IsGoodWhere (Some a) = IsGoodCondition a

pub record IsWellFormed (q : Query) : Type 0 where
  pub items : HasItems q.entries
  pub some_source : 0 < length q.sources
  pub few_sources : length q.sources ≤ MAX_SOURCES
  pub windows : Each' (λ s. IsGoodWindow s.window) q.sources
  pub condition : IsGoodWhere q.condition
