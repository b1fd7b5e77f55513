-- TO BELIEVE: the theorem rests on these definitions, and no proof can check them.
-- The query that a text names, before its names are looked up.
use Rattle.std.specs.Prelude.{ℕ, ℤ, Bool, List, Option}
use Rattle.values.specs.Answers.{StreamOperator}
use Rattle.values.specs.declared.reach.Reach.{Reach}
use Rattle.values.specs.declared.resolved.Aggregate.{Aggregate}
use Rattle.values.specs.declared.resolved.Compare.{Compare}

-- a column as the text names it: the bytes of its source's name, where they stand, and of its own
pub record Reference : Type 0 where
  pub qualifier : Option (List ℕ)
  pub name : List ℕ

-- an item of the list
pub data WrittenEntry : Type 0 where
  Column : Reference → WrittenEntry
  CountAll : WrittenEntry
  Of : Aggregate → Reference → WrittenEntry

pub data Entries : Type 0 where
  -- `*`
  All : Entries
  Each : List WrittenEntry → Entries

-- the window on a stream; no window shows all instants
pub data WrittenWindow : Type 0 where
  Instants : Reach → WrittenWindow
  Rows : ℕ → WrittenWindow
  Partition : List Reference → ℕ → WrittenWindow

-- a source: the bytes of its stream's name, its window, and the bytes of its own name in the query
pub record WrittenSource : Type 0 where
  pub stream : List ℕ
  pub window : WrittenWindow
  pub alias : Option (List ℕ)

pub data WrittenOperand : Type 0 where
  Named : Reference → WrittenOperand
  Number : ℤ → WrittenOperand

pub data WrittenCondition : Type 0 where
  Compared : WrittenOperand → Compare → WrittenOperand → WrittenCondition
  Not : WrittenCondition → WrittenCondition
  And : WrittenCondition → WrittenCondition → WrittenCondition
  Or : WrittenCondition → WrittenCondition → WrittenCondition

pub record Query : Type 0 where
  pub operator : StreamOperator
  pub is_distinct : Bool
  pub entries : Entries
  pub sources : List WrittenSource
  -- Where, if the text has it
  pub condition : Option WrittenCondition
  -- Group By's columns, none where it is missing
  pub group : List Reference
