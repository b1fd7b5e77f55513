-- Queries whose columns are columns of their sources, and bags whose rows are as wide as these.
use Rattle.std.specs.Prelude.{◌≡◌, ℕ, ◌<◌, Option, Some, None, List, [], ◌∷◌, length, get_or}
use Rattle.std.specs.List.{AllByRecursion}
use Rattle.values.specs.Row.{Row}
use Rattle.values.specs.Condition.{SourceColumn, Operand, Field, Number, Condition, Compared, Not}
use Rattle.values.specs.Condition.{And}
use Rattle.values.specs.Condition.{Or}
use Rattle.values.specs.Relation.{Shape, Listed, Grouped, ListItem, Key, CountAll, Of}
use Rattle.values.specs.Answers.{Resolved}
use Rattle.names.specs.Split.{columns_of}

-- the column is one of sources so wide
pub record InScope (vs : List ℕ) (c : SourceColumn) : Type 0 where
  pub source : c.source < length vs
  pub column : c.column < get_or vs c.source 0

-- the same of each column of a condition
abbrev pub OperandInScope : List ℕ → Operand → Type 0
OperandInScope vs (Field c) = InScope vs c
OperandInScope vs (Number z) = Unit {0}

abbrev pub ColumnsInScope : List ℕ → Condition → Type 0
ColumnsInScope vs (Compared a how b) = OperandInScope vs a × OperandInScope vs b
ColumnsInScope vs (Not c) = ColumnsInScope vs c
ColumnsInScope vs (And c d) = ColumnsInScope vs c × ColumnsInScope vs d
ColumnsInScope vs (Or c d) = ColumnsInScope vs c × ColumnsInScope vs d

abbrev pub ItemInScope : List ℕ → ListItem → Type 0
ItemInScope vs (Key k) = Unit {0}
ItemInScope vs CountAll = Unit {0}
ItemInScope vs (Of a c) = InScope vs c

abbrev pub ShapeInScope : List ℕ → Shape → Type 0
ShapeInScope vs (Listed columns) = AllByRecursion (InScope vs) columns
ShapeInScope vs (Grouped by items) =
    AllByRecursion (InScope vs) by × AllByRecursion (ItemInScope vs) items

abbrev pub ConditionInScope : List ℕ → Option Condition → Type 0
ConditionInScope vs None = Unit {0}
ConditionInScope vs (Some c) = AllByRecursion (InScope vs) (columns_of c)

-- the query is one over sources so wide
pub record Scoped (vs : List ℕ) (q : Resolved) : Type 0 where
  pub sources : length q.windows ≡ length vs
  pub condition : ConditionInScope vs q.condition
  pub shape : ShapeInScope vs q.shape

-- each row is v wide
abbrev pub Wide : ℕ → List Row → Type 0
Wide v rows = AllByRecursion (λ r. length r ≡ v) rows

-- the bags are those of sources so wide
abbrev pub Tables : List ℕ → List (List Row) → Type 0
Tables [] [] = Unit {0}
Tables [] (w ∷ ws) = ⊥
Tables (v ∷ vs) [] = ⊥
Tables (v ∷ vs) (w ∷ ws) = Wide v w × Tables vs ws
