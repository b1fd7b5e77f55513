-- An operator of a query, as a plain value.
use Rattle.std.specs.Prelude.{ℕ}
use Rattle.column.specs.declared.batch.Side.{Side}
use Rattle.turn.specs.declared.kinds.Kind.{Kind}

-- the numbers of the query and of the operator, the
-- side that the item is of, and what the operator does
pub record PlainNode : Type 0 where
  pub query : ℕ
  pub operator : ℕ
  pub side : Side
  pub kind : Kind
