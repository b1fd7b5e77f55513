-- TO BELIEVE: the theorem rests on these definitions, and no proof can check them.
-- A query with its names resolved, its relation at an instant, and its answers.
use Rattle.std.specs.Prelude.{ℕ, zero, suc, ◌-◌, Bool, cond, nat_le, Option, List, [], ◌∷◌, map}
use Rattle.std.specs.Prelude.{filter}
use Rattle.std.specs.List.{flat_map, range_with_len}
use Rattle.values.specs.Row.{Row, row_cmp}
use Rattle.values.specs.Bag.{bag_minus, distinct, in_order}
use Rattle.values.specs.Window.{Element, Window, window_rows}
use Rattle.values.specs.Condition.{Condition, keeps}
use Rattle.values.specs.Relation.{Shape, combinations, shaped}

-- the relation-to-stream operators
pub data StreamOperator : Type 0 where
  Istream : StreamOperator
  Dstream : StreamOperator
  Rstream : StreamOperator

pub record Resolved : Type 0 where
  pub windows : List Window
  pub condition : Option Condition
  pub shape : Shape
  pub is_distinct : Bool
  pub operator : StreamOperator

-- the relation of a query, from what the windows of its sources show
abbrev pub body : Resolved → List (List Row) → List Row
body q shown =
    let rows = shaped q.shape (filter (keeps q.condition) (combinations shown)) in cond
    q.is_distinct (distinct row_cmp rows) rows

-- what the windows show at the instant t
abbrev pub shown_at : ℕ → List Window → ℕ → List (List Element) → List (List Row)
shown_at from [] t inputs = []
shown_at from (w ∷ ws) t [] = []
shown_at from (w ∷ ws) t (es ∷ inputs) = window_rows from w t es ∷ shown_at from ws t inputs

-- the relation at the instant t; below `from`, the first instant above the base, it is empty
abbrev pub relation : Resolved → ℕ → List (List Element) → ℕ → List Row
relation q from inputs t = cond (nat_le from t) (body q (shown_at from q.windows t inputs)) []

-- the relation at the instant before
abbrev pub relation_before : Resolved → ℕ → List (List Element) → ℕ → List Row
relation_before q from inputs zero = []
relation_before q from inputs (suc t) = relation q from inputs t

-- the bag that the operator shows, of the relation before and now
abbrev pub streamed : StreamOperator → List Row → List Row → List Row
streamed Istream before now = bag_minus row_cmp now before
streamed Dstream before now = bag_minus row_cmp before now
streamed Rstream before now = now

abbrev pub answers_at : Resolved → ℕ → List (List Element) → ℕ → List (ℕ × Row)
answers_at q from inputs t =
    map (λ r. (t, r)) (in_order row_cmp
    (streamed q.operator (relation_before q from inputs t) (relation q from inputs t)))

-- the answers at the instants from `from` to below `until`
abbrev pub answers : Resolved → ℕ → ℕ → List (List Element) → List (ℕ × Row)
answers q from until inputs = flat_map (answers_at q from inputs)
    (range_with_len from (until - from))
