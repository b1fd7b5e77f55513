-- The operators of a plan as nodes of a net.
use Rattle.std.specs.Prelude.{◌≡◌, ℕ, true, false, List, [], ◌∷◌, get_or}
use Rattle.values.specs.Row.{Row, row_cmp}
use Rattle.values.specs.Bag.{distinct}
use Rattle.values.specs.Condition.{Condition, is_known_true}
use Rattle.values.specs.Relation.{Shape, Listed, Grouped}
use Rattle.lane_kernels.specs.Steps.{steps_truth}
use Rattle.lane_kernels.specs.declared.condition.Step.{Step}
use Rattle.plan.specs.Nodes as plan
use Rattle.plan.specs.Nodes.{Key, Window, Select, Join, Project, Group, Distinct, ToStream}
use Rattle.plan.specs.Values.{holds_all, joined, selected, shaped_rows}
use Rattle.laws_dataflow.specs.Nets.{Unary, Binary, Node, window, unary, join}

abbrev pub selecting : List Condition → Unary
selecting cs = record { value = selected cs; streams = true }

abbrev pub listing : Shape → Unary
listing shape = record { value = shaped_rows shape; streams = true }

-- groups are put out at ticks alone
abbrev pub grouping : Shape → Unary
grouping shape = record { value = shaped_rows shape; streams = false }

abbrev pub once : Unary
once = record { value = distinct row_cmp; streams = false }

abbrev pub joining : List Key → Binary
joining keys = record { value = joined keys }

-- an operator of a plan; the root is none of the net, and passes all
abbrev pub node_of : plan.Node → Node
node_of (Window s) = window s
node_of (Select i cs) = unary (selecting cs) i
node_of (Join i j keys) = join (joining keys) i j
node_of (Project i columns) = unary (listing (Listed columns)) i
node_of (Group i by items) = unary (grouping (Grouped by items)) i
node_of (Distinct i) = unary once i
node_of (ToStream i op) = unary (selecting []) i

-- the operators of a plan by their numbers
abbrev pub net_of : List plan.Node → ℕ → Node
net_of ns k = node_of (get_or ns k (Window 0))

-- the steps tell at each row whether all of the conditions are true
pub record Tell (steps : List Step) (cs : List Condition) : Type 0 where
  pub tells : (row : Row) → is_known_true (steps_truth steps row) ≡ holds_all cs (row ∷ [])
