-- The value of each operator of a plan, on the bags that the windows show.
use Rattle.std.specs.Prelude.{Bool, cond, Some, List, [], ◌∷◌, ◌++◌, map, filter, get_or}
use Rattle.std.specs.List.{list_all, flat_map}
use Rattle.values.specs.Row.{Row, row_cmp, value_at}
use Rattle.values.specs.Bag.{distinct}
use Rattle.values.specs.Condition.{Condition, compared, is_known_true, keeps}
use Rattle.values.specs.declared.resolved.Compare.TheVariants.{Equals}
use Rattle.values.specs.Relation.{Shape, Listed, Grouped, shaped}
use Rattle.plan.specs.Nodes.{Distinct, Group, Join, Key, Node, Project, Select, ToStream, Window}

abbrev pub holds_all : List Condition → List Row → Bool
holds_all cs rows = list_all (λ c. keeps (Some c) rows) cs

-- null is equal to nothing
abbrev pub fits : List Key → Row → Row → Bool
fits ks l r = list_all (λ k. is_known_true
    (compared Equals (value_at l k.left) (value_at r k.right))) ks

-- a left row with a right one that it fits, left columns first
abbrev pub pair : List Key → Row → Row → List Row
pair ks l r = cond (fits ks l r) ((l ++ r) ∷ []) []

abbrev pub joined : List Key → List Row → List Row → List Row
joined ks ls rs = flat_map (λ l. flat_map (pair ks l) rs) ls

abbrev pub selected : List Condition → List Row → List Row
selected cs rows = filter (λ r. holds_all cs (r ∷ [])) rows

abbrev pub shaped_rows : Shape → List Row → List Row
shaped_rows shape rows = shaped shape (map (λ r. r ∷ []) rows)

-- the value of a node, from the bags of the windows and the values of the nodes before it
abbrev pub node_value : List (List Row) → List (List Row) → Node → List Row
node_value ws done (Window s) = get_or ws s []
node_value ws done (Select i cs) = selected cs (get_or done i [])
node_value ws done (Join i j ks) = joined ks (get_or done i []) (get_or done j [])
node_value ws done (Project i columns) = shaped_rows (Listed columns) (get_or done i [])
node_value ws done (Group i by items) = shaped_rows (Grouped by items) (get_or done i [])
node_value ws done (Distinct i) = distinct row_cmp (get_or done i [])
-- the relation that the root makes a stream of
node_value ws done (ToStream i op) = get_or done i []

-- the values of all nodes, after those that are done
abbrev pub values_of : List (List Row) → List (List Row) → List Node → List (List Row)
values_of ws done [] = done
values_of ws done (n ∷ nodes) = values_of ws (done ++ node_value ws done n ∷ []) nodes

abbrev pub last_of : List (List Row) → List Row
last_of [] = []
last_of (x ∷ []) = x
last_of (x ∷ y ∷ xs) = last_of (y ∷ xs)

-- the value of a plan is that of its root, the last node
abbrev pub plan_value : List Node → List (List Row) → List Row
plan_value nodes ws = last_of (values_of ws [] nodes)
