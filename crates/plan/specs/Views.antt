-- The operators of the code as those of the definitions.
use Rattle.std.specs.Prelude.{◌≡◌, ℕ, List, ◌++◌, map}
use Rattle.values.specs.Condition as conditions
use Rattle.values.specs.Resolved.{items_of}
use Rattle.values.specs.StreamOperators.{operator_of}
use Rattle.names.specs.Views.{conditions_of}
use Rattle.plan.specs.Nodes as nodes
use Rattle.plan.specs.Build.{at}
use Rattle.plan.specs.declared.node.Key.{Key}
use Rattle.plan.specs.declared.node.Node.{Node}
use Rattle.plan.specs.declared.node.Node.TheVariants.{Window, Select, Join, Project, Group}
use Rattle.plan.specs.declared.node.Node.TheVariants.{Distinct, ToStream}

abbrev pub key_of : Key → nodes.Key
key_of k = record { left = k.left; right = k.right }

abbrev pub keys_of : List Key → List nodes.Key
keys_of ks = map key_of ks

-- the columns at the places
abbrev pub columns_at : List ℕ → List conditions.SourceColumn
columns_at ks = map at ks

abbrev pub node_of : Node → nodes.Node
node_of (Window s) = nodes.Window s
node_of (Select i cs) = nodes.Select i (conditions_of cs.items)
node_of (Join i j ks) = nodes.Join i j (keys_of ks.items)
node_of (Project i places) = nodes.Project i (columns_at places.items)
node_of (Group i by items) = nodes.Group i (columns_at by.items) (items_of items.items)
node_of (Distinct i) = nodes.Distinct i
node_of (ToStream i operator) = nodes.ToStream i (operator_of operator)

abbrev pub nodes_of : List Node → List nodes.Node
nodes_of ns = map node_of ns

-- the new operators are the old ones and more
abbrev pub Grown : List Node → List Node → List nodes.Node → Type 0
Grown old new more = nodes_of new ≡ nodes_of old ++ more
