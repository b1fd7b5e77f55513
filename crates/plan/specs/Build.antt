-- TO BELIEVE: the theorem rests on these definitions, and no proof can check them.
-- The plan of a query.
use Rattle.std.specs.Prelude.{ℕ, zero, suc, ◌+◌, Bool, true, false, List, [], ◌∷◌, ◌++◌, map}
use Rattle.std.specs.Prelude.{length}
use Rattle.values.specs.Condition.{SourceColumn, Operand, Field, Number, Condition, Compared, Not}
use Rattle.values.specs.Condition.{And}
use Rattle.values.specs.Condition.{Or}
use Rattle.values.specs.Relation.{Shape, Listed, Grouped, ListItem, CountAll, Of}
use Rattle.values.specs.Answers.{Resolved, StreamOperator}
use Rattle.names.specs.Split.{all_conjuncts, JoinKey, own_of, join_keys_of, remaining}
use Rattle.plan.specs.Nodes.{Key, Node, Window, Select, Join, Project, Group, Distinct, ToStream}

-- the place of column k of source s in the joined row of sources so wide
abbrev pub offset : List ℕ → ℕ → ℕ → ℕ
offset [] s k = k
offset (v ∷ vs) zero k = k
offset (v ∷ vs) (suc s) k = v + offset vs s k

-- a place in a row
abbrev pub at : ℕ → SourceColumn
at k = record { source = 0; column = k }

-- a column as a place in the joined row
abbrev pub placed : List ℕ → SourceColumn → SourceColumn
placed vs c = at (offset vs c.source c.column)

-- a column as a place in the row of its own source
abbrev pub alone : SourceColumn → SourceColumn
alone c = at c.column

-- the condition with its columns moved
abbrev pub operand_moved : (SourceColumn → SourceColumn) → Operand → Operand
operand_moved f (Field c) = Field (f c)
operand_moved f (Number z) = Number z

abbrev pub moved : (SourceColumn → SourceColumn) → Condition → Condition
moved f (Compared a how b) = Compared (operand_moved f a) how (operand_moved f b)
moved f (Not c) = Not (moved f c)
moved f (And c d) = And (moved f c) (moved f d)
moved f (Or c d) = Or (moved f c) (moved f d)

abbrev pub item_moved : (SourceColumn → SourceColumn) → ListItem → ListItem
item_moved f (Rattle.values.specs.Relation.Key k) = Rattle.values.specs.Relation.Key k
item_moved f CountAll = CountAll
item_moved f (Of a c) = Of a (f c)

abbrev pub key_placed : List ℕ → JoinKey → Key
key_placed vs k = record { left = offset vs k.earlier.source k.earlier.column; right = k.column }

-- the conditions of each source, with their columns as places in its own row
abbrev pub all_alone : List (List Condition) → List (List Condition)
all_alone each = map (map (moved alone)) each

-- the windows of the sources from s on, each with a Select
-- where conditions are its own; n is the number of the first
abbrev pub source_nodes : ℕ → ℕ → List (List Condition) → List Node
source_nodes n s [] = []
source_nodes n s ([] ∷ each) = Window s ∷ source_nodes (suc n) (suc s) each
source_nodes n s ((c ∷ cs) ∷ each) =
    Window s ∷ Select n (c ∷ cs) ∷ source_nodes (suc (suc n)) (suc s) each

-- the number of the last operator of each of these sources
abbrev pub tops : ℕ → List (List Condition) → List ℕ
tops n [] = []
tops n ([] ∷ each) = n ∷ tops (suc n) each
tops n ((c ∷ cs) ∷ each) = suc n ∷ tops (suc (suc n)) each

-- the joins of the inputs, one after the other, to the left one; n is the number of the first
abbrev pub join_nodes : ℕ → ℕ → List ℕ → List (List Key) → List Node
join_nodes n left [] keys = []
join_nodes n left (t ∷ ts) [] = []
join_nodes n left (t ∷ ts) (ks ∷ keys) = Join left t ks ∷ join_nodes (suc n) n ts keys

-- the input of what follows the joins
abbrev pub joins_top : ℕ → ℕ → List ℕ → List (List Key) → ℕ
joins_top n left [] keys = left
joins_top n left (t ∷ ts) [] = left
joins_top n left (t ∷ ts) (ks ∷ keys) = joins_top (suc n) n ts keys

abbrev pub joins_of : ℕ → List ℕ → List (List Key) → List Node
joins_of n [] keys = []
joins_of n (t ∷ ts) keys = join_nodes n t ts keys

abbrev pub top_of : ℕ → List ℕ → List (List Key) → ℕ
top_of n [] keys = 0
top_of n (t ∷ ts) keys = joins_top n t ts keys

-- a Select over the operator `top` where conditions are left
abbrev pub rest_nodes : ℕ → List Condition → List Node
rest_nodes top [] = []
rest_nodes top (c ∷ cs) = Select top (c ∷ cs) ∷ []

abbrev pub rest_top : ℕ → ℕ → List Condition → ℕ
rest_top n top [] = top
rest_top n top (c ∷ cs) = n

abbrev pub shape_node : (SourceColumn → SourceColumn) → ℕ → Shape → Node
shape_node f top (Listed columns) = Project top (map f columns)
shape_node f top (Grouped by items) = Group top (map f by) (map (item_moved f) items)

-- the operators above the relation of all sources
abbrev pub end_nodes : Bool → Node → StreamOperator → ℕ → List Node
end_nodes true shape op n = shape ∷ Distinct n ∷ ToStream (suc n) op ∷ []
end_nodes false shape op n = shape ∷ ToStream n op ∷ []

-- the nodes of the sources, of the joins, and of what follows, after these
abbrev pub nodes_over : List (List Condition) → List (List Key) → List Condition → Bool → (ℕ → Node)
    → StreamOperator → List Node
nodes_over own keys rest is_distinct shape op =
    let sources : List Node = source_nodes 0 0 own in
    let joins : List Node = joins_of (length sources) (tops 0 own) keys in
    let top : ℕ = top_of (length sources) (tops 0 own) keys in
    let selects : List Node = rest_nodes top rest in
    sources ++ (joins ++ (selects
    ++ end_nodes is_distinct (shape (rest_top (length (sources ++ joins)) top rest)) op
    (length (sources ++ (joins ++ selects)))))

-- the plan of a query whose sources have so many columns
abbrev pub plan_of : List ℕ → Resolved → List Node
plan_of vs q =
    let n : ℕ = length q.windows in
    let cs : List Condition = all_conjuncts q.condition in
    nodes_over (all_alone (own_of n cs)) (map (map (key_placed vs)) (join_keys_of n cs))
    (map (moved (placed vs)) (remaining n cs)) q.is_distinct
    (λ top. shape_node (placed vs) top q.shape) q.operator
