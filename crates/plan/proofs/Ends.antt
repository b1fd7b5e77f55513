-- What all nodes of a plan stand for.
use Rattle.std.proofs.Common.{◌≡◌, ℕ, suc, ◌<◌, Bool, true, false, cond, List, [], ◌∷◌, ◌++◌, length, get_or, refl, sym, ap, ◌∙◌, arith, length-append}
use Rattle.values.specs.Row.{Row, row_cmp}
use Rattle.values.specs.Bag.{distinct}
use Rattle.values.specs.Condition.{SourceColumn, Condition}
use Rattle.values.specs.Relation.{Shape, Listed, Grouped}
use Rattle.values.specs.Answers.{StreamOperator}
use Rattle.plan.specs.Nodes.{Key, Node}
use Rattle.plan.specs.Values.{selected, shaped_rows, node_value, values_of, last_of, plan_value}
use Rattle.plan.specs.Build.{source_nodes, tops, joins_of, top_of, rest_nodes, rest_top, shape_node, end_nodes, nodes_over}
use Rattle.std.specs.List.{AllByRecursion}
use Rattle.plan.proofs.Joins.{join_all}
use Rattle.plan.proofs.Moved.{shape_moved}
use Rattle.plan.proofs.Values.{values-append, values-length, at_end, last-push, reads, chosen_from, sources-value, tops-below, joins-value, all_selected}

-- the joins of the tables, from the first on
abbrev pub join_tables : List (List Row) → List (List Key) → List Row
join_tables [] each = []
join_tables (t ∷ ts) each = join_all t ts each

joins-all : (ws done : List (List Row)) (n : ℕ) (ts : List ℕ) (each : List (List Key)) → 0 < length ts → length done ≡ n → AllByRecursion (λ t. t < n) ts
    → get_or (values_of ws done (joins_of n ts each)) (top_of n ts each) [] ≡ join_tables (reads done ts) each
joins-all ws done n [] each l e h = absurd (omega (arith, l))
joins-all ws done n (t ∷ ts) each l e h = joins-value ws done n t ts each e h.1

rest-value : (ws done : List (List Row)) (n top : ℕ) (cs : List Condition) → length done ≡ n
    → get_or (values_of ws done (rest_nodes top cs)) (rest_top n top cs) [] ≡ selected cs (get_or done top [])
rest-value ws done n top [] e = sym (all_selected (get_or done top []))
rest-value ws done n top (c ∷ cs) e = at_end done (selected (c ∷ cs) (get_or done top [])) n e

abbrev pub once : Bool → List Row → List Row
once b rows = cond b (distinct row_cmp rows) rows

ends-value : (ws done : List (List Row)) (b : Bool) (shape : Node) (op : StreamOperator) (n : ℕ) → length done ≡ n
    → last_of (values_of ws done (end_nodes b shape op n)) ≡ once b (node_value ws done shape)
ends-value ws done true shape op n e =
    let x : List Row = node_value ws done shape in
    let more : List (List Row) = done ++ x ∷ [] in
    let long : length more ≡ suc n = omega (arith, e, length-append done (x ∷ [])) in
    let y : List Row = distinct row_cmp (get_or more n []) in
    last-push (more ++ y ∷ []) (get_or (more ++ y ∷ []) (suc n) []) ∙ at_end more y (suc n) long ∙ ap (distinct row_cmp) (at_end done x n e)
ends-value ws done false shape op n e =
    let x : List Row = node_value ws done shape in
    last-push (done ++ x ∷ []) (get_or (done ++ x ∷ []) n []) ∙ at_end done x n e

shape-value : (ws done : List (List Row)) (f : SourceColumn → SourceColumn) (top : ℕ) (shape : Shape)
    → node_value ws done (shape_node f top shape) ≡ shaped_rows (shape_moved f shape) (get_or done top [])
shape-value ws done f top (Listed columns) = refl
shape-value ws done f top (Grouped by items) = refl

-- the value of the nodes by what they are made of
pub nodes-value : (ws : List (List Row)) (own : List (List Condition)) (keys : List (List Key)) (rest : List Condition) (b : Bool) (f : SourceColumn → SourceColumn) (shape : Shape) (op : StreamOperator)
    → 0 < length (tops 0 own)
    → plan_value (nodes_over own keys rest b (λ top. shape_node f top shape) op) ws
    ≡ once b (shaped_rows (shape_moved f shape) (selected rest (join_tables (chosen_from ws 0 own) keys)))
nodes-value ws own keys rest b f shape op l =
    let sources : List Node = source_nodes 0 0 own in
    let n : ℕ = length sources in
    let joins : List Node = joins_of n (tops 0 own) keys in
    let top : ℕ = top_of n (tops 0 own) keys in
    let selects : List Node = rest_nodes top rest in
    let m : ℕ = length (sources ++ joins) in
    let last : ℕ = rest_top m top rest in
    let k : ℕ = length (sources ++ (joins ++ selects)) in
    let ends : List Node = end_nodes b (shape_node f last shape) op k in
    let first : List (List Row) = values_of ws [] sources in
    let second : List (List Row) = values_of ws first joins in
    let third : List (List Row) = values_of ws second selects in
    let first_long : length first ≡ n = values-length ws [] sources ∙ omega arith in
    let second_long : length second ≡ m = omega (arith, values-length ws first joins, first_long, length-append sources joins) in
    let third_long : length third ≡ k = omega (arith, values-length ws second selects, second_long, length-append sources joins, length-append sources (joins ++ selects), length-append joins selects) in
    let joined_rows : get_or second top [] ≡ join_tables (chosen_from ws 0 own) keys =
    joins-all ws first n (tops 0 own) keys l first_long (tops-below 0 0 own n (omega arith)) ∙ ap (λ v. join_tables v keys) (sources-value ws [] 0 0 own refl) in
    ap last_of
    (values-append ws [] sources (joins ++ (selects ++ ends)) ∙ values-append ws first joins (selects ++ ends) ∙ values-append ws second selects ends)
    ∙ ends-value ws third b (shape_node f last shape) op k third_long
    ∙ ap (once b)
    (shape-value ws third f last shape
    ∙ ap (shaped_rows (shape_moved f shape)) (rest-value ws second m top rest second_long ∙ ap (selected rest) joined_rows))
