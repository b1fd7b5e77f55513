-- A query's plan is a plan of the net, and its value at the root is the relation that the query means.
use Rattle.std.proofs.Common.{◌≡◌, ℕ, zero, suc, ◌+◌, ◌-◌, ◌<◌, ◌≤◌, Bool, true, false, nat_lt, List, [], ◌∷◌, ◌++◌, map, length, get_or, refl, sym, ap, ap₂, ◌∙◌, subst, arith, length-append}
use Rattle.std.proofs.lemmas.Bool.{lt-ltb}
use Rattle.std.proofs.lemmas.List.{get_or-append-add, length-map}
use Rattle.std.proofs.lemmas.List.FromFn.{length-map-range_with_len}
use Rattle.values.specs.Row.{Row, row_cmp}
use Rattle.values.specs.Window.{Element, Window, window_rows}
use Rattle.values.specs.Plain.{unbounded}
use Rattle.values.specs.Bag.{distinct}
use Rattle.values.specs.Condition.{SourceColumn, Condition}
use Rattle.values.specs.Relation.{Shape, Listed, Grouped}
use Rattle.values.specs.Answers.{StreamOperator, Resolved, shown_at}
use Rattle.names.specs.Split.{all_conjuncts, join_keys, join_keys_of, own, own_of, remaining}
use Rattle.plan.specs.Nodes as plan
use Rattle.plan.specs.Values as valued
use Rattle.plan.specs.Nodes.{Key, Window as WindowNode, Select, Join, Project, Group, Distinct}
use Rattle.plan.specs.Nodes.{ToStream}
use Rattle.plan.specs.Values.{node_value, values_of, last_of, plan_value}
use Rattle.plan.specs.Build.{all_alone, end_nodes, joins_of, key_placed, moved, nodes_over, placed, plan_of, rest_nodes, rest_top, shape_node, source_nodes, top_of, tops}
use Rattle.plan.proofs.Numbers.{Below, Rises, nodes-rise, value-at}
use Rattle.plan.proofs.Values.{all_selected, values-length}
use Rattle.plan.proofs.Whole.{tops-length}
use Rattle.laws_dataflow.specs.Nets.{World, bag_at, Cell, IsLawful, Planned, Laid, input_of, left_of, right_of, value_by}
use Rattle.laws_dataflow.specs.Operators.{node_of, net_of}
use Rattle.laws_dataflow.specs.Plans.{consumer_of, least_by, leasts_of, least_in, value_in}
use Rattle.laws_dataflow.proofs.ConsumerLemmas.{below_later, laid, nodes-times, rises_at}
use Rattle.laws_dataflow.proofs.LawfulLemmas.{selected_same, shaped_same, distinct_same, joined_same}
use Rattle.laws_dataflow.proofs.LeastLemmas.{closed_from, end-some, least-at, least_all, least_node, nodes-least}

lawful : (x : plan.Node) → IsLawful (node_of x)
lawful (WindowNode s) = tt
lawful (Select i cs) = selected_same cs
lawful (Join i j keys) = joined_same keys
lawful (Project i columns) = shaped_same (Listed columns)
lawful (Group i by items) = shaped_same (Grouped by items)
lawful (Distinct i) = distinct_same
lawful (ToStream i op) = selected_same []

-- VALUES

value_node : (w : World) (ws all : List (List Row)) (v : ℕ → ℕ → List Row) (s : ℕ → Cell) (t : ℕ) → ((k : ℕ) → get_or ws k [] ≡ bag_at w k t) → ((i : ℕ) → get_or all i [] ≡ v i t) → (x : plan.Node)
    → node_value ws all x ≡ value_by w (node_of x) (input_of v s (left_of (node_of x))) (input_of v s (right_of (node_of x))) t
value_node w ws all v s t b h (WindowNode k) = b k
value_node w ws all v s t b h (Select i cs) = ap (valued.selected cs) (h i)
value_node w ws all v s t b h (Join i j keys) = ap₂ (valued.joined keys) (h i) (h j)
value_node w ws all v s t b h (Project i columns) = ap (valued.shaped_rows (Listed columns)) (h i)
value_node w ws all v s t b h (Group i by items) = ap (valued.shaped_rows (Grouped by items)) (h i)
value_node w ws all v s t b h (Distinct i) = ap (distinct row_cmp) (h i)
value_node w ws all v s t b h (ToStream i op) = h i ∙ sym (all_selected (v i t))

-- any operators whose inputs come first
pub planned : (w : World) (bags : ℕ → List (List Row)) (ns : List plan.Node) (count : ℕ) → ((t k : ℕ) → get_or (bags t) k [] ≡ bag_at w k t) → Rises 0 ns → count ≤ length ns
    → Planned w (net_of ns) count (value_in ns bags) (least_in ns w.closed)
planned w bags ns count b r few = record {
  lawful = λ k h. lawful (get_or ns k (WindowNode 0));
  rises = λ k h. let e : 0 + k ≡ k = omega arith in below_later k (get_or ns k (WindowNode 0)) (subst (λ i. Below i (get_or ns k (WindowNode 0))) e (rises_at 0 ns k (WindowNode 0) r (omega (arith, h, few))));
  opens = λ k h. least_node w.closed w (λ s. refl) (leasts_of w.closed [] ns) (least_in ns w.closed) (λ i. refl) (get_or ns k (WindowNode 0)) k (least_here k (omega (arith, h, few)));
  value = λ k s h t. value_here k t (omega (arith, h, few)) ∙ value_node w (bags t) (values_of (bags t) [] ns) (value_in ns bags) s t (λ j. b t j) (λ i. refl) (get_or ns k (WindowNode 0));
}
  where
    least_here : (k : ℕ) → k < length ns → least_in ns w.closed k ≡ least_by w.closed (leasts_of w.closed [] ns) (get_or ns k (WindowNode 0))
    least_here k h = let e : 0 + k ≡ k = omega arith in ap (λ i. get_or (leasts_of w.closed [] ns) i 0) (sym e) ∙ least-at w.closed [] ns 0 k (WindowNode 0) refl r h

    value_here : (k t : ℕ) → k < length ns → value_in ns bags k t ≡ node_value (bags t) (values_of (bags t) [] ns) (get_or ns k (WindowNode 0))
    value_here k t h = let e : 0 + k ≡ k = omega arith in ap (λ i. get_or (values_of (bags t) [] ns) i []) (sym e) ∙ value-at (bags t) [] ns 0 k (WindowNode 0) refl r h

-- the windows' bags
pub window_bags : (first t : ℕ) (ws : List Window) (inputs : List (List Element)) → length ws ≡ length inputs → (k : ℕ) → get_or (shown_at first ws t inputs) k [] ≡ window_rows first (get_or ws k unbounded) t (get_or inputs k [])
window_bags first t [] [] e k = refl
window_bags first t [] (es ∷ inputs) e k = absurd (omega (arith, e))
window_bags first t (w ∷ ws) [] e k = absurd (omega (arith, e))
window_bags first t (w ∷ ws) (es ∷ inputs) e zero = refl
window_bags first t (w ∷ ws) (es ∷ inputs) e (suc k) = window_bags first t ws inputs (omega (arith, e)) k

-- THE ROOT

end_root : (b : Bool) (shape : plan.Node) (op : StreamOperator) (k : ℕ) → get_or (end_nodes b shape op k) (length (end_nodes b shape op k) - 1) (WindowNode 0) ≡ ToStream (k + (length (end_nodes b shape op k) - 2)) op
end_root true shape op k = let e : suc k ≡ k + 1 = omega arith in ap (λ i. ToStream i op) e
end_root false shape op k = let e : k ≡ k + 0 = omega arith in ap (λ i. ToStream i op) e

nodes-root : (own : List (List Condition)) (keys : List (List Key)) (rest : List Condition) (b : Bool) (f : SourceColumn → SourceColumn) (shape : Shape) (op : StreamOperator)
    → (2 ≤ length (nodes_over own keys rest b (λ top. shape_node f top shape) op))
    × (get_or (nodes_over own keys rest b (λ top. shape_node f top shape) op) (length (nodes_over own keys rest b (λ top. shape_node f top shape) op) - 1) (WindowNode 0) ≡ ToStream (length (nodes_over own keys rest b (λ top. shape_node f top shape) op) - 2) op)
nodes-root own keys rest b f shape op =
    let sources : List plan.Node = source_nodes 0 0 own in
    let joins : List plan.Node = joins_of (length sources) (tops 0 own) keys in
    let top : ℕ = top_of (length sources) (tops 0 own) keys in
    let selects : List plan.Node = rest_nodes top rest in
    let last : ℕ = rest_top (length (sources ++ joins)) top rest in
    let k : ℕ = length (sources ++ (joins ++ selects)) in
    let end : List plan.Node = end_nodes b (shape_node f last shape) op k in
    let all : List plan.Node = sources ++ (joins ++ (selects ++ end)) in
    let two : 2 ≤ length end = end-some b (shape_node f last shape) op k in
    let long : length all ≡ k + length end = omega (arith, length-append sources (joins ++ (selects ++ end)), length-append joins (selects ++ end), length-append selects end, length-append sources (joins ++ selects), length-append joins selects) in
    let place : length all - 1 ≡ length sources + (length joins + (length selects + (length end - 1))) = omega (arith, two, long, length-append sources (joins ++ selects), length-append joins selects) in
    let input : k + (length end - 2) ≡ length all - 2 = omega (arith, two, long) in (
      omega (arith, two, long),
      ap (λ i. get_or all i (WindowNode 0)) place
          ∙ get_or-append-add sources (joins ++ (selects ++ end)) (length joins + (length selects + (length end - 1))) (WindowNode 0)
          ∙ get_or-append-add joins (selects ++ end) (length selects + (length end - 1)) (WindowNode 0)
          ∙ get_or-append-add selects end (length end - 1) (WindowNode 0)
          ∙ end_root b (shape_node f last shape) op k
          ∙ ap (λ i. ToStream i op) input,
    )

-- what the plan of a query is, as a list of operators
pub record Shaped (closed : ℕ → ℕ) (meaning : Resolved) (ns : List plan.Node) : Type 0 where
  pub two : 2 ≤ length ns
  pub root : get_or ns (length ns - 1) (WindowNode 0) ≡ ToStream (length ns - 2) meaning.operator
  pub rises : Rises 0 ns
  pub laid : Laid (net_of ns) (length ns - 1) (consumer_of ns)
  pub least : get_or (leasts_of closed [] ns) (length ns - 1) 0 ≡ least_all (closed_from closed 0 (length meaning.windows))

pub shaped_plan : (closed : ℕ → ℕ) (vs : List ℕ) (q : Resolved) → 0 < length q.windows → Shaped closed q (plan_of vs q)
shaped_plan closed vs q some =
    let n : ℕ = length q.windows in
    let cs : List Condition = all_conjuncts q.condition in
    let each : List (List Condition) = all_alone (own_of n cs) in
    let keys : List (List Key) = map (map (key_placed vs)) (join_keys_of n cs) in
    let rest : List Condition = map (moved (placed vs)) (remaining n cs) in
    let own_long : length each ≡ n = length-map (own_of n cs) _ ∙ length-map-range_with_len (own n cs) 0 n in
    let keys_long : length keys ≡ n - 1 = length-map (join_keys_of n cs) _ ∙ length-map-range_with_len (join_keys cs) 1 (n - 1) in
    let tops_long : length (tops 0 each) ≡ n = tops-length 0 each ∙ own_long in
    let tops_some : 0 < length (tops 0 each) = omega (arith, tops_long, some) in
    let keys_tops : length keys ≡ length (tops 0 each) - 1 = omega (arith, tops_long, keys_long) in
    let ns : List plan.Node = plan_of vs q in
    let root : (2 ≤ length ns) × (get_or ns (length ns - 1) (WindowNode 0) ≡ ToStream (length ns - 2) q.operator) = nodes-root each keys rest q.is_distinct (placed vs) q.shape q.operator in
    let rises : Rises 0 ns = nodes-rise each keys rest q.is_distinct (placed vs) q.shape q.operator tops_some in
    record {
      two = root.0;
      root = root.1;
      rises = rises;
      laid = laid ns q.operator root.0 root.1 rises (λ i h. nodes-times i each keys rest q.is_distinct (placed vs) q.shape q.operator tops_some keys_tops ∙ (let e : nat_lt i (length ns - 1) ≡ true = lt-ltb i (length ns - 1) h in rw e refl));
      least = nodes-least closed each keys rest q.is_distinct (placed vs) q.shape q.operator tops_some keys_tops ∙ ap (λ k. least_all (closed_from closed 0 k)) own_long;
    }

-- the last of a list
last_at : (xs : List (List Row)) → last_of xs ≡ get_or xs (length xs - 1) []
last_at [] = refl
last_at (x ∷ []) = refl
last_at (x ∷ y ∷ xs) = let e : suc (length (y ∷ xs) - 1) ≡ length (x ∷ y ∷ xs) - 1 = omega arith in last_at (y ∷ xs) ∙ ap (λ i. get_or (x ∷ y ∷ xs) i []) e

-- the operator below the root has the value of the plan
pub top_value : (ws : List (List Row)) (ns : List plan.Node) (op : StreamOperator) → 2 ≤ length ns → get_or ns (length ns - 1) (WindowNode 0) ≡ ToStream (length ns - 2) op → Rises 0 ns
    → get_or (values_of ws [] ns) (length ns - 1 - 1) [] ≡ plan_value ns ws
top_value ws ns op two root rises =
    let all : List (List Row) = values_of ws [] ns in
    let long : length all ≡ length ns = values-length ws [] ns ∙ omega arith in
    let e : 0 + (length ns - 1) ≡ length ns - 1 = omega arith in
    let f : length ns - 2 ≡ length ns - 1 - 1 = omega arith in
    sym (last_at all ∙ ap (λ k. get_or all (k - 1) []) long ∙ ap (λ k. get_or all k []) (sym e) ∙ value-at ws [] ns 0 (length ns - 1) (WindowNode 0) refl rises (omega (arith, two)) ∙ ap (node_value ws all) root ∙ ap (λ k. get_or all k []) f)

pub top_least : (closed : ℕ → ℕ) (ns : List plan.Node) (op : StreamOperator) → 2 ≤ length ns → get_or ns (length ns - 1) (WindowNode 0) ≡ ToStream (length ns - 2) op → Rises 0 ns
    → least_in ns closed (length ns - 1 - 1) ≡ least_in ns closed (length ns - 1)
top_least closed ns op two root rises =
    let all : List ℕ = leasts_of closed [] ns in
    let e : 0 + (length ns - 1) ≡ length ns - 1 = omega arith in
    let f : length ns - 2 ≡ length ns - 1 - 1 = omega arith in
    sym (ap (λ k. get_or all k 0) (sym e) ∙ least-at closed [] ns 0 (length ns - 1) (WindowNode 0) refl rises (omega (arith, two)) ∙ ap (least_by closed all) root ∙ ap (λ k. get_or all k 0) f)
