-- Each path of a plan has a chart.
use Rattle.std.proofs.Common.{◌≡◌, ℕ, zero, suc, ◌+◌, ◌-◌, ◌*◌, ◌<◌, ◌≤◌, ◌==◌, Bool, true, false, ◌&&◌, ℤ, pos, Option, Some, None, List, [], ◌∷◌, ◌++◌, map, length, get_or, refl, sym, ap, subst, ◌∙◌, arith, append_assoc, length-append}
use Rattle.std.proofs.Math.IntN.{negsuc}
use Rattle.std.specs.Prelude.{int_le, nat_abs}
use Rattle.std.specs.List.{AllByRecursion, list_all}
use Rattle.std.specs.Ordering.{int_eq}
use Rattle.std.proofs.lemmas.Bool.{and_parts, leb-true, eqb-true}
use Rattle.std.proofs.lemmas.Bool.Decides.{Decides-int_eq}
use Rattle.std.proofs.lemmas.List.{length-map, map-append, get_or-append-add}
use Rattle.std.proofs.lemmas.List.FromFn.{length-map-range_with_len}
use Rattle.values.specs.Condition.{Condition}
use Rattle.values.specs.Answers.{Resolved, StreamOperator}
use Rattle.cql_reader.specs.Query as syntax
use Rattle.names.specs.Catalog.{Stream}
use Rattle.names.specs.Resolved.{resolved, widths}
use Rattle.names.specs.Split.{all_conjuncts, own, own_of, join_keys, join_keys_of, remaining}
use Rattle.envelope.specs.Chart.{full_size}
use Rattle.plan.specs.Nodes.{Key, Node, Window, Select, Join, Project, Group, Distinct, ToStream}
use Rattle.plan.specs.Build.{source_nodes, tops, join_nodes, joins_of, top_of, rest_nodes, rest_top, shape_node, end_nodes, nodes_over, all_alone, key_placed, moved, placed, plan_of}
use Rattle.plan.specs.Chart.{measure, default_of, is_measure, root_size, is_bad_chart, measure_of, measures_of}
use Rattle.plan.specs.Paths.{onward, path_from, windows, measures_on}
use Rattle.plan.specs.Charts.{HaveCharts}
use Rattle.plan.specs.Views.{nodes_of}
use Rattle.plan.specs.declared.chart.Measure.{Measure}
use Rattle.plan.specs.declared.node.Node as code
use Rattle.plan.proofs.Lists.{each-weaken, each-map, each_at}
use Rattle.plan.proofs.Charts.{three_false}
use Rattle.plan.proofs.Whole.{tops-length}
use Rattle.plan.proofs.Timed.{InRange, last_size, chart_of_measures}
use Rattle.plan.proofs.Leads.{last_number, reached, last-onward, onward-below, onward-length, windows-below, end-length, nodes-lead}

-- the measures are in range, one for each of so many operators, and the last leaves no size
record Measured (count : ℕ) (ms : List Measure) : Type 0 where
  long : length ms ≡ count
  good : AllByRecursion InRange ms
  root : (get_or ms (count - 1) (measure 0 0)).size ≡ 0

last-on : (s : ℕ) (ms : List Measure) (i : ℕ) (ns : List ℕ) → last_size s (measures_on ms (i ∷ ns)) ≡ (get_or ms (last_number i ns) (measure 0 0)).size
last-on s ms i [] = refl
last-on s ms i (n ∷ ns) = last-on (get_or ms i (measure 0 0)).size ms n ns

charts : (nodes : List Node) (ms : List Measure) → length nodes < 1000000 → Measured (length nodes) ms
    → AllByRecursion (λ w. reached w 0 nodes ≡ length nodes - 1) (windows 0 nodes) → HaveCharts nodes ms
charts nodes ms few measured lead k l =
    let w : ℕ = get_or (windows 0 nodes) k 0 in
    let path : List ℕ = path_from nodes w in
    let long : length (measures_on ms path) ≡ suc (length (onward w 0 nodes)) = length-map path _ in
    let below : AllByRecursion (λ i. i < length nodes) path =
    (each_at (λ i. i < length nodes) (windows 0 nodes) k 0 l (windows-below 0 (length nodes) nodes (omega arith)), onward-below w 0 (length nodes) nodes (omega arith)) in
    let good : AllByRecursion InRange (measures_on ms path) =
    each-map InRange (λ i. get_or ms i (measure 0 0)) path
    (each-weaken (λ i. i < length nodes) (λ i. InRange (get_or ms i (measure 0 0))) (λ i h. each_at InRange ms i (measure 0 0) (omega (arith, h, measured.long)) measured.good) path below) in
    let leads : last_number w (onward w 0 nodes) ≡ length nodes - 1 =
    last-onward w 0 nodes ∙ each_at (λ w. reached w 0 nodes ≡ length nodes - 1) (windows 0 nodes) k 0 l lead in
    chart_of_measures (measures_on ms path) (omega (arith, long)) (omega (arith, long, few, onward-length w 0 nodes)) good
    (last-on full_size ms w (onward w 0 nodes) ∙ ap (λ i. (get_or ms i (measure 0 0)).size) leads ∙ measured.root)

-- BY DEFAULT
in_range : (x : Node) → InRange (default_of x)
in_range (Window s) = record { costs = omega arith; small = omega arith; size = omega arith }
in_range (Select i cs) = record { costs = omega arith; small = omega arith; size = omega arith }
in_range (Join i j ks) = record { costs = omega arith; small = omega arith; size = omega arith }
in_range (Project i columns) = record { costs = omega arith; small = omega arith; size = omega arith }
in_range (Group i by items) = record { costs = omega arith; small = omega arith; size = omega arith }
in_range (Distinct i) = record { costs = omega arith; small = omega arith; size = omega arith }
in_range (ToStream i op) = record { costs = omega arith; small = omega arith; size = omega arith }

all_in_range : (xs : List Node) → AllByRecursion InRange (map default_of xs)
all_in_range [] = tt
all_in_range (x ∷ xs) = (in_range x, all_in_range xs)

end-root : (b : Bool) (shape : Node) (op : StreamOperator) (k : ℕ)
    → get_or (map default_of (end_nodes b shape op k)) (length (end_nodes b shape op k) - 1) (measure 0 0) ≡ measure 1 0
end-root true shape op k = refl
end-root false shape op k = refl

default-root : (xs : List Node) (b : Bool) (shape : Node) (op : StreamOperator) (k : ℕ)
    → get_or (map default_of (xs ++ end_nodes b shape op k)) (length (xs ++ end_nodes b shape op k) - 1) (measure 0 0) ≡ measure 1 0
default-root xs b shape op k =
    let end : List Node = end_nodes b shape op k in
    let place : length (xs ++ end) - 1 ≡ length (map default_of xs) + (length end - 1) = omega (arith, length-append xs end, length-map xs default_of, (end-length b shape op k).0) in
    ap (λ v. get_or v (length (xs ++ end) - 1) (measure 0 0)) (map-append default_of xs end)
    ∙ ap (λ i. get_or (map default_of xs ++ map default_of end) i (measure 0 0)) place
    ∙ get_or-append-add (map default_of xs) (map default_of end) (length end - 1) (measure 0 0)
    ∙ end-root b shape op k

by_default : (own : List (List Condition)) (keys : List (List Key)) (rest : List Condition) (b : Bool) (shape : ℕ → Node) (op : StreamOperator)
    → Measured (length (nodes_over own keys rest b shape op)) (map default_of (nodes_over own keys rest b shape op))
by_default own keys rest b shape op =
    let sources : List Node = source_nodes 0 0 own in
    let joins : List Node = joins_of (length sources) (tops 0 own) keys in
    let top : ℕ = top_of (length sources) (tops 0 own) keys in
    let selects : List Node = rest_nodes top rest in
    let k : ℕ = length (sources ++ (joins ++ selects)) in
    let last : Node = shape (rest_top (length (sources ++ joins)) top rest) in
    let end : List Node = end_nodes b last op k in
    let e : (sources ++ (joins ++ selects)) ++ end ≡ sources ++ (joins ++ (selects ++ end)) = append_assoc sources (joins ++ selects) end ∙ ap (λ v. sources ++ v) (append_assoc joins selects end) in
    let root : get_or (map default_of (sources ++ (joins ++ (selects ++ end)))) (length (sources ++ (joins ++ (selects ++ end))) - 1) (measure 0 0) ≡ measure 1 0 =
    rw (← e) (default-root (sources ++ (joins ++ selects)) b last op k) in
    record {
      long = length-map (nodes_over own keys rest b shape op) default_of;
      good = all_in_range (nodes_over own keys rest b shape op);
      root = ap (λ m. m.size) root;
    }

-- AS GIVEN
given_in_range : (c s : ℤ) → is_measure (c, s) ≡ true → InRange (measure_of (c, s))
given_in_range (pos c) (pos s) h =
    let parts : ((int_le (pos 1) (pos c) && int_le (pos c) (pos 1000000)) ≡ true) × ((int_le (pos 0) (pos s) && int_le (pos s) (pos 1000000)) ≡ true) = and_parts _ _ h in
    record {
      costs = leb-true 1 c (and_parts _ _ parts.0).0;
      small = leb-true c 1000000 (and_parts _ _ parts.0).1;
      size = leb-true s 1000000 (and_parts _ _ parts.1).1;
    }
given_in_range (negsuc c) s h = cc
given_in_range (pos c) (negsuc s) h =
    let sizes : (int_le (pos 0) (negsuc s) && int_le (negsuc s) (pos 1000000)) ≡ true =
    (and_parts (int_le (pos 1) (pos c) && int_le (pos c) (pos 1000000)) (int_le (pos 0) (negsuc s) && int_le (negsuc s) (pos 1000000)) h).1 in
    let bad : false ≡ true = (and_parts (int_le (pos 0) (negsuc s)) (int_le (negsuc s) (pos 1000000)) sizes).0 in cc

all_given : (given : List (ℤ × ℤ)) → list_all is_measure given ≡ true → AllByRecursion InRange (map measure_of given)
all_given [] h = tt
all_given (g ∷ given) h =
    (given_in_range g.0 g.1 (and_parts (is_measure g) (list_all is_measure given) h).0, all_given given (and_parts (is_measure g) (list_all is_measure given) h).1)

zero_root : (z : ℤ) → int_eq z (pos 0) ≡ true → z ≡ pos 0
zero_root z h = (Decides-int_eq z (pos 0)).0 h

measure_at : (given : List (ℤ × ℤ)) (i : ℕ) → get_or (map measure_of given) i (measure 0 0) ≡ measure_of (get_or given i (pos 0, pos 0))
measure_at [] i = refl
measure_at (g ∷ given) zero = refl
measure_at (g ∷ given) (suc i) = measure_at given i

as_given : (count : ℕ) (given : List (ℤ × ℤ)) → is_bad_chart count (Some given) ≡ false → Measured count (map measure_of given)
as_given count given h =
    let parts : ((length given == count) ≡ true) × ((int_eq (root_size given) (pos 0) ≡ true) × (list_all is_measure given ≡ true)) =
    three_false (length given == count) (int_eq (root_size given) (pos 0)) (list_all is_measure given) h in
    let long : length given ≡ count = eqb-true (length given) count parts.0 in
    let nought : root_size given ≡ pos 0 = zero_root (root_size given) parts.1.0 in
    record {
      long = length-map given measure_of ∙ long;
      good = all_given given parts.1.1;
      root = ap (λ n. (get_or (map measure_of given) (n - 1) (measure 0 0)).size) (sym long)
          ∙ ap (λ m. m.size) (measure_at given (length given - 1)) ∙ ap (λ z. nat_abs z) nought;
    }

-- THE WHOLE PLAN
sources-length : (n s : ℕ) (each : List (List Condition)) → length (source_nodes n s each) ≤ 2 * length each
sources-length n s [] = omega arith
sources-length n s ([] ∷ each) = omega (arith, sources-length (suc n) (suc s) each)
sources-length n s ((c ∷ cs) ∷ each) = omega (arith, sources-length (suc (suc n)) (suc s) each)

join-length : (n left : ℕ) (ts : List ℕ) (each : List (List Key)) → length (join_nodes n left ts each) ≤ length each
join-length n left [] each = omega arith
join-length n left (t ∷ ts) [] = omega arith
join-length n left (t ∷ ts) (ks ∷ each) = omega (arith, join-length (suc n) n ts each)

joins-length : (n : ℕ) (ts : List ℕ) (each : List (List Key)) → length (joins_of n ts each) ≤ length each
joins-length n [] each = omega arith
joins-length n (t ∷ ts) each = join-length n t ts each

rest-length : (top : ℕ) (cs : List Condition) → length (rest_nodes top cs) ≤ 1
rest-length top [] = omega arith
rest-length top (c ∷ cs) = omega arith

nodes-few : (own : List (List Condition)) (keys : List (List Key)) (rest : List Condition) (b : Bool) (shape : ℕ → Node) (op : StreamOperator)
    → length (nodes_over own keys rest b shape op) ≤ 2 * length own + length keys + 4
nodes-few own keys rest b shape op =
    let sources : List Node = source_nodes 0 0 own in
    let joins : List Node = joins_of (length sources) (tops 0 own) keys in
    let top : ℕ = top_of (length sources) (tops 0 own) keys in
    let selects : List Node = rest_nodes top rest in
    let k : ℕ = length (sources ++ (joins ++ selects)) in
    let last : Node = shape (rest_top (length (sources ++ joins)) top rest) in
    let end : List Node = end_nodes b last op k in
    omega (
      arith,
      length-append sources (joins ++ (selects ++ end)),
      length-append joins (selects ++ end),
      length-append selects end,
      sources-length 0 0 own,
      joins-length (length sources) (tops 0 own) keys,
      rest-length top rest,
      (end-length b last op k).1,
    )

measured_plan : (nodes : List Node) (given : Option (List (ℤ × ℤ))) → Measured (length nodes) (map default_of nodes) → is_bad_chart (length nodes) given ≡ false
    → Measured (length nodes) (measures_of nodes given)
measured_plan nodes None d h = d
measured_plan nodes (Some given) d h = as_given (length nodes) given h

plan_charts : (vs : List ℕ) (q : Resolved) (given : Option (List (ℤ × ℤ))) → length q.windows ≤ 1000 → is_bad_chart (length (plan_of vs q)) given ≡ false
    → HaveCharts (plan_of vs q) (measures_of (plan_of vs q) given)
plan_charts vs q given few h =
    let n : ℕ = length q.windows in
    let cs : List Condition = all_conjuncts q.condition in
    let each : List (List Condition) = all_alone (own_of n cs) in
    let keys : List (List Key) = map (map (key_placed vs)) (join_keys_of n cs) in
    let rest : List Condition = map (moved (placed vs)) (remaining n cs) in
    let own_long : length each ≡ n = length-map (own_of n cs) _ ∙ length-map-range_with_len (own n cs) 0 n in
    let keys_long : length keys ≡ n - 1 = length-map (join_keys_of n cs) _ ∙ length-map-range_with_len (join_keys cs) 1 (n - 1) in
    let tops_long : length (tops 0 each) ≡ n = tops-length 0 each ∙ own_long in
    let small : length (plan_of vs q) ≤ 2 * length each + length keys + 4 = nodes-few each keys rest q.is_distinct (λ top. shape_node (placed vs) top q.shape) q.operator in
    charts (plan_of vs q) (measures_of (plan_of vs q) given) (omega (arith, small, own_long, keys_long, few))
    (measured_plan (plan_of vs q) given (by_default each keys rest q.is_distinct (λ top. shape_node (placed vs) top q.shape) q.operator) h)
    (nodes-lead each keys rest q.is_distinct (placed vs) q.shape q.operator (omega (arith, tops_long, keys_long)))

pub have_charts : (q : syntax.Query) (catalog : List Stream) (given : Option (List (ℤ × ℤ))) (nodes lent : List code.Node) (ms : List Measure)
    → length q.sources ≤ 1000 → lent ≡ nodes → nodes_of nodes ≡ plan_of (widths q catalog) (resolved q catalog)
    → is_bad_chart (length (nodes_of lent)) given ≡ false → ms ≡ measures_of (nodes_of lent) given → HaveCharts (nodes_of nodes) ms
have_charts q catalog given nodes lent ms few l p h m =
    let e : nodes_of lent ≡ plan_of (widths q catalog) (resolved q catalog) = ap nodes_of l ∙ p in
    let many : length (resolved q catalog).windows ≡ length q.sources = length-map q.sources _ in
    let g : is_bad_chart (length (plan_of (widths q catalog) (resolved q catalog))) given ≡ false = rw e at h in
    let measured : measures_of (plan_of (widths q catalog) (resolved q catalog)) given ≡ ms = sym (m ∙ ap (λ v. measures_of v given) e) in
    subst (λ v. HaveCharts v ms) (sym p)
    (subst (λ v. HaveCharts (plan_of (widths q catalog) (resolved q catalog)) v) measured (plan_charts (widths q catalog) (resolved q catalog) given (omega (arith, few, many)) g))
