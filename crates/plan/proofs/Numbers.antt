-- AllByRecursion node's value is that of its inputs, which have smaller numbers.
use Rattle.std.proofs.Common.{◌≡◌, ℕ, zero, suc, ◌+◌, ◌<◌, ◌≤◌, Bool, true, false, List, [], ◌∷◌, ◌++◌, length, get_or, refl, sym, ap, ◌∙◌, arith, length-append}
use Rattle.values.specs.Row.{Row, row_cmp}
use Rattle.values.specs.Bag.{distinct}
use Rattle.values.specs.Condition.{SourceColumn, Condition}
use Rattle.values.specs.Relation.{Shape, Listed, Grouped}
use Rattle.values.specs.Answers.{StreamOperator}
use Rattle.plan.specs.Nodes.{Key, Node, Window, Select, Join, Project, Group, Distinct, ToStream}
use Rattle.plan.specs.Values.{selected, joined, shaped_rows, node_value, values_of}
use Rattle.plan.specs.Build.{source_nodes, tops, join_nodes, joins_top, joins_of, top_of, rest_nodes, rest_top, shape_node, end_nodes, nodes_over}
use Rattle.std.specs.List.{AllByRecursion}
use Rattle.plan.proofs.Values.{values-stay, at_end, tops-below}

-- the inputs of the node are below n
abbrev pub Below : ℕ → Node → Type 0
Below n (Window s) = Unit {0}
Below n (Select i cs) = i < n
Below n (Join i j ks) = (i < n) × (j < n)
Below n (Project i columns) = i < n
Below n (Group i by items) = i < n
Below n (Distinct i) = i < n
Below n (ToStream i op) = i < n

-- the nodes, numbered from n on, have inputs of smaller numbers
abbrev pub Rises : ℕ → List Node → Type 0
Rises n [] = Unit {0}
Rises n (x ∷ xs) = Below n x × Rises (suc n) xs

value-same : (ws done all : List (List Row)) (n : ℕ) → ((k : ℕ) → k < n → get_or all k [] ≡ get_or done k []) → (x : Node) → Below n x → node_value ws done x ≡ node_value ws all x
value-same ws done all n h (Window s) b = refl
value-same ws done all n h (Select i cs) b = ap (selected cs) (sym (h i b))
value-same ws done all n h (Join i j ks) b = ap (λ v. joined ks v (get_or done j [])) (sym (h i b.0)) ∙ ap (joined ks (get_or all i [])) (sym (h j b.1))
value-same ws done all n h (Project i columns) b = ap (shaped_rows (Listed columns)) (sym (h i b))
value-same ws done all n h (Group i by items) b = ap (shaped_rows (Grouped by items)) (sym (h i b))
value-same ws done all n h (Distinct i) b = ap (distinct row_cmp) (sym (h i b))
value-same ws done all n h (ToStream i op) b = sym (h i b)

-- THE EQUATION OF EACH NODE
pub value-at : (ws done : List (List Row)) (xs : List Node) (n i : ℕ) (d : Node) → length done ≡ n → Rises n xs → i < length xs
    → get_or (values_of ws done xs) (n + i) [] ≡ node_value ws (values_of ws done xs) (get_or xs i d)
value-at ws done [] n i d e r l = absurd (omega (arith, l))
value-at ws done (x ∷ xs) n zero d e r l =
    let y : List Row = node_value ws done x in
    let all : List (List Row) = values_of ws (done ++ y ∷ []) xs in
    let j : n + zero ≡ n = omega arith in
    rw j (values-stay ws (done ++ y ∷ []) xs n (omega (arith, e, length-append done (y ∷ []))) ∙ at_end done y n e
    ∙ value-same ws done all n (λ k b. values-stay ws done (x ∷ xs) k (omega (arith, e, b))) x r.0)
value-at ws done (x ∷ xs) n (suc i) d e r l =
    let y : List Row = node_value ws done x in
    let j : n + suc i ≡ suc n + i = omega arith in
    rw j (value-at ws (done ++ y ∷ []) xs (suc n) i d (omega (arith, e, length-append done (y ∷ []))) r.1 (omega (arith, l)))

Rises-append : (n m : ℕ) (xs ys : List Node) → n + length xs ≡ m → Rises n xs → Rises m ys → Rises n (xs ++ ys)
Rises-append n m [] ys e r s = let j : n ≡ m = omega (arith, e) in rw j s
Rises-append n m (x ∷ xs) ys e r s = (r.0, Rises-append (suc n) m xs ys (omega (arith, e)) r.1 s)

sources-rise : (n s : ℕ) (each : List (List Condition)) → Rises n (source_nodes n s each)
sources-rise n s [] = tt
sources-rise n s ([] ∷ each) = (tt, sources-rise (suc n) (suc s) each)
sources-rise n s ((c ∷ cs) ∷ each) = (tt, (omega arith, sources-rise (suc (suc n)) (suc s) each))

below_more : (n : ℕ) (ts : List ℕ) → AllByRecursion (λ t. t < n) ts → AllByRecursion (λ t. t < suc n) ts
below_more n [] h = tt
below_more n (t ∷ ts) h = (omega (arith, h.0), below_more n ts h.1)

joins-rise : (n left : ℕ) (ts : List ℕ) (each : List (List Key)) → left < n → AllByRecursion (λ t. t < n) ts → Rises n (join_nodes n left ts each)
joins-rise n left [] each l h = tt
joins-rise n left (t ∷ ts) [] l h = tt
joins-rise n left (t ∷ ts) (ks ∷ each) l h = ((l, h.0), joins-rise (suc n) n ts each (omega arith) (below_more n ts h.1))

top-below : (n left : ℕ) (ts : List ℕ) (each : List (List Key)) (m : ℕ) → left < n → n + length (join_nodes n left ts each) ≤ m → joins_top n left ts each < m
top-below n left [] each m l h = omega (arith, l, h)
top-below n left (t ∷ ts) [] m l h = omega (arith, l, h)
top-below n left (t ∷ ts) (ks ∷ each) m l h = top-below (suc n) n ts each m (omega arith) (omega (arith, h))

all_joins-rise : (n : ℕ) (ts : List ℕ) (each : List (List Key)) → AllByRecursion (λ t. t < n) ts → Rises n (joins_of n ts each)
all_joins-rise n [] each h = tt
all_joins-rise n (t ∷ ts) each h = joins-rise n t ts each h.0 h.1

all_top-below : (n : ℕ) (ts : List ℕ) (each : List (List Key)) (m : ℕ) → 0 < length ts → AllByRecursion (λ t. t < n) ts → n + length (joins_of n ts each) ≤ m → top_of n ts each < m
all_top-below n [] each m s h l = absurd (omega (arith, s))
all_top-below n (t ∷ ts) each m s h l = top-below n t ts each m h.0 l

rest-rises : (n top : ℕ) (cs : List Condition) → top < n → Rises n (rest_nodes top cs)
rest-rises n top [] l = tt
rest-rises n top (c ∷ cs) l = (l, tt)

rest-below : (n top : ℕ) (cs : List Condition) (m : ℕ) → top < n → n + length (rest_nodes top cs) ≤ m → rest_top n top cs < m
rest-below n top [] m l h = omega (arith, l, h)
rest-below n top (c ∷ cs) m l h = omega (arith, h)

shape-below : (f : SourceColumn → SourceColumn) (n top : ℕ) (shape : Shape) → top < n → Below n (shape_node f top shape)
shape-below f n top (Listed columns) l = l
shape-below f n top (Grouped by items) l = l

ends-rise : (b : Bool) (shape : Node) (op : StreamOperator) (n : ℕ) → Below n shape → Rises n (end_nodes b shape op n)
ends-rise true shape op n l = (l, (omega arith, (omega arith, tt)))
ends-rise false shape op n l = (l, (omega arith, tt))

pub nodes-rise : (own : List (List Condition)) (keys : List (List Key)) (rest : List Condition) (b : Bool) (f : SourceColumn → SourceColumn) (shape : Shape) (op : StreamOperator)
    → 0 < length (tops 0 own) → Rises 0 (nodes_over own keys rest b (λ top. shape_node f top shape) op)
nodes-rise own keys rest b f shape op some =
    let sources : List Node = source_nodes 0 0 own in
    let n : ℕ = length sources in
    let joins : List Node = joins_of n (tops 0 own) keys in
    let top : ℕ = top_of n (tops 0 own) keys in
    let selects : List Node = rest_nodes top rest in
    let m : ℕ = length (sources ++ joins) in
    let k : ℕ = length (sources ++ (joins ++ selects)) in
    let below : AllByRecursion (λ t. t < n) (tops 0 own) = tops-below 0 0 own n (omega arith) in
    let under : top < m = all_top-below n (tops 0 own) keys m some below (omega (arith, length-append sources joins)) in
    let last : rest_top m top rest < k = rest-below m top rest k under (omega (arith, length-append sources joins, length-append sources (joins ++ selects), length-append joins selects)) in
    Rises-append 0 n sources _ (omega arith) (sources-rise 0 0 own)
    (Rises-append n m joins _ (omega (arith, length-append sources joins)) (all_joins-rise n (tops 0 own) keys below)
    (Rises-append m k selects _ (omega (arith, length-append sources joins, length-append sources (joins ++ selects), length-append joins selects)) (rest-rises m top rest under)
    (ends-rise b (shape_node f (rest_top m top rest) shape) op k (shape-below f k (rest_top m top rest) shape last))))
