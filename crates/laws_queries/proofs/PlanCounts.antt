-- How many rows the operators of a plan have put out: at ticks and at any moment.
use Rattle.std.proofs.Common.{◌≡◌, ℕ, zero, suc, ◌+◌, ◌*◌, ◌-◌, ◌^◌, ◌<◌, ◌≤◌, ◌==◌, ◌&&◌, nat_le, Bool, true, false, cond, max, List, [], ◌∷◌, ◌++◌, map, filter, length, get_or, refl, sym, ap, ap₂, ◌∙◌, subst, arith, length-append, le_refl, le_trans, mul-le-mul, suc-mul}
use Rattle.std.specs.Prelude.{slice_get}
use Rattle.std.specs.List.{AllByRecursion, flat_map, list_any}
use Rattle.std.specs.Option.{option_map_or}
use Rattle.std.proofs.lemmas.List.{get_or_append_left, length-map}
use Rattle.std.proofs.lemmas.List.FromFn.{length-map-range_with_len}
use Rattle.std.proofs.Math.Seq.{get_or-append_seam}
use Rattle.values.specs.Row.{Row, row_cmp}
use Rattle.values.specs.Bag.{distinct, is_same}
use Rattle.values.specs.Window.{Element, Window, input_of, shows}
use Rattle.values.specs.Condition.{SourceColumn, Condition, field}
use Rattle.values.specs.Relation.{Shape, ListItem, Listed, Grouped, key_of, keys_of, group_row}
use Rattle.values.specs.Answers.{StreamOperator, Resolved, shown_at}
use Rattle.names.specs.Split.{all_conjuncts, join_keys, join_keys_of, own_of, remaining}
use Rattle.op_queue.specs.Signed.{weigh}
use Rattle.plan.specs.Nodes as plan
use Rattle.plan.specs.Values as valued
use Rattle.plan.specs.Nodes.{Key, Window as WindowNode, Select, Join, Project, Group, Distinct}
use Rattle.plan.specs.Nodes.{ToStream}
use Rattle.plan.specs.Values.{node_value, values_of, pair, holds_all, joined}
use Rattle.plan.specs.Build.{all_alone, end_nodes, join_nodes, joins_of, key_placed, moved, nodes_over, placed, plan_of, rest_nodes, rest_top, shape_node, source_nodes, top_of, tops}
use Rattle.plan.proofs.Numbers.{Below, Rises}
use Rattle.reference.specs.Commands.{rows_of_each}
use Rattle.reference.specs.declared.limits.TheConstants.{MAX_STREAM_ROWS, MAX_ROWS_OF_THREE, MAX_ROWS_OF_FOUR}
use Rattle.reference.specs.Machine.{Machine, Registered, Stream, Place, input_at}
use Rattle.laws_dataflow.specs.Nets.{left_of, right_of}
use Rattle.laws_dataflow.specs.Operators.{net_of}
use Rattle.laws_dataflow.specs.Plans.{arrivals_at, bags_of, comes, inputs_of, value_of}
use Rattle.laws_dataflow.specs.Roots.{below_root}
use Rattle.laws_dataflow.proofs.PlanLemmas.{shaped_plan}
use Rattle.laws_queries.specs.Counts.{count, most_rows, most_rows_by, rows_of, source_rows, sources_of, tick_rows, tick_rows_by}
use Rattle.laws_queries.specs.Rooms.{CountsArrivals, HasShortInputs, IsBounded, PlanHasRoom, RootHasRoom}

-- BOUNDS BY THOSE OF THE INPUTS

-- the bound of an operator goes by those of its inputs
abbrev IsLocal : ((ℕ → ℕ) → plan.Node → ℕ) → Type 0
IsLocal by = (n : ℕ) (f g : ℕ → ℕ) → ((k : ℕ) → k < n → f k ≡ g k) → (x : plan.Node) → Below n x → by f x ≡ by g x

ticks_local : (most : ℕ) → IsLocal (tick_rows_by most)
ticks_local most n f g h (WindowNode s) b = refl
ticks_local most n f g h (Select i cs) b = h i b
ticks_local most n f g h (Join i j ks) b = ap₂ (λ x y. x * y) (h i b.0) (h j b.1)
ticks_local most n f g h (Project i columns) b = h i b
ticks_local most n f g h (Group i by items) b = ap (max 1) (h i b)
ticks_local most n f g h (Distinct i) b = h i b
ticks_local most n f g h (ToStream i op) b = h i b

most_local : (ns : List plan.Node) → IsLocal (most_rows_by ns)
most_local ns n f g h (WindowNode s) b = refl
most_local ns n f g h (Select i cs) b = h i b
most_local ns n f g h (Join i j ks) b = ap₂ (λ x y. x * y) (h i b.0) (h j b.1)
most_local ns n f g h (Project i columns) b = h i b
most_local ns n f g h (Group i by items) b = refl
most_local ns n f g h (Distinct i) b = refl
most_local ns n f g h (ToStream i op) b = h i b

-- none of these is above the bound
abbrev Under : ℕ → List ℕ → Type 0
Under b xs = AllByRecursion (λ x. x ≤ b) xs

under-at : (b : ℕ) (xs : List ℕ) → Under b xs → (i : ℕ) → get_or xs i 0 ≤ b
under-at b [] u i = omega arith
under-at b (x ∷ xs) u zero = u.0
under-at b (x ∷ xs) u (suc i) = under-at b xs u.1 i

under-push : (b : ℕ) (xs : List ℕ) (x : ℕ) → Under b xs → x ≤ b → Under b (xs ++ x ∷ [])
under-push b [] x u h = (h, tt)
under-push b (y ∷ xs) x u h = (u.0, under-push b xs x u.1 h)

under-more : (b c : ℕ) (xs : List ℕ) → b ≤ c → Under b xs → Under c xs
under-more b c [] l u = tt
under-more b c (x ∷ xs) l u = (omega (arith, u.0, l), under-more b c xs l u.1)

-- HOW MANY SOURCES a plan has
sources-append : (xs ys : List plan.Node) → sources_of (xs ++ ys) ≡ sources_of xs + sources_of ys
sources-append [] ys = omega arith
sources-append (WindowNode s ∷ xs) ys = omega (arith, sources-append xs ys)
sources-append (Select i cs ∷ xs) ys = sources-append xs ys
sources-append (Join i j ks ∷ xs) ys = sources-append xs ys
sources-append (Project i columns ∷ xs) ys = sources-append xs ys
sources-append (Group i by items ∷ xs) ys = sources-append xs ys
sources-append (Distinct i ∷ xs) ys = sources-append xs ys
sources-append (ToStream i op ∷ xs) ys = sources-append xs ys

sources-sources : (n s : ℕ) (own : List (List Condition)) → sources_of (source_nodes n s own) ≡ length own
sources-sources n s [] = refl
sources-sources n s ([] ∷ own) = ap suc (sources-sources (suc n) (suc s) own)
sources-sources n s ((c ∷ cs) ∷ own) = ap suc (sources-sources (suc (suc n)) (suc s) own)

sources-joins : (n left : ℕ) (ts : List ℕ) (keys : List (List Key)) → sources_of (join_nodes n left ts keys) ≡ 0
sources-joins n left [] keys = refl
sources-joins n left (t ∷ ts) [] = refl
sources-joins n left (t ∷ ts) (ks ∷ keys) = sources-joins (suc n) n ts keys

sources-all_joins : (n : ℕ) (ts : List ℕ) (keys : List (List Key)) → sources_of (joins_of n ts keys) ≡ 0
sources-all_joins n [] keys = refl
sources-all_joins n (t ∷ ts) keys = sources-joins n t ts keys

sources-rest : (top : ℕ) (cs : List Condition) → sources_of (rest_nodes top cs) ≡ 0
sources-rest top [] = refl
sources-rest top (c ∷ cs) = refl

sources-end : (b : Bool) (f : SourceColumn → SourceColumn) (top : ℕ) (shape : Shape) (op : StreamOperator) (k : ℕ) → sources_of (end_nodes b (shape_node f top shape) op k) ≡ 0
sources-end true f top (Listed columns) op k = refl
sources-end true f top (Grouped by items) op k = refl
sources-end false f top (Listed columns) op k = refl
sources-end false f top (Grouped by items) op k = refl

-- a plan has a source for each list of own conditions
pub sources-plan : (own : List (List Condition)) (keys : List (List Key)) (rest : List Condition) (b : Bool) (f : SourceColumn → SourceColumn) (shape : Shape) (op : StreamOperator)
    → sources_of (nodes_over own keys rest b (λ top. shape_node f top shape) op) ≡ length own
sources-plan own keys rest b f shape op =
    let sources : List plan.Node = source_nodes 0 0 own in
    let joins : List plan.Node = joins_of (length sources) (tops 0 own) keys in
    let top : ℕ = top_of (length sources) (tops 0 own) keys in
    let selects : List plan.Node = rest_nodes top rest in
    let last : ℕ = rest_top (length (sources ++ joins)) top rest in
    let k : ℕ = length (sources ++ (joins ++ selects)) in
    let end : List plan.Node = end_nodes b (shape_node f last shape) op k in
    let a : sources_of (sources ++ (joins ++ (selects ++ end))) ≡ sources_of sources + sources_of (joins ++ (selects ++ end)) = sources-append sources (joins ++ (selects ++ end)) in
    let c : sources_of (joins ++ (selects ++ end)) ≡ sources_of joins + sources_of (selects ++ end) = sources-append joins (selects ++ end) in
    let d : sources_of (selects ++ end) ≡ sources_of selects + sources_of end = sources-append selects end in
    omega (arith, a, c, d, sources-sources 0 0 own, sources-all_joins (length sources) (tops 0 own) keys, sources-rest top rest, sources-end b f last shape op k)

-- b times k factors m
abbrev pub times : ℕ → ℕ → ℕ → ℕ
times b m zero = b
times b m (suc k) = times (b * m) m k

one_more : (b m : ℕ) → 1 ≤ m → b ≤ b * m
one_more b m some = let p : b * 1 ≤ b * m = mul-le-mul (le_refl b) some in omega (arith, p)

grows : (b m k : ℕ) → 1 ≤ m → b ≤ times b m k
grows b m zero some = le_refl b
grows b m (suc k) some = le_trans (one_more b m some) (grows (b * m) m k some)

-- the operators of the sources stand before n
tops-below : (n s m : ℕ) (own : List (List Condition)) → n + length (source_nodes n s own) ≤ m → AllByRecursion (λ t. t < m) (tops n own)
tops-below n s m [] h = tt
tops-below n s m ([] ∷ own) h = (omega (arith, h), tops-below (suc n) (suc s) m own (omega (arith, h)))
tops-below n s m ((c ∷ cs) ∷ own) h = (omega (arith, h), tops-below (suc (suc n)) (suc s) m own (omega (arith, h)))

module _ (by : (ℕ → ℕ) → plan.Node → ℕ) where
  rows-append : (done : List ℕ) (xs ys : List plan.Node) → rows_of by done (xs ++ ys) ≡ rows_of by (rows_of by done xs) ys
  rows-append done [] ys = refl
  rows-append done (x ∷ xs) ys = rows-append (done ++ by (λ i. get_or done i 0) x ∷ []) xs ys

  rows-length : (done : List ℕ) (xs : List plan.Node) → length (rows_of by done xs) ≡ length done + length xs
  rows-length done [] = omega arith
  rows-length done (x ∷ xs) =
      let y : ℕ = by (λ i. get_or done i 0) x in
      omega (arith, rows-length (done ++ y ∷ []) xs, length-append done (y ∷ []))

  rows-stay : (done : List ℕ) (xs : List plan.Node) (i : ℕ) → i < length done → get_or (rows_of by done xs) i 0 ≡ get_or done i 0
  rows-stay done [] i h = refl
  rows-stay done (x ∷ xs) i h =
      let y : ℕ = by (λ k. get_or done k 0) x in
      rows-stay (done ++ y ∷ []) xs i (omega (arith, h, length-append done (y ∷ []))) ∙ get_or_append_left done (y ∷ []) 0 i h

  at_end : (done : List ℕ) (x n : ℕ) → length done ≡ n → get_or (done ++ x ∷ []) n 0 ≡ x
  at_end done x n e = rw (← e) (get_or-append_seam done x [] 0)

  pushed : (done : List ℕ) (x n : ℕ) → length done ≡ n → length (done ++ x ∷ []) ≡ suc n
  pushed done x n e = omega (arith, e, length-append done (x ∷ []))

  -- the equation of each operator
  rows-at : IsLocal by → (done : List ℕ) (xs : List plan.Node) (n i : ℕ) (d : plan.Node) → length done ≡ n → Rises n xs → i < length xs
      → get_or (rows_of by done xs) (n + i) 0 ≡ by (λ k. get_or (rows_of by done xs) k 0) (get_or xs i d)
  rows-at local done [] n i d e r l = absurd (omega (arith, l))
  rows-at local done (x ∷ xs) n zero d e r l =
      let y : ℕ = by (λ k. get_or done k 0) x in
      let all : List ℕ = rows_of by (done ++ y ∷ []) xs in
      let j : n + zero ≡ n = omega arith in
      rw j (rows-stay (done ++ y ∷ []) xs n (omega (arith, pushed done y n e)) ∙ at_end done y n e
      ∙ local n (λ k. get_or done k 0) (λ k. get_or all k 0) (λ k b. sym (rows-stay done (x ∷ xs) k (omega (arith, e, b)))) x r.0)
  rows-at local done (x ∷ xs) n (suc i) d e r l =
      let y : ℕ = by (λ k. get_or done k 0) x in
      let j : n + suc i ≡ suc n + i = omega arith in
      rw j (rows-at local (done ++ y ∷ []) xs (suc n) i d (pushed done y n e) r.1 (omega (arith, l)))

  pub rows-is : IsLocal by → (xs : List plan.Node) (k : ℕ) (d : plan.Node) → Rises 0 xs → k < length xs
      → get_or (rows_of by [] xs) k 0 ≡ by (λ i. get_or (rows_of by [] xs) i 0) (get_or xs k d)
  rows-is local xs k d r l = let e : 0 + k ≡ k = omega arith in ap (λ i. get_or (rows_of by [] xs) i 0) (sym e) ∙ rows-at local [] xs 0 k d refl r l

  -- BOUNDS OF ALL

  -- where its inputs are not above the bound, it is not
  abbrev Keeps : ℕ → plan.Node → Type 0
  Keeps b x = (f : ℕ → ℕ) → ((i : ℕ) → f i ≤ b) → by f x ≤ b

  -- operators that stand below those of the list, of the distinct rows and of the root, over sources of at most so many rows
  record Lower (most : ℕ) : Type 0 where
    pub windows : (f : ℕ → ℕ) (s : ℕ) → by f (WindowNode s) ≤ most
    pub selects : (f : ℕ → ℕ) (i : ℕ) (cs : List Condition) → by f (Select i cs) ≤ f i
    pub joins : (f : ℕ → ℕ) (i j : ℕ) (ks : List Key) → by f (Join i j ks) ≤ f i * f j

  record Upper (b : ℕ) : Type 0 where
    pub lists : (i : ℕ) (columns : List SourceColumn) → Keeps b (Project i columns)
    pub groups : (i : ℕ) (columns : List SourceColumn) (items : List ListItem) → Keeps b (Group i columns items)
    pub onces : (i : ℕ) → Keeps b (Distinct i)
    pub roots : (i : ℕ) (op : StreamOperator) → Keeps b (ToStream i op)

  under-one : (b : ℕ) (done : List ℕ) (x : plan.Node) → Keeps b x → Under b done → Under b (done ++ by (λ i. get_or done i 0) x ∷ [])
  under-one b done x k u = under-push b done (by (λ i. get_or done i 0) x) u (k (λ i. get_or done i 0) (under-at b done u))

  keeps_select : (most : ℕ) → Lower most → (b i : ℕ) (cs : List Condition) → Keeps b (Select i cs)
  keeps_select most l b i cs f h = omega (arith, l.selects f i cs, h i)

  keeps_window : (most : ℕ) → Lower most → (s : ℕ) → Keeps most (WindowNode s)
  keeps_window most l s f h = l.windows f s

  sources-under : (most : ℕ) → Lower most → (done : List ℕ) (n s : ℕ) (each : List (List Condition)) → Under most done → Under most (rows_of by done (source_nodes n s each))
  sources-under most l done n s [] u = u
  sources-under most l done n s ([] ∷ each) u =
      sources-under most l (done ++ by (λ i. get_or done i 0) (WindowNode s) ∷ []) (suc n) (suc s) each (under-one most done (WindowNode s) (keeps_window most l s) u)
  sources-under most l done n s ((c ∷ cs) ∷ each) u =
      let more : List ℕ = done ++ by (λ i. get_or done i 0) (WindowNode s) ∷ [] in
      sources-under most l (more ++ by (λ i. get_or more i 0) (Select n (c ∷ cs)) ∷ []) (suc (suc n)) (suc s) each
      (under-one most more (Select n (c ∷ cs)) (keeps_select most l most n (c ∷ cs)) (under-one most done (WindowNode s) (keeps_window most l s) u))

  -- JOINS, one after the other: each multiplies by the rows of one more source
  -- the first m are not above the bound
  abbrev First : ℕ → ℕ → List ℕ → Type 0
  First m most xs = (i : ℕ) → i < m → get_or xs i 0 ≤ most

  joins-under : (most m : ℕ) → Lower most → 1 ≤ most → (b : ℕ) (done : List ℕ) (n left : ℕ) (ts : List ℕ) (keys : List (List Key))
      → m ≤ length done → First m most done → AllByRecursion (λ t. t < m) ts → Under b done
      → Under (times b most (length keys)) (rows_of by done (join_nodes n left ts keys))
  joins-under most m l some b done n left [] keys long first below u = under-more b (times b most (length keys)) done (grows b most (length keys) some) u
  joins-under most m l some b done n left (t ∷ ts) [] long first below u = u
  joins-under most m l some b done n left (t ∷ ts) (ks ∷ keys) long first below u =
      let f : ℕ → ℕ = λ k. get_or done k 0 in
      let x : ℕ = by f (Join left t ks) in
      let p : f left * f t ≤ b * most = mul-le-mul (under-at b done u left) (first t below.0) in
      let q : x ≤ b * most = le_trans (l.joins f left t ks) p in
      joins-under most m l some (b * most) (done ++ x ∷ []) (suc n) n ts keys
      (omega (arith, long, length-append done (x ∷ [])))
      (λ i h. subst (λ z. z ≤ most) (sym (get_or_append_left done (x ∷ []) 0 i (omega (arith, h, long)))) (first i h))
      below.1
      (under-push (b * most) done x (under-more b (b * most) done (one_more b most some) u) q)

  rest-under : (most : ℕ) → Lower most → (b : ℕ) (done : List ℕ) (top : ℕ) (cs : List Condition) → Under b done → Under b (rows_of by done (rest_nodes top cs))
  rest-under most l b done top [] u = u
  rest-under most l b done top (c ∷ cs) u = under-one b done (Select top (c ∷ cs)) (keeps_select most l b top (c ∷ cs)) u

  shape-keeps : (b : ℕ) → Upper b → (f : SourceColumn → SourceColumn) (top : ℕ) (shape : Shape) → Keeps b (shape_node f top shape)
  shape-keeps b e f top (Listed columns) = e.lists top (map f columns)
  shape-keeps b e f top (Grouped columns items) = e.groups top _ _

  ends-under : (b : ℕ) → Upper b → (done : List ℕ) (is_distinct : Bool) (shape : plan.Node) (op : StreamOperator) (k : ℕ) → Keeps b shape → Under b done
      → Under b (rows_of by done (end_nodes is_distinct shape op k))
  ends-under b e done true shape op k h u =
      let more : List ℕ = done ++ by (λ i. get_or done i 0) shape ∷ [] in
      let yet : List ℕ = more ++ by (λ i. get_or more i 0) (Distinct k) ∷ [] in
      under-one b yet (ToStream (suc k) op) (e.roots (suc k) op) (under-one b more (Distinct k) (e.onces k) (under-one b done shape h u))
  ends-under b e done false shape op k h u =
      let more : List ℕ = done ++ by (λ i. get_or done i 0) shape ∷ [] in
      under-one b more (ToStream k op) (e.roots k op) (under-one b done shape h u)

  all_joins-under : (most : ℕ) → Lower most → 1 ≤ most → (own : List (List Condition)) (keys : List (List Key))
      → Under (times most most (length keys)) (rows_of by (rows_of by [] (source_nodes 0 0 own)) (joins_of (length (source_nodes 0 0 own)) (tops 0 own) keys))
  all_joins-under most l some own keys = here (tops 0 own) (tops-below 0 0 (length (source_nodes 0 0 own)) own (omega arith))
    where
      first : List ℕ
      first = rows_of by [] (source_nodes 0 0 own)

      low : Under most first
      low = sources-under most l [] 0 0 own tt

      long : length (source_nodes 0 0 own) ≤ length first
      long = omega (arith, rows-length [] (source_nodes 0 0 own))

      here : (ts : List ℕ) → AllByRecursion (λ t. t < length (source_nodes 0 0 own)) ts → Under (times most most (length keys)) (rows_of by first (joins_of (length (source_nodes 0 0 own)) ts keys))
      here [] h = joins-under most (length (source_nodes 0 0 own)) l some most first 0 0 [] keys long (λ i k. under-at most first low i) tt low
      here (t ∷ ts) h = joins-under most (length (source_nodes 0 0 own)) l some most first (length (source_nodes 0 0 own)) t ts keys long (λ i k. under-at most first low i) h.1 low

  nodes-under : (most b : ℕ) → Lower most → 1 ≤ most → Upper b
      → (own : List (List Condition)) (keys : List (List Key)) (rest : List Condition) (is_distinct : Bool) (f : SourceColumn → SourceColumn) (shape : Shape) (op : StreamOperator)
      → times most most (length keys) ≤ b
      → Under b (rows_of by [] (nodes_over own keys rest is_distinct (λ top. shape_node f top shape) op))
  nodes-under most b l some e own keys rest is_distinct f shape op few =
      let sources : List plan.Node = source_nodes 0 0 own in
      let n : ℕ = length sources in
      let joins : List plan.Node = joins_of n (tops 0 own) keys in
      let top : ℕ = top_of n (tops 0 own) keys in
      let selects : List plan.Node = rest_nodes top rest in
      let last : ℕ = rest_top (length (sources ++ joins)) top rest in
      let k : ℕ = length (sources ++ (joins ++ selects)) in
      let end : List plan.Node = end_nodes is_distinct (shape_node f last shape) op k in
      let first : List ℕ = rows_of by [] sources in
      let second : List ℕ = rows_of by first joins in
      let third : List ℕ = rows_of by second selects in
      let lower : Under b third = rest-under most l b second top rest (under-more (times most most (length keys)) b second few (all_joins-under most l some own keys)) in
      subst (Under b) (sym (rows-append [] sources (joins ++ (selects ++ end)) ∙ rows-append first joins (selects ++ end) ∙ rows-append second selects end))
      (ends-under b e third is_distinct (shape_node f last shape) op k (shape-keeps b e f last shape) lower)

-- THE TWO BOUNDS
-- so many rows of each of n sources have at most 2 ^ 60 combinations
pub combinations_few : (n k : ℕ) → 1 ≤ n → n ≤ 4 → k ≡ n - 1 → times (rows_of_each n) (rows_of_each n) k ≤ 2 ^ 60
combinations_few zero k some few e = absurd (omega (arith, some))
combinations_few (suc zero) k some few e = rw e (omega arith)
combinations_few (suc (suc zero)) k some few e = rw e (omega arith)
combinations_few (suc (suc (suc zero))) k some few e = rw e (omega arith)
combinations_few (suc (suc (suc (suc zero)))) k some few e = rw e (omega arith)
combinations_few (suc (suc (suc (suc (suc n))))) k some few e = absurd (omega (arith, few))

each_some : (n : ℕ) → 1 ≤ rows_of_each n
each_some n = here (nat_le n 2) (n == 3)
  where
    here : (b c : Bool) → 1 ≤ cond b MAX_STREAM_ROWS (cond c MAX_ROWS_OF_THREE MAX_ROWS_OF_FOUR)
    here true c = omega arith
    here false true = omega arith
    here false false = omega arith

ticks_lower : (most : ℕ) → Lower (tick_rows_by most) most
ticks_lower most = record { windows = λ f s. le_refl most; selects = λ f i cs. le_refl (f i); joins = λ f i j ks. le_refl (f i * f j) }

ticks_upper : (most : ℕ) → Upper (tick_rows_by most) (2 ^ 60)
ticks_upper most = record { lists = λ i columns f h. h i; groups = λ i columns items f h. omega (arith, h i); onces = λ i f h. h i; roots = λ i op f h. h i }

most_lower : (ns : List plan.Node) → Lower (most_rows_by ns) (source_rows ns)
most_lower ns = record { windows = λ f s. le_refl (source_rows ns); selects = λ f i cs. le_refl (f i); joins = λ f i j ks. le_refl (f i * f j) }

most_upper : (ns : List plan.Node) → ((i : ℕ) → tick_rows ns i ≤ 2 ^ 60) → Upper (most_rows_by ns) (2 ^ 61)
most_upper ns t = record { lists = λ i columns f h. h i; groups = λ i columns items f h. omega (arith, t i); onces = λ i f h. omega (arith, t i); roots = λ i op f h. h i }

-- A PLAN of one to four sources
abbrev own_in : Resolved → List (List Condition)
own_in q = all_alone (own_of (length q.windows) (all_conjuncts q.condition))

abbrev keys_in : List ℕ → Resolved → List (List Key)
keys_in vs q = map (map (key_placed vs)) (join_keys_of (length q.windows) (all_conjuncts q.condition))

abbrev rest_in : List ℕ → Resolved → List Condition
rest_in vs q = map (moved (placed vs)) (remaining (length q.windows) (all_conjuncts q.condition))

many_own : (q : Resolved) → length (own_in q) ≡ length q.windows
many_own q = length-map (own_of (length q.windows) (all_conjuncts q.condition)) _ ∙ length-map-range_with_len (Rattle.names.specs.Split.own (length q.windows) (all_conjuncts q.condition)) 0 (length q.windows)

many_keys : (vs : List ℕ) (q : Resolved) → length (keys_in vs q) ≡ length q.windows - 1
many_keys vs q = length-map (join_keys_of (length q.windows) (all_conjuncts q.condition)) _ ∙ length-map-range_with_len (join_keys (all_conjuncts q.condition)) 1 (length q.windows - 1)

pub many_sources : (vs : List ℕ) (q : Resolved) → sources_of (plan_of vs q) ≡ length q.windows
many_sources vs q = sources-plan (own_in q) (keys_in vs q) (rest_in vs q) q.is_distinct (placed vs) q.shape q.operator ∙ many_own q

module _ (vs : List ℕ) (q : Resolved) (some : 0 < length q.windows) (few : length q.windows ≤ 4) where
  combined : times (source_rows (plan_of vs q)) (source_rows (plan_of vs q)) (length (keys_in vs q)) ≤ 2 ^ 60
  combined = combinations_few (sources_of (plan_of vs q)) (length (keys_in vs q)) (omega (arith, many_sources vs q, some)) (omega (arith, many_sources vs q, few)) (omega (arith, many_sources vs q, many_keys vs q))

  pub plan_ticks : (i : ℕ) → tick_rows (plan_of vs q) i ≤ 2 ^ 60
  plan_ticks i =
      let most : ℕ = source_rows (plan_of vs q) in
      under-at (2 ^ 60) (rows_of (tick_rows_by most) [] (plan_of vs q))
      (nodes-under (tick_rows_by most) most (2 ^ 60) (ticks_lower most) (each_some (sources_of (plan_of vs q))) (ticks_upper most) (own_in q) (keys_in vs q) (rest_in vs q) q.is_distinct (placed vs) q.shape q.operator combined) i

  pub plan_most : (i : ℕ) → most_rows (plan_of vs q) i ≤ 2 ^ 61
  plan_most i =
      let most : ℕ = source_rows (plan_of vs q) in
      under-at (2 ^ 61) (rows_of (most_rows_by (plan_of vs q)) [] (plan_of vs q))
      (nodes-under (most_rows_by (plan_of vs q)) most (2 ^ 61) (most_lower (plan_of vs q)) (each_some (sources_of (plan_of vs q))) (most_upper (plan_of vs q) plan_ticks) (own_in q) (keys_in vs q) (rest_in vs q) q.is_distinct (placed vs) q.shape q.operator
      (le_trans combined (omega arith))) i

-- VALUES

pub count_is : (rows : List Row) → count rows ≡ length rows
unfolding weigh
count_is [] = refl
count_is (r ∷ rows) = omega (arith, count_is rows)

few_either : {X : Type 0} (b : Bool) (n : ℕ) (xs ys : List X) → length xs ≤ n → length ys ≤ n → length (cond b xs ys) ≤ n
few_either true n xs ys h k = h
few_either false n xs ys h k = k

-- a filter leaves out, and never adds
few_kept : {X : Type 0} (p : X → Bool) (xs : List X) → length (filter p xs) ≤ length xs
few_kept p [] = omega arith
few_kept p (x ∷ xs) =
    let h : length (filter p xs) ≤ length xs = few_kept p xs in
    few_either (p x) (suc (length xs)) (x ∷ filter p xs) (filter p xs) (omega (arith, h)) (omega (arith, h))

few_distinct : (rows : List Row) → length (distinct row_cmp rows) ≤ length rows
few_distinct [] = omega arith
few_distinct (r ∷ rows) =
    let h : length (distinct row_cmp rows) ≤ length rows = few_distinct rows in
    few_either (list_any (is_same row_cmp r) rows) (suc (length rows)) (distinct row_cmp rows) (r ∷ distinct row_cmp rows) (omega (arith, h)) (omega (arith, h))

few_pairs : (ks : List Key) (l : Row) (rs : List Row) → length (flat_map (pair ks l) rs) ≤ length rs
few_pairs ks l [] = omega arith
few_pairs ks l (r ∷ rs) =
    let one : length (pair ks l r) ≤ 1 = few_either (valued.fits ks l r) 1 ((l ++ r) ∷ []) [] (omega arith) (omega arith) in
    omega (arith, one, few_pairs ks l rs, length-append (pair ks l r) (flat_map (pair ks l) rs))

few_joined : (ks : List Key) (ls rs : List Row) → length (joined ks ls rs) ≤ length ls * length rs
few_joined ks [] rs = omega arith
few_joined ks (l ∷ ls) rs =
    let first : length (joined ks (l ∷ ls) rs) ≡ length (flat_map (pair ks l) rs) + length (joined ks ls rs) = length-append (flat_map (pair ks l) rs) (joined ks ls rs) in
    omega (arith, first, few_pairs ks l rs, few_joined ks ls rs, suc-mul (length ls) (length rs))

few_keyed : (columns : List SourceColumn) (kept : List (List Row)) → length (keys_of columns kept) ≤ max 1 (length kept)
few_keyed [] kept = omega arith
few_keyed (c ∷ columns) kept = omega (arith, few_distinct (map (key_of (c ∷ columns)) kept), length-map kept (key_of (c ∷ columns)))

-- of each number the bag is not longer than the bound
abbrev Bounds : List (List Row) → List ℕ → Type 0
Bounds [] [] = Unit {0}
Bounds [] (n ∷ ns) = ⊥
Bounds (v ∷ vs) [] = ⊥
Bounds (v ∷ vs) (n ∷ ns) = (length v ≤ n) × Bounds vs ns

bounds-at : (vs : List (List Row)) (ns : List ℕ) → Bounds vs ns → (i : ℕ) → length (get_or vs i []) ≤ get_or ns i 0
bounds-at [] [] b i = omega arith
bounds-at [] (n ∷ ns) b i = absurd b
bounds-at (v ∷ vs) [] b i = absurd b
bounds-at (v ∷ vs) (n ∷ ns) b zero = b.0
bounds-at (v ∷ vs) (n ∷ ns) b (suc i) = bounds-at vs ns b.1 i

bounds-push : (vs : List (List Row)) (ns : List ℕ) (v : List Row) (n : ℕ) → Bounds vs ns → length v ≤ n → Bounds (vs ++ v ∷ []) (ns ++ n ∷ [])
bounds-push [] [] v n b h = (h, tt)
bounds-push [] (m ∷ ns) v n b h = absurd b
bounds-push (u ∷ vs) [] v n b h = absurd b
bounds-push (u ∷ vs) (m ∷ ns) v n b h = (b.0, bounds-push vs ns v n b.1 h)

few_grouped : (shape : Shape) (rows : List Row) → length (valued.shaped_rows shape rows) ≤ max 1 (length rows)
few_grouped (Listed columns) rows = omega (arith, length-map (map (λ (r : Row). r ∷ []) rows) (λ (rows : List Row). map (field rows) columns), length-map rows (λ (r : Row). r ∷ []))
few_grouped (Grouped columns items) rows =
    let kept : List (List Row) = map (λ (r : Row). r ∷ []) rows in
    omega (arith, length-map (keys_of columns kept) (group_row columns items kept), few_keyed columns kept, length-map rows (λ (r : Row). r ∷ []))

few_listed : (columns : List SourceColumn) (rows : List Row) → length (valued.shaped_rows (Listed columns) rows) ≤ length rows
few_listed columns rows = omega (arith, length-map (map (λ (r : Row). r ∷ []) rows) (λ (rows : List Row). map (field rows) columns), length-map rows (λ (r : Row). r ∷ []))

module _ (most : ℕ) (ws : List (List Row)) (short : (s : ℕ) → length (get_or ws s []) ≤ most) where
  few_at : (done : List (List Row)) (ns : List ℕ) → Bounds done ns → (x : plan.Node) → length (node_value ws done x) ≤ tick_rows_by most (λ i. get_or ns i 0) x
  few_at done ns b (WindowNode s) = short s
  few_at done ns b (Select i cs) = le_trans (few_kept (λ r. holds_all cs (r ∷ [])) (get_or done i [])) (bounds-at done ns b i)
  few_at done ns b (Join i j ks) =
      le_trans (few_joined ks (get_or done i []) (get_or done j []))
      (mul-le-mul (bounds-at done ns b i) (bounds-at done ns b j))
  few_at done ns b (Project i columns) = le_trans (few_listed columns (get_or done i [])) (bounds-at done ns b i)
  few_at done ns b (Group i columns items) = omega (arith, few_grouped (Grouped columns items) (get_or done i []), bounds-at done ns b i)
  few_at done ns b (Distinct i) = le_trans (few_distinct (get_or done i [])) (bounds-at done ns b i)
  few_at done ns b (ToStream i op) = bounds-at done ns b i

  all_few : (done : List (List Row)) (ns : List ℕ) → Bounds done ns → (xs : List plan.Node) → Bounds (values_of ws done xs) (rows_of (tick_rows_by most) ns xs)
  all_few done ns b [] = b
  all_few done ns b (x ∷ xs) =
      let v : List Row = node_value ws done x in
      let n : ℕ = tick_rows_by most (λ i. get_or ns i 0) x in
      all_few (done ++ v ∷ []) (ns ++ n ∷ []) (bounds-push done ns v n b (few_at done ns b x)) xs

  values_few : (nodes : List plan.Node) → source_rows nodes ≡ most → (k : ℕ) → count (get_or (values_of ws [] nodes) k []) ≤ tick_rows nodes k
  values_few nodes e k =
      let h : length (get_or (values_of ws [] nodes) k []) ≤ get_or (rows_of (tick_rows_by most) [] nodes) k 0 = bounds-at (values_of ws [] nodes) (rows_of (tick_rows_by most) [] nodes) (all_few [] [] tt nodes) k in
      omega (arith, count_is (get_or (values_of ws [] nodes) k []), subst (λ n. length (get_or (values_of ws [] nodes) k []) ≤ get_or (rows_of (tick_rows_by n) [] nodes) k 0) (sym e) h)

-- A REGISTERED QUERY: its windows show no more rows than came to their streams since

pub both_kept : (place first : ℕ) (es : List Element) → length (input_of place first es) ≤ length (filter (λ e. nat_le place e.arrival) es)
both_kept place first [] = omega arith
both_kept place first (e ∷ es) = here (nat_le place e.arrival) (nat_le first e.instant) (both_kept place first es)
  where
    here : (b c : Bool) → length (input_of place first es) ≤ length (filter (λ e. nat_le place e.arrival) es)
        → length (cond (b && c) (e ∷ input_of place first es) (input_of place first es)) ≤ length (cond b (e ∷ filter (λ e. nat_le place e.arrival) es) (filter (λ e. nat_le place e.arrival) es))
    here true true h = omega (arith, h)
    here true false h = omega (arith, h)
    here false c h = h

few_of_stream : (place first : ℕ) (ss : List Stream) (i : ℕ) → AllByRecursion CountsArrivals ss
    → length (option_map_or (λ s. input_of place first s.elements) (slice_get ss i) []) ≤ option_map_or (λ (s : Stream). s.arrivals) (slice_get ss i) 0 - place
few_of_stream place first [] i h = omega arith
few_of_stream place first (s ∷ ss) zero h = le_trans (both_kept place first s.elements) (h.0.since place)
few_of_stream place first (s ∷ ss) (suc i) h = few_of_stream place first ss i h.1

few_inputs : (ss : List Stream) (first most : ℕ) (places : List Place) → AllByRecursion CountsArrivals ss → AllByRecursion (λ p. arrivals_at ss p - p.arrivals ≤ most) places
    → AllByRecursion (λ es. length es ≤ most) (map (input_at ss first) places)
few_inputs ss first most [] h k = tt
few_inputs ss first most (p ∷ places) h k = (le_trans (few_of_stream p.arrivals first ss p.stream h) k.0, few_inputs ss first most places h k.1)

few_shown : (first t most : ℕ) (ws : List Window) (inputs : List (List Element)) → AllByRecursion (λ es. length es ≤ most) inputs → (s : ℕ)
    → length (get_or (shown_at first ws t inputs) s []) ≤ most
few_shown first t most [] inputs h s = omega arith
few_shown first t most (w ∷ ws) [] h s = omega arith
few_shown first t most (w ∷ ws) (es ∷ inputs) h zero = omega (arith, length-map (filter (shows first w t es) es) (λ (e : Element). e.row), few_kept (shows first w t es) es, h.0)
few_shown first t most (w ∷ ws) (es ∷ inputs) h (suc s) = few_shown first t most ws inputs h.1 s

-- ITS OPERATORS have room
module _ (vs : List ℕ) (m : Machine) (q : Registered) (h : IsBounded vs m q) where
  some : 0 < length q.meaning.windows
  some = omega (arith, h.plan.scoped.sources, h.plan.some)

  four : length q.meaning.windows ≤ 4
  four = omega (arith, h.plan.scoped.sources, h.few)

  ticks : (i : ℕ) → tick_rows q.nodes i ≤ 2 ^ 60
  ticks i = subst (λ ns. tick_rows ns i ≤ 2 ^ 60) (sym h.plan.is) (plan_ticks vs q.meaning some four i)

  most : (i : ℕ) → most_rows q.nodes i ≤ 2 ^ 61
  most i = subst (λ ns. most_rows ns i ≤ 2 ^ 61) (sym h.plan.is) (plan_most vs q.meaning some four i)

  -- the rows of each source that may count, by how many they are
  each : source_rows q.nodes ≡ rows_of_each (length q.places)
  each = ap rows_of_each (ap sources_of h.plan.is ∙ many_sources vs q.meaning ∙ h.plan.scoped.sources ∙ sym h.places)

  since : AllByRecursion (λ p. arrivals_at m.streams p - p.arrivals ≤ source_rows q.nodes) q.places
  since = subst (λ n. AllByRecursion (λ p. arrivals_at m.streams p - p.arrivals ≤ n) q.places) (sym each) h.since

  few : (k t : ℕ) → count (value_of m q k t) ≤ tick_rows q.nodes k
  few k t = values_few (source_rows q.nodes) (bags_of m q t)
      (few_shown q.first t (source_rows q.nodes) q.meaning.windows (inputs_of m q) (few_inputs m.streams q.first (source_rows q.nodes) q.places h.counted since)) q.nodes refl k

  pub plan_has_room : PlanHasRoom m q
  plan_has_room cells k below =
      let rises : Rises 0 q.nodes = subst (Rises 0) (sym h.plan.is) (shaped_plan (λ s. 0) vs q.meaning some).rises in
      record {
        most = rows-is (most_rows_by q.nodes) (most_local q.nodes) q.nodes k (WindowNode 0) rises (omega (arith, below));
        left = few (left_of (net_of q.nodes k));
        right = few (right_of (net_of q.nodes k));
        at_ticks = ticks;
        always = most;
      }

  pub root_has_room : RootHasRoom m q
  root_has_room cells = record { at_ticks = λ t. le_trans (few (below_root q.nodes - 1) t) (ticks (below_root q.nodes - 1)); always = most (below_root q.nodes - 1) }

  pub has_short_inputs : HasShortInputs m q
  has_short_inputs = short_at q.places since
    where
      short_at : (ps : List Place) → AllByRecursion (λ p. arrivals_at m.streams p - p.arrivals ≤ source_rows q.nodes) ps → (k : ℕ) → get_or (comes m.streams ps) k 0 ≤ source_rows q.nodes
      short_at [] i k = omega arith
      short_at (p ∷ ps) i zero = i.0
      short_at (p ∷ ps) i (suc k) = short_at ps i.1 k
