-- The least instant that is not closed: of each operator by its inputs, and of the root by the sources.
use Rattle.std.proofs.Common.{◌≡◌, ℕ, zero, suc, ◌+◌, ◌-◌, ◌<◌, ◌≤◌, Bool, true, false, min, max, fold, List, [], ◌∷◌, ◌++◌, map, length, get_or, refl, sym, ap, ap₂, ◌∙◌, arith, length-append}
use Rattle.std.specs.List.{AllByRecursion}
use Rattle.std.proofs.lemmas.List.{get_or_append_left}
use Rattle.std.proofs.Math.Seq.{get_or-append_seam}
use Rattle.values.specs.Condition.{SourceColumn, Condition}
use Rattle.values.specs.Relation.{Shape, Listed, Grouped}
use Rattle.values.specs.Answers.{StreamOperator}
use Rattle.plan.specs.Nodes as plan
use Rattle.plan.specs.Nodes.{Key, Window, Select, Join, Project, Group, Distinct, ToStream}
use Rattle.plan.specs.Build.{source_nodes, tops, join_nodes, joins_top, joins_of, top_of, rest_nodes, rest_top, shape_node, end_nodes, nodes_over}
use Rattle.plan.proofs.Numbers.{Below, Rises}
use Rattle.plan.proofs.Values.{tops-below}
use Rattle.laws_dataflow.specs.Nets.{World, LeastAt}
use Rattle.laws_dataflow.specs.Operators.{node_of}
use Rattle.laws_dataflow.specs.Plans.{least_by, leasts_of}

abbrev pub least_all : List ℕ → ℕ
least_all [] = 0
least_all (o ∷ os) = fold min o os

pub end-some : (b : Bool) (shape : plan.Node) (op : StreamOperator) (k : ℕ) → 2 ≤ length (end_nodes b shape op k)
end-some true shape op k = omega arith
end-some false shape op k = omega arith

module _ (closed : ℕ → ℕ) where
  leasts-append : (done : List ℕ) (xs ys : List plan.Node) → leasts_of closed done (xs ++ ys) ≡ leasts_of closed (leasts_of closed done xs) ys
  leasts-append done [] ys = refl
  leasts-append done (x ∷ xs) ys = leasts-append (done ++ least_by closed done x ∷ []) xs ys

  leasts-length : (done : List ℕ) (xs : List plan.Node) → length (leasts_of closed done xs) ≡ length done + length xs
  leasts-length done [] = omega arith
  leasts-length done (x ∷ xs) = omega (arith, leasts-length (done ++ least_by closed done x ∷ []) xs, length-append done (least_by closed done x ∷ []))

  leasts-stay : (done : List ℕ) (xs : List plan.Node) (i : ℕ) → i < length done → get_or (leasts_of closed done xs) i 0 ≡ get_or done i 0
  leasts-stay done [] i h = refl
  leasts-stay done (x ∷ xs) i h =
      leasts-stay (done ++ least_by closed done x ∷ []) xs i (omega (arith, h, length-append done (least_by closed done x ∷ [])))
      ∙ get_or_append_left done (least_by closed done x ∷ []) 0 i h

  at_end : (done : List ℕ) (x n : ℕ) → length done ≡ n → get_or (done ++ x ∷ []) n 0 ≡ x
  at_end done x n e = rw (← e) (get_or-append_seam done x [] 0)

  pushed : (done : List ℕ) (x n : ℕ) → length done ≡ n → length (done ++ x ∷ []) ≡ suc n
  pushed done x n e = omega (arith, e, length-append done (x ∷ []))

  least_same : (done all : List ℕ) (n : ℕ) → ((k : ℕ) → k < n → get_or all k 0 ≡ get_or done k 0) → (x : plan.Node) → Below n x → least_by closed done x ≡ least_by closed all x
  least_same done all n h (Window s) b = refl
  least_same done all n h (Select i cs) b = sym (h i b)
  least_same done all n h (Join i j ks) b = ap₂ min (sym (h i b.0)) (sym (h j b.1))
  least_same done all n h (Project i columns) b = sym (h i b)
  least_same done all n h (Group i by items) b = sym (h i b)
  least_same done all n h (Distinct i) b = sym (h i b)
  least_same done all n h (ToStream i op) b = sym (h i b)

  -- the equation of each operator
  pub least-at : (done : List ℕ) (xs : List plan.Node) (n i : ℕ) (d : plan.Node) → length done ≡ n → Rises n xs → i < length xs
      → get_or (leasts_of closed done xs) (n + i) 0 ≡ least_by closed (leasts_of closed done xs) (get_or xs i d)
  least-at done [] n i d e r l = absurd (omega (arith, l))
  least-at done (x ∷ xs) n zero d e r l =
      let y : ℕ = least_by closed done x in
      let all : List ℕ = leasts_of closed (done ++ y ∷ []) xs in
      let j : n + zero ≡ n = omega arith in
      rw j (leasts-stay (done ++ y ∷ []) xs n (omega (arith, pushed done y n e)) ∙ at_end done y n e
      ∙ least_same done all n (λ k b. leasts-stay done (x ∷ xs) k (omega (arith, e, b))) x r.0)
  least-at done (x ∷ xs) n (suc i) d e r l =
      let y : ℕ = least_by closed done x in
      let j : n + suc i ≡ suc n + i = omega arith in
      rw j (least-at (done ++ y ∷ []) xs (suc n) i d (pushed done y n e) r.1 (omega (arith, l)))

  -- OF ALL SOURCES
  abbrev pub closed_from : ℕ → ℕ → List ℕ
  closed_from s zero = []
  closed_from s (suc k) = closed s ∷ closed_from (suc s) k

  abbrev reads : List ℕ → List ℕ → List ℕ
  reads done ks = map (λ k. get_or done k 0) ks

  sources-least : (done : List ℕ) (n s : ℕ) (each : List (List Condition)) → length done ≡ n → reads (leasts_of closed done (source_nodes n s each)) (tops n each) ≡ closed_from s (length each)
  sources-least done n s [] e = refl
  sources-least done n s ([] ∷ each) e =
      let w : ℕ = closed s in
      let more : List ℕ = done ++ w ∷ [] in
      let all : List ℕ = leasts_of closed more (source_nodes (suc n) (suc s) each) in
      let here : get_or all n 0 ≡ w = leasts-stay more (source_nodes (suc n) (suc s) each) n (omega (arith, pushed done w n e)) ∙ at_end done w n e in
      ap₂ (λ v vs. v ∷ vs) here (sources-least more (suc n) (suc s) each (pushed done w n e))
  sources-least done n s ((c ∷ cs) ∷ each) e =
      let w : ℕ = closed s in
      let more : List ℕ = done ++ w ∷ [] in
      let x : ℕ = get_or more n 0 in
      let yet : List ℕ = more ++ x ∷ [] in
      let all : List ℕ = leasts_of closed yet (source_nodes (suc (suc n)) (suc s) each) in
      let long : length more ≡ suc n = pushed done w n e in
      let here : get_or all (suc n) 0 ≡ w = leasts-stay yet (source_nodes (suc (suc n)) (suc s) each) (suc n) (omega (arith, pushed more x (suc n) long)) ∙ at_end more x (suc n) long ∙ at_end done w n e in
      ap₂ (λ v vs. v ∷ vs) here (sources-least yet (suc (suc n)) (suc s) each (pushed more x (suc n) long))

  reads-stay : (done : List ℕ) (x n : ℕ) → length done ≡ n → (ts : List ℕ) → AllByRecursion (λ t. t < n) ts → reads (done ++ x ∷ []) ts ≡ reads done ts
  reads-stay done x n e [] h = refl
  reads-stay done x n e (t ∷ ts) h = ap₂ (λ v vs. v ∷ vs) (get_or_append_left done (x ∷ []) 0 t (omega (arith, e, h.0))) (reads-stay done x n e ts h.1)

  below_more : (n : ℕ) (ts : List ℕ) → AllByRecursion (λ t. t < n) ts → AllByRecursion (λ t. t < suc n) ts
  below_more n [] h = tt
  below_more n (t ∷ ts) h = (omega (arith, h.0), below_more n ts h.1)

  joins-least : (done : List ℕ) (n left : ℕ) (ts : List ℕ) (each : List (List Key)) → length ts ≡ length each → length done ≡ n → AllByRecursion (λ t. t < n) ts
      → get_or (leasts_of closed done (join_nodes n left ts each)) (joins_top n left ts each) 0 ≡ fold min (get_or done left 0) (reads done ts)
  joins-least done n left [] each l e h = refl
  joins-least done n left (t ∷ ts) [] l e h = absurd (omega (arith, l))
  joins-least done n left (t ∷ ts) (ks ∷ each) l e h =
      let x : ℕ = min (get_or done left 0) (get_or done t 0) in
      joins-least (done ++ x ∷ []) (suc n) n ts each (omega (arith, l)) (pushed done x n e) (below_more n ts h.1)
      ∙ ap₂ (λ v vs. fold min v vs) (at_end done x n e) (reads-stay done x n e ts h.1)

  all_joins-least : (done : List ℕ) (n : ℕ) (ts : List ℕ) (each : List (List Key)) → 0 < length ts → length each ≡ length ts - 1 → length done ≡ n → AllByRecursion (λ t. t < n) ts
      → get_or (leasts_of closed done (joins_of n ts each)) (top_of n ts each) 0 ≡ least_all (reads done ts)
  all_joins-least done n [] each s l e h = absurd (omega (arith, s))
  all_joins-least done n (t ∷ ts) each s l e h = joins-least done n t ts each (omega (arith, l)) e h.1

  rest-least : (done : List ℕ) (n top : ℕ) (cs : List Condition) → length done ≡ n → get_or (leasts_of closed done (rest_nodes top cs)) (rest_top n top cs) 0 ≡ get_or done top 0
  rest-least done n top [] e = refl
  rest-least done n top (c ∷ cs) e = at_end done (get_or done top 0) n e

  shape-least : (done : List ℕ) (f : SourceColumn → SourceColumn) (top : ℕ) (shape : Shape) → least_by closed done (shape_node f top shape) ≡ get_or done top 0
  shape-least done f top (Listed columns) = refl
  shape-least done f top (Grouped by items) = refl

  ends-least : (done : List ℕ) (b : Bool) (shape : plan.Node) (op : StreamOperator) (k last : ℕ) → length done ≡ k → least_by closed done shape ≡ get_or done last 0
      → get_or (leasts_of closed done (end_nodes b shape op k)) (k + (length (end_nodes b shape op k) - 1)) 0 ≡ get_or done last 0
  ends-least done true shape op k last e h =
      let x : ℕ = least_by closed done shape in
      let more : List ℕ = done ++ x ∷ [] in
      let long : length more ≡ suc k = pushed done x k e in
      let y : ℕ = get_or more k 0 in
      let yet : List ℕ = more ++ y ∷ [] in
      let longer : length yet ≡ suc (suc k) = pushed more y (suc k) long in
      let z : ℕ = get_or yet (suc k) 0 in
      let p : k + 2 ≡ suc (suc k) = omega arith in
      rw p (at_end yet z (suc (suc k)) longer ∙ at_end more y (suc k) long ∙ at_end done x k e ∙ h)
  ends-least done false shape op k last e h =
      let x : ℕ = least_by closed done shape in
      let more : List ℕ = done ++ x ∷ [] in
      let long : length more ≡ suc k = pushed done x k e in
      let y : ℕ = get_or more k 0 in
      let p : k + 1 ≡ suc k = omega arith in
      rw p (at_end more y (suc k) long ∙ at_end done x k e ∙ h)

  -- THE LEAST INSTANT OF THE ROOT is the least of all sources
  pub nodes-least : (own : List (List Condition)) (keys : List (List Key)) (rest : List Condition) (b : Bool) (f : SourceColumn → SourceColumn) (shape : Shape) (op : StreamOperator) → 0 < length (tops 0 own) → length keys ≡ length (tops 0 own) - 1
      → get_or (leasts_of closed [] (nodes_over own keys rest b (λ top. shape_node f top shape) op)) (length (nodes_over own keys rest b (λ top. shape_node f top shape) op) - 1) 0 ≡ least_all (closed_from 0 (length own))
  nodes-least own keys rest b f shape op some e =
      let sources : List plan.Node = source_nodes 0 0 own in
      let n : ℕ = length sources in
      let joins : List plan.Node = joins_of n (tops 0 own) keys in
      let top : ℕ = top_of n (tops 0 own) keys in
      let selects : List plan.Node = rest_nodes top rest in
      let m : ℕ = length (sources ++ joins) in
      let last : ℕ = rest_top m top rest in
      let k : ℕ = length (sources ++ (joins ++ selects)) in
      let end : List plan.Node = end_nodes b (shape_node f last shape) op k in
      let all : List plan.Node = sources ++ (joins ++ (selects ++ end)) in
      let first : List ℕ = leasts_of closed [] sources in
      let second : List ℕ = leasts_of closed first joins in
      let third : List ℕ = leasts_of closed second selects in
      let first_long : length first ≡ n = leasts-length [] sources ∙ omega arith in
      let second_long : length second ≡ m = omega (arith, leasts-length first joins, first_long, length-append sources joins) in
      let third_long : length third ≡ k = omega (arith, leasts-length second selects, second_long, length-append sources joins, length-append sources (joins ++ selects), length-append joins selects) in
      let whole : length all - 1 ≡ k + (length end - 1) =
      omega (arith, end-some b (shape_node f last shape) op k, length-append sources (joins ++ (selects ++ end)), length-append joins (selects ++ end), length-append selects end, length-append sources (joins ++ selects), length-append joins selects) in
      ap₂ (λ (l : List ℕ) (i : ℕ). get_or l i 0) (leasts-append [] sources (joins ++ (selects ++ end)) ∙ leasts-append first joins (selects ++ end) ∙ leasts-append second selects end) whole
      ∙ ends-least third b (shape_node f last shape) op k last third_long (shape-least third f last shape)
      ∙ rest-least second m top rest second_long
      ∙ all_joins-least first n (tops 0 own) keys some e first_long (tops-below 0 0 own n (omega arith))
      ∙ ap least_all (sources-least [] 0 0 own refl)

  -- what that says of a net's node
  pub least_node : (w : World) → ((s : ℕ) → closed s ≡ w.closed s) → (all : List ℕ) (least : ℕ → ℕ) → ((i : ℕ) → least i ≡ get_or all i 0) → (x : plan.Node) (k : ℕ) → least k ≡ least_by closed all x → LeastAt w least (node_of x) k
  least_node w c all least h (Window s) k e = e ∙ c s
  least_node w c all least h (Select i cs) k e = e ∙ sym (h i)
  least_node w c all least h (Join i j ks) k e = e ∙ ap₂ min (sym (h i)) (sym (h j))
  least_node w c all least h (Project i columns) k e = e ∙ sym (h i)
  least_node w c all least h (Group i by items) k e = e ∙ sym (h i)
  least_node w c all least h (Distinct i) k e = e ∙ sym (h i)
  least_node w c all least h (ToStream i op) k e = e ∙ sym (h i)

-- where instants below the first count as closed
closed_shift : (f : ℕ → ℕ) (s k : ℕ) → closed_from f (suc s) k ≡ closed_from (λ j. f (suc j)) s k
closed_shift f s zero = refl
closed_shift f s (suc k) = ap (λ l. f (suc s) ∷ l) (closed_shift f (suc s) k)

closed_all : (first : ℕ) (os : List ℕ) → closed_from (λ k. max first (get_or os k 0)) 0 (length os) ≡ map (max first) os
closed_all first [] = refl
closed_all first (o ∷ os) = ap (λ l. max first o ∷ l) (closed_shift (λ k. max first (get_or (o ∷ os) k 0)) 0 (length os) ∙ closed_all first os)

min_max : (first o : ℕ) (os : List ℕ) → fold min (max first o) (map (max first) os) ≡ max first (fold min o os)
min_max first o [] = refl
min_max first o (x ∷ os) = let e : min (max first o) (max first x) ≡ max first (min o x) = omega arith in ap (λ v. fold min v (map (max first) os)) e ∙ min_max first (min o x) os

pub least_open : (first o : ℕ) (os : List ℕ) → least_all (closed_from (λ k. max first (get_or (o ∷ os) k 0)) 0 (suc (length os))) ≡ max first (fold min o os)
least_open first o os = ap least_all (closed_all first (o ∷ os)) ∙ min_max first o os
