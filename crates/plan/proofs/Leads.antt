-- Each window's path leads to the root.
use Rattle.std.proofs.Common.{◌≡◌, ℕ, suc, ◌+◌, ◌-◌, ◌<◌, ◌≤◌, ◌==◌, ◌||◌, Bool, true, false, cond, List, [], ◌∷◌, ◌++◌, length, refl, sym, ap, ◌∙◌, arith, length-append}
use Rattle.std.specs.List.{AllByRecursion}
use Rattle.std.proofs.lemmas.Bool.{eqb-false, ne_eqb}
use Rattle.values.specs.Condition.{SourceColumn, Condition}
use Rattle.values.specs.Relation.{Shape, Listed, Grouped}
use Rattle.values.specs.Answers.{StreamOperator}
use Rattle.plan.specs.Nodes.{Key, Node}
use Rattle.plan.specs.Build.{source_nodes, tops, join_nodes, joins_top, joins_of, top_of, rest_nodes, rest_top, shape_node, end_nodes, nodes_over}
use Rattle.plan.specs.Paths.{takes, is_window, onward, windows}
use Rattle.plan.proofs.Lists.{by_test, each-weaken, each-append}

-- the last number of a path that begins with i
abbrev pub last_number : ℕ → List ℕ → ℕ
last_number i [] = i
last_number i (n ∷ ns) = last_number n ns

-- the operator that the rows of the operator i have come to behind these operators
abbrev pub reached : ℕ → ℕ → List Node → ℕ
reached i n [] = i
reached i n (x ∷ xs) = cond (takes i x) (reached n (suc n) xs) (reached i (suc n) xs)

pub last-onward : (i n : ℕ) (xs : List Node) → last_number i (onward i n xs) ≡ reached i n xs
last-onward i n [] = refl
last-onward i n (x ∷ xs) =
    by_test (takes i x) (λ e. rw e (last-onward n (suc n) xs)) (λ e. rw e (last-onward i (suc n) xs))

pub onward-below : (i n m : ℕ) (xs : List Node) → n + length xs ≤ m → AllByRecursion (λ k. k < m) (onward i n xs)
onward-below i n m [] l = tt
onward-below i n m (x ∷ xs) l =
    by_test (takes i x) (λ e. rw e (omega (arith, l), onward-below n (suc n) m xs (omega (arith, l)))) (λ e. rw e (onward-below i (suc n) m xs (omega (arith, l))))

pub onward-length : (i n : ℕ) (xs : List Node) → length (onward i n xs) ≤ length xs
onward-length i n [] = omega arith
onward-length i n (x ∷ xs) =
    by_test (takes i x) (λ e. rw e (omega (arith, onward-length n (suc n) xs))) (λ e. rw e (omega (arith, onward-length i (suc n) xs)))

pub windows-below : (n m : ℕ) (xs : List Node) → n + length xs ≤ m → AllByRecursion (λ k. k < m) (windows n xs)
windows-below n m [] l = tt
windows-below n m (x ∷ xs) l =
    by_test (is_window x) (λ e. rw e (omega (arith, l), windows-below (suc n) m xs (omega (arith, l)))) (λ e. rw e (windows-below (suc n) m xs (omega (arith, l))))

reached-append : (i n m : ℕ) (xs ys : List Node) → n + length xs ≡ m → reached i n (xs ++ ys) ≡ reached (reached i n xs) m ys
reached-append i n m [] ys e = let f : n ≡ m = omega (arith, e) in rw f refl
reached-append i n m (x ∷ xs) ys e =
    by_test (takes i x) (λ t. rw t (reached-append n (suc n) m xs ys (omega (arith, e)))) (λ t. rw t (reached-append i (suc n) m xs ys (omega (arith, e))))

windows-none : (n : ℕ) (ys : List Node) → AllByRecursion (λ y. is_window y ≡ false) ys → windows n ys ≡ []
windows-none n [] h = refl
windows-none n (y ∷ ys) h = rw h.0 (windows-none (suc n) ys h.1)

windows-front : (n : ℕ) (xs ys : List Node) → AllByRecursion (λ y. is_window y ≡ false) ys → windows n (xs ++ ys) ≡ windows n xs
windows-front n [] ys h = windows-none n ys h
windows-front n (x ∷ xs) ys h =
    by_test (is_window x) (λ e. rw e (ap (λ v. n ∷ v) (windows-front (suc n) xs ys h))) (λ e. rw e (windows-front (suc n) xs ys h))

equal_self : (n : ℕ) → (n == n) ≡ true
equal_self n = by_test (n == n) (λ t. t) (λ f. absurd (eqb-false n n f refl))

-- operators of sources take no rows of operators before them
sources-pass : (i n s : ℕ) (each : List (List Condition)) → i < n → reached i n (source_nodes n s each) ≡ i
sources-pass i n s [] l = refl
sources-pass i n s ([] ∷ each) l = sources-pass i (suc n) (suc s) each (omega (arith, l))
sources-pass i n s ((c ∷ cs) ∷ each) l =
    let e : (n == i) ≡ false = ne_eqb n i (λ p. omega (arith, p, l)) in
    rw e (sources-pass i (suc (suc n)) (suc s) each (omega (arith, l)))

sources-lead : (P : ℕ → Type 0) (n s : ℕ) (each : List (List Condition)) → AllByRecursion P (tops n each)
    → AllByRecursion (λ w. (n ≤ w) × P (reached w n (source_nodes n s each))) (windows n (source_nodes n s each))
sources-lead P n s [] h = tt
sources-lead P n s ([] ∷ each) h =
    let rest : List Node = source_nodes (suc n) (suc s) each in
    let e : reached n (suc n) rest ≡ n = sources-pass n (suc n) (suc s) each (omega arith) in (
      (omega arith, rw e h.0),
      each-weaken (λ w. (suc n ≤ w) × P (reached w (suc n) rest)) (λ w. (n ≤ w) × P (reached w (suc n) rest)) (λ w k. (omega (arith, k.0), k.1)) (windows (suc n) rest)
          (sources-lead P (suc n) (suc s) each h.1),
    )
sources-lead P n s ((c ∷ cs) ∷ each) h =
    let rest : List Node = source_nodes (suc (suc n)) (suc s) each in
    let e : reached (suc n) (suc (suc n)) rest ≡ suc n = sources-pass (suc n) (suc (suc n)) (suc s) each (omega arith) in
    let f : (n == n) ≡ true = equal_self n in (
      (omega arith, rw (f, e) h.0),
      each-weaken (λ w. (suc (suc n) ≤ w) × P (reached w (suc (suc n)) rest))
          (λ w. (n ≤ w) × P (cond (n == w) (reached (suc n) (suc (suc n)) rest) (reached w (suc (suc n)) rest)))
          (λ w k. let g : (n == w) ≡ false = ne_eqb n w (λ p. omega (arith, p, k.0)) in (omega (arith, k.0), rw g k.1)) (windows (suc (suc n)) rest)
          (sources-lead P (suc (suc n)) (suc s) each h.1),
    )

or-true : (b : Bool) → (b || true) ≡ true
or-true true = refl
or-true false = refl

joins-lead : (n left : ℕ) (ts : List ℕ) (each : List (List Key)) → length ts ≡ length each
    → (reached left n (join_nodes n left ts each) ≡ joins_top n left ts each)
    × AllByRecursion (λ p. reached p n (join_nodes n left ts each) ≡ joins_top n left ts each) ts
joins-lead n left [] each e = (refl, tt)
joins-lead n left (t ∷ ts) [] e = absurd (omega (arith, e))
joins-lead n left (t ∷ ts) (ks ∷ each) e =
    let rest : List Node = join_nodes (suc n) n ts each in
    let top : ℕ = joins_top (suc n) n ts each in
    let ih : (reached n (suc n) rest ≡ top) × AllByRecursion (λ p. reached p (suc n) rest ≡ top) ts = joins-lead (suc n) n ts each (omega (arith, e)) in
    let f : (left == left) ≡ true = equal_self left in
    let g : (t == t) ≡ true = equal_self t in
    let i : ((left == t) || true) ≡ true = or-true (left == t) in (
      rw f ih.0,
      (
        rw (g, i) ih.0,
        each-weaken (λ p. reached p (suc n) rest ≡ top) (λ p. cond ((left == p) || (t == p)) (reached n (suc n) rest) (reached p (suc n) rest) ≡ top)
            (λ p h. by_test ((left == p) || (t == p)) (λ y. rw y ih.0) (λ y. rw y h)) ts ih.1,
      ),
    )

all_joins-lead : (n : ℕ) (ts : List ℕ) (each : List (List Key)) → length each ≡ length ts - 1 → AllByRecursion (λ p. reached p n (joins_of n ts each) ≡ top_of n ts each) ts
all_joins-lead n [] each e = tt
all_joins-lead n (t ∷ ts) each e = joins-lead n t ts each (omega (arith, e))

rest-leads : (m top : ℕ) (cs : List Condition) → reached top m (rest_nodes top cs) ≡ rest_top m top cs
rest-leads m top [] = refl
rest-leads m top (c ∷ cs) = let f : (top == top) ≡ true = equal_self top in rw f refl

end-leads : (b : Bool) (f : SourceColumn → SourceColumn) (shape : Shape) (op : StreamOperator) (k last : ℕ)
    → reached last k (end_nodes b (shape_node f last shape) op k) ≡ k + (length (end_nodes b (shape_node f last shape) op k) - 1)
end-leads true f (Listed columns) op k last =
    let e : (last == last) ≡ true = equal_self last in let g : (k == k) ≡ true = equal_self k in let h : (suc k == suc k) ≡ true = equal_self (suc k) in
    let i : suc (suc k) ≡ k + 2 = omega arith in rw (e, g, h) i
end-leads true f (Grouped by items) op k last =
    let e : (last == last) ≡ true = equal_self last in let g : (k == k) ≡ true = equal_self k in let h : (suc k == suc k) ≡ true = equal_self (suc k) in
    let i : suc (suc k) ≡ k + 2 = omega arith in rw (e, g, h) i
end-leads false f (Listed columns) op k last =
    let e : (last == last) ≡ true = equal_self last in let g : (k == k) ≡ true = equal_self k in
    let i : suc k ≡ k + 1 = omega arith in rw (e, g) i
end-leads false f (Grouped by items) op k last =
    let e : (last == last) ≡ true = equal_self last in let g : (k == k) ≡ true = equal_self k in
    let i : suc k ≡ k + 1 = omega arith in rw (e, g) i

no_window_in_joins : (n left : ℕ) (ts : List ℕ) (each : List (List Key)) → AllByRecursion (λ y. is_window y ≡ false) (join_nodes n left ts each)
no_window_in_joins n left [] each = tt
no_window_in_joins n left (t ∷ ts) [] = tt
no_window_in_joins n left (t ∷ ts) (ks ∷ each) = (refl, no_window_in_joins (suc n) n ts each)

no_window_in : (n : ℕ) (ts : List ℕ) (each : List (List Key)) → AllByRecursion (λ y. is_window y ≡ false) (joins_of n ts each)
no_window_in n [] each = tt
no_window_in n (t ∷ ts) each = no_window_in_joins n t ts each

no_window_in_rest : (top : ℕ) (cs : List Condition) → AllByRecursion (λ y. is_window y ≡ false) (rest_nodes top cs)
no_window_in_rest top [] = tt
no_window_in_rest top (c ∷ cs) = (refl, tt)

no_window_in_end : (b : Bool) (f : SourceColumn → SourceColumn) (top : ℕ) (shape : Shape) (op : StreamOperator) (k : ℕ) → AllByRecursion (λ y. is_window y ≡ false) (end_nodes b (shape_node f top shape) op k)
no_window_in_end true f top (Listed columns) op k = (refl, (refl, (refl, tt)))
no_window_in_end true f top (Grouped by items) op k = (refl, (refl, (refl, tt)))
no_window_in_end false f top (Listed columns) op k = (refl, (refl, tt))
no_window_in_end false f top (Grouped by items) op k = (refl, (refl, tt))

pub end-length : (b : Bool) (shape : Node) (op : StreamOperator) (k : ℕ) → (2 ≤ length (end_nodes b shape op k)) × (length (end_nodes b shape op k) ≤ 3)
end-length true shape op k = (omega arith, omega arith)
end-length false shape op k = (omega arith, omega arith)

-- EACH WINDOW'S PATH LEADS TO THE ROOT
pub nodes-lead : (own : List (List Condition)) (keys : List (List Key)) (rest : List Condition) (b : Bool) (f : SourceColumn → SourceColumn) (shape : Shape) (op : StreamOperator)
    → length keys ≡ length (tops 0 own) - 1
    → AllByRecursion (λ w. reached w 0 (nodes_over own keys rest b (λ top. shape_node f top shape) op) ≡ length (nodes_over own keys rest b (λ top. shape_node f top shape) op) - 1)
    (windows 0 (nodes_over own keys rest b (λ top. shape_node f top shape) op))
nodes-lead own keys rest b f shape op e =
    let sources : List Node = source_nodes 0 0 own in
    let n : ℕ = length sources in
    let joins : List Node = joins_of n (tops 0 own) keys in
    let top : ℕ = top_of n (tops 0 own) keys in
    let selects : List Node = rest_nodes top rest in
    let m : ℕ = length (sources ++ joins) in
    let last : ℕ = rest_top m top rest in
    let k : ℕ = length (sources ++ (joins ++ selects)) in
    let end : List Node = end_nodes b (shape_node f last shape) op k in
    let after : List Node = joins ++ (selects ++ end) in
    let all : List Node = sources ++ after in
    let n_m : n + length joins ≡ m = sym (length-append sources joins) in
    let m_k : m + length selects ≡ k = omega (arith, length-append sources joins, length-append sources (joins ++ selects), length-append joins selects) in
    let whole : k + (length end - 1) ≡ length all - 1 =
    omega (arith, length-append sources after, length-append joins (selects ++ end), length-append selects end, length-append sources (joins ++ selects), length-append joins selects, (end-length b (shape_node f last shape) op k).0) in
    let P : ℕ → Type 0 = λ p. reached p n after ≡ length all - 1 in
    let tops_lead : AllByRecursion P (tops 0 own) =
    each-weaken (λ p. reached p n joins ≡ top) P
    (λ p h. reached-append p n m joins (selects ++ end) n_m ∙ ap (λ i. reached i m (selects ++ end)) h ∙ reached-append top m k selects end m_k
    ∙ ap (λ i. reached i k end) (rest-leads m top rest) ∙ end-leads b f shape op k last ∙ whole)
    (tops 0 own) (all_joins-lead n (tops 0 own) keys e) in
    let none : AllByRecursion (λ y. is_window y ≡ false) after =
    each-append (λ y. is_window y ≡ false) joins (selects ++ end) (no_window_in n (tops 0 own) keys)
    (each-append (λ y. is_window y ≡ false) selects end (no_window_in_rest top rest) (no_window_in_end b f last shape op k)) in
    rw (windows-front 0 sources after none)
    (each-weaken (λ w. (0 ≤ w) × P (reached w 0 sources)) (λ w. reached w 0 all ≡ length all - 1) (λ w h. reached-append w 0 n sources after (omega arith) ∙ h.1) (windows 0 sources)
    (sources-lead P 0 0 own tops_lead))
