-- Each operator of a plan has one consumer.
use Rattle.std.proofs.Common.{◌≡◌, ◌≢◌, ℕ, zero, suc, ◌+◌, ◌-◌, ◌<◌, ◌≤◌, ◌==◌, nat_lt, Bool, true, false, cond, inl, inr, List, [], ◌∷◌, ◌++◌, length, get_or, refl, sym, ap, ◌∙◌, subst, arith, length-append, eqb-true}
use Rattle.std.proofs.lemmas.Bool.{eqb-false, lt-ltb, le-ltb, ltb-true, ltb-false}
use Rattle.values.specs.Condition.{SourceColumn, Condition}
use Rattle.values.specs.Relation.{Shape, Listed, Grouped}
use Rattle.values.specs.Answers.{StreamOperator}
use Rattle.plan.specs.Nodes.{Key, Window, Select, Join, Project, Group, Distinct, ToStream}
use Rattle.plan.specs.Nodes as plan
use Rattle.plan.specs.Build.{source_nodes, tops, join_nodes, joins_top, joins_of, top_of, rest_nodes, rest_top, shape_node, end_nodes, nodes_over}
use Rattle.plan.specs.Paths.{takes}
use Rattle.plan.proofs.Lists.{by_test}
use Rattle.plan.proofs.Numbers.{Below, Rises}
use Rattle.laws_dataflow.specs.Nets.{Apart, Takes, ComesLater, Laid}
use Rattle.laws_dataflow.specs.Operators.{node_of, net_of}
use Rattle.laws_dataflow.specs.Plans.{consumer, consumer_of}

-- HOW OFTEN an operator is an input
abbrev pub one : ℕ → ℕ → ℕ
one a i = cond (a == i) 1 0

abbrev pub uses : ℕ → plan.Node → ℕ
uses i (Window s) = 0
uses i (Select j cs) = one j i
uses i (Join j k keys) = one j i + one k i
uses i (Project j columns) = one j i
uses i (Group j by items) = one j i
uses i (Distinct j) = one j i
uses i (ToStream j op) = one j i

abbrev pub times : ℕ → List plan.Node → ℕ
times i [] = 0
times i (x ∷ xs) = uses i x + times i xs

abbrev occurs : ℕ → List ℕ → ℕ
occurs i [] = 0
occurs i (n ∷ ns) = one n i + occurs i ns

-- whether it is below n
abbrev pub under : ℕ → ℕ → ℕ
under n i = cond (nat_lt i n) 1 0

times-append : (i : ℕ) (xs ys : List plan.Node) → times i (xs ++ ys) ≡ times i xs + times i ys
times-append i [] ys = omega arith
times-append i (x ∷ xs) ys = omega (arith, times-append i xs ys)

under_next : (n i : ℕ) → one n i + under n i ≡ under (suc n) i
under_next n i = by_test (n == i)
    (λ t. let e : n ≡ i = eqb-true n i t in let a : nat_lt i n ≡ false = le-ltb i n (omega (arith, e)) in let b : nat_lt i (suc n) ≡ true = lt-ltb i (suc n) (omega (arith, e)) in rw (t, a, b) refl)
    (λ f. let ne : n ≢ i = eqb-false n i f in by_test (nat_lt i n)
    (λ t. let b : nat_lt i (suc n) ≡ true = lt-ltb i (suc n) (omega (arith, ltb-true i n t)) in rw (f, t, b) refl)
    (λ g. let b : nat_lt i (suc n) ≡ false = le-ltb i (suc n) (omega (arith, ne, ltb-false i n g)) in rw (f, g, b) refl))

under_none : (i : ℕ) → under 0 i ≡ 0
under_none i = let a : nat_lt i 0 ≡ false = le-ltb i 0 (omega arith) in rw a refl

end_some : (b : Bool) (shape : plan.Node) (op : StreamOperator) (k : ℕ) → 1 ≤ length (end_nodes b shape op k)
end_some true shape op k = omega arith
end_some false shape op k = omega arith

under_same : (m n i : ℕ) → m ≡ n → under m i ≡ under n i
under_same m n i e = ap (λ k. under k i) e

sources-times : (i n s : ℕ) (each : List (List Condition)) → times i (source_nodes n s each) + occurs i (tops n each) + under n i ≡ under (n + length (source_nodes n s each)) i
sources-times i n s [] = omega (arith, under_same (n + 0) n i (omega arith))
sources-times i n s ([] ∷ each) =
    omega (arith, sources-times i (suc n) (suc s) each, under_next n i, under_same (suc n + length (source_nodes (suc n) (suc s) each)) (n + suc (length (source_nodes (suc n) (suc s) each))) i (omega arith))
sources-times i n s ((c ∷ cs) ∷ each) =
    omega (arith, sources-times i (suc (suc n)) (suc s) each, under_next n i, under_next (suc n) i, under_same (suc (suc n) + length (source_nodes (suc (suc n)) (suc s) each)) (n + suc (suc (length (source_nodes (suc (suc n)) (suc s) each)))) i (omega arith))

joins-times : (i n left : ℕ) (ts : List ℕ) (each : List (List Key)) → length ts ≡ length each
    → times i (join_nodes n left ts each) + one (joins_top n left ts each) i + under n i ≡ one left i + occurs i ts + under (n + length (join_nodes n left ts each)) i
joins-times i n left [] each e = omega (arith, under_same (n + 0) n i (omega arith))
joins-times i n left (t ∷ ts) [] e = absurd (omega (arith, e))
joins-times i n left (t ∷ ts) (ks ∷ each) e =
    omega (arith, joins-times i (suc n) n ts each (omega (arith, e)), under_next n i, under_same (suc n + length (join_nodes (suc n) n ts each)) (n + suc (length (join_nodes (suc n) n ts each))) i (omega arith))

all_joins-times : (i n : ℕ) (ts : List ℕ) (each : List (List Key)) → 0 < length ts → length each ≡ length ts - 1
    → times i (joins_of n ts each) + one (top_of n ts each) i + under n i ≡ occurs i ts + under (n + length (joins_of n ts each)) i
all_joins-times i n [] each s e = absurd (omega (arith, s))
all_joins-times i n (t ∷ ts) each s e = joins-times i n t ts each (omega (arith, e))

rest-times : (i m top : ℕ) (cs : List Condition) → times i (rest_nodes top cs) + one (rest_top m top cs) i + under m i ≡ one top i + under (m + length (rest_nodes top cs)) i
rest-times i m top [] = omega (arith, under_same (m + 0) m i (omega arith))
rest-times i m top (c ∷ cs) = omega (arith, under_next m i, under_same (suc m) (m + 1) i (omega arith))

shape-uses : (i : ℕ) (f : SourceColumn → SourceColumn) (top : ℕ) (shape : Shape) → uses i (shape_node f top shape) ≡ one top i
shape-uses i f top (Listed columns) = refl
shape-uses i f top (Grouped by items) = refl

ends-times : (i : ℕ) (b : Bool) (shape : plan.Node) (op : StreamOperator) (k last : ℕ) → uses i shape ≡ one last i
    → times i (end_nodes b shape op k) + under k i ≡ one last i + under (k + (length (end_nodes b shape op k) - 1)) i
ends-times i true shape op k last e = omega (arith, e, under_next k i, under_next (suc k) i, under_same (suc (suc k)) (k + 2) i (omega arith))
ends-times i false shape op k last e = omega (arith, e, under_next k i, under_same (suc k) (k + 1) i (omega arith))

-- EACH OPERATOR BELOW THE ROOT is an input once, and the root is the input of none
pub nodes-times : (i : ℕ) (own : List (List Condition)) (keys : List (List Key)) (rest : List Condition) (b : Bool) (f : SourceColumn → SourceColumn) (shape : Shape) (op : StreamOperator) → 0 < length (tops 0 own) → length keys ≡ length (tops 0 own) - 1
    → times i (nodes_over own keys rest b (λ top. shape_node f top shape) op) ≡ under (length (nodes_over own keys rest b (λ top. shape_node f top shape) op) - 1) i
nodes-times i own keys rest b f shape op some e =
    let sources : List plan.Node = source_nodes 0 0 own in
    let n : ℕ = length sources in
    let joins : List plan.Node = joins_of n (tops 0 own) keys in
    let top : ℕ = top_of n (tops 0 own) keys in
    let selects : List plan.Node = rest_nodes top rest in
    let m : ℕ = length (sources ++ joins) in
    let last : ℕ = rest_top m top rest in
    let k : ℕ = length (sources ++ (joins ++ selects)) in
    let end : List plan.Node = end_nodes b (shape_node f last shape) op k in
    let all : List plan.Node = sources ++ (joins ++ (selects ++ end)) in
    let m_is : n + length joins ≡ m = sym (length-append sources joins) in
    let k_is : m + length selects ≡ k = omega (arith, length-append sources joins, length-append sources (joins ++ selects), length-append joins selects) in
    let whole : k + (length end - 1) ≡ length all - 1 = omega (arith, end_some b (shape_node f last shape) op k, length-append sources (joins ++ (selects ++ end)), length-append joins (selects ++ end), length-append selects end, length-append sources (joins ++ selects), length-append joins selects) in
    omega (
      arith,
      times-append i sources (joins ++ (selects ++ end)),
      times-append i joins (selects ++ end),
      times-append i selects end,
      sources-times i 0 0 own,
      under_same (0 + n) n i (omega arith),
      all_joins-times i n (tops 0 own) keys some e,
      under_same (n + length joins) m i m_is,
      rest-times i m top rest,
      under_same (m + length selects) k i k_is,
      ends-times i b (shape_node f last shape) op k last (shape-uses i f last shape),
      under_same (k + (length end - 1)) (length all - 1) i whole,
      under_none i,
    )

-- THE CONSUMER

none_uses : (i : ℕ) (x : plan.Node) → takes i x ≡ false → uses i x ≡ 0
none_uses i (Window s) e = refl
none_uses i (Select j cs) e = rw e refl
none_uses i (Join j k keys) e = by_test (j == i) (λ t. let bad : true ≡ false = rw t at e in cc) (λ f. let g : (k == i) ≡ false = rw f at e in rw (f, g) refl)
none_uses i (Project j columns) e = rw e refl
none_uses i (Group j by items) e = rw e refl
none_uses i (Distinct j) e = rw e refl
none_uses i (ToStream j op) e = rw e refl

some_uses : (i : ℕ) (x : plan.Node) → takes i x ≡ true → 0 < uses i x
some_uses i (Window s) e = cc
some_uses i (Select j cs) e = rw e (omega arith)
some_uses i (Join j k keys) e = by_test (j == i) (λ t. rw t (omega arith)) (λ f. let g : (k == i) ≡ true = rw f at e in rw (f, g) (omega arith))
some_uses i (Project j columns) e = rw e (omega arith)
some_uses i (Group j by items) e = rw e (omega arith)
some_uses i (Distinct j) e = rw e (omega arith)
some_uses i (ToStream j op) e = rw e (omega arith)

never : (i : ℕ) (xs : List plan.Node) → times i xs ≡ 0 → (k : ℕ) (d : plan.Node) → k < length xs → uses i (get_or xs k d) ≡ 0
never i [] e k d h = absurd (omega (arith, h))
never i (x ∷ xs) e zero d h = omega (arith, e)
never i (x ∷ xs) e (suc k) d h = never i xs (omega (arith, e)) k d (omega (arith, h))

-- an input of one operator, once
record Found (i n : ℕ) (xs : List plan.Node) (d : plan.Node) : Type 0 where
  place : ℕ
  inside : place < length xs
  is : consumer i n xs ≡ n + place
  here : uses i (get_or xs place d) ≡ 1
  others : (k : ℕ) → k < length xs → k ≢ place → uses i (get_or xs k d) ≡ 0

find : (i n : ℕ) (xs : List plan.Node) (d : plan.Node) → times i xs ≡ 1 → Found i n xs d
find i n [] d e = absurd (omega (arith, e))
find i n (x ∷ xs) d e = by_test (takes i x)
    (λ t.
    let now : 0 < uses i x = some_uses i x t in
    let none : times i xs ≡ 0 = omega (arith, e, now) in
    let eq : consumer i n (x ∷ xs) ≡ n + 0 = rw t (omega arith) in
    record { place = 0; inside = omega arith; is = eq; here = omega (arith, e, now, none); others = λ k h ne. first_others none k h ne })
    (λ f.
    let none : uses i x ≡ 0 = none_uses i x f in
    let rest : Found i (suc n) xs d = find i (suc n) xs d (omega (arith, e, none)) in
    let eq : consumer i n (x ∷ xs) ≡ n + suc rest.place = rw f (rest.is ∙ (let z : suc n + rest.place ≡ n + suc rest.place = omega arith in z)) in
    record { place = suc rest.place; inside = omega (arith, rest.inside); is = eq; here = rest.here; others = λ k h ne. later_others rest none k h ne })
  where
    first_others : times i xs ≡ 0 → (k : ℕ) → k < suc (length xs) → k ≢ 0 → uses i (get_or (x ∷ xs) k d) ≡ 0
    first_others none zero h ne = absurd (ne refl)
    first_others none (suc k) h ne = never i xs none k d (omega (arith, h))

    later_others : (rest : Found i (suc n) xs d) → uses i x ≡ 0 → (k : ℕ) → k < suc (length xs) → k ≢ suc rest.place → uses i (get_or (x ∷ xs) k d) ≡ 0
    later_others rest none zero h ne = none
    later_others rest none (suc k) h ne = rest.others k (omega (arith, h)) (λ e. ne (ap suc e))

-- WHAT THAT SAYS of the net's nodes

one_is : (a i : ℕ) → one a i ≡ 1 → a ≡ i
one_is a i e = by_test (a == i) (λ t. eqb-true a i t) (λ f. let bad : 0 ≡ 1 = rw f at e in cc)

one_not : (a i : ℕ) → one a i ≡ 0 → a ≢ i
one_not a i e h = by_test (a == i) (λ t. let bad : 1 ≡ 0 = rw t at e in cc) (λ f. eqb-false a i f h)

pub used_below : (i k : ℕ) (x : plan.Node) → uses i x ≡ 1 → Below k x → i < k
used_below i k (Window s) e b = cc
used_below i k (Select j cs) e b = omega (arith, one_is j i e, b)
used_below i k (Join j l keys) e b = by_test (j == i) (λ t. omega (arith, eqb-true j i t, b)) (λ f. let g : one l i ≡ 1 = omega (arith, rw f at e) in omega (arith, one_is l i g, b))
used_below i k (Project j columns) e b = omega (arith, one_is j i e, b)
used_below i k (Group j by items) e b = omega (arith, one_is j i e, b)
used_below i k (Distinct j) e b = omega (arith, one_is j i e, b)
used_below i k (ToStream j op) e b = omega (arith, one_is j i e, b)

pub used_takes : (i : ℕ) (x : plan.Node) → uses i x ≡ 1 → Takes i (node_of x)
used_takes i (Window s) e = cc
used_takes i (Select j cs) e = one_is j i e
used_takes i (Join j l keys) e = by_test (j == i)
    (λ t. let g : one l i ≡ 0 = omega (arith, rw t at e) in inl (eqb-true j i t, one_not l i g))
    (λ f. let g : one l i ≡ 1 = omega (arith, rw f at e) in inr (one_is l i g, eqb-false j i f))
used_takes i (Project j columns) e = one_is j i e
used_takes i (Group j by items) e = one_is j i e
used_takes i (Distinct j) e = one_is j i e
used_takes i (ToStream j op) e = one_is j i e

pub unused_apart : (i : ℕ) (x : plan.Node) → uses i x ≡ 0 → Apart i (node_of x)
unused_apart i (Window s) e = tt
unused_apart i (Select j cs) e = one_not j i e
unused_apart i (Join j l keys) e = (one_not j i (omega (arith, e)), one_not l i (omega (arith, e)))
unused_apart i (Project j columns) e = one_not j i e
unused_apart i (Group j by items) e = one_not j i e
unused_apart i (Distinct j) e = one_not j i e
unused_apart i (ToStream j op) e = one_not j i e

pub below_later : (k : ℕ) (x : plan.Node) → Below k x → ComesLater (node_of x) k
below_later k (Window s) b = tt
below_later k (Select j cs) b = b
below_later k (Join j l keys) b = b
below_later k (Project j columns) b = b
below_later k (Group j by items) b = b
below_later k (Distinct j) b = b
below_later k (ToStream j op) b = b

pub rises_at : (n : ℕ) (xs : List plan.Node) (k : ℕ) (d : plan.Node) → Rises n xs → k < length xs → Below (n + k) (get_or xs k d)
rises_at n [] k d r h = absurd (omega (arith, h))
rises_at n (x ∷ xs) zero d r h = let e : n ≡ n + 0 = omega arith in subst (λ i. Below i x) e r.0
rises_at n (x ∷ xs) (suc k) d r h = let e : suc n + k ≡ n + suc k = omega arith in subst (λ i. Below i (get_or xs k d)) e (rises_at (suc n) xs k d r.1 (omega (arith, h)))

-- the root is the last, over the one before it
pub laid : (ns : List plan.Node) (op : StreamOperator) → 2 ≤ length ns → get_or ns (length ns - 1) (Window 0) ≡ ToStream (length ns - 2) op → Rises 0 ns
    → ((i : ℕ) → i < length ns - 1 → times i ns ≡ 1) → Laid (net_of ns) (length ns - 1) (consumer_of ns)
laid ns op two root rises once = record {
  some = omega (arith, two);
  later = λ i h. let f : Found i 0 ns (Window 0) = find i 0 ns (Window 0) (once i h) in omega (arith, f.is, used_below i (0 + f.place) (get_or ns f.place (Window 0)) f.here (rises_at 0 ns f.place (Window 0) rises f.inside));
  within = λ i h. let f : Found i 0 ns (Window 0) = find i 0 ns (Window 0) (once i h) in omega (arith, f.is, f.inside);
  final = λ i h e.
      let f : Found i 0 ns (Window 0) = find i 0 ns (Window 0) (once i h) in
      let p : f.place ≡ length ns - 1 = omega (arith, f.is, e) in
      let u : uses i (ToStream (length ns - 2) op) ≡ 1 = sym (ap (uses i) (ap (λ k. get_or ns k (Window 0)) p ∙ root)) ∙ f.here in
      omega (arith, one_is (length ns - 2) i u, two);
  taken = λ i h lt.
      let f : Found i 0 ns (Window 0) = find i 0 ns (Window 0) (once i h) in
      let p : f.place ≡ consumer_of ns i = omega (arith, f.is) in
      subst (λ k. Takes i (net_of ns k)) p (used_takes i (get_or ns f.place (Window 0)) f.here);
  apart = λ i k h l ne.
      let f : Found i 0 ns (Window 0) = find i 0 ns (Window 0) (once i h) in
      unused_apart i (get_or ns k (Window 0)) (f.others k (omega (arith, l)) (λ e. ne (omega (arith, e, f.is))));
}
