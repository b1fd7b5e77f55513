-- Up to where queries are complete: what calls that run no turn leave of it.
use Rattle.std.proofs.Common.{◌≡◌, ℕ, zero, suc, ◌++◌, Option, None, Some, List, [], ◌∷◌, length, map, set, refl, sym, ap, ap₂, ◌∙◌, arith}
use Rattle.std.specs.Prelude.{get_or, slice_get}
use Rattle.std.specs.Option.{option_map_or}
use Rattle.std.proofs.Math.Seq.{map-set_same}
use Rattle.values.specs.Row.{Row}
use Rattle.values.specs.declared.resolved.Window.{Window}
use Rattle.plan.specs.declared.node.Node.{Node}
use Rattle.plan.specs.declared.node.Node.TheVariants.{Window as Source, Select, Join, Project, Group, Distinct, ToStream}
use Rattle.plan.specs.declared.operators.Plan.{Plan}
use Rattle.operators.specs.Ready.{PlainOperator, last_in}
use Rattle.operators.specs.declared.states.State.{State}
use Rattle.physical_plans.specs.Beginnings.{AreMade, StateStarts}
use Rattle.physical_plans.specs.Beginnings as made
use Rattle.reference.specs.Commands as machine
use Rattle.reference.specs.Commands.{change, took}
use Rattle.reference.specs.Machine.{Registered}
use Rattle.reference.specs.Opening.{all_restarted, restart}
use Rattle.reference.specs.World.{World}
use Rattle.laws_dataflow.specs.Roots.{behind, below_root}
use Rattle.laws_queries.specs.Plain.{PlainQuery, operator_at}
use Rattle.laws_queries.specs.Registrations.{lengths_of}
use Rattle.laws_engine.specs.Accepted.{IsBegun}
use Rattle.laws_engine.specs.Calls.{broken, remains_after}
use Rattle.laws_engine.specs.Engines.{Broken, Dropped, Lease, PlainEngine, PlainRemains, Running}
use Rattle.laws_engine.specs.Engines.{answers_in, next_of, remains_at, upto_by, upto_in, world_of}
use Rattle.laws_engine.specs.Good.{upto_at}
use Rattle.laws_engine.specs.Histories.{Breaks, IsCallStep}
use Rattle.laws_engine.specs.Openings.{forgotten, marks_by}

-- A FORGETTING: a query that goes on is complete up to the same instant
upto_restarted : (q : Registered) (k : PlainRemains) (mark : Option ℕ) (rows : List (ℕ × Row)) → upto_in q k ≡ upto_in (restart q mark rows) k
upto_restarted q (Running p) mark rows = refl
upto_restarted q (Broken answers upto) mark rows = refl
upto_restarted q Dropped mark rows = refl

pub upto_again : (qs : List Registered) (ks : List PlainRemains) (marks : List (Option ℕ)) (waiting : List (List (ℕ × Row))) → upto_by qs ks ≡ upto_by (all_restarted qs marks waiting) ks
upto_again [] ks marks waiting = refl
upto_again (q ∷ qs) ks [] waiting = refl
upto_again (q ∷ qs) ks (m ∷ marks) [] = refl
upto_again (q ∷ qs) [] (m ∷ marks) (w ∷ waiting) = refl
upto_again (q ∷ qs) (k ∷ ks) (m ∷ marks) (w ∷ waiting) = ap₂ (λ x xs. x ∷ xs) (upto_restarted q k m w) (upto_again qs ks marks waiting)

pub upto_forgotten : (e : PlainEngine) → (world_of (forgotten e)).upto ≡ (world_of e).upto
upto_forgotten e = sym (upto_again e.machine.queries e.queries (marks_by e.machine.queries e.queries) (map answers_in e.queries))

-- A BREAK: the query has given what it gave, up to the same instant
upto_set : (qs : List Registered) (ks : List PlainRemains) (n : ℕ) (k : PlainRemains) → ((q : Registered) → slice_get qs n ≡ Some q → upto_in q k ≡ upto_in q (get_or ks n Dropped)) → upto_by qs (set ks n k) ≡ upto_by qs ks
upto_set [] ks n k h = refl
upto_set (q ∷ qs) [] n k h = refl
upto_set (q ∷ qs) (x ∷ ks) zero k h = ap (λ u. u ∷ upto_by qs ks) (h q refl)
upto_set (q ∷ qs) (x ∷ ks) (suc n) k h = ap (λ us. upto_in q x ∷ us) (upto_set qs ks n k h)

pub broken_world : (e : PlainEngine) (n : ℕ) (p : PlainQuery) → remains_at e n ≡ Running p → world_of (broken e n p) ≡ world_of e
broken_world e n p running =
    let k : PlainRemains = Broken p.answers (upto_at e n) in
    ap₂ (λ w u. let z : World = record { machine = e.machine; waiting = w; upto = u } in z)
    (map-set_same answers_in e.queries n k Dropped (sym (ap answers_in running)))
    (upto_set e.machine.queries e.queries n k (λ q at. ap (λ o. option_map_or (λ (q : Registered). upto_in q (remains_at e n)) o 0) at))

pub break_leaves : (e : PlainEngine) (l : Lease) (e2 : PlainEngine) → IsCallStep e (Breaks l) e2 → world_of e2 ≡ world_of e
break_leaves e l e2 h = ap world_of h.1.1.1.1 ∙ broken_world e l.query h.1.1.0 h.1.1.1.0.running

-- A TAKE
upto_after : (count : ℕ) (q : Registered) (k : PlainRemains) → upto_in q k ≡ upto_in (took count q) (remains_after count k)
upto_after count q (Running p) = refl
upto_after count q (Broken answers upto) = refl
upto_after count q Dropped = refl

pub upto_taken : (count n : ℕ) (qs : List Registered) (ks : List PlainRemains) → upto_by qs ks ≡ upto_by (change n (took count) qs) (change n (remains_after count) ks)
upto_taken count n [] ks = refl
upto_taken count zero (q ∷ qs) [] = refl
upto_taken count (suc n) (q ∷ qs) [] = refl
upto_taken count zero (q ∷ qs) (k ∷ ks) = ap (λ x. x ∷ upto_by qs ks) (upto_after count q k)
upto_taken count (suc n) (q ∷ qs) (k ∷ ks) = ap (λ xs. upto_in q k ∷ xs) (upto_taken count n qs ks)

-- A DROP
pub upto_dropped : (n : ℕ) (qs : List Registered) (ks : List PlainRemains) → upto_by (change n machine.dropped qs) (change n (λ remains. Dropped) ks) ≡ change n (λ end. 0) (upto_by qs ks)
upto_dropped n [] ks = refl
upto_dropped zero (q ∷ qs) [] = refl
upto_dropped (suc n) (q ∷ qs) [] = refl
upto_dropped zero (q ∷ qs) (k ∷ ks) = refl
upto_dropped (suc n) (q ∷ qs) (k ∷ ks) = ap (λ xs. upto_in q k ∷ xs) (upto_dropped n qs ks)

-- A REGISTRATION
pub upto_added : (qs : List Registered) (ks : List PlainRemains) (q : Registered) (k : PlainRemains) → length ks ≡ length qs → upto_by (qs ++ q ∷ []) (ks ++ k ∷ []) ≡ upto_by qs ks ++ upto_in q k ∷ []
upto_added [] [] q k many = refl
upto_added [] (x ∷ ks) q k many = absurd (omega (arith, many))
upto_added (r ∷ qs) [] q k many = absurd (omega (arith, many))
upto_added (r ∷ qs) (x ∷ ks) q k many = ap (λ xs. upto_in r x ∷ xs) (upto_added qs ks q k (omega (arith, many)))

-- of a query that has begun the root has taken no tick
unticked : (ws : List Window) (vs widths : List ℕ) (node : Node) (s : State) → StateStarts ws vs widths node s → last_in s ≡ None
unticked ws vs widths (Source i) s h = ap last_in h.1
unticked ws vs widths (Select i cs) s h = ap last_in h
unticked ws vs widths (Join i j keys) s h = ap last_in h
unticked ws vs widths (Project i places) s h = ap last_in h
unticked ws vs widths (Group i by items) s h = ap last_in h
unticked ws vs widths (Distinct i) s h = ap last_in h
unticked ws vs widths (ToStream i op) s h = ap last_in h

all_unticked : (ws : List Window) (vs widths places : List ℕ) (start : ℕ) (nodes : List Node) (os : List PlainOperator) (k : ℕ) → AreMade ws vs widths places start nodes os → last_in (operator_at os k).state ≡ None
all_unticked ws vs widths places start [] [] k h = refl
all_unticked ws vs widths places start [] (o ∷ os) k h = absurd h
all_unticked ws vs widths places start (n ∷ nodes) [] k h = absurd h
all_unticked ws vs widths places start (n ∷ nodes) (o ∷ os) zero h = unticked ws vs widths n o.state h.0.state
all_unticked ws vs widths places start (n ∷ nodes) (o ∷ os) (suc k) h = all_unticked ws vs widths places start nodes os k h.1

pub begun_upto : (plan : Plan) (q : Registered) (p : PlainQuery) → IsBegun plan q p → next_of q p ≡ q.first
begun_upto plan q p begun =
    ap (behind q.first)
    (all_unticked plan.meaning.windows.items plan.widths.items (made.widths_of plan.widths.items plan.nodes.items) (lengths_of q) q.first plan.nodes.items p.operators (below_root q.nodes) begun.operators)
