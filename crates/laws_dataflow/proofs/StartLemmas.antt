-- At registration: nothing is held, queued, taken or put out, and all stand at the first instant.
use Rattle.std.proofs.Common.{◌≡◌, ℕ, zero, suc, ◌-◌, ◌<◌, ◌≤◌, nat_le, true, false, List, [], get_or, sym, refl, ap, subst₂, arith, true≢false}
use Rattle.std.specs.List.{flat_map, range_with_len}
use Rattle.values.specs.Row.{Row}
use Rattle.values.specs.Window.{Window}
use Rattle.values.specs.declared.resolved.StreamOperator.{StreamOperator as Told}
use Rattle.op_queue.specs.Signed.{Same}
use Rattle.op_queue.proofs.PathLemmas.{Leads-none}
use Rattle.op_queue.proofs.SignedLemmas.{Same-refl}
use Rattle.to_stream.proofs.StepLemmas.{fresh_stands}
use Rattle.laws_dataflow.specs.Windows.{GoodWindow}
use Rattle.laws_dataflow.specs.Nets.{Unary, Binary, Node, window, unary, join, World, cell_shown, cell_next, Input, GoodOne, GoodTwo, GoodCell}
use Rattle.laws_dataflow.specs.Queries.{before, given_at, GoodRoot, GoodQuery}
use Rattle.laws_dataflow.specs.Operators.{node_of, net_of}
use Rattle.laws_dataflow.specs.Plans.{inputs_of, value_of, world_of}
use Rattle.laws_dataflow.specs.Roots.{below_root}
use Rattle.plan.specs.Nodes as plan
use Rattle.plan.specs.Nodes.{Window as WindowNode, Select, Join, Project, Group, Distinct, ToStream}
use Rattle.reference.specs.Machine.{Machine, Registered, opens}
use Rattle.values.specs.StreamOperators.{operator_of}
use Rattle.std.proofs.lemmas.Bool.{lt-leb}
use Rattle.laws_dataflow.specs.Starts.{fresh_cell, StartsEmpty, fresh_root}

untrue {ℓ} : {A : Type ℓ} → false ≡ true → A
untrue h = absurd (true≢false (sym h))

pub window_start : (first : ℕ) (w : Window) (c : ℕ) → GoodWindow first w [] c [] [] c []
window_start first w c = record { rising = tt; closed = tt; brings = refl; stands = λ u later f h. Same-refl _ }

pub unary_start : (f : Unary) (v : ℕ → List Row) (n : ℕ) → (f.streams ≡ true → Same [] (f.value [])) → GoodOne f v [] [] [] n [] n
unary_start f v n h = record { edge = Leads-none v n (Same-refl []); shows = h }

pub join_start : (f : Binary) (v u : ℕ → List Row) (n : ℕ) → Same [] (f.value [] []) → GoodTwo f v u [] [] [] [] [] n false false [] n [] n
join_start f v u n h = record { left_edge = Leads-none v n (Same-refl []); right_edge = Leads-none u n (Same-refl []); shows = h; left_ticked = λ e. untrue e; right_ticked = λ e. untrue e; not_both = λ e g. untrue e }

fresh_shown : (n : ℕ) (x : Node) → cell_shown (fresh_cell n x) ≡ []
fresh_shown n (window k) = refl
fresh_shown n (unary f x) = refl
fresh_shown n (join f x y) = refl

fresh_next : (n : ℕ) (x : Node) → cell_next (fresh_cell n x) ≡ n
fresh_next n (window k) = refl
fresh_next n (unary f x) = refl
fresh_next n (join f x y) = refl

fresh_good : (w : World) (x : Node) (c d : Input) → ((k : ℕ) → w.inputs k ≡ []) → ((k : ℕ) → w.closed k ≡ w.first) → StartsEmpty x → c.bag ≡ [] → c.opens ≡ w.first → d.bag ≡ [] → d.opens ≡ w.first → GoodCell w x (fresh_cell w.first x) c d
fresh_good w (window k) c d none now e cb co db do_ =
    subst₂ (λ i z. GoodWindow w.first (w.windows k) i z [] [] w.first []) (sym (none k)) (sym (now k)) (window_start w.first (w.windows k) w.first)
fresh_good w (unary f x) c d none now e cb co db do_ = subst₂ (λ b o. GoodOne f c.values [] [] [] w.first b o) (sym cb) (sym co) (unary_start f c.values w.first e)
fresh_good w (join f x y) c d none now e cb co db do_ =
    subst₂ (λ b o. GoodTwo f c.values d.values [] [] [] [] [] w.first false false b o d.bag d.opens) (sym cb) (sym co)
    (subst₂ (λ b o. GoodTwo f c.values d.values [] [] [] [] [] w.first false false [] w.first b o) (sym db) (sym do_) (join_start f c.values d.values w.first e))

before_first : (first : ℕ) (v : ℕ → List Row) → Same [] (before first v first)
before_first zero v = Same-refl []
before_first (suc t) v = let e : nat_le (suc t) t ≡ false = lt-leb (suc t) t (omega arith) in rw e (Same-refl [])

pub plan_starts : (x : plan.Node) → StartsEmpty (node_of x)
plan_starts (WindowNode s) = tt
plan_starts (Select i cs) = λ e. Same-refl []
plan_starts (Join i j keys) = Same-refl []
plan_starts (Project i columns) = λ e. Same-refl []
plan_starts (Group i by items) = λ e. untrue e
plan_starts (Distinct i) = λ e. untrue e
plan_starts (ToStream i op) = λ e. Same-refl []

-- A QUERY THAT STARTS: no element counts for it yet, and nothing above its base is closed
pub query_starts : (w : World) (nodes : ℕ → Node) (count : ℕ) (v : ℕ → ℕ → List Row) (op : Told) → ((k : ℕ) → w.inputs k ≡ []) → ((k : ℕ) → w.closed k ≡ w.first) → ((k : ℕ) → k < count → StartsEmpty (nodes k))
    → GoodQuery w nodes count v w.first [] (λ k. fresh_cell w.first (nodes k)) (fresh_root op) [] []
query_starts w nodes count v op none now empty =
    let e : w.first - w.first ≡ 0 = omega arith in
    let v_top : ℕ → List Row = v (count - 1) in
    record {
      good = λ k h. fresh_good w (nodes k) _ _ none now (empty k h) (fresh_shown w.first _) (fresh_next w.first _) (fresh_shown w.first _) (fresh_next w.first _);
      root = subst₂ (λ b m. GoodRoot w.first w.first [] v_top (fresh_root op) [] b m []) (sym (fresh_shown w.first (nodes (count - 1)))) (sym (fresh_next w.first (nodes (count - 1)))) (record {
        whole = [];
        last = [];
        opens = w.first;
        edge = Leads-none v_top w.first (Same-refl []);
        began = omega arith;
        going = omega arith;
        mark = refl;
        stands = fresh_stands op;
        last_is = before_first w.first v_top;
        given_is = ap (λ n. flat_map (given_at (operator_of op) w.first v_top) (range_with_len w.first n)) (sym e);
      });
    }

-- of the machine: nothing counts for it that came before its registration, and its first instant lies above all that is closed
pub machine_starts : (m : Machine) (q : Registered) (op : Told) → q.start ≡ q.first → q.earlier ≡ [] → ((k : ℕ) → get_or (inputs_of m q) k [] ≡ []) → ((k : ℕ) → get_or (opens m.streams q.places) k 0 ≤ q.first)
    → GoodQuery (world_of m q) (net_of q.nodes) (below_root q.nodes) (value_of m q) q.start q.earlier (λ k. fresh_cell q.first (net_of q.nodes k)) (fresh_root op) [] []
machine_starts m q op starts early none below =
    subst₂ (λ z l. GoodQuery (world_of m q) (net_of q.nodes) (below_root q.nodes) (value_of m q) z l (λ k. fresh_cell q.first (net_of q.nodes k)) (fresh_root op) [] []) (sym starts) (sym early)
    (query_starts (world_of m q) (net_of q.nodes) (below_root q.nodes) (value_of m q) op none (λ k. omega (arith, below k)) (λ k h. plan_starts (get_or q.nodes k (WindowNode 0))))
