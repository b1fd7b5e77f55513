-- What was given of a registered query is a beginning of the machine's answers, and all of them where nothing is ready.
use Rattle.std.proofs.Common.{◌≡◌, ℕ, zero, suc, ◌+◌, ◌-◌, ◌<◌, ◌≤◌, Bool, true, false, cond, nat_le, max, min, List, [], ◌∷◌, ◌++◌, map, flat_map, length, get_or, refl, sym, ap, ap₂, ◌∙◌, subst, arith, le-leb, leb-true}
use Rattle.std.specs.Prelude.{unwrap_or}
use Rattle.std.specs.List.{range_with_len, reduce}
use Rattle.std.proofs.lemmas.List.{length-map}
use Rattle.values.specs.Row.{Row, row_cmp}
use Rattle.values.specs.Bag.{in_order}
use Rattle.values.specs.Window.{Element}
use Rattle.values.specs.Answers.{Resolved, answers_at, body, relation, relation_before, shown_at, streamed}
use Rattle.values.specs.StreamOperators.{operator_of}
use Rattle.op_queue.specs.Entries.{Entry}
use Rattle.to_stream.specs.Turns.{State}
use Rattle.plan.specs.Values.{plan_value}
use Rattle.plan.proofs.Whole.{plan-body}
use Rattle.reference.specs.Machine.{Machine, Registered, closed_answers, opens, until_for}
use Rattle.laws_dataflow.specs.Nets.{Cell, Planned, Laid}
use Rattle.laws_dataflow.specs.Operators.{net_of}
use Rattle.laws_dataflow.specs.Queries.{before, given_at, given_from, GoodQuery, Idle}
use Rattle.laws_dataflow.specs.Plans.{AreWide, IsPlanOf, bags_of, consumer_of, inputs_of, least_of}
use Rattle.laws_dataflow.specs.Plans.{value_of, world_of}
use Rattle.laws_dataflow.specs.Roots.{below_root}
use Rattle.laws_dataflow.proofs.LeastLemmas.{closed_from, least_all, least_open}
use Rattle.laws_dataflow.proofs.PlanLemmas.{Shaped, planned, shaped_plan, top_least, top_value, window_bags}
use Rattle.laws_dataflow.specs.Laws.{TurnsKeep}
use Rattle.laws_dataflow.proofs.QueryLemmas.{query_begins, query_complete, query_last_turns, query_root_takes_rows, query_root_takes_tick, query_turns}

-- ANSWERS by values that are the relation from the first instant on

module _ (q : Resolved) (first : ℕ) (inputs : List (List Element)) (v : ℕ → List Row) (is : (t : ℕ) → first ≤ t → v t ≡ body q (shown_at first q.windows t inputs)) where
  now_is : (t : ℕ) → first ≤ t → v t ≡ relation q first inputs t
  now_is t h = is t h ∙ sym (ap (λ b. cond b (body q (shown_at first q.windows t inputs)) []) (le-leb first t h))

  before_is : (t : ℕ) → before first v t ≡ relation_before q first inputs t
  before_is zero = refl
  before_is (suc t) = here (nat_le first t) refl
    where
      here : (b : Bool) → nat_le first t ≡ b → cond b (v t) [] ≡ cond b (body q (shown_at first q.windows t inputs)) []
      here true e = is t (leb-true first t e)
      here false e = refl

  at_is : (t : ℕ) → first ≤ t → given_at q.operator first v t ≡ answers_at q first inputs t
  at_is t h = ap₂ (λ a b. map (λ r. (t, r)) (in_order row_cmp (streamed q.operator a b))) (before_is t) (now_is t h)

  pub over_is : (start n : ℕ) → first ≤ start → flat_map (given_at q.operator first v) (range_with_len start n) ≡ flat_map (answers_at q first inputs) (range_with_len start n)
  over_is start zero h = refl
  over_is start (suc n) h = ap₂ (λ x y. x ++ y) (at_is start h) (over_is (start + 1) n (omega (arith, h)))

-- A REGISTERED QUERY

least_until : (first : ℕ) (os : List ℕ) → 0 < length os → least_all (closed_from (λ k. max first (get_or os k 0)) 0 (length os)) ≡ max first (unwrap_or (reduce min os) 0)
least_until first [] h = absurd (omega (arith, h))
least_until first (o ∷ os) h = least_open first o os

module _ (vs : List ℕ) (m : Machine) (q : Registered) (p : IsPlanOf vs q.meaning q.nodes) (wide : AreWide vs m q) where
  some_windows : 0 < length q.meaning.windows
  some_windows = omega (arith, p.some, p.scoped.sources)

  pub shaped : Shaped (world_of m q).closed q.meaning q.nodes
  shaped = subst (λ ns. Shaped (world_of m q).closed q.meaning ns) (sym p.is) (shaped_plan (world_of m q).closed vs q.meaning some_windows)

  -- its operators are a plan of a net over the machine's streams, and each has one consumer
  pub query_planned : Planned (world_of m q) (net_of q.nodes) (below_root q.nodes) (value_of m q) (least_of m q)
  query_planned = planned (world_of m q) (bags_of m q) q.nodes (below_root q.nodes)
      (λ t k. window_bags q.first t q.meaning.windows (inputs_of m q) (p.scoped.sources ∙ sym (length-map q.places _ ∙ wide.places)) k) shaped.rises (omega arith)

  pub query_laid : Laid (net_of q.nodes) (below_root q.nodes) (consumer_of q.nodes)
  query_laid = shaped.laid

  -- THE VALUE of the operator below the root is the relation that the text means
  pub query_value : (t : ℕ) → value_of m q (below_root q.nodes - 1) t ≡ body q.meaning (bags_of m q t)
  query_value t =
      top_value (bags_of m q t) q.nodes q.meaning.operator shaped.two shaped.root shaped.rises
      ∙ ap (λ ns. plan_value ns (bags_of m q t)) p.is ∙ plan-body vs q.meaning (bags_of m q t) p.some p.scoped (wide.tables t)

  -- and its least open instant is that of the query, or the first
  pub query_least : least_of m q (below_root q.nodes - 1) ≡ max q.first (until_for m.streams q.places)
  query_least =
      let os : List ℕ = opens m.streams q.places in
      let long : length q.meaning.windows ≡ length os = p.scoped.sources ∙ sym (length-map q.places _ ∙ wide.places) in
      top_least (world_of m q).closed q.nodes q.meaning.operator shaped.two shaped.root shaped.rises ∙ shaped.least
      ∙ ap (λ k. least_all (closed_from (world_of m q).closed 0 k)) long
      ∙ least_until q.first os (omega (arith, long, some_windows))

  -- the answers by the net's values are the machine's
  pub query_answers : q.first ≤ q.start → q.earlier ++ given_from q.meaning.operator q.first (value_of m q (below_root q.nodes - 1)) q.start (least_of m q (below_root q.nodes - 1)) ≡ closed_answers m q
  query_answers began = ap (λ l. q.earlier ++ l) (
      let v : ℕ → List Row = value_of m q (below_root q.nodes - 1) in
      let u : ℕ = until_for m.streams q.places in
      let e : max q.first u - q.start ≡ u - q.start = omega (arith, began) in
      ap (given_from q.meaning.operator q.first v q.start) query_least
      ∙ ap (λ n. flat_map (given_at q.meaning.operator q.first v) (range_with_len q.start n)) e
      ∙ over_is q.meaning q.first (inputs_of m q) v (λ t h. query_value t) q.start (u - q.start) began)

  -- A FINISHED TURN keeps the query good
  pub turns_keep : TurnsKeep m q
  turns_keep = record {
    inner = query_turns (world_of m q) (net_of q.nodes) (below_root q.nodes) (value_of m q) (least_of m q) query_planned q.start q.earlier (consumer_of q.nodes) query_laid;
    last = query_last_turns (world_of m q) (net_of q.nodes) (below_root q.nodes) (value_of m q) (least_of m q) query_planned q.start q.earlier (consumer_of q.nodes) query_laid;
    root_rows = query_root_takes_rows (world_of m q) (net_of q.nodes) (below_root q.nodes) (value_of m q) (least_of m q) query_planned q.start q.earlier;
    root_tick = query_root_takes_tick (world_of m q) (net_of q.nodes) (below_root q.nodes) (value_of m q) (least_of m q) query_planned q.start q.earlier;
  }

  -- WHAT WAS GIVEN IS A BEGINNING OF THE MACHINE'S ANSWERS
  pub machine_begins : (cells : ℕ → Cell) (s : State) (queue : List (Entry Row)) (given : List (ℕ × Row)) → operator_of s.operator ≡ q.meaning.operator
      → GoodQuery (world_of m q) (net_of q.nodes) (below_root q.nodes) (value_of m q) q.start q.earlier cells s queue given → (rest : List (ℕ × Row)) × (closed_answers m q ≡ given ++ rest)
  machine_begins cells s queue given op g =
      let b : (rest : List (ℕ × Row)) × (q.earlier ++ given_from (operator_of s.operator) q.first (value_of m q (below_root q.nodes - 1)) q.start (least_of m q (below_root q.nodes - 1)) ≡ given ++ rest) =
      query_begins (world_of m q) (net_of q.nodes) (below_root q.nodes) (value_of m q) (least_of m q) query_planned q.start q.earlier (omega (arith, shaped.two)) cells s queue given g in
      (b.0, sym (query_answers g.root.began) ∙ ap (λ o. q.earlier ++ given_from o q.first (value_of m q (below_root q.nodes - 1)) q.start (least_of m q (below_root q.nodes - 1))) (sym op) ∙ b.1)

  -- AND ALL OF THEM WHERE NOTHING IS READY
  pub machine_complete : (cells : ℕ → Cell) (s : State) (queue : List (Entry Row)) (given : List (ℕ × Row)) → operator_of s.operator ≡ q.meaning.operator → Idle (below_root q.nodes) cells queue
      → GoodQuery (world_of m q) (net_of q.nodes) (below_root q.nodes) (value_of m q) q.start q.earlier cells s queue given → given ≡ closed_answers m q
  machine_complete cells s queue given op i g =
      query_complete (world_of m q) (net_of q.nodes) (below_root q.nodes) (value_of m q) (least_of m q) query_planned q.start q.earlier (omega (arith, shaped.two)) cells s queue given i g
      ∙ ap (λ o. q.earlier ++ given_from o q.first (value_of m q (below_root q.nodes - 1)) q.start (least_of m q (below_root q.nodes - 1))) op ∙ query_answers g.root.began
