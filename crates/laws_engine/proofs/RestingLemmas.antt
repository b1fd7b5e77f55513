-- Windows that rest: a window that has something to take takes just that next, whatever its stream closes.
use Rattle.std.proofs.Common.{◌≡◌, ℕ, ℤ, ◌<◌, ◌++◌, Bool, true, false, cond, inl, inr, ◌⊎◌, ⊎_elim, Option, Some, None, List, [], ◌∷◌, length, refl, sym, ap, ap₂, ◌∙◌, arith}
use Rattle.std.specs.Option.{option_map}
use Rattle.std.proofs.lemmas.Bool.{cases_lt}
use Rattle.values.specs.Row.{Row}
use Rattle.values.specs.Window as values
use Rattle.values.specs.Window.{Element}
use Rattle.column.specs.declared.batch.Side.{Side}
use Rattle.column.specs.declared.batch.Side.TheVariants.{Left, Right}
use Rattle.op_queue.specs.Entries.{Entry, RowAt, TickAt, front_of}
use Rattle.op_queue.specs.Logs.{Closed}
use Rattle.operators.specs.Ready.{PlainOperator, first_ready, front_instant, ready, ready_at, usable, waiting}
use Rattle.operators.specs.declared.states.State.{State}
use Rattle.operators.specs.declared.states.State.TheVariants as state
use Rattle.plan.specs.Nodes as plan
use Rattle.plan.specs.Nodes.{Window, Select, Join, Project, Group, Distinct, ToStream}
use Rattle.plan.proofs.Lists.{by_test}
use Rattle.reference.specs.Machine.{Registered}
use Rattle.laws_dataflow.specs.Nets.{Cell, World, at_join, at_unary, at_window}
use Rattle.laws_dataflow.specs.Plans.{world_of}
use Rattle.laws_dataflow.specs.Roots.{below_root}
use Rattle.laws_queries.specs.Machines.{widths_of}
use Rattle.laws_queries.specs.Queries.{IsRunning}
use Rattle.laws_queries.specs.Plain.{PlainQuery, log_at, node_at, operator_at}
use Rattle.laws_queries.specs.Runs.{Runs, WindowStands}
use Rattle.laws_queries.specs.Widths.{width_at}
use Rattle.run_queue.specs.Slots.{slot}
use Rattle.laws_engine.specs.Calls.{IsHeartbeat, closed_over, is_reading}
use Rattle.laws_engine.specs.Engines.{Broken, Dropped, PlainEngine, PlainRemains, Running}
use Rattle.laws_engine.specs.Engines.{is_leased, query_at, remains_at, slope_at}
use Rattle.laws_engine.specs.Good.{GoodEngine, slot_in, slot_of}
use Rattle.laws_engine.specs.Resting.{IsResting}
use Rattle.laws_engine.proofs.HeartbeatLemmas.{arrivals, beyond_in, goes_at, inboxes, left_more, quiet_slot}
use Rattle.laws_engine.proofs.PromiseLemmas.{slot_is}

-- WHAT STANDS FIRST, where more comes behind it
abbrev at_side : State → Side → List (Entry Row) → Option ℕ
at_side s side es = cond (usable s side) (option_map front_instant (front_of es)) None

-- WINDOWS are usable on the left alone
stands_usable : (first : ℕ) (w : values.Window) (n : ℕ) (s : State) (held : List Element) → WindowStands first w n s held → usable s Right ≡ false
stands_usable first w n (state.Window s) held h = refl
stands_usable first w n state.Nothing held h = absurd h
stands_usable first w n (state.Join s) held h = absurd h
stands_usable first w n (state.Groups s) held h = absurd h
stands_usable first w n (state.Root s) held h = absurd h

window_usable : (w : World) (width : ℕ) (q : Registered) (s : ℕ) (node : plan.Node) (o : PlainOperator) (log : Closed) (c : Cell) → is_reading q s node ≡ true → Runs w width node o log c → usable o.state Right ≡ false
window_usable w width q s (Window j) o log (at_window held shown b es n) is r = stands_usable w.first (w.windows j) n o.state held r.stands
window_usable w width q s (Window j) o log (at_unary es t b n) is r = absurd r
window_usable w width q s (Window j) o log (at_join es rs l m b n x y) is r = absurd r
window_usable w width q s (Select j cs) o log c is r = absurd (cc)
window_usable w width q s (Join i j ks) o log c is r = absurd (cc)
window_usable w width q s (Project j columns) o log c is r = absurd (cc)
window_usable w width q s (Group j by items) o log c is r = absurd (cc)
window_usable w width q s (Distinct j) o log c is r = absurd (cc)
window_usable w width q s (ToStream j op) o log c is r = absurd (cc)

running_usable : (vs ws : List ℕ) (e : PlainEngine) (q : Registered) (os : List PlainOperator) (given : List (ℕ × Row)) (s k : ℕ) → IsRunning vs ws e.machine q os given → k < length q.nodes → is_reading q s (node_at q k) ≡ true → usable (operator_at os k).state Right ≡ false
running_usable vs ws e q os given s k r within is = ⊎_elim
    (λ l. window_usable (world_of e.machine q) (width_at ws k) q s (node_at q k) (operator_at os k) (log_at e.machine q k) (r.cells k) is (r.inner k l).runs)
    (λ l. let root : k ≡ below_root q.nodes = omega (arith, l, within) in ap (λ z. usable (operator_at os z).state Right) root ∙ ap (λ z. usable z Right) r.last.runs.state)
    (cases_lt k (below_root q.nodes))

left_stays : (b : Bool) (xs ys : List (Entry Row)) → (cond b (option_map front_instant (front_of xs)) None ≡ None) ⊎ (cond b (option_map front_instant (front_of (xs ++ ys))) None ≡ cond b (option_map front_instant (front_of xs)) None)
left_stays true [] ys = inl refl
left_stays true (RowAt t s ∷ xs) ys = inr refl
left_stays true (TickAt t ∷ xs) ys = inr refl
left_stays false xs ys = inl refl

window_stays : (o : PlainOperator) (log log2 : Closed) (ls : List (Entry Row)) → usable o.state Right ≡ false → waiting o log2 Left ≡ waiting o log Left ++ ls → (ready o log ≡ None) ⊎ (ready o log2 ≡ ready o log)
window_stays o log log2 ls u l = ⊎_elim
    (λ none. inl (ap₂ first_ready none (no_right log)))
    (λ same. inr (ap₂ first_ready (ap (λ es. at_side o.state Left es) l ∙ same) (no_right log2 ∙ sym (no_right log))))
    (left_stays (usable o.state Left) (waiting o log Left) ls) where
      no_right : (g : Closed) → ready_at o g Right ≡ None
      no_right g = ap (λ b. cond b (option_map front_instant (front_of (waiting o g Right))) None) u

-- A HEARTBEAT
module _ (e : PlainEngine) (s : ℕ) (at : ℤ) (g : GoodEngine e) (h : IsHeartbeat e s at) where
  window_beat : (n k : ℕ) (q : Registered) (p : PlainQuery) → query_at e n ≡ Some q → remains_at e n ≡ Running p → k < length q.nodes → is_reading q s (node_at q k) ≡ true → IsResting e s n k ⊎ (slot_of (closed_over e s at) n k ≡ slot_of e n k)
  window_beat n k q p r remains within is =
      let goes = goes_at e s at g h n q p r remains in
      let m = left_more e.machine s at h.accepted h.queues (arrivals e s at g h [] q p goes) q (node_at q k) (operator_at p.operators k) (inboxes e s at g h n k q p r remains within) in
      ⊎_elim
      (λ none. inl (record { query = q; registered = r; plain = p; running = remains; within = within; reads = is; empty = none }))
      (λ same. inr (slot_is (closed_over e s at) n k q p r remains within ∙ ap (λ x. Some (slot (slope_at q k) (cond (is_leased e n k) None x) n k)) same ∙ sym (slot_is e n k q p r remains within)))
      (window_stays (operator_at p.operators k) (log_at e.machine q k) (log_at (closed_over e s at).machine q k) m.0
      (running_usable (widths_of e.machine.streams q) goes.widths e q p.operators (goes.taken ++ p.answers) s k goes.runs.runs within is) m.1)

  -- only the slots of windows that rest are told something new
  pub beat_or_rest : (n k : ℕ) → IsResting e s n k ⊎ (slot_of (closed_over e s at) n k ≡ slot_of e n k)
  beat_or_rest n k = by_query (query_at e n) (remains_at e n) refl refl where
    by_query : (o : Option Registered) (remains : PlainRemains) → query_at e n ≡ o → remains_at e n ≡ remains → IsResting e s n k ⊎ (slot_of (closed_over e s at) n k ≡ slot_of e n k)
    by_query None remains r f = inr (ap (λ z. slot_in (closed_over e s at) n k z (remains_at e n)) r ∙ sym (ap (λ z. slot_in e n k z (remains_at e n)) r))
    by_query (Some q) (Running p) r f = ⊎_elim
        (λ within. by_test (is_reading q s (node_at q k)) (λ t. window_beat n k q p r f within t) (λ away. inr (quiet_slot e s at g h n k q p r f within away)))
        (λ l. inr (ap (λ z. slot_in (closed_over e s at) n k z (remains_at e n)) r ∙ beyond_in e s at g h n k q (remains_at e n) l ∙ sym (ap (λ z. slot_in e n k z (remains_at e n)) r)))
        (cases_lt k (length q.nodes))
    by_query (Some q) (Broken answers upto) r f = inr (ap₂ (λ z x. slot_in (closed_over e s at) n k z x) r f ∙ sym (ap₂ (λ z x. slot_in e n k z x) r f))
    by_query (Some q) Dropped r f = inr (ap₂ (λ z x. slot_in (closed_over e s at) n k z x) r f ∙ sym (ap₂ (λ z x. slot_in e n k z x) r f))
