-- A heartbeat lengthens the queues of the windows over its stream by what it closes, and no other.
use Rattle.std.proofs.Common.{◌≡◌, ◌≢◌, ℕ, ℤ, suc, ◌++◌, ◌==◌, ⊎_elim, true, false, cond, nat_lt, Option, Some, None, [], length, refl, sym, ap, ap₂, ◌∙◌, subst, arith, append-nil, eq-eqb, eqb-true}
use Rattle.std.specs.Prelude.{nat_abs, slice_get}
use Rattle.std.specs.Option.{option_map, option_map_or}
use Rattle.std.proofs.lemmas.Bool.{cases_lt, le-ltb, lt-ltb}
use Rattle.std.proofs.lemmas.List.{get_or_past}
use Rattle.column.specs.declared.batch.Side.{Side}
use Rattle.column.specs.declared.batch.Side.TheVariants.{Left, Right}
use Rattle.op_queue.specs.Logs.{Closed, cursor_entries, span_entries}
use Rattle.operators.specs.Inboxes.{IsInboxWithin, is_fed}
use Rattle.operators.specs.Ready.{PlainOperator, entries_in, waiting}
use Rattle.operators.specs.declared.inboxes.Inbox.{Inbox}
use Rattle.operators.specs.declared.inboxes.Inbox.TheVariants.{First, Between}
use Rattle.operators.proofs.InboxLemmas.{entries_fed}
use Rattle.plan.specs.Nodes as plan
use Rattle.plan.specs.Nodes.{Window, Select, Join, Project, Group, Distinct, ToStream}
use Rattle.plan.proofs.Lists.{by_test}
use Rattle.reference.specs.Commands.{change, closed_to}
use Rattle.reference.specs.Machine.{Machine, Registered, Stream}
use Rattle.stream_store.specs.Closing.{closed_of}
use Rattle.stream_store.specs.Gains.{QueuesGain, closing_of}
use Rattle.laws_queries.specs.Queries.{HasInboxes, Reads}
use Rattle.laws_queries.specs.Plain.{log_at, no_log, no_operator, node_at, operator_at, place_of, source_of, stream_log}
use Rattle.laws_queries.proofs.BeatLemmas.{change_here, change_there}
use Rattle.laws_engine.specs.Calls.{IsHeartbeat, closed_over, heartbeat_taken}
use Rattle.laws_engine.specs.Engines.{Broken, Dropped, PlainEngine, PlainRemains, Running, query_at}
use Rattle.laws_engine.specs.Engines.{remains_at}
use Rattle.laws_engine.specs.Good.{GoodEngine}
use Rattle.laws_engine.proofs.HeartbeatLemmas.{goes_at, inboxes}
use Rattle.leases.specs.Queues.{LengthensQueues, brought_in, brought_to, closed_entries, queue_in}

-- A CURSOR over the stream
first_gains : (place first : ℕ) (at : ℤ) (o : Option Stream) → QueuesGain o at → (i : Inbox) → Reads place first (option_map_or closed_of o no_log) i → IsInboxWithin i (option_map_or closed_of o no_log)
    → entries_in i (option_map_or closed_of (option_map (closed_to at) o) no_log) ≡ entries_in i (option_map_or closed_of o no_log) ++ closed_entries place first o at
first_gains place first at None g i r w = sym (append-nil (entries_in i no_log))
first_gains place first at (Some s) g (First c) r w = g.gains c w ∙ ap₂ (λ p t. cursor_entries c (closed_of s) ++ span_entries p (closing_of at s) t (suc (nat_abs at))) r.0 r.1
first_gains place first at (Some s) g (Between b) r w = absurd r

-- a queue that another operator fills
fed_gains : (i : Inbox) (log log2 : Closed) → is_fed i ≡ true → entries_in i log2 ≡ entries_in i log ++ []
fed_gains i log log2 h = entries_fed i log2 h ∙ sym (entries_fed i log h) ∙ sym (append-nil (entries_in i log))

-- THE QUEUES OF AN OPERATOR
module _ (m : Machine) (s : ℕ) (at : ℤ) (queues : QueuesGain (slice_get m.streams s) at) (q : Registered) where
  over_stream : (place first : ℕ) (i : Inbox) → Reads place first (stream_log m.streams s) i → IsInboxWithin i (stream_log m.streams s)
      → entries_in i (stream_log (change s (closed_to at) m.streams) s) ≡ entries_in i (stream_log m.streams s) ++ closed_entries place first (slice_get m.streams s) at
  over_stream place first i r w =
      subst (λ o. entries_in i (option_map_or closed_of o no_log) ≡ entries_in i (stream_log m.streams s) ++ closed_entries place first (slice_get m.streams s) at)
      (sym (change_here (closed_to at) s m.streams)) (first_gains place first at (slice_get m.streams s) queues i r w)

  over_another : (n : ℕ) (i : Inbox) → n ≢ s → entries_in i (stream_log (change s (closed_to at) m.streams) n) ≡ entries_in i (stream_log m.streams n) ++ []
  over_another n i ne = ap (λ o. entries_in i (option_map_or closed_of o no_log)) (change_there (closed_to at) s n m.streams ne) ∙ sym (append-nil (entries_in i (stream_log m.streams n)))

  over_any : (n place first : ℕ) (i : Inbox) → Reads place first (stream_log m.streams n) i → IsInboxWithin i (stream_log m.streams n)
      → entries_in i (stream_log (change s (closed_to at) m.streams) n) ≡ entries_in i (stream_log m.streams n) ++ cond (n == s) (closed_entries place first (slice_get m.streams s) at) []
  over_any n place first i r w = by_test (n == s)
      (λ t. let e : n ≡ s = eqb-true n s t in
      rw t (subst (λ x. entries_in i (stream_log (change s (closed_to at) m.streams) x) ≡ entries_in i (stream_log m.streams x) ++ closed_entries place first (slice_get m.streams s) at) (sym e)
      (over_stream place first i (subst (λ x. Reads place first (stream_log m.streams x) i) e r) (subst (λ x. IsInboxWithin i (stream_log m.streams x)) e w))))
      (λ f. rw f (over_another n i (λ e. absurd (let t : (n == s) ≡ true = eq-eqb n s e in let bad : true ≡ false = sym t ∙ f in cc))))

  left_gains : (node : plan.Node) (o : PlainOperator) → HasInboxes q (stream_log m.streams (source_of q node)) node o
      → waiting o (stream_log (change s (closed_to at) m.streams) (source_of q node)) Left ≡ waiting o (stream_log m.streams (source_of q node)) Left ++ brought_to m s at q node Left
  left_gains (Window j) o h = over_any (place_of q j).stream (place_of q j).arrivals q.first o.left h.left.1 h.left.2
  left_gains (Select j cs) o h = fed_gains o.left _ _ h.left
  left_gains (Join i j ks) o h = fed_gains o.left _ _ h.left
  left_gains (Project j columns) o h = fed_gains o.left _ _ h.left
  left_gains (Group j by items) o h = fed_gains o.left _ _ h.left
  left_gains (Distinct j) o h = fed_gains o.left _ _ h.left
  left_gains (ToStream j op) o h = fed_gains o.left _ _ h.left

  nothing_to_the_right : (node : plan.Node) → brought_to m s at q node Right ≡ []
  nothing_to_the_right (Window j) = refl
  nothing_to_the_right (Select j cs) = refl
  nothing_to_the_right (Join i j ks) = refl
  nothing_to_the_right (Project j columns) = refl
  nothing_to_the_right (Group j by items) = refl
  nothing_to_the_right (Distinct j) = refl
  nothing_to_the_right (ToStream j op) = refl

  side_gains : (node : plan.Node) (o : PlainOperator) (side : Side) → HasInboxes q (stream_log m.streams (source_of q node)) node o
      → waiting o (stream_log (change s (closed_to at) m.streams) (source_of q node)) side ≡ waiting o (stream_log m.streams (source_of q node)) side ++ brought_to m s at q node side
  side_gains node o Left h = left_gains node o h
  side_gains node o Right h = fed_gains o.right _ _ h.right ∙ sym (ap (λ es. waiting o (stream_log m.streams (source_of q node)) Right ++ es) (nothing_to_the_right node))

-- nothing waits for an operator that a query lacks
none_waits : (side : Side) (log log2 : Closed) → waiting no_operator log2 side ≡ waiting no_operator log side ++ []
none_waits Left log log2 = refl
none_waits Right log log2 = refl

-- THE QUEUES OF AN ENGINE
module _ (e : PlainEngine) (s : ℕ) (at : ℤ) (g : GoodEngine e) (h : IsHeartbeat e s at) where
  remains_gains : (n k : ℕ) (side : Side) (q : Registered) (remains : PlainRemains) → query_at e n ≡ Some q → remains_at e n ≡ remains
      → queue_in (closed_over e s at).machine q remains k side ≡ queue_in e.machine q remains k side ++ brought_in e.machine s at q remains k side
  remains_gains n k side q (Running p) r remains = ⊎_elim
      (λ l. let t : nat_lt k (length q.nodes) ≡ true = lt-ltb k (length q.nodes) l in
      rw t (side_gains e.machine s at h.queues q (node_at q k) (operator_at p.operators k) side (inboxes e s at g h n k q p r remains l)))
      (λ l. let f : nat_lt k (length q.nodes) ≡ false = le-ltb k (length q.nodes) l in
      rw f (subst (λ o. waiting o (log_at (closed_over e s at).machine q k) side ≡ waiting o (log_at e.machine q k) side ++ [])
      (sym (get_or_past p.operators k no_operator (omega (arith, l, (goes_at e s at g h n q p r remains).runs.runs.many))))
      (none_waits side (log_at e.machine q k) (log_at (closed_over e s at).machine q k))))
      (cases_lt k (length q.nodes))
  remains_gains n k side q (Broken answers upto) r remains = refl
  remains_gains n k side q Dropped r remains = refl

  found_gains : (n k : ℕ) (side : Side) (o : Option Registered) → query_at e n ≡ o
      → option_map_or (λ q. queue_in (closed_over e s at).machine q (remains_at e n) k side) o [] ≡ option_map_or (λ q. queue_in e.machine q (remains_at e n) k side) o [] ++ option_map_or (λ q. brought_in e.machine s at q (remains_at e n) k side) o []
  found_gains n k side None r = refl
  found_gains n k side (Some q) r = remains_gains n k side q (remains_at e n) r refl

  pub heartbeat_lengthens : LengthensQueues s at e (heartbeat_taken e s at)
  heartbeat_lengthens = record { queues = λ n k side. found_gains n k side (query_at e n) refl; answers = λ n. refl }
