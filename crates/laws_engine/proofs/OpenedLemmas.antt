-- An engine stays good where its machine is replaced by its opening.
use Rattle.std.proofs.Common.{◌≡◌, ℕ, zero, suc, ◌-◌, ◌<◌, ◌≤◌, ◌==◌, ◌&&◌, ◌||◌, Bool, true, false, cond, nat_le, nat_lt, Option, Some, None, unwrap_or, List, [], ◌∷◌, ◌++◌, filter, map, length, get_or, refl, sym, ap, ap₂, ◌∙◌, subst, arith, ltb-true}
use Rattle.std.proofs.lemmas.List.{length-map}
use Rattle.std.specs.Prelude.{slice_get}
use Rattle.std.specs.List.{AllByRecursion}
use Rattle.std.specs.Option.{option_map, option_map_or}
use Rattle.std.proofs.lemmas.Bool.{eq-eqb}
use Rattle.values.specs.Row.{Row}
use Rattle.values.specs.Window.{Element, Window}
use Rattle.values.specs.Plain.{unbounded}
use Rattle.values.specs.Needs.{is_needed}
use Rattle.column.specs.declared.batch.Side.{Side}
use Rattle.column.specs.declared.batch.Side.TheVariants.{Left, Right}
use Rattle.op_queue.specs.Logs.{Closed}
use Rattle.operators.specs.Ready.{PlainOperator, first_ready, front_instant, ready, usable, waiting}
use Rattle.op_queue.specs.Entries.{front_of}
use Rattle.plan.proofs.Lists.{each-filter}
use Rattle.reference.specs.Machine.{Place, Registered, Stream, input_at}
use Rattle.reference.specs.Opening.{all_instants, all_restarted, needs, needs_by, restart, restarted, with_kept}
use Rattle.laws_dataflow.specs.Laws as nets
use Rattle.cql_reader.specs.declared.TheConstants.{MAX_SOURCES}
use Rattle.reference.specs.Commands.{rows_of_each}
use Rattle.laws_dataflow.specs.Plans.{IsPlanOf, arrivals_at}
use Rattle.laws_queries.specs.Machines.{IsMachine, IsQuery, IsStream, KeepsItsLimit, columns_of, widths_of}
use Rattle.stream_store.proofs.KeptLemmas.{by_arrival_filter}
use Rattle.laws_queries.specs.Queries.{IsRunning}
use Rattle.laws_queries.specs.Plain.{PlainQuery, log_at, operator_at, place_of}
use Rattle.laws_queries.specs.Rows.{HasRows}
use Rattle.laws_queries.specs.Forgetting.{KeepsFor}
use Rattle.laws_queries.proofs.ForgetLemmas.{forgetting_runs, kept_stream, stream_kept, waits_kept}
use Rattle.laws_queries.proofs.HeartbeatLemmas.{input_at_source}
use Rattle.laws_queries.proofs.MachineCounts.{queries_stand}
use Rattle.run_queue.specs.Slots.{slot}
use Rattle.laws_engine.specs.Engines.{Broken, Dropped, PlainRemains, Lease, PlainEngine, Running}
use Rattle.laws_engine.specs.Engines.{answers_in, is_leased, remains_at, query_at, slope_at}
use Rattle.laws_engine.specs.Good.{GoodEngine, Goes, AreRemains, IsLease, slot_in, slot_of}
use Rattle.laws_engine.specs.Openings.{opened}
use Rattle.laws_engine.proofs.AppendedLemmas.{is_query}
use Rattle.laws_engine.proofs.TakeLemmas.{equal_slots}

pub or_right : (a b : Bool) → b ≡ true → (a || b) ≡ true
or_right true b h = refl
or_right false b h = h

pub or_left : (a b : Bool) → a ≡ true → (a || b) ≡ true
or_left true b h = refl
or_left false b h = cc

pub and_both : (a b : Bool) → a ≡ true → b ≡ true → (a && b) ≡ true
and_both true true h k = refl
and_both true false h k = cc
and_both false b h k = cc

-- WHAT A QUERY NEEDS is kept
needs_there : (streams : List Stream) (q : Registered) (next s : ℕ) (ws : List Window) (ps : List Place) (k : ℕ) (e : Element) (d : Place) → k < length ps → k < length ws → (get_or ps k d).stream ≡ s
    → (nat_le (get_or ps k d).arrivals e.arrival && nat_le q.first e.instant) ≡ true → is_needed q.first (get_or ws k unbounded) next (input_at streams q.first (get_or ps k d)) e ≡ true → needs streams q next s ws ps e ≡ true
needs_there streams q next s [] ps k e d l j i c n = absurd (omega (arith, j))
needs_there streams q next s (w ∷ ws) [] k e d l j i c n = absurd (omega (arith, l))
needs_there streams q next s (w ∷ ws) (p ∷ ps) zero e d l j i c n = or_left _ _ (and_both (p.stream == s) _ (eq-eqb p.stream s i) (and_both (nat_le p.arrivals e.arrival && nat_le q.first e.instant) _ c n))
needs_there streams q next s (w ∷ ws) (p ∷ ps) (suc k) e d l j i c n =
    or_right ((p.stream == s) && ((nat_le p.arrivals e.arrival && nat_le q.first e.instant) && is_needed q.first w next (input_at streams q.first p) e)) _
    (needs_there streams q next s ws ps k e d (omega (arith, l)) (omega (arith, j)) i c n)

pub needs_by_there : (streams : List Stream) (qs : List Registered) (marks : List (Option ℕ)) (n : ℕ) (q : Registered) (next s : ℕ) (e : Element) → slice_get qs n ≡ Some q → slice_get marks n ≡ Some (Some next)
    → needs streams q next s q.meaning.windows q.places e ≡ true → needs_by streams qs marks s e ≡ true
needs_by_there streams [] marks n q next s e h k i = absurd (cc)
needs_by_there streams (p ∷ qs) [] n q next s e h k i = absurd (cc)
needs_by_there streams (p ∷ qs) (None ∷ marks) zero q next s e h k i = absurd (cc)
needs_by_there streams (p ∷ qs) (Some x ∷ marks) zero q next s e h k i =
    let a : p ≡ q = ap (λ o. unwrap_or o p) h in
    let b : x ≡ next = ap (λ o. unwrap_or (unwrap_or o None) x) k in
    or_left _ _ (subst (λ z. needs streams z x s z.meaning.windows z.places e ≡ true) (sym a) (subst (λ z. needs streams q z s q.meaning.windows q.places e ≡ true) (sym b) i))
needs_by_there streams (p ∷ qs) (None ∷ marks) (suc n) q next s e h k i = needs_by_there streams qs marks n q next s e h k i
needs_by_there streams (p ∷ qs) (Some x ∷ marks) (suc n) q next s e h k i = or_right (needs streams p x s p.meaning.windows p.places e) _ (needs_by_there streams qs marks n q next s e h k i)

-- THE QUERIES
restarted_at : (qs : List Registered) (marks : List (Option ℕ)) (ws : List (List (ℕ × Row))) (n : ℕ) → length marks ≡ length qs → length ws ≡ length qs
    → slice_get (all_restarted qs marks ws) n ≡ option_map (λ q. restart q (get_or marks n None) (get_or ws n [])) (slice_get qs n)
restarted_at [] marks ws n h k = refl
restarted_at (q ∷ qs) [] ws n h k = absurd (omega (arith, h))
restarted_at (q ∷ qs) (m ∷ marks) [] n h k = absurd (omega (arith, k))
restarted_at (q ∷ qs) (m ∷ marks) (w ∷ ws) zero h k = refl
restarted_at (q ∷ qs) (m ∷ marks) (w ∷ ws) (suc n) h k = restarted_at qs marks ws n (omega (arith, h)) (omega (arith, k))

length-restarted : (qs : List Registered) (marks : List (Option ℕ)) (ws : List (List (ℕ × Row))) → length (all_restarted qs marks ws) ≡ length qs
length-restarted [] marks ws = refl
length-restarted (q ∷ qs) [] ws = refl
length-restarted (q ∷ qs) (m ∷ marks) [] = refl
length-restarted (q ∷ qs) (m ∷ marks) (w ∷ ws) = ap suc (length-restarted qs marks ws)

pub waits_at : (ks : List PlainRemains) (n : ℕ) → get_or (map answers_in ks) n [] ≡ answers_in (get_or ks n Dropped)
waits_at [] n = refl
waits_at (k ∷ ks) zero = refl
waits_at (k ∷ ks) (suc n) = waits_at ks n

record Before (f : Registered → Registered) (o : Option Registered) (r : Registered) : Type 0 where
  query : Registered
  there : o ≡ Some query
  is : r ≡ f query

before : (f : Registered → Registered) (o : Option Registered) (r : Registered) → option_map f o ≡ Some r → Before f o r
before f None r h = absurd (cc)
before f (Some q) r h = record { query = q; there = refl; is = sym (ap (λ o. unwrap_or o r) h) }

-- THE STREAMS
-- of fewer elements no more pass
few_twice : (p keep : Element → Bool) (es : List Element) → length (filter p (filter keep es)) ≤ length (filter p es)
few_twice p keep [] = omega arith
few_twice p keep (e ∷ es) = omega (arith, ap length (parted (keep e)), here (keep e) (p e) (few_twice p keep es))
  where
    rest : List Element
    rest = filter keep es

    parted : (b : Bool) → filter p (cond b (e ∷ rest) rest) ≡ cond b (cond (p e) (e ∷ filter p rest) (filter p rest)) (filter p rest)
    parted true = refl
    parted false = refl

    here : (b c : Bool) → length (filter p rest) ≤ length (filter p es) → length (cond b (cond c (e ∷ filter p rest) (filter p rest)) (filter p rest)) ≤ length (cond c (e ∷ filter p es) (filter p es))
    here true true k = omega (arith, k)
    here true false k = k
    here false true k = omega (arith, k)
    here false false k = k

module _ (keep : ℕ → Element → Bool) where
  streams_kept : (n : ℕ) (ss : List Stream) → AllByRecursion IsStream ss → AllByRecursion IsStream (with_kept keep n ss)
  streams_kept n [] h = tt
  streams_kept n (s ∷ ss) h = (record { wide = each-filter _ (keep n) s.elements h.0.wide; counted = record { since = λ place. omega (arith, h.0.counted.since place, few_twice (λ (e : Element). nat_le place e.arrival) (keep n) s.elements) }; few = h.0.few }, streams_kept (suc n) ss h.1)

  rows_kept : (n : ℕ) (ss : List Stream) → AllByRecursion HasRows ss → AllByRecursion HasRows (with_kept keep n ss)
  rows_kept n [] h = tt
  rows_kept n (s ∷ ss) h = (record { arrival = by_arrival_filter (keep n) s.elements h.0.arrival; below = each-filter _ (keep n) s.elements h.0.below; values = each-filter _ (keep n) s.elements h.0.values }, rows_kept (suc n) ss h.1)

  length-kept : (n : ℕ) (ss : List Stream) → length (with_kept keep n ss) ≡ length ss
  length-kept n [] = refl
  length-kept n (s ∷ ss) = ap suc (length-kept (suc n) ss)

  columns_option : (i : ℕ) (o : Option Stream) → option_map_or (λ (s : Stream). length s.columns) (option_map (kept_stream (keep i)) o) 0 ≡ option_map_or (λ (s : Stream). length s.columns) o 0
  columns_option i None = refl
  columns_option i (Some s) = refl

  columns_kept : (ss : List Stream) (i : ℕ) → columns_of (with_kept keep 0 ss) i ≡ columns_of ss i
  columns_kept ss i = ap (λ o. option_map_or (λ s. length s.columns) o 0) (stream_kept keep i ss) ∙ columns_option i (slice_get ss i)

  widths_kept : (ss : List Stream) (ps : List Place) → map (λ (p : Place). columns_of (with_kept keep 0 ss) p.stream) ps ≡ map (λ (p : Place). columns_of ss p.stream) ps
  widths_kept ss [] = refl
  widths_kept ss (p ∷ ps) = ap₂ (λ v vs. v ∷ vs) (columns_kept ss p.stream) (widths_kept ss ps)

  known_kept : (ss : List Stream) (ps : List Place) → AllByRecursion (λ p. p.stream < length ss) ps → AllByRecursion (λ p. p.stream < length (with_kept keep 0 ss)) ps
  known_kept ss [] h = tt
  known_kept ss (p ∷ ps) h = (omega (arith, h.0, length-kept 0 ss), known_kept ss ps h.1)

  query_kept : (ss : List Stream) (q : Registered) (next : ℕ) (waiting : List (ℕ × Row)) → IsQuery ss q → IsQuery (with_kept keep 0 ss) (restarted q next waiting)
  query_kept ss q next waiting is = record {
    plan = subst (λ vs. IsPlanOf vs q.meaning q.nodes) (sym (widths_kept ss q.places)) is.plan;
    few = subst (λ vs. length vs ≤ MAX_SOURCES) (sym (widths_kept ss q.places)) is.few;
    known = known_kept ss q.places is.known;
  }

  query_over : (ss : List Stream) (q : Registered) → IsQuery ss q → IsQuery (with_kept keep 0 ss) q
  query_over ss q is = record {
    plan = subst (λ vs. IsPlanOf vs q.meaning q.nodes) (sym (widths_kept ss q.places)) is.plan;
    few = subst (λ vs. length vs ≤ MAX_SOURCES) (sym (widths_kept ss q.places)) is.few;
    known = known_kept ss q.places is.known;
  }

  queries_kept : (ss : List Stream) (qs : List Registered) (marks : List (Option ℕ)) (ws : List (List (ℕ × Row))) → length marks ≡ length qs → length ws ≡ length qs
      → AllByRecursion (IsQuery ss) qs → AllByRecursion (IsQuery (with_kept keep 0 ss)) (all_restarted qs marks ws)
  queries_kept ss [] marks ws h k is = tt
  queries_kept ss (q ∷ qs) [] ws h k is = absurd (omega (arith, h))
  queries_kept ss (q ∷ qs) (m ∷ marks) [] h k is = absurd (omega (arith, k))
  queries_kept ss (q ∷ qs) (m ∷ marks) (w ∷ ws) h k is = (query_kept ss q (unwrap_or m all_instants) w is.0, queries_kept ss qs marks ws (omega (arith, h)) (omega (arith, k)) is.1)

  -- THE ROW LIMIT is kept
  arrivals_option : (i : ℕ) (o : Option Stream) → option_map_or (λ (s : Stream). s.arrivals) (option_map (kept_stream (keep i)) o) 0 ≡ option_map_or (λ (s : Stream). s.arrivals) o 0
  arrivals_option i None = refl
  arrivals_option i (Some s) = refl

  arrivals_kept : (ss : List Stream) (p : Place) → arrivals_at (with_kept keep 0 ss) p ≡ arrivals_at ss p
  arrivals_kept ss p = ap (λ o. option_map_or (λ (s : Stream). s.arrivals) o 0) (stream_kept keep p.stream ss) ∙ arrivals_option p.stream (slice_get ss p.stream)

  since_kept : (ss : List Stream) (most : ℕ) (ps : List Place) → AllByRecursion (λ p. arrivals_at ss p - p.arrivals ≤ most) ps → AllByRecursion (λ p. arrivals_at (with_kept keep 0 ss) p - p.arrivals ≤ most) ps
  since_kept ss most [] h = tt
  since_kept ss most (p ∷ ps) h = (omega (arith, h.0, arrivals_kept ss p), since_kept ss most ps h.1)

  limits_kept : (ss : List Stream) (qs : List Registered) (marks : List (Option ℕ)) (ws : List (List (ℕ × Row))) → length marks ≡ length qs → length ws ≡ length qs
      → AllByRecursion (KeepsItsLimit ss) qs → AllByRecursion (KeepsItsLimit (with_kept keep 0 ss)) (all_restarted qs marks ws)
  limits_kept ss [] marks ws h k is = tt
  limits_kept ss (q ∷ qs) [] ws h k is = absurd (omega (arith, h))
  limits_kept ss (q ∷ qs) (m ∷ marks) [] h k is = absurd (omega (arith, k))
  limits_kept ss (q ∷ qs) (m ∷ marks) (w ∷ ws) h k is = ((λ live. since_kept ss (rows_of_each (length q.places)) q.places (is.0 live)), limits_kept ss qs marks ws (omega (arith, h)) (omega (arith, k)) is.1)

-- THE ENGINE
module _ (e : PlainEngine) (g : GoodEngine e) (marks : List (Option ℕ)) (long : length marks ≡ length e.machine.queries) where
  pub goes : (n : ℕ) (q : Registered) (p : PlainQuery) → query_at e n ≡ Some q → remains_at e n ≡ Running p → Goes e.machine q p
  goes n q p r k = subst (AreRemains e.machine q) k (g.queries n q r)

  -- the mark of a query that runs is the instant after the last tick that its root has taken
  pub record Marked (n : ℕ) (q : Registered) (p : PlainQuery) (r : query_at e n ≡ Some q) (k : remains_at e n ≡ Running p) : Type 0 where
    pub next : ℕ
    pub is : slice_get marks n ≡ Some (Some next)
    pub opens : (goes n q p r k).runs.runs.good.root.opens ≡ next

  abbrev keep : ℕ → Element → Bool
  keep = needs_by e.machine.streams e.machine.queries marks

  abbrev pub waits : List (List (ℕ × Row))
  waits = map answers_in e.queries

  pub long_waits : length waits ≡ length e.machine.queries
  long_waits = length-map e.queries answers_in ∙ g.many

  module _ (marked : (n : ℕ) (q : Registered) (p : PlainQuery) (r : query_at e n ≡ Some q) (k : remains_at e n ≡ Running p) → Marked n q p r k) where
    keeps : (n : ℕ) (q : Registered) (next : ℕ) → query_at e n ≡ Some q → slice_get marks n ≡ Some (Some next) → KeepsFor e.machine q next keep
    keeps n q next r k = record {
      keeps = λ j f l c need.
          let is : IsQuery e.machine.streams q = is_query e g n q r in
          let windows : length q.meaning.windows ≡ length q.places = is.plan.scoped.sources ∙ length-map q.places (λ (p : Place). columns_of e.machine.streams p.stream) in
          needs_by_there e.machine.streams e.machine.queries marks n q next (place_of q j).stream f r k
          (needs_there e.machine.streams q next (place_of q j).stream q.meaning.windows q.places j f (record { stream = 0; arrivals = 0 }) l (omega (arith, l, windows)) refl c
          (subst (λ es. is_needed q.first (get_or q.meaning.windows j unbounded) next es f ≡ true) (input_at_source e.machine q j l) need));
    }

    machine2 : IsMachine (opened e marks).machine
    machine2 = record { streams = streams_kept keep 0 e.machine.streams g.machine.streams; queries = queries_kept keep e.machine.streams e.machine.queries marks waits long long_waits g.machine.queries; limits = limits_kept keep e.machine.streams e.machine.queries marks waits long long_waits g.machine.limits }

    -- a query with the mark of its number
    at_mark : (n : ℕ) (q : Registered) (next : ℕ) → slice_get marks n ≡ Some (Some next) → unwrap_or (get_or marks n None) all_instants ≡ next
    at_mark n q next h = from marks n h
      where
        from : (ms : List (Option ℕ)) (n : ℕ) → slice_get ms n ≡ Some (Some next) → unwrap_or (get_or ms n None) all_instants ≡ next
        from [] n h = absurd (cc)
        from (x ∷ ms) zero h = ap (λ o. unwrap_or (unwrap_or o None) all_instants) h
        from (x ∷ ms) (suc n) h = from ms n h

    remains_opened : (n : ℕ) (q : Registered) (r : query_at e n ≡ Some q) (remains : PlainRemains) → remains_at e n ≡ remains → AreRemains (opened e marks).machine (restart q (get_or marks n None) (answers_in remains)) remains
    remains_opened n q r (Running p) k =
        let a : Marked n q p r k = marked n q p r k in
        let h : Goes e.machine q p = goes n q p r k in
        let is2 : IsQuery (opened e marks).machine.streams q = query_over keep e.machine.streams q (is_query e g n q r) in
        let widths : widths_of (opened e marks).machine.streams q ≡ widths_of e.machine.streams q = widths_kept keep e.machine.streams q.places in
        let stands2 : nets.Stands (widths_of e.machine.streams q) (opened e marks).machine q = subst (λ vs. nets.Stands vs (opened e marks).machine q) widths ((queries_stand (opened e marks).machine machine2).stands q is2) in
        let runs : IsRunning (widths_of e.machine.streams q) h.widths (opened e marks).machine (restarted q a.next p.answers) p.operators p.answers =
        forgetting_runs (widths_of e.machine.streams q) h.widths e.machine q (opened e marks).machine.queries a.next keep (keeps n q a.next r a.is) p.answers p.operators (h.taken ++ p.answers) stands2 h.runs.runs a.opens in
        subst (λ z. Goes (opened e marks).machine (restarted q z p.answers) p) (sym (at_mark n q a.next a.is)) (record {
          lives = h.lives;
          widths = h.widths;
          sources = λ j s jc i. h.sources j s jc i ∙ sym (columns_kept keep e.machine.streams (place_of q s).stream);
          taken = [];
          counted = refl;
          runs = record {
            wires = h.runs.wires;
            sources = h.runs.sources;
            runs = subst (λ vs. IsRunning vs h.widths (opened e marks).machine (restarted q a.next p.answers) p.operators p.answers) (sym widths) runs;
          };
        })
    remains_opened n q r (Broken answers upto) k = record { taken = []; counted = refl; rest = _; begins = refl }
    remains_opened n q r Dropped k = record { taken = []; counted = refl; rest = _; begins = refl }

    pub query_opened : (n : ℕ) → query_at (opened e marks) n ≡ option_map (λ q. restart q (get_or marks n None) (get_or waits n [])) (query_at e n)
    query_opened n = restarted_at e.machine.queries marks waits n long long_waits

    queries_opened : (n : ℕ) (q2 : Registered) → query_at (opened e marks) n ≡ Some q2 → AreRemains (opened e marks).machine q2 (remains_at e n)
    queries_opened n q2 r =
        let b : Before (λ q. restart q (get_or marks n None) (get_or waits n [])) (query_at e n) q2 = before _ (query_at e n) q2 (sym (query_opened n) ∙ r) in
        subst (λ z. AreRemains (opened e marks).machine z (remains_at e n)) (sym b.is)
        (subst (λ w. AreRemains (opened e marks).machine (restart b.query (get_or marks n None) w) (remains_at e n)) (sym (waits_at e.queries n)) (remains_opened n b.query b.there (remains_at e n) refl))

    -- what waits for an operator is as it was
    pub waits_same : (n : ℕ) (q : Registered) (p : PlainQuery) (r : query_at e n ≡ Some q) (k : remains_at e n ≡ Running p) (j : ℕ) → j < length q.nodes → (side : Side)
        → waiting (operator_at p.operators j) (log_at (opened e marks).machine q j) side ≡ waiting (operator_at p.operators j) (log_at e.machine q j) side
    waits_same n q p r k j l side =
        let a : Marked n q p r k = marked n q p r k in
        let h : Goes e.machine q p = goes n q p r k in
        waits_kept (widths_of e.machine.streams q) h.widths e.machine q (opened e marks).machine.queries a.next keep (keeps n q a.next r a.is) p.answers p.operators (h.taken ++ p.answers) h.runs.runs a.opens j (omega (arith, l)) side

    ready_by : (o : PlainOperator) (log log2 : Closed) → ((side : Side) → waiting o log2 side ≡ waiting o log side) → ready o log2 ≡ ready o log
    ready_by o log log2 h = ap₂ first_ready
        (ap (λ es. cond (usable o.state Left) (option_map front_instant (front_of es)) None) (h Left))
        (ap (λ es. cond (usable o.state Right) (option_map front_instant (front_of es)) None) (h Right))

    lease_opened : (a : Lease) → IsLease e a → IsLease (opened e marks) a
    lease_opened a is = record {
      numbered = is.numbered;
      query = restart is.query (get_or marks a.query None) (get_or waits a.query []);
      registered = query_opened a.query ∙ ap (option_map (λ q. restart q (get_or marks a.query None) (get_or waits a.query []))) is.registered;
      plain = is.plain;
      running = is.running;
      within = is.within;
      first = record { rest = is.first.rest; some = is.first.some; few = is.first.few; is = waits_same a.query is.query is.plain is.registered is.running a.operator is.within a.side ∙ is.first.is; usable = is.first.usable };
      near = is.near;
    }

    slot_opened : (n k : ℕ) (o : Option Registered) (remains : PlainRemains) → query_at e n ≡ o → remains_at e n ≡ remains → slot_in (opened e marks) n k (option_map (λ q. restart q (get_or marks n None) (get_or waits n [])) o) remains ≡ slot_in e n k o remains
    slot_opened n k None remains r h = refl
    slot_opened n k (Some q) (Running p) r h = here (nat_lt k (length q.nodes)) refl
      where
        here : (b : Bool) → nat_lt k (length q.nodes) ≡ b
            → cond b (Some (slot (slope_at q k) (cond (is_leased e n k) None (ready (operator_at p.operators k) (log_at (opened e marks).machine q k))) n k)) None
            ≡ cond b (Some (slot (slope_at q k) (cond (is_leased e n k) None (ready (operator_at p.operators k) (log_at e.machine q k))) n k)) None
        here true l = ap (λ x. Some (slot (slope_at q k) (cond (is_leased e n k) None x) n k))
            (ready_by (operator_at p.operators k) (log_at e.machine q k) (log_at (opened e marks).machine q k) (waits_same n q p r h k (ltb-true k (length q.nodes) l)))
        here false l = refl
    slot_opened n k (Some q) (Broken answers upto) r h = refl
    slot_opened n k (Some q) Dropped r h = refl

    -- IT STAYS GOOD
    pub opened_good : GoodEngine (opened e marks)
    opened_good = record {
      machine = machine2;
      rows = rows_kept keep 0 e.machine.streams g.rows;
      many = g.many ∙ sym (length-restarted e.machine.queries marks waits);
      queries = queries_opened;
      leases = λ a i. lease_opened a (g.leases a i);
      apart = g.apart;
      slots = equal_slots (slot_of e) (slot_of (opened e marks)) e.slots
          (λ n k. ap (λ o. slot_in (opened e marks) n k o (remains_at e n)) (query_opened n) ∙ slot_opened n k (query_at e n) (remains_at e n) refl refl) g.slots;
    }
