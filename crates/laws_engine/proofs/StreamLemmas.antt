-- What an append and a heartbeat leave as it was, of the machine's streams and of a query's answers.
use Rattle.std.proofs.Common.{◌≡◌, ℕ, ℤ, zero, suc, ◌+◌, ◌-◌, ◌≤◌, ◌++◌, fold, min, max, ⊎_elim, Option, Some, None, unwrap_or, List, [], ◌∷◌, length, map, refl, sym, ap, ap₂, ◌∙◌, subst, arith, append_assoc}
use Rattle.std.specs.Prelude.{slice_get}
use Rattle.std.specs.List.{AllByRecursion, flat_map, range_with_len, reduce}
use Rattle.std.specs.Option.{option_map, option_map_or}
use Rattle.std.proofs.lemmas.Bool.{cases_lt}
use Rattle.values.specs.Row.{Row}
use Rattle.values.specs.Window.{Element}
use Rattle.std.proofs.lemmas.Grind.{flat_map-append}
use Rattle.values.specs.Answers.{Resolved, answers_at}
use Rattle.values.proofs.Closed.{AllFrom, Longer, shown-longer}
use Rattle.values.proofs.Worlds.{range_split, same_over}
use Rattle.windows.specs.Laws.{Each}
use Rattle.reference.specs.Commands.{Append, Heartbeat, after, appended, change, closed_to, first_fault}
use Rattle.reference.specs.Machine.{Machine, Place, Registered, Stream, answers_from, closed_answers, input_at, until_for}
use Rattle.stream_store.specs.Gains.{QueuesGain}
use Rattle.reference.proofs.StreamLemmas.{alone}
use Rattle.laws_dataflow.specs.Plans.{inputs_of}
use Rattle.laws_dataflow.proofs.MachineLemmas.{append_inputs, append_opens, arriving, heartbeat_inputs}
use Rattle.laws_queries.specs.Machines.{IsMachine, columns_of, widths_of}
use Rattle.laws_queries.specs.Queries.{IsRunning}
use Rattle.laws_queries.specs.Plain.{PlainQuery, place_of}
use Rattle.laws_queries.specs.Rows.{HaveRows}
use Rattle.laws_queries.proofs.AppendLemmas.{accepted_later, come_option, from_place}
use Rattle.laws_queries.proofs.BeatLemmas.{IsLaterIn, change_here, change_there, same_number}
use Rattle.laws_queries.proofs.MachineCounts.{machines_stand, queries_stand}
use Rattle.laws_queries.proofs.NodeLemmas.{runs_on_at_appends, runs_on_at_heartbeats}
use Rattle.laws_queries.proofs.PlanCounts.{has_short_inputs}
use Rattle.laws_queries.proofs.RowLemmas.{rows_stand}
use Rattle.laws_queries.specs.Machines.{IsQuery, KeepsItsLimit}
use Rattle.laws_dataflow.specs.Laws as nets
use Rattle.laws_engine.specs.Engines.{Broken, Dropped, HasGiven, PlainRemains, Running}
use Rattle.laws_engine.specs.Good.{AreRemains, Goes}

-- COLUMNS
pub columns_changed : (f : Stream → Stream) → ((s : Stream) → length (f s).columns ≡ length s.columns) → (n i : ℕ) (ss : List Stream) → columns_of (change n f ss) i ≡ columns_of ss i
columns_changed f h n i [] = refl
columns_changed f h zero zero (s ∷ ss) = h s
columns_changed f h zero (suc i) (s ∷ ss) = refl
columns_changed f h (suc n) zero (s ∷ ss) = refl
columns_changed f h (suc n) (suc i) (s ∷ ss) = columns_changed f h n i ss

widths_by : (ss ts : List Stream) → ((i : ℕ) → columns_of ts i ≡ columns_of ss i) → (ps : List Place) → map (λ (p : Place). columns_of ts p.stream) ps ≡ map (λ (p : Place). columns_of ss p.stream) ps
widths_by ss ts h [] = refl
widths_by ss ts h (p ∷ ps) = ap₂ (λ v vs. v ∷ vs) (h p.stream) (widths_by ss ts h ps)

-- a running query over other streams of the same columns
pub goes_over : (m m2 : Machine) (q : Registered) (p : PlainQuery) (g : Goes m q p) → ((i : ℕ) → columns_of m2.streams i ≡ columns_of m.streams i)
    → IsRunning (widths_of m.streams q) g.widths m2 q p.operators (g.taken ++ p.answers) → Goes m2 q p
goes_over m m2 q p g columns runs = record {
  lives = g.lives;
  widths = g.widths;
  sources = λ k s kc e. g.sources k s kc e ∙ sym (columns (place_of q s).stream);
  taken = g.taken;
  counted = g.counted;
  runs = record {
    wires = g.runs.wires;
    sources = g.runs.sources;
    runs = subst (λ vs. IsRunning vs g.widths m2 q p.operators (g.taken ++ p.answers)) (sym (widths_by m.streams m2.streams columns q.places)) runs;
  };
}

-- THE LEAST of the open instants
fold_least : (x : ℕ) (f : Place → ℕ) (ps : List Place) → (fold min x (map f ps) ≤ x) × AllByRecursion (λ p. fold min x (map f ps) ≤ f p) ps
fold_least x f [] = (omega arith, tt)
fold_least x f (p ∷ ps) = let r = fold_least (min x (f p)) f ps in (omega (arith, r.0), (omega (arith, r.0), r.1))

least_of_all : (f : Place → ℕ) (ps : List Place) → AllByRecursion (λ p. unwrap_or (reduce min (map f ps)) 0 ≤ f p) ps
least_of_all f [] = tt
least_of_all f (p ∷ ps) = fold_least (f p) f ps

fold_grows : (x y : ℕ) (f g : Place → ℕ) (ps : List Place) → x ≤ y → ((p : Place) → f p ≤ g p) → fold min x (map f ps) ≤ fold min y (map g ps)
fold_grows x y f g [] l h = l
fold_grows x y f g (p ∷ ps) l h = fold_grows (min x (f p)) (min y (g p)) f g ps (omega (arith, l, h p)) h

least_grows : (f g : Place → ℕ) (ps : List Place) → ((p : Place) → f p ≤ g p) → unwrap_or (reduce min (map f ps)) 0 ≤ unwrap_or (reduce min (map g ps)) 0
least_grows f g [] h = omega arith
least_grows f g (p ∷ ps) h = fold_grows (f p) (g p) f g ps (h p) h

abbrev open_at : List Stream → Place → ℕ
open_at ss p = option_map_or (λ s. s.first_open) (slice_get ss p.stream) 0

-- ANSWERS from an instant on
answers_closed : (q : Resolved) (from start until : ℕ) (is js : List (List Element)) → Longer until is js → answers_from q from start until is ≡ answers_from q from start until js
answers_closed q from start until is js h = ⊎_elim
    (λ early. let none : until - start ≡ 0 = omega (arith, early) in
    ap (λ k. flat_map (answers_at q from is) (range_with_len start k)) none ∙ sym (ap (λ k. flat_map (answers_at q from js) (range_with_len start k)) none))
    (λ late. same_over q from is js start (until - start) (λ u lt le. shown-longer from until u (omega (arith, lt, late)) q.windows is js h))
    (cases_lt until start)

answers_more : (q : Resolved) (from start u v : ℕ) (is : List (List Element)) → u ≤ v → (more : List (ℕ × Row)) × (answers_from q from start v is ≡ answers_from q from start u is ++ more)
answers_more q from start u v is k = ⊎_elim
    (λ early. let none : u - start ≡ 0 = omega (arith, early) in
    (answers_from q from start v is, ap (λ z. flat_map (answers_at q from is) (range_with_len start z) ++ answers_from q from start v is) (sym none)))
    (λ late. let e : v - start ≡ (u - start) + (v - u) = omega (arith, late, k) in (
      flat_map (answers_at q from is) (range_with_len (start + (u - start)) (v - u)),
      ap (λ z. flat_map (answers_at q from is) (range_with_len start z)) e
          ∙ ap (flat_map (answers_at q from is)) (range_split q from is is start (u - start) (v - u))
          ∙ flat_map-append (answers_at q from is) (range_with_len start (u - start)) (range_with_len (start + (u - start)) (v - u)),
    ))
    (cases_lt u start)

-- AN APPEND
all_from : (u v : ℕ) (es : List Element) → u ≤ v → Each (λ e. v ≤ e.instant) es → AllFrom u es
all_from u v [] l h = tt
all_from u v (e ∷ es) l h = (omega (arith, l, h.0), all_from u v es l h.1)

module _ (m : Machine) (n : ℕ) (rows : List (ℤ × List (Option ℤ))) (accepted : first_fault m (Append n rows) ≡ None) where
  longer : (q : Registered) (u : ℕ) (ps : List Place) → AllByRecursion (λ p. u ≤ open_at m.streams p) ps → Longer u (map (input_at m.streams q.first) ps) (map (input_at (after m (Append n rows) 0).streams q.first) ps)
  longer q u [] h = tt
  longer q u (p ∷ ps) h = (
    (
      arriving m.streams n rows q.first p,
      (append_inputs m q n rows p, all_from u (max q.first (open_at m.streams p)) (arriving m.streams n rows q.first p) (omega (arith, h.0)) (from_place m.streams n rows q.first (come_option rows (slice_get m.streams n) (alone m.queries n rows (slice_get m.streams n) accepted)) p)),
    ),
    longer q u ps h.1,
  )

  -- the answers of the instants that are closed are as they were
  pub append_closed : (q : Registered) → closed_answers (after m (Append n rows) 0) q ≡ closed_answers m q
  append_closed q =
      ap (λ os. q.earlier ++ answers_from q.meaning q.first q.start (unwrap_or (reduce min os) 0) (map (input_at (after m (Append n rows) 0).streams q.first) q.places)) (append_opens m q n rows)
      ∙ sym (ap (λ l. q.earlier ++ l) (answers_closed q.meaning q.first q.start (until_for m.streams q.places) (map (input_at m.streams q.first) q.places) (map (input_at (after m (Append n rows) 0).streams q.first) q.places)
      (longer q (until_for m.streams q.places) q.places (least_of_all (open_at m.streams) q.places))))

  given_over : (q : Registered) (waiting : List (ℕ × Row)) → HasGiven m q waiting → HasGiven (after m (Append n rows) 0) q waiting
  given_over q waiting g = record { taken = g.taken; counted = g.counted; rest = g.rest; begins = append_closed q ∙ g.begins }

  -- a query goes on
  pub append_remains : (q : Registered) (remains : PlainRemains) → IsMachine m → IsQuery m.streams q → KeepsItsLimit (after m (Append n rows) 0).streams q → AreRemains m q remains
      → AreRemains (after m (Append n rows) 0) q remains
  append_remains q (Running p) machine is limit g =
      let m2 : Machine = after m (Append n rows) 0 in
      let machine2 : IsMachine m2 = machines_stand.goes_on m (Append n rows) 0 accepted machine in
      let is2 : IsQuery m2.streams q = ((queries_stand m machine).keeps (Append n rows) 0 q is).query in
      let columns : (i : ℕ) → columns_of m2.streams i ≡ columns_of m.streams i = λ i. columns_changed (appended rows) (λ s. refl) n i m.streams in
      let stands : nets.Stands (widths_of m.streams q) m2 q = subst (λ vs. nets.Stands vs m2 q) (widths_by m.streams m2.streams columns q.places) ((queries_stand m2 machine2).stands q is2) in
      goes_over m m2 q p g columns
      (runs_on_at_appends (widths_of m.streams q) g.widths m q n rows accepted (has_short_inputs (widths_of m2.streams q) m2 q ((queries_stand m2 machine2).bounded q is2 (limit g.lives))) stands p.operators (g.taken ++ p.answers) g.runs.runs)
  append_remains q (Broken answers upto) machine is limit g = given_over q answers g
  append_remains q Dropped machine is limit g = given_over q [] g

-- A HEARTBEAT
closes_more : (at : ℤ) (o : Option Stream) → IsLaterIn o at → option_map_or (λ s. s.first_open) o 0 ≤ option_map_or (λ s. s.first_open) (option_map (closed_to at) o) 0
closes_more at None h = omega arith
closes_more at (Some s) h = omega (arith, h)

module _ (m : Machine) (n : ℕ) (at : ℤ) (accepted : first_fault m (Heartbeat n at) ≡ None) where
  opens_later : (p : Place) → open_at m.streams p ≤ open_at (change n (closed_to at) m.streams) p
  opens_later p = ⊎_elim
      (λ e. subst (λ i. option_map_or (λ s. s.first_open) (slice_get m.streams i) 0 ≤ option_map_or (λ s. s.first_open) (slice_get (change n (closed_to at) m.streams) i) 0) (sym e)
      (subst (λ o. option_map_or (λ s. s.first_open) (slice_get m.streams n) 0 ≤ option_map_or (λ s. s.first_open) o 0) (sym (change_here (closed_to at) n m.streams)) (closes_more at (slice_get m.streams n) (accepted_later m n at accepted))))
      (λ ne. subst (λ o. open_at m.streams p ≤ option_map_or (λ s. s.first_open) o 0) (sym (change_there (closed_to at) n p.stream m.streams ne)) (omega arith))
      (same_number p.stream n)

  later : (q : Registered) → until_for m.streams q.places ≤ until_for (after m (Heartbeat n at) 0).streams q.places
  later q = least_grows (open_at m.streams) (open_at (change n (closed_to at) m.streams)) q.places opens_later

  -- the answers grow
  pub heartbeat_closed : (q : Registered) → (more : List (ℕ × Row)) × (closed_answers (after m (Heartbeat n at) 0) q ≡ closed_answers m q ++ more)
  heartbeat_closed q =
      let u : ℕ = until_for m.streams q.places in
      let v : ℕ = until_for (after m (Heartbeat n at) 0).streams q.places in
      let same : closed_answers (after m (Heartbeat n at) 0) q ≡ q.earlier ++ answers_from q.meaning q.first q.start v (inputs_of m q) = ap (λ is. q.earlier ++ answers_from q.meaning q.first q.start v is) (heartbeat_inputs m q n at) in
      let more = answers_more q.meaning q.first q.start u v (inputs_of m q) (later q) in
      (more.0, same ∙ ap (λ l. q.earlier ++ l) more.1 ∙ sym (append_assoc q.earlier (answers_from q.meaning q.first q.start u (inputs_of m q)) more.0))

  given_later : (q : Registered) (waiting : List (ℕ × Row)) → HasGiven m q waiting → HasGiven (after m (Heartbeat n at) 0) q waiting
  given_later q waiting g =
      let c = heartbeat_closed q in
      record { taken = g.taken; counted = g.counted; rest = g.rest ++ c.0; begins = c.1 ∙ ap (λ z. z ++ c.0) g.begins ∙ append_assoc (g.taken ++ waiting) g.rest c.0 }

  -- a query goes on
  pub heartbeat_remains : (q : Registered) (remains : PlainRemains) → IsMachine m → HaveRows m → QueuesGain (slice_get m.streams n) at → AreRemains m q remains → AreRemains (after m (Heartbeat n at) 0) q remains
  heartbeat_remains q (Running p) machine rows queues g =
      goes_over m (after m (Heartbeat n at) 0) q p g (λ i. columns_changed (closed_to at) (λ s. refl) n i m.streams)
      (runs_on_at_heartbeats (widths_of m.streams q) g.widths m q n at accepted queues (rows_stand.reads g.widths m q rows machine g.sources) p.operators (g.taken ++ p.answers) g.runs.runs)
  heartbeat_remains q (Broken answers upto) machine rows queues g = given_later q answers g
  heartbeat_remains q Dropped machine rows queues g = given_later q [] g
