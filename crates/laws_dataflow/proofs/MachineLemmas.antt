-- A heartbeat and an append to a stream of the machine keep a query good.
use Rattle.std.proofs.Common.{◌≡◌, ℕ, zero, suc, ◌-◌, ◌==◌, ◌&&◌, nat_le, Bool, true, false, cond, max, Option, ℤ, List, [], ◌∷◌, ◌++◌, map, get_or, refl, sym, ap, ap₂, ◌∙◌, subst₂, arith, append-nil, eqb-true, eq-eqb}
use Rattle.std.proofs.lemmas.Bool.{eqb-false, ne_eqb}
use Rattle.plan.proofs.Lists.{by_test}
use Rattle.std.specs.Prelude.{slice_get}
use Rattle.std.specs.Option.{option_map_or}
use Rattle.std.proofs.lemmas.List.Elements.{filter-append}
use Rattle.values.specs.Row.{Row}
use Rattle.values.specs.Window.{Element, input_of, window_rows}
use Rattle.op_queue.specs.Entries.{Entry}
use Rattle.op_queue.proofs.SignedLemmas.{Same-trans}
use Rattle.to_stream.specs.Turns.{State}
use Rattle.reference.specs.Machine.{Machine, Registered, Stream, Place, input_at, opens}
use Rattle.reference.specs.Commands.{Append, Heartbeat, after, appended, change, closed_to, elements_from}
use Rattle.laws_dataflow.specs.Windows.{AreFrom, GoodWindow}
use Rattle.laws_dataflow.specs.Nets.{World, Cell}
use Rattle.laws_dataflow.specs.Operators.{net_of}
use Rattle.laws_dataflow.specs.Worlds.{Beat, Change, fed_cell, appended as with_more}
use Rattle.laws_dataflow.specs.Queries.{GoodQuery}
use Rattle.laws_dataflow.specs.Plans.{AreWide, IsPlanOf, arrivals_at, comes, inputs_of, least_of}
use Rattle.laws_dataflow.specs.Plans.{value_in, value_of, world_by, world_of}
use Rattle.laws_dataflow.specs.Roots.{below_root}
use Rattle.values.specs.Answers.{shown_at}
use Rattle.laws_dataflow.proofs.AnswerLemmas.{query_planned, shaped}
use Rattle.laws_dataflow.proofs.BagLemmas.{same_of}
use Rattle.laws_dataflow.proofs.ChangeLemmas.{append_changes}
use Rattle.laws_dataflow.proofs.QueryLemmas.{query_beats, query_changes}

-- A HEARTBEAT: the inputs are as before
pub machine_beats : (vs : List ℕ) (m m2 : Machine) (q : Registered) → IsPlanOf vs q.meaning q.nodes → AreWide vs m q → inputs_of m2 q ≡ inputs_of m q → comes m2.streams q.places ≡ comes m.streams q.places
    → (fresh : ℕ → List Element) (more : ℕ → List (Entry Row)) → Beat (world_of m q) (world_of m2 q).closed fresh more → (cells : ℕ → Cell) (s : State) (queue : List (Entry Row)) (given : List (ℕ × Row))
    → GoodQuery (world_of m q) (net_of q.nodes) (below_root q.nodes) (value_of m q) q.start q.earlier cells s queue given
    → GoodQuery (world_of m2 q) (net_of q.nodes) (below_root q.nodes) (value_of m2 q) q.start q.earlier (λ k. fed_cell fresh more (net_of q.nodes k) (cells k)) s queue given
machine_beats vs m m2 q p wide same came fresh more b cells s queue given g =
    subst₂ (λ is cs. GoodQuery (world_by q.first q.meaning.windows is (opens m2.streams q.places) cs) (net_of q.nodes) (below_root q.nodes) (value_in q.nodes (λ t. shown_at q.first q.meaning.windows t is)) q.start q.earlier
    (λ k. fed_cell fresh more (net_of q.nodes k) (cells k)) s queue given) (sym same) (sym came)
    (query_beats (world_of m q) (net_of q.nodes) (below_root q.nodes) (value_of m q) (least_of m q) (query_planned vs m q p wide) q.start q.earlier (world_of m2 q).closed fresh more b cells s queue given g)

-- AN APPEND: to each source these elements come, at instants that are not closed
pub machine_appends : (vs : List ℕ) (m m2 : Machine) (q : Registered) → IsPlanOf vs q.meaning q.nodes → AreWide vs m q → AreWide vs m2 q → opens m2.streams q.places ≡ opens m.streams q.places
    → (es : ℕ → List Element) → ((k : ℕ) → get_or (inputs_of m2 q) k [] ≡ get_or (inputs_of m q) k [] ++ es k) → ((k : ℕ) → AreFrom ((world_of m q).closed k) (es k))
    → (cells : ℕ → Cell) (s : State) (queue : List (Entry Row)) (given : List (ℕ × Row))
    → GoodQuery (world_of m q) (net_of q.nodes) (below_root q.nodes) (value_of m q) q.start q.earlier cells s queue given
    → GoodQuery (world_of m2 q) (net_of q.nodes) (below_root q.nodes) (value_of m2 q) q.start q.earlier cells s queue given
machine_appends vs m m2 q p wide wide2 same es more from cells s queue given g =
    let w : World = world_of m q in
    let u : World = world_of m2 q in
    let c : Change w (with_more w es) 0 = append_changes w es from in
    let closed_same : (k : ℕ) → u.closed k ≡ w.closed k = λ k. ap (λ os. max q.first (get_or os k 0)) same in
    let change_to : Change w u 0 = record {
      agree = λ k t i j. Same-trans (c.agree k t i j) (same_of (ap (window_rows q.first (w.windows k) t) (sym (more k))));
      windows = λ k h e n queue2 i good. subst₂ (λ is z. GoodWindow q.first (w.windows k) is z h e n queue2) (sym (more k)) (sym (closed_same k)) (c.windows k h e n queue2 i good);
    } in
    query_changes w (net_of q.nodes) (below_root q.nodes) (value_of m q) (least_of m q) (query_planned vs m q p wide) q.start q.earlier u 0 (least_of m2 q) (value_of m2 q) change_to refl (query_planned vs m2 q p wide2)
    (omega (arith, (shaped vs m q p wide).two)) (omega arith) cells s queue given (λ k kc. omega arith) g

-- STREAMS of the machine after a command

unchanged : {A : Type 0} (f : Stream → Stream) (g : Stream → A) (d : A) → ((s : Stream) → g (f s) ≡ g s) → (n i : ℕ) (ss : List Stream) → option_map_or g (slice_get (change n f ss) i) d ≡ option_map_or g (slice_get ss i) d
unchanged f g d h n i [] = refl
unchanged f g d h zero zero (s ∷ ss) = h s
unchanged f g d h zero (suc i) (s ∷ ss) = refl
unchanged f g d h (suc n) zero (s ∷ ss) = refl
unchanged f g d h (suc n) (suc i) (s ∷ ss) = unchanged f g d h n i ss

map_each : {A B : Type 0} (f g : A → B) (xs : List A) → ((x : A) → f x ≡ g x) → map f xs ≡ map g xs
map_each f g [] h = refl
map_each f g (x ∷ xs) h = ap₂ (λ y ys. y ∷ ys) (h x) (map_each f g xs h)

-- a heartbeat changes no input
pub heartbeat_inputs : (m : Machine) (q : Registered) (n : ℕ) (at : ℤ) → inputs_of (after m (Heartbeat n at) 0) q ≡ inputs_of m q
heartbeat_inputs m q n at =
    map_each (input_at (change n (closed_to at) m.streams) q.first) (input_at m.streams q.first) q.places
    (λ p. unchanged (closed_to at) (λ s. input_of p.arrivals q.first s.elements) [] (λ s. refl) n p.stream m.streams)

-- nor how many rows came
pub heartbeat_comes : (m : Machine) (q : Registered) (n : ℕ) (at : ℤ) → comes (after m (Heartbeat n at) 0).streams q.places ≡ comes m.streams q.places
heartbeat_comes m q n at =
    map_each (λ (p : Place). arrivals_at (change n (closed_to at) m.streams) p - p.arrivals) (λ (p : Place). arrivals_at m.streams p - p.arrivals) q.places
    (λ p. ap (λ k. k - p.arrivals) (unchanged (closed_to at) (λ s. s.arrivals) 0 (λ s. refl) n p.stream m.streams))

-- an append changes no open instant
pub append_opens : (m : Machine) (q : Registered) (n : ℕ) (rows : List (ℤ × List (Option ℤ))) → opens (after m (Append n rows) 0).streams q.places ≡ opens m.streams q.places
append_opens m q n rows =
    map_each (λ (p : Place). option_map_or (λ s. s.first_open) (slice_get (change n (appended rows) m.streams) p.stream) 0) (λ (p : Place). option_map_or (λ s. s.first_open) (slice_get m.streams p.stream) 0) q.places
    (λ p. unchanged (appended rows) (λ s. s.first_open) 0 (λ s. refl) n p.stream m.streams)

-- what comes to a source by it
abbrev pub arriving : List Stream → ℕ → List (ℤ × List (Option ℤ)) → ℕ → Place → List Element
arriving ss n rows first p = cond (p.stream == n) (option_map_or (λ s. input_of p.arrivals first (elements_from s.arrivals rows)) (slice_get ss n) []) []

either_none : (b : Bool) → ◌≡◌ {A = List Element} [] (cond b [] [])
either_none true = refl
either_none false = refl

suc_same : (i n : ℕ) → (suc i == suc n) ≡ (i == n)
suc_same i n = by_test (i == n) (λ t. eq-eqb (suc i) (suc n) (ap suc (eqb-true i n t)) ∙ sym t) (λ f. ne_eqb (suc i) (suc n) (λ p. eqb-false i n f (omega (arith, p))) ∙ sym f)

append_input : (place first n i : ℕ) (rows : List (ℤ × List (Option ℤ))) (ss : List Stream)
    → option_map_or (λ s. input_of place first s.elements) (slice_get (change n (appended rows) ss) i) []
    ≡ option_map_or (λ s. input_of place first s.elements) (slice_get ss i) [] ++ cond (i == n) (option_map_or (λ s. input_of place first (elements_from s.arrivals rows)) (slice_get ss n) []) []
append_input place first n i rows [] = either_none (i == n)
append_input place first zero zero rows (s ∷ ss) = filter-append (λ (e : Element). nat_le place e.arrival && nat_le first e.instant) s.elements (elements_from s.arrivals rows)
append_input place first zero (suc i) rows (s ∷ ss) = let e : (suc i == 0) ≡ false = ne_eqb (suc i) 0 (λ p. omega (arith, p)) in rw e (sym (append-nil _))
append_input place first (suc n) zero rows (s ∷ ss) = let e : (0 == suc n) ≡ false = ne_eqb 0 (suc n) (λ p. omega (arith, p)) in rw e (sym (append-nil _))
append_input place first (suc n) (suc i) rows (s ∷ ss) = rw (suc_same i n) (append_input place first n i rows ss)

-- each source's input with what comes to it
pub append_inputs : (m : Machine) (q : Registered) (n : ℕ) (rows : List (ℤ × List (Option ℤ))) (p : Place) → input_at (after m (Append n rows) 0).streams q.first p ≡ input_at m.streams q.first p ++ arriving m.streams n rows q.first p
append_inputs m q n rows p = append_input p.arrivals q.first n p.stream rows m.streams
