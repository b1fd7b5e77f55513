-- Partly alike machines stay so.
use Rattle.std.proofs.Common.{◌≡◌, ℕ, ℤ, zero, suc, nat_abs, ◌+◌, ◌≤◌, ◌==◌, ◌&&◌, nat_le, Bool, true, false, cond, Option, Some, None, Result, Ok, Err, List, [], ◌∷◌, ◌++◌, map, drop, filter, length, min, max, refl, sym, ap, ap₂, ◌∙◌, subst, arith, append_assoc, append-nil, eqb-true, eq-eqb, true≢false}
use Rattle.std.specs.Prelude.{slice_get}
use Rattle.std.specs.Option.{option_map_or}
use Rattle.std.proofs.lemmas.Bool.{ne_eqb, eqb-false}
use Rattle.std.proofs.lemmas.List.{append_cancel_left, drop-drop, map-append}
use Rattle.std.proofs.lemmas.List.Elements.{filter-append}
use Rattle.values.specs.Window.{AllFrom, Element, input_of}
use Rattle.plan.proofs.Lists.{by_test}
use Rattle.reference.specs.Machine.{Machine, Place, Registered, Stream, answers_from, closed_answers, ends_at, first_for, input_at, until_for}
use Rattle.reference.specs.Commands.{Command, Declare, Register, Append, Heartbeat, Take, Drop, Found, after, appended, change, closed_to, declared, dropped, elements_from, first_fault, found, most_counted, place_at, registered, registered_as, took}
use Rattle.reference.specs.World.{begins_at, untaken}
use Rattle.reference.specs.declared.fault.QueryFault.{QueryFault}
use Rattle.reference.proofs.ClosedLemmas.{AreLater, IsLater, appended_later, closed_later, least_grows, pushed_later}
use Rattle.reference.proofs.StreamLemmas.{alone}
use Rattle.reference.specs.Alike.{AlikeQuery, MayCome, bare, bare_query, later_answers, later_input, open_at}
use Rattle.laws_forgetting.specs.Partly.{AlikeIf, ArePartlyAlike, PartlyAlike, is_compared}
use Rattle.laws_forgetting.proofs.BareLemmas.{by_bare, filter_more, firsts_same, input_bare, map_each, untils_same}
use Rattle.laws_forgetting.proofs.FaultLemmas.{found_same}

pub map-change : {A B : Type 0} (f : A → B) (g : A → A) (h : B → B) → ((x : A) → f (g x) ≡ h (f x)) → (k : ℕ) (xs : List A) → map f (change k g xs) ≡ change k h (map f xs)
map-change f g h e k [] = refl
map-change f g h e zero (x ∷ xs) = ap (λ y. y ∷ map f xs) (e x)
map-change f g h e (suc k) (x ∷ xs) = ap (λ ys. f x ∷ ys) (map-change f g h e k xs)

-- ELEMENTS from an instant on
from_both : (u : ℕ) (xs ys : List Element) → AllFrom u xs → AllFrom u ys → AllFrom u (xs ++ ys)
from_both u [] ys h k = k
from_both u (x ∷ xs) ys h k = (h.0, from_both u xs ys h.1 k)

pub from_less : (u v : ℕ) (es : List Element) → u ≤ v → AllFrom v es → AllFrom u es
from_less u v [] l h = tt
from_less u v (e ∷ es) l h = (omega (arith, l, h.0), from_less u v es l h.1)

-- STREAMS THAT STAND LATER
abbrev open_in : List Stream → ℕ → ℕ
open_in ss k = option_map_or (λ (s : Stream). s.first_open) (slice_get ss k) 0

opens_later : (o u : Option Stream) → IsLater o u → option_map_or (λ (s : Stream). s.first_open) o 0 ≤ option_map_or (λ (s : Stream). s.first_open) u 0
opens_later None u h = omega arith
opens_later (Some s) None h = absurd h
opens_later (Some s) (Some t) h = h.0

module _ (ss ts : List Stream) (later : AreLater ss ts) where
  open_later : (k : ℕ) → open_in ss k ≤ open_in ts k
  open_later k = opens_later (slice_get ss k) (slice_get ts k) (later.at k)

  until_later : (ps : List Place) → until_for ss ps ≤ until_for ts ps
  until_later ps = least_grows (λ p. open_in ss p.stream) (λ p. open_in ts p.stream) ps (λ p. open_later p.stream)

  come_later : (more : ℕ → List Element) → ((k : ℕ) → AllFrom (open_in ts k) (more k)) → (k : ℕ) → AllFrom (open_in ss k) (more k)
  come_later more o k = from_less (open_in ss k) (open_in ts k) (more k) (open_later k) (o k)

-- OVER OTHER MACHINES that show the queries the same
module _ (m n m2 n2 : Machine) where
  shown : (b : Bool) (q r : Registered) → (AlikeQuery m n q r → AlikeQuery m2 n2 q r) → AlikeIf b m n q r → AlikeIf b m2 n2 q r
  shown b q r f a = record { bare = a.bare; alike = λ p. f (a.alike p) }

  pub over : ((q r : Registered) → AlikeQuery m n q r → AlikeQuery m2 n2 q r) → (passes : ℕ → Bool) (qs rs : List Registered) → ArePartlyAlike passes m n qs rs → ArePartlyAlike passes m2 n2 qs rs
  over f passes [] [] h = tt
  over f passes [] (r ∷ rs) h = absurd h
  over f passes (q ∷ qs) [] h = absurd h
  over f passes (q ∷ qs) (r ∷ rs) h = (shown (passes 0) q r (f q r) h.0, over f (λ k. passes (suc k)) qs rs h.1)

  -- one of them changed
  changed : (f g : Registered → Registered) → ((q r : Registered) → AlikeQuery m n q r → AlikeQuery m2 n2 q r) → (passes : ℕ → Bool) (k : ℕ) → ((q r : Registered) → AlikeIf (passes k) m n q r → AlikeIf (passes k) m2 n2 (f q) (g r))
      → (qs rs : List Registered) → ArePartlyAlike passes m n qs rs → ArePartlyAlike passes m2 n2 (change k f qs) (change k g rs)
  changed f g i passes k c [] [] h = tt
  changed f g i passes k c [] (r ∷ rs) h = absurd h
  changed f g i passes k c (q ∷ qs) [] h = absurd h
  changed f g i passes zero c (q ∷ qs) (r ∷ rs) h = (c q r h.0, over i (λ j. passes (suc j)) qs rs h.1)
  changed f g i passes (suc k) c (q ∷ qs) (r ∷ rs) h = (shown (passes 0) q r (i q r) h.0, changed f g i (λ j. passes (suc j)) k c qs rs h.1)

  -- one more behind them
  behind : ((q r : Registered) → AlikeQuery m n q r → AlikeQuery m2 n2 q r) → (x y : Registered) → AlikeQuery m2 n2 x y → (passes : ℕ → Bool) (qs rs : List Registered) → ArePartlyAlike passes m n qs rs
      → ArePartlyAlike passes m2 n2 (qs ++ x ∷ []) (rs ++ y ∷ [])
  behind f x y a passes [] [] i = (record { bare = a.bare; alike = λ p. a }, tt)
  behind f x y a passes [] (r ∷ rs) i = absurd i
  behind f x y a passes (q ∷ qs) [] i = absurd i
  behind f x y a passes (q ∷ qs) (r ∷ rs) i = (shown (passes 0) q r (f q r) i.0, behind f x y a (λ k. passes (suc k)) qs rs i.1)

  -- the streams stand later, and what comes then comes behind what came since
  module _ (come : (ℕ → List Element) → ℕ → List Element) (opened : (more : ℕ → List Element) → MayCome m2 more → MayCome m (come more)) (later : AreLater m.streams m2.streams)
      (left : (more : ℕ → List Element) (first : ℕ) (p : Place) → later_input m2 more first p ≡ later_input m (come more) first p)
      (right : (more : ℕ → List Element) (first : ℕ) (p : Place) → later_input n2 more first p ≡ later_input n (come more) first p) where
    carried : (q r : Registered) → AlikeQuery m n q r → AlikeQuery m2 n2 q r
    carried q r a = record {
      bare = a.bare;
      counts = a.counts;
      answers = λ d more o until l.
          ap (λ is. drop q.taken (q.earlier ++ answers_from q.meaning q.first q.start until is)) (map_each (later_input m2 more q.first) (later_input m (come more) q.first) q.places (left more q.first))
          ∙ a.answers d (come more) (opened more o) until (omega (arith, l, until_later m.streams m2.streams later q.places))
          ∙ sym (ap (λ is. drop r.taken (r.earlier ++ answers_from r.meaning r.first r.start until is)) (map_each (later_input n2 more r.first) (later_input n (come more) r.first) r.places (right more r.first)));
    }

-- A DECLARATION
module _ (passes : ℕ → Bool) (name : List ℕ) (columns : List (List ℕ)) (start : ℤ) where
  abbrev fresh : Stream
  fresh = record { name = name; columns = columns; elements = []; arrivals = 0; first_open = nat_abs start }

  nothing_new : (place first k : ℕ) (ss : List Stream)
      → option_map_or (λ (s : Stream). input_of place first s.elements) (slice_get (ss ++ fresh ∷ []) k) [] ≡ option_map_or (λ (s : Stream). input_of place first s.elements) (slice_get ss k) []
  nothing_new place first zero [] = refl
  nothing_new place first (suc k) [] = refl
  nothing_new place first zero (s ∷ ss) = refl
  nothing_new place first (suc k) (s ∷ ss) = nothing_new place first k ss

  same_input : (m : Machine) (more : ℕ → List Element) (first : ℕ) (p : Place) → later_input (declared m name columns start) more first p ≡ later_input m more first p
  same_input m more first p = ap (λ es. es ++ input_of p.arrivals first (more p.stream)) (nothing_new p.arrivals first p.stream m.streams)

  declares_alike : (m n : Machine) → PartlyAlike passes m n → PartlyAlike passes (declared m name columns start) (declared n name columns start)
  declares_alike m n h = record {
    streams = map-append bare m.streams (fresh ∷ []) ∙ ap (λ ss. ss ++ fresh ∷ []) h.streams ∙ sym (map-append bare n.streams (fresh ∷ []));
    queries =
        let later : AreLater m.streams (m.streams ++ fresh ∷ []) = pushed_later m.streams fresh in
        over m n (declared m name columns start) (declared n name columns start)
        (carried m n (declared m name columns start) (declared n name columns start) (λ more. more) (come_later m.streams (m.streams ++ fresh ∷ []) later) later (same_input m) (same_input n))
        passes m.queries n.queries h.queries;
  }

-- A REGISTRATION
own_count : (o : Option Stream) (first : ℕ) → option_map_or (λ (s : Stream). input_of (option_map_or (λ (t : Stream). t.arrivals) o 0) first s.elements) o [] ≡ option_map_or (λ (s : Stream). input_of s.arrivals first s.elements) o []
own_count None first = refl
own_count (Some s) first = refl

module _ (passes : ℕ → Bool) (m n : Machine) (h : PartlyAlike passes m n) where
  counts_same : (k : ℕ) → option_map_or (λ (s : Stream). s.arrivals) (slice_get m.streams k) 0 ≡ option_map_or (λ (s : Stream). s.arrivals) (slice_get n.streams k) 0
  counts_same k = by_bare (λ (s : Stream). s.arrivals) 0 (λ s. refl) m.streams n.streams h.streams k

  places_same : (ks : List ℕ) → map (place_at m) ks ≡ map (place_at n) ks
  places_same ks = map_each (place_at m) (place_at n) ks (λ k. ap (λ a. record { stream = k; arrivals = a }) (counts_same k))

  begins_same : (ks : List ℕ) → first_for m.streams (map (place_at m) ks) ≡ first_for n.streams (map (place_at n) ks)
  begins_same ks = firsts_same m.streams n.streams h.streams (map (place_at m) ks) ∙ ap (first_for n.streams) (places_same ks)

  registered_same : (name : List ℕ) (f : Found) → registered_as m name f ≡ registered_as n name f
  registered_same name f =
      ap₂ (λ ps first. record { name = name; meaning = f.meaning; nodes = f.nodes; measures = f.measures; places = ps; first = first; start = first; earlier = []; taken = 0; ever_taken = 0; is_dropped = false })
      (places_same f.streams) (begins_same f.streams)

  -- of what came nothing counts for it, or the same
  new_input : (first k : ℕ) → input_at m.streams first (place_at m k) ≡ input_at n.streams first (place_at m k)
  new_input first k =
      own_count (slice_get m.streams k) first
      ∙ by_bare (λ (s : Stream). input_of s.arrivals first s.elements) [] (λ s. input_bare s.arrivals first s.elements) m.streams n.streams h.streams k
      ∙ sym (own_count (slice_get n.streams k) first)
      ∙ ap (λ a. option_map_or (λ (s : Stream). input_of a first s.elements) (slice_get n.streams k) []) (sym (counts_same k))

  new_inputs : (more : ℕ → List Element) (first : ℕ) (ks : List ℕ) → map (later_input m more first) (map (place_at m) ks) ≡ map (later_input n more first) (map (place_at m) ks)
  new_inputs more first [] = refl
  new_inputs more first (k ∷ ks) = ap₂ (λ x xs. x ∷ xs) (ap (λ es. es ++ input_of (place_at m k).arrivals first (more k)) (new_input first k)) (new_inputs more first ks)

  newest : (name : List ℕ) (f : Found) → AlikeQuery m n (registered_as m name f) (registered_as n name f)
  newest name f = record {
    bare = ap bare_query (registered_same name f);
    counts = refl;
    answers = λ d more o until l.
        let first : ℕ = first_for m.streams (map (place_at m) f.streams) in
        ap (answers_from f.meaning first first until) (new_inputs more first f.streams)
        ∙ ap (λ (z : Registered). drop z.taken (later_answers n z more until)) (registered_same name f);
  }

  registers : (name : List ℕ) (r : Result Found QueryFault) → PartlyAlike passes (registered m name r) (registered n name r)
  registers name (Err fault) = h
  registers name (Ok f) =
      let a : AlikeQuery m n (registered_as m name f) (registered_as n name f) = newest name f in
      record {
        streams = h.streams;
        queries = behind m n (registered m name (Ok f)) (registered n name (Ok f)) (λ q r i. record { bare = i.bare; counts = i.counts; answers = i.answers })
            (registered_as m name f) (registered_as n name f) (record { bare = a.bare; counts = a.counts; answers = a.answers }) passes m.queries n.queries h.queries;
      }

  registers_alike : (name source : List ℕ) (given : Option (List (ℤ × ℤ))) → PartlyAlike passes (registered m name (found m source given)) (registered n name (found n source given))
  registers_alike name source given =
      subst (λ r. PartlyAlike passes (registered m name (found m source given)) (registered n name r)) (found_same passes m n h source given) (registers name (found m source given))

  -- its first instant is the same
  begins_found : (r : Result Found QueryFault) → begins_at m r ≡ begins_at n r
  begins_found (Ok f) = begins_same f.streams
  begins_found (Err fault) = refl

  pub begins_alike : (source : List ℕ) (given : Option (List (ℤ × ℤ))) → begins_at m (found m source given) ≡ begins_at n (found n source given)
  begins_alike source given = begins_found (found m source given) ∙ ap (begins_at n) (found_same passes m n h source given)

-- what does not see the change of a stream
unchanged : {A : Type 0} (f : Stream → Stream) (g : Stream → A) (d : A) → ((s : Stream) → g (f s) ≡ g s) → (k i : ℕ) (ss : List Stream) → option_map_or g (slice_get (change k f ss) i) d ≡ option_map_or g (slice_get ss i) d
unchanged f g d h k i [] = refl
unchanged f g d h zero zero (s ∷ ss) = h s
unchanged f g d h zero (suc i) (s ∷ ss) = refl
unchanged f g d h (suc k) zero (s ∷ ss) = refl
unchanged f g d h (suc k) (suc i) (s ∷ ss) = unchanged f g d h k i ss

-- AN APPEND
module _ (passes : ℕ → Bool) (k : ℕ) (rows : List (ℤ × List (Option ℤ))) where
  -- the elements that the rows become, and what comes behind them
  abbrev new_to : List Stream → ℕ → List Element
  new_to ss i = option_map_or (λ (s : Stream). elements_from s.arrivals rows) (slice_get ss i) []

  abbrev with_new : List Stream → (ℕ → List Element) → ℕ → List Element
  with_new ss more j = cond (j == k) (new_to ss k) [] ++ more j

  none_in : (place first : ℕ) (b : Bool) → ◌≡◌ {A = List Element} [] (input_of place first (cond b [] []))
  none_in place first true = refl
  none_in place first false = refl

  suc_same : (i n : ℕ) → (suc i == suc n) ≡ (i == n)
  suc_same i n = by_test (i == n) (λ t. eq-eqb (suc i) (suc n) (ap suc (eqb-true i n t)) ∙ sym t) (λ f. ne_eqb (suc i) (suc n) (λ p. eqb-false i n f (omega (arith, p))) ∙ sym f)

  input_more : (place first n i : ℕ) (ss : List Stream)
      → option_map_or (λ (s : Stream). input_of place first s.elements) (slice_get (change n (appended rows) ss) i) []
      ≡ option_map_or (λ (s : Stream). input_of place first s.elements) (slice_get ss i) [] ++ input_of place first (cond (i == n) (new_to ss n) [])
  input_more place first n i [] = none_in place first (i == n)
  input_more place first zero zero (s ∷ ss) = filter-append (λ (e : Element). nat_le place e.arrival && nat_le first e.instant) s.elements (elements_from s.arrivals rows)
  input_more place first zero (suc i) (s ∷ ss) = let e : (suc i == 0) ≡ false = ne_eqb (suc i) 0 (λ p. omega (arith, p)) in rw e (sym (append-nil _))
  input_more place first (suc n) zero (s ∷ ss) = let e : (0 == suc n) ≡ false = ne_eqb 0 (suc n) (λ p. omega (arith, p)) in rw e (sym (append-nil _))
  input_more place first (suc n) (suc i) (s ∷ ss) = rw (suc_same i n) (input_more place first n i ss)

  later_more : (m : Machine) (more : ℕ → List Element) (first : ℕ) (p : Place) → later_input (after m (Append k rows) 0) more first p ≡ later_input m (with_new m.streams more) first p
  later_more m more first p =
      ap (λ l. l ++ input_of p.arrivals first (more p.stream)) (input_more p.arrivals first k p.stream m.streams)
      ∙ append_assoc (input_at m.streams first p) _ (input_of p.arrivals first (more p.stream))
      ∙ ap (λ l. input_at m.streams first p ++ l) (sym (filter-append (λ (e : Element). nat_le p.arrivals e.arrival && nat_le first e.instant) (cond (p.stream == k) (new_to m.streams k) []) (more p.stream)))

  -- they come at open instants
  new_open : (ss : List Stream) (i : ℕ) → IsLater (slice_get ss i) (slice_get (change i (appended rows) ss) i) → AllFrom (open_in ss i) (new_to ss i)
  new_open [] i h = tt
  new_open (s ∷ ss) zero h = subst (AllFrom s.first_open) (sym (append_cancel_left s.elements (elements_from s.arrivals rows) h.1.0 h.1.1.0)) h.1.1.1
  new_open (s ∷ ss) (suc i) h = new_open ss i h

  bare_appended : (s : Stream) → bare (appended rows s) ≡ bare (appended rows (bare s))
  bare_appended s =
      let new : List Element = elements_from s.arrivals rows in
      let count : ℕ = s.arrivals + length rows in
      let p : Element → Bool = λ e. nat_le count e.arrival in
      ap (λ (es : List Element). record { name = s.name; columns = s.columns; elements = es; arrivals = s.arrivals + length rows; first_open = s.first_open })
      (filter-append p s.elements new ∙ ap (λ es. es ++ filter p new) (filter_more s.arrivals count (omega arith) s.elements) ∙ sym (filter-append p (filter (λ (e : Element). nat_le s.arrivals e.arrival) s.elements) new))

  module _ (m n : Machine) (h : PartlyAlike passes m n) (accepted : first_fault m (Append k rows) ≡ None) where
    new_same : new_to m.streams k ≡ new_to n.streams k
    new_same = by_bare (λ (s : Stream). elements_from s.arrivals rows) [] (λ s. refl) m.streams n.streams h.streams k

    rows_later : AreLater m.streams (change k (appended rows) m.streams)
    rows_later = appended_later m.streams k rows (alone m.queries k rows (slice_get m.streams k) accepted)

    open_more : (more : ℕ → List Element) → MayCome (after m (Append k rows) 0) more → MayCome m (with_new m.streams more)
    open_more more o j = from_both (open_at m j) _ (more j) (here (j == k) refl) (come_later m.streams (change k (appended rows) m.streams) rows_later more o j)
      where
        here : (b : Bool) → (j == k) ≡ b → AllFrom (open_at m j) (cond b (new_to m.streams k) [])
        here true e = subst (λ z. AllFrom (open_at m z) (new_to m.streams k)) (sym (eqb-true j k e)) (new_open m.streams k (rows_later.at k))
        here false e = tt

    other_more : (more : ℕ → List Element) (first : ℕ) (p : Place) → later_input (after n (Append k rows) 0) more first p ≡ later_input n (with_new m.streams more) first p
    other_more more first p = later_more n more first p ∙ sym (ap (λ es. input_at n.streams first p ++ input_of p.arrivals first (cond (p.stream == k) es [] ++ more p.stream)) new_same)

    appends_alike : PartlyAlike passes (after m (Append k rows) 0) (after n (Append k rows) 0)
    appends_alike = record {
      streams =
          map-change bare (appended rows) (λ s. bare (appended rows s)) bare_appended k m.streams
          ∙ ap (change k (λ s. bare (appended rows s))) h.streams
          ∙ sym (map-change bare (appended rows) (λ s. bare (appended rows s)) bare_appended k n.streams);
      queries = over m n (after m (Append k rows) 0) (after n (Append k rows) 0)
          (carried m n (after m (Append k rows) 0) (after n (Append k rows) 0) (with_new m.streams) open_more rows_later (later_more m) other_more)
          passes m.queries n.queries h.queries;
    }

-- A HEARTBEAT
module _ (passes : ℕ → Bool) (k : ℕ) (at : ℤ) (m n : Machine) (h : PartlyAlike passes m n) (accepted : first_fault m (Heartbeat k at) ≡ None) where
  beats_later : AreLater m.streams (change k (closed_to at) m.streams)
  beats_later = closed_later m.streams k at accepted

  beat_input : (z : Machine) (more : ℕ → List Element) (first : ℕ) (p : Place) → later_input (after z (Heartbeat k at) 0) more first p ≡ later_input z more first p
  beat_input z more first p = ap (λ es. es ++ input_of p.arrivals first (more p.stream)) (unchanged (closed_to at) (λ (s : Stream). input_of p.arrivals first s.elements) [] (λ s. refl) k p.stream z.streams)

  heartbeats_alike : PartlyAlike passes (after m (Heartbeat k at) 0) (after n (Heartbeat k at) 0)
  heartbeats_alike = record {
    streams = map-change bare (closed_to at) (closed_to at) (λ s. refl) k m.streams ∙ ap (change k (closed_to at)) h.streams ∙ sym (map-change bare (closed_to at) (closed_to at) (λ s. refl) k n.streams);
    queries = over m n (after m (Heartbeat k at) 0) (after n (Heartbeat k at) 0)
        (carried m n (after m (Heartbeat k at) 0) (after n (Heartbeat k at) 0) (λ more. more) (come_later m.streams (change k (closed_to at) m.streams) beats_later) beats_later (beat_input m) (beat_input n))
        passes m.queries n.queries h.queries;
  }

module _ (passes : ℕ → Bool) (m n : Machine) (h : PartlyAlike passes m n) where
  -- A TAKE, of as many answers where the query passes
  takes_alike : (k : ℕ) (limit : ℤ) (count other : ℕ) → (passes k ≡ true → count ≡ other) → PartlyAlike passes (after m (Take k limit) count) (after n (Take k limit) other)
  takes_alike k limit count other same = record {
    streams = h.streams;
    queries = changed m n (after m (Take k limit) count) (after n (Take k limit) other) (took count) (took other)
        (λ q r a. record { bare = a.bare; counts = a.counts; answers = a.answers }) passes k
        (λ q r a. record { bare = a.bare; alike = λ p. subst (λ j. AlikeQuery (after m (Take k limit) count) (after n (Take k limit) other) (took count q) (took j r)) (same p) (took_alike q r (a.alike p)) })
        m.queries n.queries h.queries;
  }
    where
      took_alike : (q r : Registered) → AlikeQuery m n q r → AlikeQuery (after m (Take k limit) count) (after n (Take k limit) other) (took count q) (took count r)
      took_alike q r a = record {
        bare = a.bare;
        counts = ap (λ (n : ℕ). min (n + count) most_counted) a.counts;
        answers = λ d more o until l. sym (drop-drop count q.taken (later_answers m q more until)) ∙ ap (drop count) (a.answers d more o until l) ∙ drop-drop count r.taken (later_answers n r more until);
      }

  -- A DROP
  drops_alike : (k : ℕ) → PartlyAlike passes (after m (Drop k) 0) (after n (Drop k) 0)
  drops_alike k = record {
    streams = h.streams;
    queries = changed m n (after m (Drop k) 0) (after n (Drop k) 0) dropped dropped
        (λ q r a. record { bare = a.bare; counts = a.counts; answers = a.answers }) passes k
        (λ q r a. record { bare = ap dropped a.bare; alike = λ p. record { bare = ap dropped a.bare; counts = (a.alike p).counts; answers = λ d more o until l. absurd (true≢false d) } })
        m.queries n.queries h.queries;
  }

  -- ANY COMMAND that they accept
  pub commands_partly : (c : Command) (count other : ℕ) → first_fault m c ≡ None → (is_compared passes c ≡ true → count ≡ other) → PartlyAlike passes (after m c count) (after n c other)
  commands_partly (Declare name columns start) count other e same = declares_alike passes name columns start m n h
  commands_partly (Register name source given) count other e same = registers_alike passes m n h name source given
  commands_partly (Append k rows) count other e same = appends_alike passes k rows m n h e
  commands_partly (Heartbeat k at) count other e same = heartbeats_alike passes k at m n h e
  commands_partly (Take k limit) count other e same = takes_alike k limit count other same
  commands_partly (Drop k) count other e same = drops_alike k

  -- THE CLOSED ANSWERS that are to be taken are the same
  nothing_more : (z : Machine) (first : ℕ) (p : Place) → later_input z (λ k. []) first p ≡ input_at z.streams first p
  nothing_more z first p = append-nil (input_at z.streams first p)

  pub closed_same : (q r : Registered) → AlikeQuery m n q r → q.is_dropped ≡ false → drop q.taken (closed_answers m q) ≡ drop r.taken (closed_answers n r)
  closed_same q r a d =
      let places : q.places ≡ r.places = ap (λ (z : Registered). z.places) a.bare in
      ap (λ is. drop q.taken (q.earlier ++ answers_from q.meaning q.first q.start (until_for m.streams q.places) is)) (sym (map_each (later_input m (λ k. []) q.first) (input_at m.streams q.first) q.places (nothing_more m q.first)))
      ∙ a.answers d (λ k. []) (λ k. tt) (until_for m.streams q.places) (omega arith)
      ∙ ap₂ (λ u is. drop r.taken (r.earlier ++ answers_from r.meaning r.first r.start u is)) (ap (until_for m.streams) places ∙ untils_same m.streams n.streams h.streams r.places)
      (map_each (later_input n (λ k. []) r.first) (input_at n.streams r.first) r.places (nothing_more n r.first))

  pub untaken_same : (q r : Registered) → AlikeQuery m n q r → untaken m q ≡ untaken n r
  untaken_same q r a = here q.is_dropped refl
    where
      dropped_same : q.is_dropped ≡ r.is_dropped
      dropped_same = ap (λ (z : Registered). z.is_dropped) a.bare

      here : (b : Bool) → q.is_dropped ≡ b → cond q.is_dropped [] (drop q.taken (closed_answers m q)) ≡ cond r.is_dropped [] (drop r.taken (closed_answers n r))
      here true e = ap (λ b. cond b [] (drop q.taken (closed_answers m q))) e ∙ sym (ap (λ b. cond b [] (drop r.taken (closed_answers n r))) (sym dropped_same ∙ e))
      here false e = ap (λ b. cond b [] (drop q.taken (closed_answers m q))) e ∙ closed_same q r a e ∙ sym (ap (λ b. cond b [] (drop r.taken (closed_answers n r))) (sym dropped_same ∙ e))

  -- and so is where a drain leaves them complete
  pub ends_same : (q r : Registered) → AlikeQuery m n q r → ends_at m q ≡ ends_at n r
  ends_same q r a =
      ap (λ (u : ℕ). cond q.is_dropped 0 (max q.first u)) (untils_same m.streams n.streams h.streams q.places)
      ∙ ap (λ (z : Registered). ends_at n z) a.bare
