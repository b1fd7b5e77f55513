-- A machine and its opening are alike.
use Rattle.std.proofs.Common.{◌≡◌, ℕ, zero, suc, ◌+◌, ◌-◌, ◌<◌, ◌≤◌, ◌==◌, ◌&&◌, ◌||◌, Bool, true, false, cond, nat_le, max, ⊎_elim, Option, Some, None, unwrap_or, List, [], ◌∷◌, ◌++◌, filter, map, take, drop, length, get_or, refl, sym, ap, ap₂, ◌∙◌, subst, arith, append-nil, leb-true, flat_map, eq-eqb, true≢false}
use Rattle.std.specs.Prelude.{slice_get}
use Rattle.std.specs.List.{AllByRecursion, range_with_len}
use Rattle.std.specs.Option.{option_map, option_map_or}
use Rattle.std.proofs.Math.Seq.{drop-append_seam}
use Rattle.std.proofs.lemmas.Bool.{cases_lt, lt-leb}
use Rattle.std.proofs.lemmas.List.{length-map, length-take-le, take-append-drop}
use Rattle.values.specs.Row.{Row}
use Rattle.values.specs.Answers.{answers_at}
use Rattle.values.specs.Window.{AllFrom, Element, Window, input_of}
use Rattle.values.specs.Needs.{is_needed}
use Rattle.values.specs.Enough.{Each}
use Rattle.reference.specs.Machine.{Machine, Place, Registered, Stream, answers_from, input_at, until_for}
use Rattle.reference.specs.Opening.{all_restarted, needs, needs_by, opening, restart, restarted, with_kept}
use Rattle.reference.proofs.ClosedLemmas.{least_of_all}
use Rattle.reference.specs.Alike.{AlikeMachines, AlikeQuery, AreAlike, MayCome, bare, later_answers, later_input, open_at}
use Rattle.laws_forgetting.specs.Openings.{AreNumbered, IsMark, MayOpen}
use Rattle.laws_forgetting.specs.Below.{answers_below}
use Rattle.laws_forgetting.specs.Partly.{ArePartlyAlike, MayOpenMarked, PartlyAlike, has_mark}
use Rattle.laws_forgetting.proofs.AnswerLemmas.{HaveNeeded, opening_answers, parts, with_later}
use Rattle.laws_forgetting.proofs.BareLemmas.{map_each}

or_right : (a b : Bool) → b ≡ true → (a || b) ≡ true
or_right true b h = refl
or_right false b h = h

or_left : (a b : Bool) → a ≡ true → (a || b) ≡ true
or_left true b h = refl
or_left false b h = cc

and_both : (a b : Bool) → a ≡ true → b ≡ true → (a && b) ≡ true
and_both true true h k = refl
and_both true false h k = cc
and_both false b h k = cc

-- WHAT IS KEPT of the streams
filter_swap : (p r : Element → Bool) (es : List Element) → filter p (filter r es) ≡ filter r (filter p es)
filter_swap p r [] = refl
filter_swap p r (e ∷ es) = here (p e) refl (r e) refl (filter_swap p r es)
  where
    here : (b : Bool) → p e ≡ b → (c : Bool) → r e ≡ c → filter p (filter r es) ≡ filter r (filter p es) → filter p (cond c (e ∷ filter r es) (filter r es)) ≡ filter r (cond b (e ∷ filter p es) (filter p es))
    here true i true j k = ap (λ x. cond x (e ∷ filter p (filter r es)) (filter p (filter r es))) i ∙ ap (λ l. e ∷ l) k ∙ sym (ap (λ x. cond x (e ∷ filter r (filter p es)) (filter r (filter p es))) j)
    here true i false j k = k ∙ sym (ap (λ x. cond x (e ∷ filter r (filter p es)) (filter r (filter p es))) j)
    here false i true j k = ap (λ x. cond x (e ∷ filter p (filter r es)) (filter p (filter r es))) i ∙ k
    here false i false j k = k

abbrev kept_stream : (Element → Bool) → Stream → Stream
kept_stream keep s = record s { elements = filter keep s.elements }

stream_from : (keep : ℕ → Element → Bool) (n i : ℕ) (ss : List Stream) → slice_get (with_kept keep n ss) i ≡ option_map (kept_stream (keep (n + i))) (slice_get ss i)
stream_from keep n i [] = refl
stream_from keep n zero (s ∷ ss) = let e : n ≡ n + 0 = omega arith in ap (λ j. Some (kept_stream (keep j) s)) e
stream_from keep n (suc i) (s ∷ ss) = let e : suc n + i ≡ n + suc i = omega arith in stream_from keep (suc n) i ss ∙ ap (λ j. option_map (kept_stream (keep j)) (slice_get ss i)) e

input_option : (keep : Element → Bool) (place first : ℕ) (o : Option Stream)
    → option_map_or (λ (s : Stream). input_of place first s.elements) (option_map (kept_stream keep) o) [] ≡ filter keep (option_map_or (λ (s : Stream). input_of place first s.elements) o [])
input_option keep place first None = refl
input_option keep place first (Some s) = filter_swap (λ e. nat_le place e.arrival && nat_le first e.instant) keep s.elements

input_kept : (keep : ℕ → Element → Bool) (first : ℕ) (ss : List Stream) (p : Place) → input_at (with_kept keep 0 ss) first p ≡ filter (keep p.stream) (input_at ss first p)
input_kept keep first ss p =
    let e : 0 + p.stream ≡ p.stream = omega arith in
    ap (λ o. option_map_or (λ (s : Stream). input_of p.arrivals first s.elements) o []) (stream_from keep 0 p.stream ss ∙ ap (λ j. option_map (kept_stream (keep j)) (slice_get ss p.stream)) e)
    ∙ input_option (keep p.stream) p.arrivals first (slice_get ss p.stream)

-- LISTS over places
later_by : (f g : Place → List Element) (ps : List Place) → with_later (map f ps) (map g ps) ≡ map (λ p. f p ++ g p) ps
later_by f g [] = refl
later_by f g (p ∷ ps) = ap (λ is. (f p ++ g p) ∷ is) (later_by f g ps)

parts_by : (k : Place → Element → Bool) (f : Place → List Element) (ps : List Place) → parts (map k ps) (map f ps) ≡ map (λ p. filter (k p) (f p)) ps
parts_by k f [] = refl
parts_by k f (p ∷ ps) = ap (λ is. filter (k p) (f p) ∷ is) (parts_by k f ps)

many : (f g : Place → List Element) (ps : List Place) → length (map f ps) ≡ length (map g ps)
many f g ps = length-map ps f ∙ sym (length-map ps g)

-- what counts for a query of what comes lies at its first instant or later, and is open
from_input : (u v place first : ℕ) (es : List Element) → u ≤ max first v → AllFrom v es → AllFrom u (input_of place first es)
from_input u v place first [] l h = tt
from_input u v place first (e ∷ es) l h = here (nat_le place e.arrival) (nat_le first e.instant) refl (from_input u v place first es l h.1)
  where
    here : (a b : Bool) → nat_le first e.instant ≡ b → AllFrom u (input_of place first es) → AllFrom u (cond (a && b) (e ∷ input_of place first es) (input_of place first es))
    here true true i k = (omega (arith, l, h.0, leb-true first e.instant i), k)
    here true false i k = k
    here false b i k = k

all_from : (m : Machine) (more : ℕ → List Element) (first u v : ℕ) (ps : List Place) → u ≤ max first v → MayCome m more → AllByRecursion (λ (p : Place). v ≤ open_at m p.stream) ps → Each (λ es. AllFrom u es) (map (λ (p : Place). input_of p.arrivals first (more p.stream)) ps)
all_from m more first u v [] l o h = tt
all_from m more first u v (p ∷ ps) l o h = (from_input u (open_at m p.stream) p.arrivals first (more p.stream) (omega (arith, l, h.0)) (o p.stream), all_from m more first u v ps l o h.1)

-- A QUERY
module _ (m : Machine) (q : Registered) (qs : List Registered) (keep : ℕ → Element → Bool) (next : ℕ) (W : List (ℕ × Row)) (mark : IsMark m q next W)
    (needed : HaveNeeded q.first next q.meaning.windows (map (input_at m.streams q.first) q.places) (map (λ (p : Place). keep p.stream) q.places)) where
  abbrev came : (ℕ → List Element) → Place → List Element
  came more p = input_of p.arrivals q.first (more p.stream)

  abbrev kept_inputs : List (List Element)
  kept_inputs = parts (map (λ (p : Place). keep p.stream) q.places) (map (input_at m.streams q.first) q.places)

  T : List (ℕ × Row)
  T = take q.taken (answers_below m q next)

  counted : length T ≡ q.taken
  unfolding T
  counted = length-take-le q.taken (answers_below m q next) mark.taken

  given : T ++ W ≡ answers_below m q next
  unfolding T
  given = ap (λ (l : List (ℕ × Row)). take q.taken (answers_below m q next) ++ l) mark.waits ∙ take-append-drop q.taken (answers_below m q next)

  opened : (more : ℕ → List Element) (u : ℕ) → W ++ answers_from q.meaning q.first next u (with_later kept_inputs (map (came more) q.places))
      ≡ W ++ answers_from q.meaning q.first next u (map (later_input (record { streams = with_kept keep 0 m.streams; queries = qs }) more q.first) q.places)
  opened more u = ap (λ is. W ++ answers_from q.meaning q.first next u is)
      (ap (λ is. with_later is (map (came more) q.places)) (parts_by (λ p. keep p.stream) (input_at m.streams q.first) q.places)
      ∙ later_by (λ p. filter (keep p.stream) (input_at m.streams q.first p)) (came more) q.places
      ∙ map_each (λ p. filter (keep p.stream) (input_at m.streams q.first p) ++ came more p) (later_input (record { streams = with_kept keep 0 m.streams; queries = qs }) more q.first) q.places (λ p. ap (λ es. es ++ came more p) (sym (input_kept keep q.first m.streams p))))

  -- where something from the mark on is closed
  late : (more : ℕ → List Element) → MayCome m more → (u : ℕ) → next ≤ u → drop q.taken (later_answers m q more u) ≡ W ++ answers_from q.meaning q.first next u (with_later kept_inputs (map (came more) q.places))
  late more o u l =
      ap (λ is. drop q.taken (q.earlier ++ answers_from q.meaning q.first q.start u is)) (sym (later_by (input_at m.streams q.first) (came more) q.places))
      ∙ ap (λ n. drop n (q.earlier ++ answers_from q.meaning q.first q.start u (with_later (map (input_at m.streams q.first) q.places) (map (came more) q.places)))) (sym counted)
      ∙ opening_answers q.meaning q.first q.start next (map (input_at m.streams q.first) q.places) (map (λ (p : Place). keep p.stream) q.places) q.earlier T W mark.began given needed (map (came more) q.places) (many (came more) (input_at m.streams q.first) q.places)
      (all_from m more q.first next (until_for m.streams q.places) q.places mark.closed o (least_of_all (λ (p : Place). option_map_or (λ (s : Stream). s.first_open) (slice_get m.streams p.stream) 0) q.places)) u l

  -- where nothing is closed yet that is above its base, no answers are there but the earlier ones
  early : (more : ℕ → List Element) (u : ℕ) → until_for m.streams q.places ≤ u → u < next → drop q.taken (later_answers m q more u) ≡ W ++ answers_from q.meaning q.first next u (with_later kept_inputs (map (came more) q.places))
  early more u l lt =
      let none : u - q.start ≡ 0 = omega (arith, l, lt, mark.closed, mark.first, mark.began) in
      let none2 : next - q.start ≡ 0 = omega (arith, l, lt, mark.closed, mark.first, mark.began) in
      let none3 : u - next ≡ 0 = omega (arith, lt) in
      let all : T ++ W ≡ q.earlier ++ [] = given ∙ ap (λ n. q.earlier ++ flat_map (answers_at q.meaning q.first (map (input_at m.streams q.first) q.places)) (range_with_len q.start n)) none2 in
      ap (λ n. drop q.taken (q.earlier ++ flat_map (answers_at q.meaning q.first (map (later_input m more q.first) q.places)) (range_with_len q.start n))) none
      ∙ ap (drop q.taken) (sym all) ∙ ap (λ n. drop n (T ++ W)) (sym counted) ∙ drop-append_seam T W ∙ sym (append-nil W)
      ∙ sym (ap (λ n. W ++ flat_map (answers_at q.meaning q.first (with_later kept_inputs (map (came more) q.places))) (range_with_len next n)) none3)

  pub opening_alike : AlikeQuery m (record { streams = with_kept keep 0 m.streams; queries = qs }) q (restarted q next W)
  opening_alike = record {
    bare = refl;
    counts = refl;
    answers = λ d more o u l. ⊎_elim (λ lt. early more u l lt) (λ ge. late more o u ge) (cases_lt u next) ∙ opened more u;
  }

-- STREAMS differ in their elements alone
none_there : (a : ℕ) (p : Element → Bool) (es : List Element) → AllByRecursion (λ e. e.arrival < a) es → filter (λ e. nat_le a e.arrival) es ≡ filter (λ e. nat_le a e.arrival) (filter p es)
none_there a p [] h = refl
none_there a p (e ∷ es) h =
    let n : nat_le a e.arrival ≡ false = lt-leb a e.arrival h.0 in
    ap (λ b. cond b (e ∷ filter (λ (f : Element). nat_le a f.arrival) es) (filter (λ (f : Element). nat_le a f.arrival) es)) n ∙ none_there a p es h.1 ∙ sym (here (p e) n)
  where
    here : (b : Bool) → nat_le a e.arrival ≡ false → filter (λ f. nat_le a f.arrival) (cond b (e ∷ filter p es) (filter p es)) ≡ filter (λ f. nat_le a f.arrival) (filter p es)
    here true n = ap (λ c. cond c (e ∷ filter (λ (f : Element). nat_le a f.arrival) (filter p es)) (filter (λ (f : Element). nat_le a f.arrival) (filter p es))) n
    here false n = refl

bare_kept : (keep : ℕ → Element → Bool) (n : ℕ) (ss : List Stream) → AreNumbered ss → map bare ss ≡ map bare (with_kept keep n ss)
bare_kept keep n [] h = refl
bare_kept keep n (s ∷ ss) h =
    ap₂ (λ (es : List Element) (xs : List Stream). record { name = s.name; columns = s.columns; elements = es; arrivals = s.arrivals; first_open = s.first_open } ∷ xs)
    (none_there s.arrivals (keep n) s.elements h.0) (bare_kept keep (suc n) ss h.1)

-- WHAT A QUERY NEEDS is kept
each_filtered : (P : Element → Type 0) (p : Element → Bool) (es : List Element) → ((e : Element) → p e ≡ true → P e) → Each P (filter p es)
each_filtered P p [] h = tt
each_filtered P p (e ∷ es) h = here (p e) refl (each_filtered P p es h)
  where
    here : (b : Bool) → p e ≡ b → Each P (filter p es) → Each P (cond b (e ∷ filter p es) (filter p es))
    here true i k = (h e i, k)
    here false i k = k

module _ (streams : List Stream) (q : Registered) (next : ℕ) (keep : ℕ → Element → Bool) where
  needed_one : (w : Window) (p : Place) (all : List Element) (o : Option Stream) → ((e : Element) → (nat_le p.arrivals e.arrival && nat_le q.first e.instant) ≡ true → is_needed q.first w next all e ≡ true → keep p.stream e ≡ true)
      → Each (λ e. is_needed q.first w next all e ≡ true → keep p.stream e ≡ true) (option_map_or (λ (s : Stream). input_of p.arrivals q.first s.elements) o [])
  needed_one w p all None h = tt
  needed_one w p all (Some s) h = each_filtered _ (λ e. nat_le p.arrivals e.arrival && nat_le q.first e.instant) s.elements h

  have_needed : (ws : List Window) (ps : List Place) → ((s : ℕ) (e : Element) → needs streams q next s ws ps e ≡ true → keep s e ≡ true) → HaveNeeded q.first next ws (map (input_at streams q.first) ps) (map (λ (p : Place). keep p.stream) ps)
  have_needed [] ps h = tt
  have_needed (w ∷ ws) [] h = tt
  have_needed (w ∷ ws) (p ∷ ps) h = (
    needed_one w p (input_at streams q.first p) (slice_get streams p.stream)
        (λ e c n. h p.stream e (or_left _ _ (and_both (p.stream == p.stream) _ (eq-eqb p.stream p.stream refl) (and_both (nat_le p.arrivals e.arrival && nat_le q.first e.instant) _ c n)))),
    have_needed ws ps (λ s e i. h s e (or_right ((p.stream == s) && ((nat_le p.arrivals e.arrival && nat_le q.first e.instant) && is_needed q.first w next (input_at streams q.first p) e)) _ i)),
  )

needs_by_there : (streams : List Stream) (qs : List Registered) (marks : List (Option ℕ)) (n : ℕ) (q : Registered) (next s : ℕ) (e : Element) → slice_get qs n ≡ Some q → slice_get marks n ≡ Some (Some next)
    → needs streams q next s q.meaning.windows q.places e ≡ true → needs_by streams qs marks s e ≡ true
needs_by_there streams [] marks n q next s e h k i = absurd (cc)
needs_by_there streams (p ∷ qs) [] n q next s e h k i = absurd (cc)
needs_by_there streams (p ∷ qs) (None ∷ marks) zero q next s e h k i = absurd (cc)
needs_by_there streams (p ∷ qs) (Some x ∷ marks) zero q next s e h k i =
    let a : p ≡ q = ap (λ o. unwrap_or o p) h in
    let b : x ≡ next = ap (λ o. unwrap_or (unwrap_or o None) x) k in
    or_left _ _ (subst (λ z. needs streams z x s z.meaning.windows z.places e ≡ true) (sym a) (subst (λ z. needs streams q z s q.meaning.windows q.places e ≡ true) (sym b) i))
needs_by_there streams (p ∷ qs) (None ∷ marks) (suc n) q next s e h k i = needs_by_there streams qs marks n q next s e h k i
needs_by_there streams (p ∷ qs) (Some x ∷ marks) (suc n) q next s e h k i = or_right (needs streams p x s p.meaning.windows p.places e) _ (needs_by_there streams qs marks n q next s e h k i)

-- THE QUERIES, one by one
at_marks : (marks : List (Option ℕ)) (n : ℕ) (x : Option ℕ) → slice_get marks n ≡ Some x → get_or marks n None ≡ x
at_marks [] n x h = absurd (cc)
at_marks (y ∷ marks) zero x h = ap (λ o. unwrap_or o y) h
at_marks (y ∷ marks) (suc n) x h = at_marks marks n x h

alike_all : (m m2 : Machine) (qs : List Registered) (marks : List (Option ℕ)) (ws : List (List (ℕ × Row))) → length marks ≡ length qs → length ws ≡ length qs
    → ((n : ℕ) (q : Registered) → slice_get qs n ≡ Some q → AlikeQuery m m2 q (restart q (get_or marks n None) (get_or ws n []))) → AreAlike m m2 qs (all_restarted qs marks ws)
alike_all m m2 [] marks ws h k f = tt
alike_all m m2 (q ∷ qs) [] ws h k f = absurd (omega (arith, h))
alike_all m m2 (q ∷ qs) (x ∷ marks) [] h k f = absurd (omega (arith, k))
alike_all m m2 (q ∷ qs) (x ∷ marks) (w ∷ ws) h k f = (f 0 q refl, alike_all m m2 qs marks ws (omega (arith, h)) (omega (arith, k)) (λ n r e. f (suc n) r e))

partly_all : (m m2 : Machine) (qs : List Registered) (marks : List (Option ℕ)) (ws : List (List (ℕ × Row))) → length marks ≡ length qs → length ws ≡ length qs
    → ((n : ℕ) (q : Registered) → slice_get qs n ≡ Some q → has_mark marks n ≡ true → AlikeQuery m m2 q (restart q (get_or marks n None) (get_or ws n []))) → ArePartlyAlike (has_mark marks) m m2 qs (all_restarted qs marks ws)
partly_all m m2 [] marks ws h k f = tt
partly_all m m2 (q ∷ qs) [] ws h k f = absurd (omega (arith, h))
partly_all m m2 (q ∷ qs) (x ∷ marks) [] h k f = absurd (omega (arith, k))
partly_all m m2 (q ∷ qs) (x ∷ marks) (w ∷ ws) h k f = (record { bare = refl; alike = λ p. f 0 q refl p }, partly_all m m2 qs marks ws (omega (arith, h)) (omega (arith, k)) (λ n r e p. f (suc n) r e p))

is_within : (qs : List Registered) (n : ℕ) (q : Registered) → slice_get qs n ≡ Some q → n < length qs
is_within [] n q h = absurd (cc)
is_within (p ∷ qs) zero q h = omega arith
is_within (p ∷ qs) (suc n) q h = omega (arith, is_within qs n q h)

mark_of : (marks : List (Option ℕ)) (n : ℕ) → n < length marks → has_mark marks n ≡ true → (next : ℕ) × (slice_get marks n ≡ Some (Some next))
mark_of [] n l p = absurd (omega (arith, l))
mark_of (None ∷ marks) zero l p = absurd (true≢false (sym p))
mark_of (Some x ∷ marks) zero l p = (x, refl)
mark_of (y ∷ marks) (suc n) l p = mark_of marks n (omega (arith, l)) p

-- THE OPENING
module _ (m : Machine) (marks : List (Option ℕ)) (waiting : List (List (ℕ × Row))) where
  -- a query with a mark
  marked_alike : (n next : ℕ) (q : Registered) → slice_get m.queries n ≡ Some q → slice_get marks n ≡ Some (Some next) → IsMark m q next (get_or waiting n []) → AlikeQuery m (opening m marks waiting) q (restart q (get_or marks n None) (get_or waiting n []))
  marked_alike n next q r k mark =
      let keep : ℕ → Element → Bool = needs_by m.streams m.queries marks in
      subst (λ x. AlikeQuery m (opening m marks waiting) q (restart q x (get_or waiting n []))) (sym (at_marks marks n (Some next) k))
      (opening_alike m q (all_restarted m.queries marks waiting) keep next (get_or waiting n []) mark
      (have_needed m.streams q next keep q.meaning.windows q.places (λ s e i. needs_by_there m.streams m.queries marks n q next s e r k i)))

  -- or that was dropped
  dropped_alike : (n : ℕ) (q : Registered) → q.is_dropped ≡ true → AlikeQuery m (opening m marks waiting) q (restart q (get_or marks n None) (get_or waiting n []))
  dropped_alike n q d = record { bare = refl; counts = refl; answers = λ e more o until l. absurd (true≢false (sym d ∙ e)) }

  -- each of them has one
  module _ (opens : MayOpen m marks waiting) where
    one_alike : (n : ℕ) (q : Registered) → slice_get m.queries n ≡ Some q → (b : Bool) → q.is_dropped ≡ b → AlikeQuery m (opening m marks waiting) q (restart q (get_or marks n None) (get_or waiting n []))
    one_alike n q r true d = dropped_alike n q d
    one_alike n q r false d = let mark = opens.each n q r d in marked_alike n mark.0 q r mark.1.0 mark.1.1

    pub opened_alike : AlikeMachines m (opening m marks waiting)
    opened_alike = record {
      streams = bare_kept (needs_by m.streams m.queries marks) 0 m.streams opens.numbered;
      queries = alike_all m (opening m marks waiting) m.queries marks waiting opens.marked opens.listed (λ n q r. one_alike n q r q.is_dropped refl);
    }

  -- some have one
  module _ (opens : MayOpenMarked m marks waiting) where
    one_partly : (n : ℕ) (q : Registered) → slice_get m.queries n ≡ Some q → has_mark marks n ≡ true → (b : Bool) → q.is_dropped ≡ b → AlikeQuery m (opening m marks waiting) q (restart q (get_or marks n None) (get_or waiting n []))
    one_partly n q r p true d = dropped_alike n q d
    one_partly n q r p false d =
        let mark = mark_of marks n (omega (arith, opens.marked, is_within m.queries n q r)) p in
        marked_alike n mark.0 q r mark.1 (opens.each n mark.0 q r d mark.1)

    pub opened_partly : PartlyAlike (has_mark marks) m (opening m marks waiting)
    opened_partly = record {
      streams = bare_kept (needs_by m.streams m.queries marks) 0 m.streams opens.numbered;
      queries = partly_all m (opening m marks waiting) m.queries marks waiting opens.marked opens.listed (λ n q r p. one_partly n q r p q.is_dropped refl);
    }
