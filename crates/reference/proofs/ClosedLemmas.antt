-- The answers of closed instants, which only grow as streams stand later.
use Rattle.std.proofs.Common.{◌≡◌, ℕ, ℤ, pos, negsuc, zero, suc, nat_abs, ◌+◌, ◌-◌, ◌≤◌, ◌==◌, ◌||◌, ◌++◌, fold, min, nat_lt, int_lt, int_le, ◌+ℤ◌, not, Bool, true, false, cond, ⊎_elim, Option, Some, None, unwrap_or, List, [], ◌∷◌, length, map, filter, refl, sym, ap, ap₂, ◌∙◌, arith, append_assoc}
use Rattle.std.specs.Prelude.{slice_get, ◌&&◌, nat_le}
use Rattle.std.specs.List.{AllByRecursion, flat_map, list_all, list_any, range_with_len, reduce}
use Rattle.std.specs.Option.{option_map_or}
use Rattle.std.proofs.lemmas.Bool.{cases_lt, ltb-false}
use Rattle.std.proofs.lemmas.Grind.{flat_map-append}
use Rattle.std.proofs.lemmas.List.{append-nil}
use Rattle.std.proofs.lemmas.List.Elements.{filter-append}
use Rattle.values.specs.Row.{Row}
use Rattle.values.specs.Window.{Element, input_of}
use Rattle.values.specs.Answers.{Resolved, answers, answers_at}
use Rattle.values.proofs.Closed.{AllFrom, Longer, shown-longer}
use Rattle.values.proofs.Worlds.{range_split, same_over}
use Rattle.names.specs.Faults.{first_of}
use Rattle.reference.specs.declared.fault.Fault.{Fault}
use Rattle.reference.specs.declared.fault.Fault.TheVariants.{BadWidth, TooMany, ValueRange, InstantRange, Late, Backward, Leap, StreamFull}
use Rattle.reference.specs.declared.limits.TheConstants.{MAX_APPENDED, MAX_LEAP, MAX_STREAM_ROWS}
use Rattle.reference.specs.Commands.{append_tests, appended, change, closed_to, elements_from, heartbeat_tests, is_instant, is_stream_value, of_stream}
use Rattle.reference.specs.Machine.{Machine, Place, Registered, Stream, answers_from, closed_answers, input_at, until_for}
use Rattle.reference.specs.Places.{machine_of}
use Rattle.reference.proofs.StreamLemmas.{none_first, none_later}

-- THE DEFINITION: of a query that has no earlier answers, and starts where its first instant is, the closed answers are those of CQL
pub closed_are_answers : (m : Machine) (q : Registered) → q.earlier ≡ [] → q.start ≡ q.first
    → closed_answers m q ≡ answers q.meaning q.first (until_for m.streams q.places) (map (input_at m.streams q.first) q.places)
closed_are_answers m q none begins =
    ap₂ (λ (es : List (ℕ × Row)) (start : ℕ). es ++ answers_from q.meaning q.first start (until_for m.streams q.places) (map (input_at m.streams q.first) q.places)) none begins

-- ANSWERS from an instant on
pub answers_closed : (q : Resolved) (from start until : ℕ) (is js : List (List Element)) → Longer until is js → answers_from q from start until is ≡ answers_from q from start until js
answers_closed q from start until is js h = ⊎_elim
    (λ early. let none : until - start ≡ 0 = omega (arith, early) in
    ap (λ k. flat_map (answers_at q from is) (range_with_len start k)) none ∙ sym (ap (λ k. flat_map (answers_at q from js) (range_with_len start k)) none))
    (λ late. same_over q from is js start (until - start) (λ u lt le. shown-longer from until u (omega (arith, lt, late)) q.windows is js h))
    (cases_lt until start)

pub answers_more : (q : Resolved) (from start u v : ℕ) (is : List (List Element)) → u ≤ v → (more : List (ℕ × Row)) × (answers_from q from start v is ≡ answers_from q from start u is ++ more)
answers_more q from start u v is k = ⊎_elim
    (λ early. let none : u - start ≡ 0 = omega (arith, early) in
    (answers_from q from start v is, ap (λ z. flat_map (answers_at q from is) (range_with_len start z) ++ answers_from q from start v is) (sym none)))
    (λ late. let e : v - start ≡ (u - start) + (v - u) = omega (arith, late, k) in (
      flat_map (answers_at q from is) (range_with_len (start + (u - start)) (v - u)),
      ap (λ z. flat_map (answers_at q from is) (range_with_len start z)) e
          ∙ ap (flat_map (answers_at q from is)) (range_split q from is is start (u - start) (v - u))
          ∙ flat_map-append (answers_at q from is) (range_with_len start (u - start)) (range_with_len (start + (u - start)) (v - u)),
    ))
    (cases_lt u start)

-- THE LEAST of the open instants
fold_least : (x : ℕ) (f : Place → ℕ) (ps : List Place) → (fold min x (map f ps) ≤ x) × AllByRecursion (λ p. fold min x (map f ps) ≤ f p) ps
fold_least x f [] = (omega arith, tt)
fold_least x f (p ∷ ps) = let r = fold_least (min x (f p)) f ps in (omega (arith, r.0), (omega (arith, r.0), r.1))

pub least_of_all : (f : Place → ℕ) (ps : List Place) → AllByRecursion (λ p. unwrap_or (reduce min (map f ps)) 0 ≤ f p) ps
least_of_all f [] = tt
least_of_all f (p ∷ ps) = fold_least (f p) f ps

fold_grows : (x y : ℕ) (f g : Place → ℕ) (ps : List Place) → x ≤ y → ((p : Place) → f p ≤ g p) → fold min x (map f ps) ≤ fold min y (map g ps)
fold_grows x y f g [] l h = l
fold_grows x y f g (p ∷ ps) l h = fold_grows (min x (f p)) (min y (g p)) f g ps (omega (arith, l, h p)) h

pub least_grows : (f g : Place → ℕ) (ps : List Place) → ((p : Place) → f p ≤ g p) → unwrap_or (reduce min (map f ps)) 0 ≤ unwrap_or (reduce min (map g ps)) 0
least_grows f g [] h = omega arith
least_grows f g (p ∷ ps) h = fold_grows (f p) (g p) f g ps (h p) h

-- STREAMS THAT STAND LATER: no instant is open again, and what came since is of instants that were open
abbrev pub IsLater : Option Stream → Option Stream → Type 0
IsLater None t = Unit {0}
IsLater (Some s) None = ⊥
IsLater (Some s) (Some t) = (s.first_open ≤ t.first_open) × ((more : List Element) × ((t.elements ≡ s.elements ++ more) × AllFrom s.first_open more))

pub record AreLater (ss ts : List Stream) : Type 0 where
  pub at : (n : ℕ) → IsLater (slice_get ss n) (slice_get ts n)

abbrev open_of : Option Stream → ℕ
open_of o = option_map_or (λ s. s.first_open) o 0

opens_later : (o u : Option Stream) → IsLater o u → open_of o ≤ open_of u
opens_later None u h = omega arith
opens_later (Some s) None h = absurd h
opens_later (Some s) (Some t) h = h.0

all_from_none : (u : ℕ) (es : List Element) → u ≤ 0 → AllFrom u es
all_from_none u [] l = tt
all_from_none u (e ∷ es) l = (omega (arith, l), all_from_none u es l)

all_from_filter : (p : Element → Bool) (u v : ℕ) (es : List Element) → u ≤ v → AllFrom v es → AllFrom u (filter p es)
all_from_filter p u v [] l h = tt
all_from_filter p u v (e ∷ es) l h = here (p e) (all_from_filter p u v es l h.1)
  where
    here : (b : Bool) → AllFrom u (filter p es) → AllFrom u (cond b (e ∷ filter p es) (filter p es))
    here true r = (omega (arith, l, h.0), r)
    here false r = r

came_since : (place from u : ℕ) (o t : Option Stream) → IsLater o t → u ≤ open_of o
    → (more : List Element) × ((option_map_or (λ s. input_of place from s.elements) t [] ≡ option_map_or (λ s. input_of place from s.elements) o [] ++ more) × AllFrom u more)
came_since place from u None t h l = (option_map_or (λ s. input_of place from s.elements) t [], (refl, all_from_none u (option_map_or (λ s. input_of place from s.elements) t []) l))
came_since place from u (Some s) None h l = absurd h
came_since place from u (Some s) (Some t) h l =
    let counts : Element → Bool = λ e. nat_le place e.arrival && nat_le from e.instant in (
      filter counts h.1.0,
      (ap (filter counts) h.1.1.0 ∙ filter-append counts s.elements h.1.0, all_from_filter counts u s.first_open h.1.0 l h.1.1.1),
    )

module _ (ss ts : List Stream) (later : AreLater ss ts) where
  longer : (q : Registered) (u : ℕ) (ps : List Place) → AllByRecursion (λ p. u ≤ open_of (slice_get ss p.stream)) ps → Longer u (map (input_at ss q.first) ps) (map (input_at ts q.first) ps)
  longer q u [] h = tt
  longer q u (p ∷ ps) h =
      (came_since p.arrivals q.first u (slice_get ss p.stream) (slice_get ts p.stream) (later.at p.stream) h.0, longer q u ps h.1)

  -- the closed answers are the beginning of those that are closed later
  pub closed_grow : (q : Registered) → (more : List (ℕ × Row)) × (closed_answers (machine_of ts) q ≡ closed_answers (machine_of ss) q ++ more)
  closed_grow q =
      let u : ℕ = until_for ss q.places in
      let v : ℕ = until_for ts q.places in
      let is : List (List Element) = map (input_at ss q.first) q.places in
      let js : List (List Element) = map (input_at ts q.first) q.places in
      let opens : u ≤ v = least_grows (λ p. open_of (slice_get ss p.stream)) (λ p. open_of (slice_get ts p.stream)) q.places (λ p. opens_later (slice_get ss p.stream) (slice_get ts p.stream) (later.at p.stream)) in
      let same = answers_closed q.meaning q.first q.start u is js (longer q u q.places (least_of_all (λ p. open_of (slice_get ss p.stream)) q.places)) in
      let more = answers_more q.meaning q.first q.start u v js opens in
      (more.0, ap (λ l. q.earlier ++ l) (more.1 ∙ ap (λ l. l ++ more.0) (sym same)) ∙ sym (append_assoc q.earlier (answers_from q.meaning q.first q.start u is) more.0))

-- ONE STREAM MORE
itself_later : (s : Stream) → IsLater (Some s) (Some s)
itself_later s = (omega arith, ([], (sym (append-nil s.elements), tt)))

pushed_at : (ss : List Stream) (t : Stream) (n : ℕ) → IsLater (slice_get ss n) (slice_get (ss ++ t ∷ []) n)
pushed_at [] t n = tt
pushed_at (s ∷ ss) t zero = itself_later s
pushed_at (s ∷ ss) t (suc n) = pushed_at ss t n

pub pushed_later : (ss : List Stream) (t : Stream) → AreLater ss (ss ++ t ∷ [])
pushed_later ss t = record { at = pushed_at ss t }

-- ONE STREAM CHANGED
changed_at : (f : Stream → Stream) (ss : List Stream) (n k : ℕ) → ((s : Stream) → slice_get ss n ≡ Some s → IsLater (Some s) (Some (f s))) → IsLater (slice_get ss k) (slice_get (change n f ss) k)
changed_at f [] n k h = tt
changed_at f (s ∷ ss) zero zero h = h s refl
changed_at f (s ∷ ss) zero (suc k) h = same_at (slice_get ss k)
  where
    same_at : (o : Option Stream) → IsLater o o
    same_at None = tt
    same_at (Some t) = itself_later t
changed_at f (s ∷ ss) (suc n) zero h = itself_later s
changed_at f (s ∷ ss) (suc n) (suc k) h = changed_at f ss n k h

not_late : (u : ℕ) (z : ℤ) → int_lt z (pos u) ≡ false → u ≤ nat_abs z
not_late u (pos m) g = ltb-false m u g
not_late u (negsuc m) g = cc

or_rest : (a b : Bool) → (a || b) ≡ false → (a ≡ false) × (b ≡ false)
or_rest true b h = absurd (cc)
or_rest false b h = (refl, h)

late_elements : (u n : ℕ) (rows : List (ℤ × List (Option ℤ))) → list_any (λ r. int_lt r.0 (pos u)) rows ≡ false → AllFrom u (elements_from n rows)
late_elements u n [] h = tt
late_elements u n (r ∷ rows) h =
    let both = or_rest (int_lt r.0 (pos u)) (list_any (λ r. int_lt r.0 (pos u)) rows) h in
    (not_late u r.0 both.0, late_elements u (suc n) rows both.1)

-- rows come at instants that are not closed
come_late : (s : Stream) (rows : List (ℤ × List (Option ℤ))) → first_of (append_tests s rows) ≡ None → AllFrom s.first_open (elements_from s.arrivals rows)
come_late s rows h =
    let many : Bool = nat_lt MAX_APPENDED (length rows) in
    let width : Bool = list_any (λ r. not (length r.1 == length s.columns)) rows in
    let value : Bool = list_any (λ r. not (list_all is_stream_value r.1)) rows in
    let instant : Bool = list_any (λ r. not (is_instant r.0)) rows in
    let late : Bool = list_any (λ r. int_lt r.0 (pos s.first_open)) rows in
    let full : Bool = nat_lt MAX_STREAM_ROWS (s.arrivals + length rows) in
    let t1 = none_later many TooMany ((width, BadWidth) ∷ (value, ValueRange) ∷ (instant, InstantRange) ∷ (late, Late) ∷ (full, StreamFull) ∷ []) h in
    let t2 = none_later width BadWidth ((value, ValueRange) ∷ (instant, InstantRange) ∷ (late, Late) ∷ (full, StreamFull) ∷ []) t1 in
    let t3 = none_later value ValueRange ((instant, InstantRange) ∷ (late, Late) ∷ (full, StreamFull) ∷ []) t2 in
    let t4 = none_later instant InstantRange ((late, Late) ∷ (full, StreamFull) ∷ []) t3 in
    late_elements s.first_open s.arrivals rows (none_first late Late ((full, StreamFull) ∷ []) t4)

come_to : (rows : List (ℤ × List (Option ℤ))) (o : Option Stream) → of_stream (λ s. append_tests s rows) o ≡ None → (s : Stream) → o ≡ Some s → IsLater (Some s) (Some (appended rows s))
come_to rows o h s is =
    (omega arith, (elements_from s.arrivals rows, (refl, come_late s rows (sym (ap (of_stream (λ s. append_tests s rows)) is) ∙ h))))

pub appended_later : (ss : List Stream) (n : ℕ) (rows : List (ℤ × List (Option ℤ))) → of_stream (λ s. append_tests s rows) (slice_get ss n) ≡ None → AreLater ss (change n (appended rows) ss)
appended_later ss n rows h = record { at = λ k. changed_at (appended rows) ss n k (come_to rows (slice_get ss n) h) }

-- a heartbeat opens no instant again
beats : (at : ℤ) (s : Stream) → first_of (heartbeat_tests s at) ≡ None → s.first_open ≤ suc (nat_abs at)
beats at s h =
    let leap : List (Bool × Fault) = (int_le (pos s.first_open +ℤ MAX_LEAP) at, Leap) ∷ [] in
    let rest = none_later (not (is_instant at)) InstantRange ((int_lt at (pos s.first_open), Backward) ∷ leap) h in
    let l : s.first_open ≤ nat_abs at = not_late s.first_open at (none_first (int_lt at (pos s.first_open)) Backward leap rest) in
    omega (arith, l)

closed_at : (at : ℤ) (o : Option Stream) → of_stream (λ s. heartbeat_tests s at) o ≡ None → (s : Stream) → o ≡ Some s → IsLater (Some s) (Some (closed_to at s))
closed_at at o h s is =
    (beats at s (sym (ap (of_stream (λ s. heartbeat_tests s at)) is) ∙ h), ([], (sym (append-nil s.elements), tt)))

pub closed_later : (ss : List Stream) (n : ℕ) (at : ℤ) → of_stream (λ s. heartbeat_tests s at) (slice_get ss n) ≡ None → AreLater ss (change n (closed_to at) ss)
closed_later ss n at h = record { at = λ k. changed_at (closed_to at) ss n k (closed_at at (slice_get ss n) h) }
