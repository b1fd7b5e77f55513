-- What a heartbeat is for a source of a query: its window's queue gains what is closed.
use Rattle.std.proofs.Common.{◌≡◌, ◌≢◌, ℕ, ℤ, zero, suc, nat_abs, ◌+◌, ◌-◌, ◌≤◌, ◌==◌, max, ◌⊎◌, ⊎_elim, Option, Some, None, List, [], ◌∷◌, ◌++◌, filter, flat_map, refl, sym, ap, ap₂, ◌∙◌, subst, arith, append-nil}
use Rattle.std.specs.List.{AllByRecursion, range_with_len}
use Rattle.std.specs.Prelude.{slice_get}
use Rattle.std.specs.Option.{option_map, option_map_or}
use Rattle.values.specs.Row.{Row}
use Rattle.values.specs.Perm.{Perm, same}
use Rattle.values.specs.Window.{Element, input_of}
use Rattle.op_queue.specs.Cursors.{GainsClosed}
use Rattle.op_queue.specs.Entries.{Entry, TickAt}
use Rattle.op_queue.specs.Logs.{Closed, cursor_entries, instant_entries, is_shown, row_entries, shown}
use Rattle.windows.specs.Laws.{IsRising}
use Rattle.operators.specs.Inboxes.{IsInboxWithin}
use Rattle.operators.specs.Ready.{entries_in}
use Rattle.operators.specs.declared.inboxes.Inbox.{Inbox}
use Rattle.operators.specs.declared.inboxes.Inbox.TheVariants.{First, Between}
use Rattle.plan.proofs.Lists.{each-append, each-filter}
use Rattle.reference.specs.Commands.{change, closed_to}
use Rattle.reference.specs.Machine.{Place, Stream, input_at}
use Rattle.stream_store.specs.Closing.{by_key, closed_of}
use Rattle.stream_store.specs.Gains.{QueuesGain, closing_of}
use Rattle.stream_store.specs.Stored.{IsByArrival}
use Rattle.laws_dataflow.specs.Windows.{AreBelow, Brings, opened}
use Rattle.laws_dataflow.proofs.BeatLemmas.{closed_at, closed_below, closed_rises, span_brings}
use Rattle.laws_queries.specs.Widths.{AreEntries, IsRow}
use Rattle.laws_queries.specs.Queries.{Reads, elements_at}
use Rattle.laws_queries.specs.Plain.{no_log, stream_log}
use Rattle.laws_queries.proofs.ClosingLemmas.{closing_parts, closing_rises}
use Rattle.laws_queries.proofs.FeedLemmas.{wide_append}

-- a source of a query that was registered at the place: what its stream has closed before and after, its input, and the stream's elements
pub record PlaceBeat (place first : ℕ) (old new : Closed) (input elements : List Element) : Type 0 where
  pub fresh : List Element
  pub more : List (Entry Row)
  pub brings : Brings (max first old.until) more fresh (max first new.until)
  pub rising : IsRising fresh
  pub below : AreBelow (max first new.until) fresh
  pub parted : Perm (opened (max first old.until) input) (fresh ++ opened (max first new.until) input)
  pub gains : (i : Inbox) → Reads place first old i → IsInboxWithin i old → (entries_in i new ≡ entries_in i old ++ more) × Reads place first new i × IsInboxWithin i new
  pub wide : (w : ℕ) → AllByRecursion (λ e. IsRow w e.row) elements → AreEntries w more

-- where nothing is closed
none_beat : (place first : ℕ) (log : Closed) (input elements : List Element) → PlaceBeat place first log log input elements
none_beat place first log input elements = record {
  fresh = [];
  more = [];
  brings = refl;
  rising = tt;
  below = tt;
  parted = same (opened (max first log.until) input);
  gains = λ i r h. (sym (append-nil (entries_in i log)), r, h);
  wide = λ w h. tt;
}

-- WIDTHS
each_listed : (P : Element → Type 0) (f : Element → ℕ) (a n : ℕ) (es : List Element) → AllByRecursion P es → AllByRecursion P (by_key f a n es)
each_listed P f a zero es h = tt
each_listed P f a (suc n) es h = each-append P (filter (λ e. f e == a) es) (by_key f (a + 1) n es) (each-filter P (λ e. f e == a) es h) (each_listed P f (a + 1) n es h)

rows_wide : (w t : ℕ) (es : List Element) → AllByRecursion (λ e. IsRow w e.row) es → AreEntries w (row_entries t es)
rows_wide w t [] h = tt
rows_wide w t (e ∷ es) h = (h.0, rows_wide w t es h.1)

span_wide : (w place : ℕ) (es : List Element) (a n : ℕ) → AllByRecursion (λ e. IsRow w e.row) es → AreEntries w (flat_map (instant_entries place es) (range_with_len a n))
span_wide w place es a zero h = tt
span_wide w place es a (suc n) h =
    wide_append w (instant_entries place es a) (flat_map (instant_entries place es) (range_with_len (a + 1) n))
    (wide_append w (row_entries a (shown place a es)) (TickAt a ∷ []) (rows_wide w a (shown place a es) (each-filter (λ e. IsRow w e.row) (is_shown place a) es h)) tt)
    (span_wide w place es (a + 1) n h)

-- WHERE INSTANTS ARE CLOSED
module _ (place first : ℕ) (s : Stream) (at : ℤ) (by : IsByArrival s.elements) (later : s.first_open ≤ suc (nat_abs at)) (g : GainsClosed (closed_of s) (closing_of at s) (suc (nat_abs at)) (closed_of (closed_to at s))) where
  closing_gains : (i : Inbox) → Reads place first (closed_of s) i → IsInboxWithin i (closed_of s)
      → (entries_in i (closed_of (closed_to at s)) ≡ entries_in i (closed_of s) ++ flat_map (instant_entries place (closing_of at s)) (range_with_len (max first s.first_open) (max first (suc (nat_abs at)) - max first s.first_open)))
      × Reads place first (closed_of (closed_to at s)) i × IsInboxWithin i (closed_of (closed_to at s))
  closing_gains (First c) r h =
      let n : suc (nat_abs at) - max first s.first_open ≡ max first (suc (nat_abs at)) - max first s.first_open = omega (arith, later) in
      let e : max c.at (suc (nat_abs at)) ≡ max first (suc (nat_abs at)) = omega (arith, later, r.1) in (
        g.gains c h
            ∙ ap₂ (λ p a. cursor_entries c (closed_of s) ++ flat_map (instant_entries p (closing_of at s)) (range_with_len a (suc (nat_abs at) - a))) r.0 r.1
            ∙ ap (λ k. cursor_entries c (closed_of s) ++ flat_map (instant_entries place (closing_of at s)) (range_with_len (max first s.first_open) k)) n,
        (r.0, e),
        g.within c h,
      )
  closing_gains (Between w) r h = absurd r

  closing_beat : PlaceBeat place first (closed_of s) (closed_of (closed_to at s)) (input_of place first s.elements) s.elements
  closing_beat =
      let until : ℕ = suc (nat_abs at) in
      let c : ℕ = max first s.first_open in
      let k : ℕ = max first until - c in
      let z : c + k ≡ max first until = omega (arith, later) in
      record {
        fresh = closed_at place (closing_of at s) c k;
        more = flat_map (instant_entries place (closing_of at s)) (range_with_len c k);
        brings = subst (Brings c (flat_map (instant_entries place (closing_of at s)) (range_with_len c k)) (closed_at place (closing_of at s) c k)) z (span_brings place (closing_of at s) c k);
        rising = closed_rises place (closing_of at s) (λ t. closing_rises place t s.first_open until s.elements by) c k;
        below = subst (λ i. AreBelow i (closed_at place (closing_of at s) c k)) z (closed_below place (closing_of at s) c k);
        parted = subst (λ i. Perm (opened c (input_of place first s.elements)) (closed_at place (closing_of at s) c k ++ opened i (input_of place first s.elements))) z
            (closing_parts place first c until s.first_open k s.elements (omega arith) (omega arith) (λ t a b. omega (arith, a, b, later)));
        gains = closing_gains;
        wide = λ w h. span_wide w place (closing_of at s) c k (each_listed (λ e. IsRow w e.row) (λ e. e.instant) s.first_open (until - s.first_open) s.elements h);
      }

-- A STREAM, if there is one
abbrev pub IsLaterIn : Option Stream → ℤ → Type 0
IsLaterIn None at = Unit {0}
IsLaterIn (Some s) at = s.first_open ≤ suc (nat_abs at)

stream_beat : (place first : ℕ) (at : ℤ) (o : Option Stream) → QueuesGain o at → IsLaterIn o at → IsByArrival (option_map_or (λ s. s.elements) o [])
    → PlaceBeat place first (option_map_or closed_of o no_log) (option_map_or closed_of (option_map (closed_to at) o) no_log) (option_map_or (λ s. input_of place first s.elements) o []) (option_map_or (λ s. s.elements) o [])
stream_beat place first at None g l b = none_beat place first no_log [] []
stream_beat place first at (Some s) g l b = closing_beat place first s at b l g

pub change_here : (f : Stream → Stream) (n : ℕ) (ss : List Stream) → slice_get (change n f ss) n ≡ option_map f (slice_get ss n)
change_here f n [] = refl
change_here f zero (s ∷ ss) = refl
change_here f (suc n) (s ∷ ss) = change_here f n ss

pub change_there : (f : Stream → Stream) (n i : ℕ) (ss : List Stream) → i ≢ n → slice_get (change n f ss) i ≡ slice_get ss i
change_there f n i [] ne = refl
change_there f zero zero (s ∷ ss) ne = absurd (ne refl)
change_there f zero (suc i) (s ∷ ss) ne = refl
change_there f (suc n) zero (s ∷ ss) ne = refl
change_there f (suc n) (suc i) (s ∷ ss) ne = change_there f n i ss (λ e. ne (ap suc e))

pub same_number : (a b : ℕ) → (a ≡ b) ⊎ (a ≢ b)
same_number a b = grind arith

-- A SOURCE, of whatever stream
pub place_beat : (streams : List Stream) (n : ℕ) (at : ℤ) → QueuesGain (slice_get streams n) at → IsLaterIn (slice_get streams n) at → ((i : ℕ) → IsByArrival (elements_at streams i)) → (first : ℕ) (p : Place)
    → PlaceBeat p.arrivals first (stream_log streams p.stream) (stream_log (change n (closed_to at) streams) p.stream) (input_at streams first p) (elements_at streams p.stream)
place_beat streams n at g l by first p =
    ⊎_elim
    (λ e.
    subst (λ i. PlaceBeat p.arrivals first (stream_log streams i) (stream_log (change n (closed_to at) streams) i) (option_map_or (λ s. input_of p.arrivals first s.elements) (slice_get streams i) []) (elements_at streams i)) (sym e)
    (subst (λ o. PlaceBeat p.arrivals first (stream_log streams n) (option_map_or closed_of o no_log) (option_map_or (λ s. input_of p.arrivals first s.elements) (slice_get streams n) []) (elements_at streams n)) (sym (change_here (closed_to at) n streams))
    (stream_beat p.arrivals first at (slice_get streams n) g l (by n))))
    (λ ne.
    subst (λ o. PlaceBeat p.arrivals first (stream_log streams p.stream) (option_map_or closed_of o no_log) (input_at streams first p) (elements_at streams p.stream)) (sym (change_there (closed_to at) n p.stream streams ne))
    (none_beat p.arrivals first (stream_log streams p.stream) (input_at streams first p) (elements_at streams p.stream)))
    (same_number p.stream n)
