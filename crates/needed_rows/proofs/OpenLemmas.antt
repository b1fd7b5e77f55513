-- What is open changes nothing of what is needed, and is needed where it is in an input.
use Rattle.std.proofs.Common.{◌≡◌, ℕ, zero, suc, ◌+◌, ◌-◌, ◌<◌, ◌≤◌, ◌==◌, Bool, true, false, cond, max, ◌&&◌, ◌||◌, nat_le, nat_lt, Option, Some, None, List, [], ◌∷◌, ◌++◌, map, filter, slice_get, refl, ap, ap₂, sym, ◌∙◌, arith, le-leb, leb-true, eqb-true, ⊎_elim}
use Rattle.std.specs.List.{list_any}
use Rattle.std.specs.Option.{option_map_or}
use Rattle.std.proofs.lemmas.Bool.{cases_lt, lt-leb}
use Rattle.std.proofs.lemmas.Bool.Decides.{nat_tests}
use Rattle.values.specs.Window.{Element, Window, Instants, LastRows, counts, count_later, input_of, is_later, same_in}
use Rattle.values.specs.Needs.{is_needed, still_shows}
use Rattle.values.proofs.Windows.{tally, tally-append, tally_is}
use Rattle.reference.specs.Machine.{Place, Registered, Stream, input_at}
use Rattle.reference.specs.Opening.{needs, needs_by}
use Rattle.stream_store.specs.Closing.{by_instant, by_key, closed_of}
use Rattle.needed_rows.specs.Needed.{PlainReader, is_in_input, is_needed_by, is_needed_by_some}
use Rattle.needed_rows.specs.Queries.{AreCaughtUp, ReadersSay, reader_at, readers_of, readers_over}

-- COUNTS over the closed elements
tally_filter : (q p : Element → Bool) (es : List Element) → tally q (filter p es) ≡ tally (λ e. p e && q e) es
tally_filter q p [] = refl
tally_filter q p (e ∷ es) = here (p e) (tally_filter q p es)
  where
    here : (b : Bool) → tally q (filter p es) ≡ tally (λ e. p e && q e) es → tally q (cond b (e ∷ filter p es) (filter p es)) ≡ cond (b && q e) (suc (tally (λ e. p e && q e) es)) (tally (λ e. p e && q e) es)
    here true i = ap (λ n. cond (q e) (suc n) n) i
    here false i = i

tally_alike : (p q : Element → Bool) (es : List Element) → ((e : Element) → p e ≡ q e) → tally p es ≡ tally q es
tally_alike p q [] h = refl
tally_alike p q (e ∷ es) h = ap₂ (λ (b : Bool) (n : ℕ). cond b (suc n) n) (h e) (tally_alike p q es h)

-- one of so many numbers from a on
abbrev is_within : ℕ → ℕ → ℕ → Bool
is_within a n k = nat_le a k && nat_lt k (a + n)

abbrev bit : Bool → ℕ
bit true = 1
bit false = 0

suc_bit : (b : Bool) (n : ℕ) → cond b (suc n) n ≡ bit b + n
suc_bit true n = omega arith
suc_bit false n = omega arith

-- the first of them, or one of the others
parts : (k a n : ℕ) (b : Bool) → bit ((k == a) && b) + bit (is_within (a + 1) n k && b) ≡ bit (is_within a (suc n) k && b)
parts k a n b =
    ⊎_elim
    (λ (lt : k < a). outside (below lt) (behind lt) (wide lt))
    (λ (ge : a ≤ k). ⊎_elim
    (λ (up : a < k). step (apart up) (same_within up))
    (λ (le : k ≤ a). let e : k ≡ a = omega arith in first_of_all e)
    (cases_lt a k))
    (cases_lt k a)
  where
    below : k < a → (k == a) ≡ false
    below lt = grind (arith, nat_tests)

    behind : k < a → is_within (a + 1) n k ≡ false
    behind lt = grind (arith, nat_tests)

    wide : k < a → is_within a (suc n) k ≡ false
    wide lt = grind (arith, nat_tests)

    apart : a < k → (k == a) ≡ false
    apart up = grind (arith, nat_tests)

    same_within : a < k → is_within a (suc n) k ≡ is_within (a + 1) n k
    same_within up = grind (arith, nat_tests)

    here : k ≡ a → (k == a) ≡ true
    here e = grind (arith, nat_tests)

    not_behind : k ≡ a → is_within (a + 1) n k ≡ false
    not_behind e = grind (arith, nat_tests)

    is_first : k ≡ a → is_within a (suc n) k ≡ true
    is_first e = grind (arith, nat_tests)

    outside : (k == a) ≡ false → is_within (a + 1) n k ≡ false → is_within a (suc n) k ≡ false → bit ((k == a) && b) + bit (is_within (a + 1) n k && b) ≡ bit (is_within a (suc n) k && b)
    outside x y z = rw (x, y, z) (omega arith)

    step : (k == a) ≡ false → is_within a (suc n) k ≡ is_within (a + 1) n k → bit ((k == a) && b) + bit (is_within (a + 1) n k && b) ≡ bit (is_within a (suc n) k && b)
    step x y = rw (x, y) (omega arith)

    first_of_all : k ≡ a → bit ((k == a) && b) + bit (is_within (a + 1) n k && b) ≡ bit (is_within a (suc n) k && b)
    first_of_all e = rw (here e, not_behind e, is_first e) (omega arith)

tally_parts : (p : Element → Bool) (f : Element → ℕ) (a n : ℕ) (es : List Element)
    → tally (λ e. (f e == a) && p e) es + tally (λ e. is_within (a + 1) n (f e) && p e) es ≡ tally (λ e. is_within a (suc n) (f e) && p e) es
tally_parts p f a n [] = omega arith
tally_parts p f a n (e ∷ es) =
    let i : tally (λ e. (f e == a) && p e) es + tally (λ e. is_within (a + 1) n (f e) && p e) es ≡ tally (λ e. is_within a (suc n) (f e) && p e) es = tally_parts p f a n es in
    let x = suc_bit ((f e == a) && p e) (tally (λ e. (f e == a) && p e) es) in
    let y = suc_bit (is_within (a + 1) n (f e) && p e) (tally (λ e. is_within (a + 1) n (f e) && p e) es) in
    let z = suc_bit (is_within a (suc n) (f e) && p e) (tally (λ e. is_within a (suc n) (f e) && p e) es) in
    let w = parts (f e) a n (p e) in
    omega (arith, x, y, z, w, i)

tally_never : (es : List Element) → tally (λ e. false) es ≡ 0
tally_never [] = refl
tally_never (e ∷ es) = tally_never es

tally_by_key : (p : Element → Bool) (f : Element → ℕ) (a n : ℕ) (es : List Element) → tally p (by_key f a n es) ≡ tally (λ e. is_within a n (f e) && p e) es
tally_by_key p f a zero es = sym (tally_alike (λ e. is_within a zero (f e) && p e) (λ e. false) es (λ e. ap (λ b. b && p e) (none (f e))) ∙ tally_never es)
  where
    none : (k : ℕ) → is_within a zero k ≡ false
    none k = grind (arith, nat_tests)
tally_by_key p f a (suc n) es =
    tally-append p (filter (λ e. f e == a) es) (by_key f (a + 1) n es)
    ∙ ap₂ (λ (x y : ℕ). x + y) (tally_filter p (λ e. f e == a) es) (tally_by_key p f (a + 1) n es)
    ∙ tally_parts p f a n es

-- what counts at an instant below the first open one is closed
module _ (place first next until : ℕ) (columns : List ℕ) (e : Element) (some : 0 < next) (le : next ≤ until) where
  abbrev test : Element → Bool
  test f = (nat_le place f.arrival && nat_le first f.instant) && counts columns (next - 1) e f

  all_closed : (f : Element) → (is_within 0 (until - 0) f.instant && test f) ≡ test f
  all_closed f = here (nat_le f.instant (next - 1)) refl
    where
      inside : nat_le f.instant (next - 1) ≡ true → is_within 0 (until - 0) f.instant ≡ true
      inside t = let l : f.instant ≤ next - 1 = leb-true f.instant (next - 1) t in grind (arith, nat_tests)

      none : (w i c : Bool) → (w && (i && (false && c))) ≡ (i && (false && c))
      none true i c = refl
      none false true c = refl
      none false false c = refl

      here : (b : Bool) → nat_le f.instant (next - 1) ≡ b → (is_within 0 (until - 0) f.instant && test f) ≡ test f
      here true t = ap (λ b. b && test f) (inside t)
      here false t =
          ap (λ b. is_within 0 (until - 0) f.instant && ((nat_le place f.arrival && nat_le first f.instant) && (b && (is_later e f && same_in columns e.row f.row)))) t
          ∙ none (is_within 0 (until - 0) f.instant) (nat_le place f.arrival && nat_le first f.instant) (is_later e f && same_in columns e.row f.row)
          ∙ sym (ap (λ b. (nat_le place f.arrival && nat_le first f.instant) && (b && (is_later e f && same_in columns e.row f.row))) t)

  pub counts_closed : (es : List Element) → count_later columns (next - 1) (input_of place first es) e ≡ count_later columns (next - 1) (input_of place first (by_instant 0 until es)) e
  counts_closed es =
      let q : Element → Bool = counts columns (next - 1) e in
      let inp : Element → Bool = λ f. nat_le place f.arrival && nat_le first f.instant in
      sym (tally_is q (input_of place first es)) ∙ tally_filter q inp es
      ∙ sym (tally_alike (λ f. is_within 0 (until - 0) f.instant && test f) test es all_closed)
      ∙ sym (tally_by_key test (λ f. f.instant) 0 (until - 0) es)
      ∙ sym (tally_filter q inp (by_instant 0 until es))
      ∙ tally_is q (input_of place first (by_instant 0 until es))

-- ONE READER
not_in : (p f x y : Bool) → f ≡ false → ((p && f) && x) ≡ ((p && f) && y)
not_in p f x y h = ap (λ b. (p && b) && x) h ∙ none p ∙ sym (ap (λ b. (p && b) && y) h)
  where
    none : (p : Bool) → ((p && false) && x) ≡ ((p && false) && y)
    none true = refl
    none false = refl

needs_closed : (place first next until : ℕ) (w : Window) (es : List Element) (e : Element) → next ≤ max first until
    → is_needed_by es (record { place = place; first = first; next = next; window = w }) e ≡ is_needed_by (by_instant 0 until es) (record { place = place; first = first; next = next; window = w }) e
needs_closed place first next until (Instants r) es e h = refl
needs_closed place first next until (LastRows columns n) es e h =
    ⊎_elim
    (λ (lt : e.instant < next). ⊎_elim
    (λ (up : until < next).
    not_in (nat_le place e.arrival) (nat_le first e.instant) (is_needed first (LastRows columns n) next (input_of place first es) e) (is_needed first (LastRows columns n) next (input_of place first (by_instant 0 until es)) e)
    (lt-leb first e.instant (omega arith)))
    (λ (le : next ≤ until).
    ap (λ k. (nat_le place e.arrival && nat_le first e.instant) && (nat_le next e.instant || (nat_le e.instant (next - 1) && nat_lt k n))) (counts_closed place first next until columns e (omega arith) le es))
    (cases_lt until next))
    (λ (ge : next ≤ e.instant).
    let t : nat_le next e.instant ≡ true = le-leb next e.instant ge in
    ap (λ b. (nat_le place e.arrival && nat_le first e.instant) && (b || (nat_le e.instant (next - 1) && nat_lt (count_later columns (next - 1) (input_of place first es) e) n))) t
    ∙ sym (ap (λ b. (nat_le place e.arrival && nat_le first e.instant) && (b || (nat_le e.instant (next - 1) && nat_lt (count_later columns (next - 1) (input_of place first (by_instant 0 until es)) e) n))) t))
    (cases_lt e.instant next)

-- above the mark all that is in the input is needed
needs_open : (es : List Element) (r : PlainReader) (until : ℕ) (e : Element) → r.next ≤ max r.first until → until ≤ e.instant → is_needed_by es r e ≡ is_in_input r e
needs_open es r until e h u =
    ⊎_elim
    (λ (lt : e.instant < r.first). not_needed (nat_le r.place e.arrival) (nat_le r.first e.instant) (is_needed r.first r.window r.next (input_of r.place r.first es) e) (lt-leb r.first e.instant lt))
    (λ (ge : r.first ≤ e.instant).
    ap (λ b. is_in_input r e && (b || still_shows r.first r.window (r.next - 1) (input_of r.place r.first es) e)) (le-leb r.next e.instant (omega arith)) ∙ and_true (is_in_input r e))
    (cases_lt e.instant r.first)
  where
    and_true : (b : Bool) → (b && true) ≡ b
    and_true true = refl
    and_true false = refl

    not_needed : (p f x : Bool) → f ≡ false → ((p && f) && x) ≡ (p && f)
    not_needed p f x g = ap (λ b. (p && b) && x) g ∙ none p ∙ sym (ap (λ b. p && b) g)
      where
        none : (p : Bool) → ((p && false) && x) ≡ (p && false)
        none true = refl
        none false = refl

-- ALL READERS
any_same : (f g : PlainReader → Bool) (until : ℕ) (rs : List PlainReader) → AreCaughtUp until rs → ((r : PlainReader) → r.next ≤ max r.first until → f r ≡ g r) → list_any f rs ≡ list_any g rs
any_same f g until [] c h = refl
any_same f g until (r ∷ rs) c h = ap₂ (λ a b. a || b) (h r c.0) (any_same f g until rs c.1 h)

any_append : (f : PlainReader → Bool) (rs qs : List PlainReader) → list_any f (rs ++ qs) ≡ (list_any f rs || list_any f qs)
any_append f [] qs = refl
any_append f (r ∷ rs) qs = ap (λ b. f r || b) (any_append f rs qs) ∙ assoc (f r)
  where
    assoc : (a : Bool) → (a || (list_any f rs || list_any f qs)) ≡ ((a || list_any f rs) || list_any f qs)
    assoc true = refl
    assoc false = refl

-- THE QUERIES
module _ (streams : List Stream) (n : ℕ) (s : Stream) (at : slice_get streams n ≡ Some s) where
  input_is : (first : ℕ) (p : Place) → (p.stream == n) ≡ true → input_at streams first p ≡ input_of p.arrivals first s.elements
  input_is first p t =
      ap (λ k. option_map_or (λ (s : Stream). input_of p.arrivals first s.elements) (slice_get streams k) []) (eqb-true p.stream n t)
      ∙ ap (λ o. option_map_or (λ (s : Stream). input_of p.arrivals first s.elements) o []) at

  needs_is : (q : Registered) (next : ℕ) (ws : List Window) (ps : List Place) (e : Element) → needs streams q next n ws ps e ≡ is_needed_by_some s.elements (readers_of n q next ws ps) e
  needs_is q next [] ps e = refl
  needs_is q next (w ∷ ws) [] e = refl
  needs_is q next (w ∷ ws) (p ∷ ps) e = here (p.stream == n) refl (needs_is q next ws ps e)
    where
      here : (b : Bool) → (p.stream == n) ≡ b → needs streams q next n ws ps e ≡ is_needed_by_some s.elements (readers_of n q next ws ps) e
          → ((p.stream == n) && ((nat_le p.arrivals e.arrival && nat_le q.first e.instant) && is_needed q.first w next (input_at streams q.first p) e) || needs streams q next n ws ps e)
          ≡ is_needed_by_some s.elements (cond (p.stream == n) (reader_at q next w p ∷ readers_of n q next ws ps) (readers_of n q next ws ps)) e
      here true t i =
          ap (λ b. b && ((nat_le p.arrivals e.arrival && nat_le q.first e.instant) && is_needed q.first w next (input_at streams q.first p) e) || needs streams q next n ws ps e) t
          ∙ ap (λ es. (nat_le p.arrivals e.arrival && nat_le q.first e.instant) && is_needed q.first w next es e || needs streams q next n ws ps e) (input_is q.first p t)
          ∙ ap (λ b. is_needed_by s.elements (reader_at q next w p) e || b) i
          ∙ sym (ap (λ b. is_needed_by_some s.elements (cond b (reader_at q next w p ∷ readers_of n q next ws ps) (readers_of n q next ws ps)) e) t)
      here false t i =
          ap (λ b. b && ((nat_le p.arrivals e.arrival && nat_le q.first e.instant) && is_needed q.first w next (input_at streams q.first p) e) || needs streams q next n ws ps e) t
          ∙ i
          ∙ sym (ap (λ b. is_needed_by_some s.elements (cond b (reader_at q next w p ∷ readers_of n q next ws ps) (readers_of n q next ws ps)) e) t)

  pub needs_by_is : (queries : List Registered) (marks : List (Option ℕ)) (e : Element) → needs_by streams queries marks n e ≡ is_needed_by_some s.elements (readers_over n queries marks) e
  needs_by_is [] marks e = refl
  needs_by_is (q ∷ qs) [] e = refl
  needs_by_is (q ∷ qs) (None ∷ marks) e = needs_by_is qs marks e
  needs_by_is (q ∷ qs) (Some next ∷ marks) e =
      ap₂ (λ a b. a || b) (needs_is q next q.meaning.windows q.places e) (needs_by_is qs marks e)
      ∙ sym (any_append (λ r. is_needed_by s.elements r e) (readers_of n q next q.meaning.windows q.places) (readers_over n qs marks))

  map_same : (f g : Element → Bool) → ((e : Element) → f e ≡ g e) → (es : List Element) → map f es ≡ map g es
  map_same f g h [] = refl
  map_same f g h (e ∷ es) = ap₂ (λ (a : Bool) (b : List Bool). a ∷ b) (h e) (map_same f g h es)

  pub readers_say : (queries : List Registered) (marks : List (Option ℕ)) → AreCaughtUp s.first_open (readers_over n queries marks) → ReadersSay streams queries marks n s
  readers_say queries marks c = record {
    closed = map_same (needs_by streams queries marks n) (is_needed_by_some (closed_of s).elements (readers_over n queries marks))
        (λ e. needs_by_is queries marks e
        ∙ any_same (λ r. is_needed_by s.elements r e) (λ r. is_needed_by (closed_of s).elements r e) s.first_open (readers_over n queries marks) c
        (λ r h. needs_closed r.place r.first r.next s.first_open r.window s.elements e h))
        (closed_of s).elements;
    opened = λ e u. needs_by_is queries marks e
        ∙ any_same (λ r. is_needed_by s.elements r e) (λ r. is_in_input r e) s.first_open (readers_over n queries marks) c (λ r h. needs_open s.elements r s.first_open e h u);
  }
