-- What a window needs, by places.
use Rattle.std.proofs.Common.{◌≡◌, ℕ, ℤ, ◌+◌, ◌-◌, ◌<◌, ◌≤◌, Bool, true, false, max, ◌&&◌, ◌||◌, nat_le, nat_lt, Option, List, length, filter, get_or, refl, ap, sym, ◌∙◌, arith, le-leb, lt-ltb, le-ltb, leb-true, ⊎_elim}
use Rattle.std.proofs.lemmas.Bool.{cases_lt, lt-leb}
use Rattle.std.proofs.lemmas.Bool.Decides.{nat_tests}
use Rattle.values.specs.Moving as moving
use Rattle.values.specs.Moving.{has}
use Rattle.values.specs.Window.{Element, Window, Instants, LastRows, counts, count_later}
use Rattle.values.specs.declared.reach.NeededInstants.{NeededInstants}
use Rattle.values.specs.declared.reach.Reach.{Reach}
use Rattle.values.proofs.Windows.{tally_is}
use Rattle.op_queue.specs.Tables.{IsRising, element_at, elements_in}
use Rattle.needed_rows.specs.Keys.{are_alike}
use Rattle.needed_rows.specs.Marks.{Sets, count_places, has_arrived, is_among_last, is_between, is_from}
use Rattle.needed_rows.specs.Needed.{is_needed_by}
use Rattle.needed_rows.proofs.CountLemmas.{count_behind}
use Rattle.needed_rows.proofs.MarkLemmas.{same_bool, sets_both, sets_same}

either_unless : (p a d b c : Bool) → (a || d) ≡ (b && c) → ((p && a) || (p && d)) ≡ ((p && b) && c)
either_unless true a d b c h = h
either_unless false a d b c h = refl

module _ (instants numbers : List ℕ) (columns : List (List (Option ℤ))) (place first next i : ℕ) where
  abbrev es : List Element
  es = elements_in (length instants) instants numbers columns

  abbrev e : Element
  e = element_at instants numbers columns i

  pub reach_needs : (r : Reach) (n : NeededInstants) → ((t : ℕ) → has n t ≡ (nat_le first t && moving.needs first r next t))
      → is_needed_by es (record { place = place; first = first; next = next; window = Instants r }) e ≡ (is_from instants numbers place n.since i || is_between instants numbers place n.low n.high i)
  reach_needs r n h = sym (either_unless (has_arrived numbers place i) _ _ _ _ (h (get_or instants i 0)))

-- LAST ROWS
above_bool : (p f a k y : Bool) → ((p && f) || ((a && false) && (p && k))) ≡ ((p && f) && (true || y))
above_bool true true a k y = refl
above_bool true false true k y = refl
above_bool true false false k y = refl
above_bool false f true k y = refl
above_bool false f false k y = refl

below_bool : (p f k l : Bool) → (p ≡ true → f ≡ true → k ≡ l) → ((p && false) || ((f && true) && (p && k))) ≡ ((p && f) && (false || (true && l)))
below_bool true true k l h = h refl refl
below_bool true false k l h = refl
below_bool false true k l h = refl
below_bool false false k l h = refl

module _ (instants numbers : List ℕ) (columns : List (List (Option ℤ))) (place first next : ℕ) (chosen : List ℕ) (count start end : ℕ)
    (rising : IsRising instants 0 (length instants))
    (apart : (i j : ℕ) → i < j → j < length instants → get_or instants i 0 ≡ get_or instants j 0 → get_or numbers i 0 < get_or numbers j 0)
    (within : end ≤ length instants)
    (below : (i : ℕ) → i < end → get_or instants i 0 < next)
    (above : (i : ℕ) → end ≤ i → i < length instants → next ≤ get_or instants i 0)
    (before : (i : ℕ) → i < start → get_or instants i 0 < first)
    (behind : (i : ℕ) → start ≤ i → i < length instants → first ≤ get_or instants i 0)
    (i : ℕ) (here : i < length instants) where
  abbrev elements : List Element
  elements = elements_in (length instants) instants numbers columns

  abbrev at : Element
  at = element_at instants numbers columns i

  abbrev input : List Element
  input = filter (λ e. nat_le place e.arrival && nat_le first e.instant) elements

  abbrev K : Bool
  K = nat_lt (count_places (λ j. has_arrived numbers place j && are_alike chosen columns i j) (i + 1) (end - (i + 1))) count

  abbrev Shown : Bool
  Shown = nat_lt (count_later chosen (next - 1) input at) count

  starts : nat_le start i ≡ nat_le first (get_or instants i 0)
  starts = same_bool (nat_le start i) (nat_le first (get_or instants i 0))
      (λ t. le-leb first (get_or instants i 0) (behind i (leb-true start i t) here))
      (λ t. le-leb start i (⊎_elim (λ (lt : i < start). absurd (let k = before i lt in let m = leb-true first (get_or instants i 0) t in omega arith)) (λ (ge : start ≤ i). ge) (cases_lt i start)))

  later : next ≤ get_or instants i 0
      → (is_from instants numbers place (max first next) i || is_among_last (has_arrived numbers place) (are_alike chosen columns) count start end i)
      ≡ is_needed_by elements (record { place = place; first = first; next = next; window = LastRows chosen count }) at
  later h =
      let t : ℕ = get_or instants i 0 in
      let m : nat_le (max first next) t ≡ nat_le first t = max_of first next t h in
      let b : nat_lt i end ≡ false = le-ltb i end (⊎_elim (λ (lt : i < end). absurd (let k = below i lt in omega arith)) (λ (ge : end ≤ i). ge) (cases_lt i end)) in
      let n : nat_le next t ≡ true = le-leb next t h in
      ap (λ x. (has_arrived numbers place i && x) || ((nat_le start i && nat_lt i end) && (has_arrived numbers place i && K))) m
      ∙ ap (λ x. (has_arrived numbers place i && nat_le first t) || ((nat_le start i && x) && (has_arrived numbers place i && K))) b
      ∙ above_bool (has_arrived numbers place i) (nat_le first t) (nat_le start i) K (nat_le t (next - 1) && Shown)
      ∙ ap (λ x. (has_arrived numbers place i && nat_le first t) && (x || (nat_le t (next - 1) && Shown))) (sym n)
    where
      max_of : (a b t : ℕ) → b ≤ t → nat_le (max a b) t ≡ nat_le a t
      max_of a b t h = grind (arith, nat_tests)

  earlier : get_or instants i 0 < next
      → (is_from instants numbers place (max first next) i || is_among_last (has_arrived numbers place) (are_alike chosen columns) count start end i)
      ≡ is_needed_by elements (record { place = place; first = first; next = next; window = LastRows chosen count }) at
  earlier h =
      let t : ℕ = get_or instants i 0 in
      let m : nat_le (max first next) t ≡ false = lt-leb (max first next) t (omega arith) in
      let b : nat_lt i end ≡ true = lt-ltb i end (⊎_elim (λ (lt : i < end). lt) (λ (ge : end ≤ i). absurd (let k = above i ge here in omega arith)) (cases_lt i end)) in
      let n : nat_le next t ≡ false = lt-leb next t h in
      let l : nat_le t (next - 1) ≡ true = le-leb t (next - 1) (omega arith) in
      ap (λ x. (has_arrived numbers place i && x) || ((nat_le start i && nat_lt i end) && (has_arrived numbers place i && K))) m
      ∙ ap (λ x. (has_arrived numbers place i && false) || ((x && nat_lt i end) && (has_arrived numbers place i && K))) starts
      ∙ ap (λ x. (has_arrived numbers place i && false) || ((nat_le first t && x) && (has_arrived numbers place i && K))) b
      ∙ below_bool (has_arrived numbers place i) (nat_le first t) K Shown same
      ∙ ap (λ x. (has_arrived numbers place i && nat_le first t) && (false || (x && Shown))) (sym l)
      ∙ ap (λ x. (has_arrived numbers place i && nat_le first t) && (x || (nat_le t (next - 1) && Shown))) (sym n)
    where
      same : has_arrived numbers place i ≡ true → nat_le first (get_or instants i 0) ≡ true → K ≡ Shown
      same p f =
          let c = count_behind instants numbers columns place first next chosen end rising apart within below above i here h (leb-true first (get_or instants i 0) f) in
          ap (λ x. nat_lt x count) (sym c ∙ tally_is (counts chosen (next - 1) at) input)

  pub last_needs : is_needed_by elements (record { place = place; first = first; next = next; window = LastRows chosen count }) at
      ≡ (is_from instants numbers place (max first next) i || is_among_last (has_arrived numbers place) (are_alike chosen columns) count start end i)
  last_needs = sym (⊎_elim (λ (lt : get_or instants i 0 < next). earlier lt) (λ (ge : next ≤ get_or instants i 0). later ge) (cases_lt (get_or instants i 0) next))

-- WHAT IS MARKED is what is needed
module _ (instants numbers : List ℕ) (columns : List (List (Option ℤ))) (place first next : ℕ) (old : List Bool) where
  abbrev Whole : List Element
  Whole = elements_in (length instants) instants numbers columns

  abbrev needs : Window → ℕ → Bool
  needs w i = is_needed_by Whole (record { place = place; first = first; next = next; window = w }) (element_at instants numbers columns i)

  pub reach_needed : (r : Reach) (n : NeededInstants) (mid new : List Bool) → ((t : ℕ) → has n t ≡ (nat_le first t && moving.needs first r next t))
      → Sets (is_from instants numbers place n.since) old mid → Sets (is_between instants numbers place n.low n.high) mid new → Sets (needs (Instants r)) old new
  reach_needed r n mid new h s t =
      sets_same (λ i. is_from instants numbers place n.since i || is_between instants numbers place n.low n.high i) (needs (Instants r)) old new
      (sets_both (is_from instants numbers place n.since) (is_between instants numbers place n.low n.high) old mid new s t)
      (λ i v. reach_needs instants numbers columns place first next i r n h)

  pub last_needed : (chosen : List ℕ) (count least start end : ℕ) (mid new : List Bool)
      → IsRising instants 0 (length instants)
      → ((i j : ℕ) → i < j → j < length instants → get_or instants i 0 ≡ get_or instants j 0 → get_or numbers i 0 < get_or numbers j 0)
      → end ≤ length instants
      → ((i : ℕ) → i < end → get_or instants i 0 < next) → ((i : ℕ) → end ≤ i → i < length instants → next ≤ get_or instants i 0)
      → ((i : ℕ) → i < start → get_or instants i 0 < first) → ((i : ℕ) → start ≤ i → i < length instants → first ≤ get_or instants i 0)
      → length old ≡ length instants → least ≡ max first next
      → Sets (is_from instants numbers place least) old mid → Sets (is_among_last (has_arrived numbers place) (are_alike chosen columns) count start end) mid new
      → Sets (needs (LastRows chosen count)) old new
  last_needed chosen count least start end mid new rising apart within below above before behind len e s t =
      sets_same (λ i. is_from instants numbers place least i || is_among_last (has_arrived numbers place) (are_alike chosen columns) count start end i) (needs (LastRows chosen count)) old new
      (sets_both (is_from instants numbers place least) (is_among_last (has_arrived numbers place) (are_alike chosen columns) count start end) old mid new s t)
      (λ i l. last_needs instants numbers columns place first next chosen count start end rising apart within below above before behind i (omega arith)
      ∙ ap (λ x. is_from instants numbers place x i || is_among_last (has_arrived numbers place) (are_alike chosen columns) count start end i) (sym e))
