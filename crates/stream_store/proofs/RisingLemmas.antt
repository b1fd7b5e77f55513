-- Rows that came in the order of their instants: as they are kept, and up to an instant.
use Rattle.std.proofs.Common.{◌≡◌, ◌<◌, ◌≤◌, ◌+◌, ◌-◌, ◌*◌, ℕ, ℤ, zero, suc, true, false, cond, nat_lt, nat_le, Option, List, [], ◌∷◌, ◌++◌, take, drop, length, map, refl, sym, ap, ap₂, subst, ◌∙◌, arith, length-drop, get_or, append_assoc, append-nil, drop-cons, drop_of_length-le, add-mul}
use Rattle.std.specs.List.{AllByRecursion}
use Rattle.std.proofs.Math.Nat.{mul-le-mul_left}
use Rattle.std.proofs.lemmas.Bool.{lt-leb, le-leb, lt-ltb, le-ltb}
use Rattle.std.proofs.lemmas.List.{get_or-drop, get_or-map, length-map, length-take-le, take_more, take-map, drop-map}
use Rattle.values.specs.Row.{Row}
use Rattle.values.specs.Window.{Element}
use Rattle.stream_store.specs.declared.ordered_rows.OrderedHead.{OrderedHead}
use Rattle.stream_store.specs.LateRows.{IsFlat, numbered_rows, rows_in}
use Rattle.stream_store.specs.Open.{elements_at, up_to, past}
use Rattle.stream_store.specs.OpenRows.{Rising, IsRisen, headed, instant_of, risen_in}
use Rattle.stream_store.proofs.KeyLemmas.{filter_none, filter_all, each_from, each-append, each-at, each-take, each-drop}
use Rattle.stream_store.proofs.FlatLemmas.{length-rows_in, rows_in-take, rows_in-drop, rows_in-at}
use Rattle.stream_store.proofs.LateLemmas.{rising-append, rising-at}

pub length-risen : (width : ℕ) (heads : List OrderedHead) (values : List (Option ℤ)) → length (risen_in width heads values) ≡ length heads
length-risen width heads values = length-map (rows_in width heads values) headed ∙ length-rows_in width heads values

pub risen-take : (width k : ℕ) (heads : List OrderedHead) (values : List (Option ℤ)) → risen_in width (take k heads) (take (k * width) values) ≡ take k (risen_in width heads values)
risen-take width k heads values = ap (λ (rs : List (OrderedHead × Row)). map headed rs) (rows_in-take width k heads values) ∙ sym (take-map headed k (rows_in width heads values))

pub risen-drop : (width k : ℕ) (heads : List OrderedHead) (values : List (Option ℤ)) → risen_in width (drop k heads) (drop (k * width) values) ≡ drop k (risen_in width heads values)
risen-drop width k heads values = ap (λ (rs : List (OrderedHead × Row)). map headed rs) (rows_in-drop width k heads values) ∙ sym (drop-map headed k (rows_in width heads values))

-- the element at a place
pub risen-at : (width i : ℕ) (heads : List OrderedHead) (values : List (Option ℤ)) (h : OrderedHead) (e : Element) → i < length heads → h ≡ get_or heads i h → get_or (risen_in width heads values) i e ≡ headed (h, take width (drop (i * width) values))
risen-at width i heads values h e lt is =
    let d : OrderedHead × Row = (h, []) in
    get_or-map headed (rows_in width heads values) i d e (omega (arith, lt, length-rows_in width heads values))
    ∙ ap headed (rows_in-at width i heads values h d lt)
    ∙ ap (λ (k : OrderedHead). headed (k, take width (drop (i * width) values))) (sym is)

-- ---- rows that rise
rising-take : (k : ℕ) (es : List Element) → Rising (λ e. e.instant) es → Rising (λ e. e.instant) (take k es)
rising-take zero es h = tt
rising-take (suc k) [] h = tt
rising-take (suc k) (e ∷ es) h = (each-take (λ (g : Element). e.instant ≤ g.instant) k es h.0, rising-take k es h.1)

pub rising-drop : (k : ℕ) (es : List Element) → Rising (λ e. e.instant) es → Rising (λ e. e.instant) (drop k es)
rising-drop zero es h = h
rising-drop (suc k) [] h = tt
rising-drop (suc k) (e ∷ es) h = rising-drop k es h.1

flat-fits : (width k : ℕ) (heads : List OrderedHead) (values : List (Option ℤ)) → IsFlat width heads values → k ≤ length heads → k * width ≤ length values
flat-fits width k heads values flat le = let most : width * k ≤ width * length heads = mul-le-mul_left width le in omega (arith, most, flat.full)

module _ (width reached : ℕ) (heads : List OrderedHead) (values : List (Option ℤ)) (risen : IsRisen width reached heads values) where
  abbrev all : List Element
  all = risen_in width heads values

  -- the values of the first rows
  pub values_fit : (k : ℕ) → k ≤ length all → k * width ≤ length values
  values_fit k le = flat-fits width k heads values risen.flat (omega (arith, le, length-risen width heads values))

  pub row_fits : (i : ℕ) → i < length all → i * width + width ≤ length values
  row_fits i lt = let le : suc i * width ≤ length values = values_fit (suc i) lt in omega (arith, le)

  -- rows of one instant came
  pub risen_push : (t n : ℕ) (rows : List (ℕ × Row)) (more : List OrderedHead) (longer : List (Option ℤ)) → reached ≤ t → risen_in width more longer ≡ all ++ elements_at t (numbered_rows n rows) → length longer ≡ length more * width
      → IsRisen width t more longer
  risen_push t n rows more longer later pushed full =
      let new : List Element = elements_at t (numbered_rows n rows) in
      let low = each_from (λ (e : Element). e.instant ≤ reached) (λ (e : Element). e.instant ≤ t) (λ e le. omega (arith, le, later)) all risen.within in
      let at = each-at (λ (e : Element). e.instant ≤ t) t (λ e i. omega (arith, i)) (numbered_rows n rows) in
      let over = each-at (λ (e : Element). t ≤ e.instant) t (λ e i. omega (arith, i)) (numbered_rows n rows) in
      record {
        flat = record { few = risen.flat.few; full = full };
        rising = subst (λ (es : List Element). Rising (λ e. e.instant) es) (sym pushed) (rising-append t all new risen.rising (rising-at t (numbered_rows n rows)) low over);
        within = subst (λ (es : List Element). AllByRecursion (λ e. e.instant ≤ t) es) (sym pushed) (each-append (λ (e : Element). e.instant ≤ t) all new low at);
      }

  -- the first rows stay
  pub risen_first : (k before : ℕ) → k ≤ length all → AllByRecursion (λ (e : Element). e.instant ≤ before) (take k all) → IsRisen width before (take k heads) (take (k * width) values)
  risen_first k before le low =
      let within : k ≤ length heads = omega (arith, le, length-risen width heads values) in
      record {
        flat = record {
          few = risen.flat.few;
          full = length-take-le (k * width) values (values_fit k le) ∙ ap (λ n. n * width) (sym (length-take-le k heads within));
        };
        rising = subst (λ (es : List Element). Rising (λ e. e.instant) es) (sym (risen-take width k heads values)) (rising-take k all risen.rising);
        within = subst (λ (es : List Element). AllByRecursion (λ e. e.instant ≤ before) es) (sym (risen-take width k heads values)) low;
      }

  -- the first rows leave
  pub risen_rest : (k : ℕ) → k ≤ length all → IsRisen width reached (drop k heads) (drop (k * width) values)
  risen_rest k le =
      let within : k ≤ length heads = omega (arith, le, length-risen width heads values) in
      let split : length heads ≡ k + (length heads - k) = omega (arith, within) in
      let same : length heads * width ≡ k * width + (length heads - k) * width = ap (λ n. n * width) split ∙ add-mul k (length heads - k) width in
      record {
        flat = record {
          few = risen.flat.few;
          full = length-drop (k * width) values ∙ omega (arith, same, risen.flat.full) ∙ ap (λ n. n * width) (sym (length-drop k heads));
        };
        rising = subst (λ (es : List Element). Rising (λ e. e.instant) es) (sym (risen-drop width k heads values)) (rising-drop k all risen.rising);
        within = subst (λ (es : List Element). AllByRecursion (λ e. e.instant ≤ reached) es) (sym (risen-drop width k heads values)) (each-drop (λ (e : Element). e.instant ≤ reached) k all risen.within);
      }

-- ---- the rows from a place on up to an instant
next_at : (es : List Element) (k : ℕ) (e : Element) → k < length es → e ≡ get_or es k e → drop k es ≡ e ∷ drop (k + 1) es
next_at es k e lt is =
    let next : suc k ≡ k + 1 = omega arith in
    drop-cons es k e lt ∙ ap₂ (λ (x : Element) (xs : List Element). x ∷ xs) (sym is) (ap (λ n. drop n es) next)

-- from the place `place` to the place `next` all rows stand up to an instant
pub record IsReached (until place : ℕ) (es : List Element) (next : ℕ) : Type 0 where
  pub start : place ≤ next
  pub end : next ≤ length es
  pub before : take (next - place) (drop place es) ++ up_to until (drop next es) ≡ up_to until (drop place es)
  pub behind : past until (drop next es) ≡ past until (drop place es)

pub reached_none : (until place : ℕ) (es : List Element) → place ≤ length es → IsReached until place es place
reached_none until place es le =
    let none : place - place ≡ 0 = omega arith in
    record {
      start = omega arith;
      end = le;
      before = ap (λ n. take n (drop place es) ++ up_to until (drop place es)) none;
      behind = refl;
    }

pub reached_more : (until place : ℕ) (es : List Element) (next : ℕ) (e : Element) → next < length es → e ≡ get_or es next e → e.instant ≤ until → IsReached until place es next → IsReached until place es (next + 1)
reached_more until place es next e lt is le h =
    let rest = next_at es next e lt is in
    let k : ℕ = next - place in
    let more : next + 1 - place ≡ k + 1 = omega (arith, h.start) in
    let here : place + k ≡ next = omega (arith, h.start) in
    let within : k < length (drop place es) = omega (arith, length-drop place es, lt, h.start) in
    let one : get_or (drop place es) k e ≡ e = get_or-drop place es k e ∙ ap (λ n. get_or es n e) here ∙ sym is in
    let taken : take (next + 1 - place) (drop place es) ≡ take k (drop place es) ++ e ∷ [] = ap (λ n. take n (drop place es)) more ∙ take_more (drop place es) k e within ∙ ap (λ (x : Element). take k (drop place es) ++ x ∷ []) one in
    let kept : up_to until (drop next es) ≡ e ∷ up_to until (drop (next + 1) es) = ap (λ (xs : List Element). up_to until xs) rest ∙ ap (λ b. cond b (e ∷ up_to until (drop (next + 1) es)) (up_to until (drop (next + 1) es))) (le-leb e.instant until le) in
    let gone : past until (drop next es) ≡ past until (drop (next + 1) es) = ap (λ (xs : List Element). past until xs) rest ∙ ap (λ b. cond b (e ∷ past until (drop (next + 1) es)) (past until (drop (next + 1) es))) (le-ltb until e.instant le) in
    record {
      start = omega (arith, h.start);
      end = omega (arith, lt);
      before = ap (λ (xs : List Element). xs ++ up_to until (drop (next + 1) es)) taken
          ∙ append_assoc (take k (drop place es)) (e ∷ []) (up_to until (drop (next + 1) es))
          ∙ ap (λ (xs : List Element). take k (drop place es) ++ xs) (sym kept)
          ∙ h.before;
      behind = sym gone ∙ h.behind;
    }

-- no row from the place `next` on stands up to the instant
pub record IsAllReached (until place : ℕ) (es : List Element) (next : ℕ) : Type 0 where
  pub before : take (next - place) (drop place es) ≡ up_to until (drop place es)
  pub behind : drop next es ≡ past until (drop place es)

reached_all : (until place : ℕ) (es : List Element) (next : ℕ) → AllByRecursion (λ (e : Element). until < e.instant) (drop next es) → IsReached until place es next → IsAllReached until place es next
reached_all until place es next later h =
    let none : up_to until (drop next es) ≡ [] = filter_none (λ (e : Element). nat_le e.instant until) (drop next es) (each_from (λ (e : Element). until < e.instant) (λ (e : Element). nat_le e.instant until ≡ false) (λ e lt. lt-leb e.instant until lt) (drop next es) later) in
    let all : past until (drop next es) ≡ drop next es = filter_all (λ (e : Element). nat_lt until e.instant) (drop next es) (each_from (λ (e : Element). until < e.instant) (λ (e : Element). nat_lt until e.instant ≡ true) (λ e lt. lt-ltb until e.instant lt) (drop next es) later) in
    record {
      before = sym (append-nil (take (next - place) (drop place es))) ∙ ap (λ (xs : List Element). take (next - place) (drop place es) ++ xs) (sym none) ∙ h.before;
      behind = sym all ∙ h.behind;
    }

pub reached_stop : (until place : ℕ) (es : List Element) (next : ℕ) (e : Element) → Rising (λ g. g.instant) es → next < length es → e ≡ get_or es next e → until < e.instant → IsReached until place es next → IsAllReached until place es next
reached_stop until place es next e rising lt is more h =
    let rest = next_at es next e lt is in
    let rises : Rising (λ g. g.instant) (e ∷ drop (next + 1) es) = subst (λ (xs : List Element). Rising (λ g. g.instant) xs) rest (rising-drop next es rising) in
    let behind = each_from (λ (g : Element). e.instant ≤ g.instant) (λ (g : Element). until < g.instant) (λ g le. omega (arith, more, le)) (drop (next + 1) es) rises.0 in
    reached_all until place es next (subst (λ (xs : List Element). AllByRecursion (λ g. until < g.instant) xs) (sym rest) (more, behind)) h

pub reached_end : (until place : ℕ) (es : List Element) (next : ℕ) → length es ≤ next → IsReached until place es next → IsAllReached until place es next
reached_end until place es next le h =
    reached_all until place es next (subst (λ (xs : List Element). AllByRecursion (λ g. until < g.instant) xs) (sym (drop_of_length-le es le)) tt) h

-- ---- the same of rows as they are kept
module _ (width reached : ℕ) (heads : List OrderedHead) (values : List (Option ℤ)) (risen : IsRisen width reached heads values) (es : List Element) (shown : risen_in width heads values ≡ es) where
  pub shown_len : length es ≡ length heads
  shown_len = sym (ap length shown) ∙ length-risen width heads values

  abbrev pub shown_at : ℕ → OrderedHead → Element
  shown_at i h = headed (h, take width (drop (i * width) values))

  pub is_shown_at : (i : ℕ) (h : OrderedHead) (e : Element) → i < length heads → h ≡ get_or heads i h → shown_at i h ≡ get_or es i e
  is_shown_at i h e lt is = sym (ap (λ (xs : List Element). get_or xs i e) (sym shown) ∙ risen-at width i heads values h e lt is)

  pub step_on : (until place next : ℕ) (h : OrderedHead) → next < length heads → h ≡ get_or heads next h → instant_of h ≤ until → IsReached until place es next → IsReached until place es (next + 1)
  step_on until place next h lt is le r =
      let e : Element = shown_at next h in
      reached_more until place es next e (omega (arith, lt, shown_len)) (is_shown_at next h e lt is) le r

  pub step_back : (until place next : ℕ) (h : OrderedHead) → next < length heads → h ≡ get_or heads next h → until < instant_of h → IsReached until place es next → IsAllReached until place es next
  step_back until place next h lt is more r =
      let e : Element = shown_at next h in
      let rising = subst (λ (xs : List Element). Rising (λ g. g.instant) xs) shown risen.rising in
      reached_stop until place es next e rising (omega (arith, lt, shown_len)) (is_shown_at next h e lt is) more r

  -- the row at a place
  pub element_at : (i : ℕ) (h : OrderedHead) (t : ℕ) (e : Element) → i < length es → h ≡ get_or heads i h → t ≡ instant_of h → record { arrival = h.number; instant = t; row = take width (drop (i * width) values) } ≡ get_or es i e
  element_at i h t e lt is at =
      ap (λ (k : ℕ). record { arrival = h.number; instant = k; row = take width (drop (i * width) values) }) at
      ∙ is_shown_at i h e (omega (arith, lt, shown_len)) is

-- one more row is copied
pub copied_on : (place i : ℕ) (es : List Element) (first old new : List Element) → place ≤ i → i < length es → ((e : Element) → new ≡ old ++ get_or es i e ∷ []) → old ≡ first ++ take (i - place) (drop place es)
    → new ≡ first ++ take (i + 1 - place) (drop place es)
copied_on place i es first old new le lt pushed sofar =
    let none : Element = record { arrival = 0; instant = 0; row = [] } in
    let k : ℕ = i - place in
    let a : Element = get_or es i none in
    let more : i + 1 - place ≡ k + 1 = omega (arith, le) in
    let here : place + k ≡ i = omega (arith, le) in
    let within : k < length (drop place es) = omega (arith, length-drop place es, lt, le) in
    let one : a ≡ get_or (drop place es) k none = ap (λ n. get_or es n none) (sym here) ∙ sym (get_or-drop place es k none) in
    pushed none
    ∙ ap (λ (xs : List Element). xs ++ a ∷ []) sofar
    ∙ append_assoc first (take k (drop place es)) (a ∷ [])
    ∙ ap (λ (x : Element). first ++ (take k (drop place es) ++ x ∷ [])) one
    ∙ ap (λ (xs : List Element). first ++ xs) (sym (take_more (drop place es) k none within))
    ∙ ap (λ n. first ++ take n (drop place es)) (sym more)
