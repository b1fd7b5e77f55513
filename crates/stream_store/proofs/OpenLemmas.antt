-- The open rows of a stream in their two parts: more of them, those up to an instant and those past it, and what a refused growth leaves.
use Rattle.std.proofs.Common.{◌≡◌, ◌<◌, ◌≤◌, ℕ, Bool, true, nat_lt, nat_le, List, [], ◌∷◌, ◌++◌, take, drop, length, refl, sym, ap, ap₂, subst, ◌∙◌, arith, length-append, append_assoc}
use Rattle.std.specs.List.{AllByRecursion, filter}
use Rattle.std.specs.Map.{keys_of}
use Rattle.std.specs.List.Sorted.{IsStrictlySortedBy}
use Rattle.std.specs.Ordering.{nat_cmp}
use Rattle.std.proofs.lemmas.Bool.{lt-leb, le-leb, leb-true, ltb-true}
use Rattle.std.proofs.lemmas.List.{take-append-le}
use Rattle.std.proofs.lemmas.List.Elements.{filter-append}
use Rattle.values.specs.Row.{Row}
use Rattle.values.specs.Window.{Element}
use Rattle.stream_store.specs.LateRows.{numbered_rows}
use Rattle.stream_store.specs.Open.{Entry, AreAt, AreWide, elements_at, open_of, placed, after_put, put_rows, below, instants_past, up_to, past}
use Rattle.stream_store.specs.OpenRows.{Rising, RisenRows, IsOpen, IsMore, with_late, open_in, with_risen, first_risen}
use Rattle.stream_store.proofs.KeyLemmas.{filter_all, each_from, each-append, each-at, each-kept, each_passes, later_rest, open-put_rows, wide-put_rows, below-put_rows, open-below, wide-below, open-past, wide-past}
use Rattle.stream_store.proofs.PlacedLemmas.{each-put, each-numbered, filter-placed_other}
use Rattle.stream_store.proofs.LateLemmas.{put_past, put_late, put_last, rising-open, past-late, up_past, late_first, each_late}
use Rattle.stream_store.proofs.RisingLemmas.{rising-drop}

-- ---- more rows
-- rows of an instant that is not below the one that was reached
pub more_risen : (t n : ℕ) (rows : List (ℕ × Row)) (risen new : RisenRows) (late new_late : List Entry) → IsOpen risen late → AllByRecursion (λ (e : Element). e.instant ≤ risen.reached) risen.rows → risen.reached ≤ t → AreAt t rows
    → new ≡ with_risen t n rows risen → new_late ≡ late → IsMore n rows risen late new new_late
more_risen t n rows risen new late new_late parts within later at is same =
    subst (λ (r : RisenRows). IsMore n rows risen late r new_late) (sym is) (subst (λ (es : List Entry). IsMore n rows risen late (with_risen t n rows risen) es) (sym same) more)
  where
    over : AllByRecursion (λ (e : Element). e.instant < t) (open_of late)
    over = each_from (λ (e : Element). e.instant < risen.reached) (λ (e : Element). e.instant < t) (λ e lt. omega (arith, lt, later)) (open_of late) parts.below

    low : AllByRecursion (λ (e : Element). e.instant ≤ t) risen.rows
    low = each_from (λ (e : Element). e.instant ≤ risen.reached) (λ (e : Element). e.instant ≤ t) (λ e le. omega (arith, le, later)) risen.rows within

    more : IsMore n rows risen late (with_risen t n rows risen) late
    more = record {
      put = ap (λ es. with_late (open_of late) es) (sym (put_last t n rows risen.rows at low)) ∙ put_past t n rows (open_of late) risen.rows at over;
      parts = record { wide = parts.wide; below = over };
      width = refl;
      longer = omega (arith, length-append risen.rows (elements_at t (numbered_rows n rows)));
      kept = λ k le. take-append-le k risen.rows (elements_at t (numbered_rows n rows)) le;
      stays = λ k le. refl;
    }

-- rows of an instant below it
pub more_late : (t n : ℕ) (rows : List (ℕ × Row)) (risen new : RisenRows) (late new_late : List Entry) → IsOpen risen late → t < risen.reached → AreAt t rows → IsStrictlySortedBy nat_cmp (keys_of late)
    → new ≡ risen → new_late ≡ put_rows risen.width t n rows late → IsMore n rows risen late new new_late
more_late t n rows risen new late new_late parts earlier at sorted same is =
    subst (λ (r : RisenRows). IsMore n rows risen late r new_late) (sym same) (subst (λ (es : List Entry). IsMore n rows risen late risen es) (sym is) more)
  where
    opened : open_of (put_rows risen.width t n rows late) ≡ after_put n rows (open_of late)
    opened = open-put_rows risen.width t n rows late at sorted

    new_below : AllByRecursion (λ (e : Element). e.instant < risen.reached) (after_put n rows (open_of late))
    new_below =
        each-put (λ (e : Element). e.instant < risen.reached) n rows (open_of late)
        (each-numbered (λ (r : ℕ × Row). r.0 ≡ t) (λ (e : Element). e.instant < risen.reached) (λ m r i. omega (arith, i, earlier)) n rows at) parts.below

    more : IsMore n rows risen late risen (put_rows risen.width t n rows late)
    more = record {
      put = ap (λ es. with_late es risen.rows) opened ∙ put_late n rows (open_of late) risen.rows (rising-open late sorted);
      parts = record {
        wide = wide-put_rows risen.width t n rows late parts.wide;
        below = subst (λ (es : List Element). AllByRecursion (λ e. e.instant < risen.reached) es) (sym opened) new_below;
      };
      width = refl;
      longer = omega arith;
      kept = λ k le. refl;
      stays = λ k le. below-put_rows k risen.width t n rows late le;
    }

-- ---- a refused growth
pub kept_first : (risen new : RisenRows) → new.width ≡ risen.width → take (length risen.rows) new.rows ≡ risen.rows → first_risen (length risen.rows) risen.reached new ≡ risen
kept_first risen new width rows = ap₂ (λ (k : ℕ) (es : List Element). record { width = k; reached = risen.reached; rows = es }) width rows

module _ (n : ℕ) (risen : RisenRows) (late : List Entry) (numbered : AllByRecursion (λ (e : Element). e.arrival < n) (with_late (open_of late) risen.rows)) where
  kept_open : open_of (below n late) ≡ open_of late
  kept_open = open-below n late (each_late (λ (e : Element). e.arrival < n) (open_of late) risen.rows numbered).0

  pub kept_rows : open_in risen (below n late) ≡ open_in risen late
  kept_rows = ap (λ (es : List Element). record { width = risen.width; rows = with_late es risen.rows }) kept_open

  pub kept_parts : IsOpen risen late → IsOpen risen (below n late)
  kept_parts h = record {
    wide = wide-below n risen.width late h.wide;
    below = subst (λ (es : List Element). AllByRecursion (λ e. e.instant < risen.reached) es) (sym kept_open) h.below;
  }

-- ---- the rows past an instant
module _ (at : ℕ) (risen new : RisenRows) (late new_late : List Entry) (rows : new.rows ≡ past at risen.rows) (entries : new_late ≡ instants_past at late) where
  past_open : open_of new_late ≡ past at (open_of late)
  past_open = ap open_of entries ∙ open-past at late

  pub past_rows : with_late (open_of new_late) new.rows ≡ past at (with_late (open_of late) risen.rows)
  past_rows = ap₂ (λ (ls es : List Element). with_late ls es) past_open rows ∙ sym (past-late at (open_of late) risen.rows)

  pub past_parts : new.width ≡ risen.width → new.reached ≡ risen.reached → IsOpen risen late → IsOpen new new_late
  past_parts width reached h = record {
    wide = subst (λ k. AreWide k new_late) (sym width) (subst (λ (es : List Entry). AreWide risen.width es) (sym entries) (wide-past at risen.width late h.wide));
    below = subst (λ k. AllByRecursion (λ (e : Element). e.instant < k) (open_of new_late)) (sym reached)
        (subst (λ (es : List Element). AllByRecursion (λ e. e.instant < risen.reached) es) (sym past_open) (each-kept (λ (e : Element). e.instant < risen.reached) (λ e. nat_lt at e.instant) (open_of late) h.below));
  }

-- ---- the rows up to an instant
-- those of the first late instant, and those that stand before them
first_up_to : (at t : ℕ) (rows : List (ℕ × Row)) (rest es : List Element) → Rising (λ e. e.instant) es → t ≤ at → AllByRecursion (λ (l : Element). t < l.instant) rest
    → up_to at (with_late (elements_at t rows ++ rest) es) ≡ up_to t es ++ (elements_at t rows ++ up_to at (with_late rest (past t es)))
first_up_to at t rows rest es rising le later =
    let p : Element → Bool = λ g. nat_le g.instant at in
    let here : List Element = elements_at t rows in
    let low : AllByRecursion (λ (e : Element). e.instant ≤ t) (up_to t es) = each_from (λ (e : Element). nat_le e.instant t ≡ true) (λ (e : Element). e.instant ≤ t) (λ e i. leb-true e.instant t i) (up_to t es) (each_passes (λ e. nat_le e.instant t) es) in
    let high : AllByRecursion (λ (e : Element). t < e.instant) (past t es) = each_from (λ (e : Element). nat_lt t e.instant ≡ true) (λ (e : Element). t < e.instant) (λ e i. ltb-true t e.instant i) (past t es) (each_passes (λ e. nat_lt t e.instant) es) in
    let fronts : filter p (up_to t es) ≡ up_to t es = filter_all p (up_to t es) (each_from (λ (e : Element). e.instant ≤ t) (λ (e : Element). p e ≡ true) (λ e low. le-leb e.instant at (omega (arith, low, le))) (up_to t es) low) in
    let heres : filter p here ≡ here = filter_all p here (each-at (λ (g : Element). p g ≡ true) t (λ g i. le-leb g.instant at (omega (arith, i, le))) rows) in
    let others : List Element = with_late rest (past t es) in
    ap (λ xs. up_to at (with_late (here ++ rest) xs)) (up_past t es rising)
    ∙ ap (λ xs. up_to at xs) (late_first t rows rest (up_to t es) (past t es) low high later)
    ∙ filter-append p (up_to t es) (here ++ others)
    ∙ ap₂ (λ (xs ys : List Element). xs ++ ys) fronts (filter-append p here others ∙ ap (λ xs. xs ++ filter p others) heres)

none_late : (at : ℕ) (late es : List Element) → AllByRecursion (λ (l : Element). at < l.instant) late → up_to at (with_late late es) ≡ up_to at es
none_late at [] es h = refl
none_late at (l ∷ late) es h = none_late at late (placed l es) h.1 ∙ filter-placed_other (λ (g : Element). nat_le g.instant at) l (lt-leb l.instant at h.0) es

module _ (at place : ℕ) (es : List Element) (all rest : List Entry) (e : Entry) (steps : all ≡ e ∷ rest) (sorted : IsStrictlySortedBy nat_cmp (keys_of all)) where
  head_sorted : IsStrictlySortedBy nat_cmp (keys_of (e ∷ rest))
  head_sorted = subst (λ (xs : List Entry). IsStrictlySortedBy nat_cmp (keys_of xs)) steps sorted

  -- the rows of one more late instant, and those that stand before them, are copied
  pub late_copied : (next : ℕ) (wanted old between new : List Element) → Rising (λ e. e.instant) es → e.0 ≤ at → drop next es ≡ past e.0 (drop place es) → between ≡ old ++ up_to e.0 (drop place es)
      → new ≡ between ++ elements_at e.0 e.1.rows → old ++ up_to at (with_late (open_of all) (drop place es)) ≡ wanted
      → new ++ up_to at (with_late (open_of rest) (drop next es)) ≡ wanted
  late_copied next wanted old between new rising le passed first then h =
      let here : List Element = elements_at e.0 e.1.rows in
      let front : List Element = up_to e.0 (drop place es) in
      let others : List Element = up_to at (with_late (open_of rest) (past e.0 (drop place es))) in
      ap₂ (λ (xs ys : List Element). xs ++ up_to at (with_late (open_of rest) ys)) (then ∙ ap (λ (xs : List Element). xs ++ here) first) passed
      ∙ append_assoc (old ++ front) here others
      ∙ append_assoc old front (here ++ others)
      ∙ ap (λ (xs : List Element). old ++ xs) (sym (first_up_to at e.0 e.1.rows (open_of rest) (drop place es) (rising-drop place es rising) le (later_rest e.0 e rest (omega arith) head_sorted)))
      ∙ ap (λ (xs : List Entry). old ++ up_to at (with_late (open_of xs) (drop place es))) (sym steps)
      ∙ h

  -- the next late instant lies past the one that is asked for
  pub late_end : (wanted done : List Element) → at < e.0 → done ++ up_to at (with_late (open_of all) (drop place es)) ≡ wanted → done ++ up_to at (drop place es) ≡ wanted
  late_end wanted done lt h =
      let far : AllByRecursion (λ (g : Element). at < g.instant) (open_of (e ∷ rest)) = each-append (λ (g : Element). at < g.instant) (elements_at e.0 e.1.rows) (open_of rest)
      (each-at (λ (g : Element). at < g.instant) e.0 (λ g i. omega (arith, i, lt)) e.1.rows) (later_rest at e rest (omega (arith, lt)) head_sorted) in
      ap (λ (xs : List Element). done ++ xs) (sym (none_late at (open_of (e ∷ rest)) (drop place es) far))
      ∙ ap (λ (xs : List Entry). done ++ up_to at (with_late (open_of xs) (drop place es))) (sym steps)
      ∙ h
