-- The law of one step of a window of instants.
use Rattle.std.proofs.Common.{◌≡◌, ℕ, zero, suc, ◌+◌, ◌-◌, ◌≤◌, ◌<◌, Bool, true, false, cond, not, List, [], ◌∷◌, ◌++◌, map, filter, length, take, drop, refl, ap, ap₂, sym, ◌∙◌, subst, arith, append-nil, append_assoc, true≢false, length-append, take-append-drop}
use Rattle.std.proofs.lemmas.List.{map-append, take-append-le, take_all, length-map, take-map}
use Rattle.std.proofs.lemmas.List.Elements.{filter-append}
use Rattle.values.specs.Moving.{at_once, moves}
use Rattle.values.specs.Row.{Row}
use Rattle.values.specs.Window.{Element, Window, Instants, shows, window_rows}
use Rattle.values.specs.Plain.{plain}
use Rattle.values.proofs.ReachLemmas.{all_shown, moves_first, not_reached, now_shown, past_gone, still_shown}
use Rattle.op_queue.specs.Entries.{Entry, RowAt, TickAt}
use Rattle.op_queue.specs.Paths.{rows_in}
use Rattle.op_queue.specs.Signed.{Same, Turns}
use Rattle.op_queue.specs.declared.item.Item.TheVariants.{Rows, Tick}
use Rattle.op_queue.proofs.PathLemmas.{rows_in-append, rows_in-batch}
use Rattle.op_queue.proofs.SignedLemmas.{Same-refl, Turns-none, Turns-append}
use Rattle.windows.specs.Laws.{AreShown, Each, InstantsStand, WindowRows, WindowTick, coming, rows_in_order, shown_of}
use Rattle.windows.specs.Instants.{InstantState, entering, held_at, is_past, leaving, moved, near, near_at, next, no_rows, out, signed, with_rows}
use Rattle.windows.proofs.MoveLemmas.{all_come, some_leave}
use Rattle.windows.proofs.WindowLemmas.{Each_append, Each_filter, Each_map, filter_each, filter_through}

pub same_of : (xs ys : List Row) → xs ≡ ys → Same xs ys
same_of xs ys e = let P : List Row → Type 0 = λ l. Same xs l in subst P e (Same-refl xs)

-- ---- lists
each_of : {A : Type 0} (P : A → Type 0) → ((x : A) → P x) → (xs : List A) → Each P xs
each_of P f [] = tt
each_of P f (x ∷ xs) = (f x, each_of P f xs)

plain_at : (t : ℕ) (es : List Element) → Each (λ e. e.instant ≡ t) es → map (held_at t) (coming es) ≡ plain es
plain_at t [] h = refl
plain_at t (e ∷ es) h = let g : ℕ → List (ℕ × Row) = λ i. (i, e.row) ∷ plain es in ap (λ l. (t, e.row) ∷ l) (plain_at t es h.1) ∙ ap g (sym h.0)

pub filter_plain : (p : ℕ × Row → Bool) (es : List Element) → filter p (plain es) ≡ plain (filter (λ e. p (e.instant, e.row)) es)
filter_plain p [] = refl
filter_plain p (e ∷ es) = here (p (e.instant, e.row)) (filter_plain p es)
  where
    here : (b : Bool) → filter p (plain es) ≡ plain (filter (λ d. p (d.instant, d.row)) es) → cond b ((e.instant, e.row) ∷ filter p (plain es)) (filter p (plain es)) ≡ plain (cond b (e ∷ filter (λ d. p (d.instant, d.row)) es) (filter (λ d. p (d.instant, d.row)) es))
    here true h = ap (λ l. (e.instant, e.row) ∷ l) h
    here false h = h

rows_of_plain : (es : List Element) → map (λ h. h.1) (plain es) ≡ rows_in_order es
rows_of_plain [] = refl
rows_of_plain (e ∷ es) = ap (λ l. e.row ∷ l) (rows_of_plain es)

take_plain : (n : ℕ) (es : List Element) → take n (plain es) ≡ plain (take n es)
take_plain n es = take-map (λ (e : Element). (e.instant, e.row)) n es

drop_plain : (n : ℕ) (es : List Element) → drop n (plain es) ≡ plain (drop n es)
drop_plain zero es = refl
drop_plain (suc n) [] = refl
drop_plain (suc n) (e ∷ es) = drop_plain n es

pub length_plain : (es : List Element) → length (plain es) ≡ length es
length_plain es = length-map es (λ (e : Element). (e.instant, e.row))

none_pass : (p : Element → Bool) (es : List Element) → Each (λ e. p e ≡ false) es → filter p es ≡ []
none_pass p [] h = refl
none_pass p (e ∷ es) h = ap (λ b. cond b (e ∷ filter p es) (filter p es)) h.0 ∙ none_pass p es h.1

all_pass : (p : Element → Bool) (es : List Element) → Each (λ e. p e ≡ true) es → filter p es ≡ es
all_pass p [] h = refl
all_pass p (e ∷ es) h = ap (λ b. cond b (e ∷ filter p es) (filter p es)) h.0 ∙ ap (λ l. e ∷ l) (all_pass p es h.1)

-- filtered twice
passed : (p q : Element → Bool) (es : List Element) → Each (λ e. p e ≡ q e) es → filter p (filter q es) ≡ filter q es
passed p q [] h = refl
passed p q (e ∷ es) h = here (q e) refl (passed p q es h.1)
  where
    here : (b : Bool) → q e ≡ b → filter p (filter q es) ≡ filter q es → filter p (cond b (e ∷ filter q es) (filter q es)) ≡ cond b (e ∷ filter q es) (filter q es)
    here true k i = ap (λ c. cond c (e ∷ filter p (filter q es)) (filter p (filter q es))) (h.0 ∙ k) ∙ ap (λ l. e ∷ l) i
    here false k i = i

-- ---- rows
module _ (from t : ℕ) (s : InstantState) (held es : List Element) (h : InstantsStand from t s held) (now : Each (λ e. e.instant ≡ t) es) where
  abbrev v : Window
  v = Instants s.reach

  held_then : s.held ++ map (held_at t) (coming es) ≡ plain (held ++ es)
  held_then =
      let f : Element → ℕ × Row = λ e. (e.instant, e.row) in
      ap (λ l. l ++ map (held_at t) (coming es)) h.same ∙ ap (λ l. plain held ++ l) (plain_at t es now) ∙ sym (map-append f held es)

  long_then : length (s.held ++ map (held_at t) (coming es)) ≡ length (held ++ es)
  long_then = ap length held_then ∙ length_plain (held ++ es)

  stays_then : (u : ℕ) (later : List Element) → Same (window_rows from v u (held ++ (es ++ later))) (window_rows from v u ((held ++ es) ++ later))
  stays_then u later = same_of _ _ (ap (window_rows from v u) (sym (append_assoc held es later)))

  -- what comes now was not shown before, if it waits
  still : at_once s.reach ≡ false → (u : ℕ) → suc u ≡ t → shown_of from v u (held ++ es) ≡ take s.shown (held ++ es)
  still o u is =
      let p : Element → Bool = shows from v u held in
      let q : Element → Bool = shows from v u (held ++ es) in
      let none : filter q es ≡ [] = none_pass q es (Each_map (λ e. e.instant ≡ t) (λ e. q e ≡ false) (λ e i. not_reached s.reach from u e.instant (omega (arith, i, is))) es now) in
      let before : filter p held ≡ take s.shown held = waited (at_once s.reach) o h.shown u is in
      filter-append q held es
      ∙ ap (λ l. filter q held ++ l) none ∙ append-nil (filter q held)
      ∙ filter_each q p held (each_of (λ e. q e ≡ p e) (λ e. refl) held)
      ∙ before ∙ sym (take-append-le s.shown held es h.few)
    where
      waited : (b : Bool) → b ≡ false → AreShown b from t s held → (u : ℕ) → suc u ≡ t → shown_of from v u held ≡ take s.shown held
      waited true e k = absurd (true≢false e)
      waited false e k = k

  abbrev then : Bool → InstantState
  then b = with_rows s b (s.held ++ map (held_at t) (coming es))

  -- they are put out, or wait
  law : (b : Bool) → at_once s.reach ≡ b → AreShown b from t s held
      → WindowRows from v t held (rows_in_order (take s.shown held)) es (rows_in (cond b (map (RowAt t) (coming es)) [])) (held ++ es) (rows_in_order (take (then b).shown (held ++ es)))
  unfolding rows_in
  law true o k =
      let Q : List (Bool × Row) → Type 0 = λ zs. Turns (rows_in_order held) zs (rows_in_order (held ++ es)) in
      let made : Turns (rows_in_order held) (rows_in (map (RowAt t) (coming es))) (rows_in_order (held ++ es)) = subst Q (sym (rows_in-batch t (coming es))) (all_come held es) in
      let old : held ≡ take s.shown held = sym (take_all s.shown held (omega (arith, k))) in
      let new : held ++ es ≡ take (length (s.held ++ map (held_at t) (coming es))) (held ++ es) = sym (take_all _ (held ++ es) (omega (arith, long_then))) in
      let P : List Element → Type 0 = λ l. Turns (rows_in_order l) (rows_in (map (RowAt t) (coming es))) (rows_in_order (held ++ es)) in
      let R : List Element → Type 0 = λ l. Turns (rows_in_order (take s.shown held)) (rows_in (map (RowAt t) (coming es))) (rows_in_order l) in
      record { puts = subst R new (subst P old made); stays = λ u later le after. stays_then u later }
  law false o k = record {
    puts = Turns-none (same_of _ _ (ap rows_in_order (sym (take-append-le s.shown held es h.few))));
    stays = λ u later le after. stays_then u later;
  }

  shown_then : (b : Bool) → at_once s.reach ≡ b → AreShown b from t (then b) (held ++ es)
  shown_then true o = long_then
  shown_then false o = still o

  few_then : (b : Bool) → (then b).shown ≤ length (held ++ es)
  few_then true = omega (arith, long_then)
  few_then false = omega (arith, h.few, length-append held es)

  pub instant_rows : WindowRows from v t held (rows_in_order (take s.shown held)) es (rows_in (out (Rows t (coming es)) (near s (Rows t (coming es))))) (held ++ es) (rows_in_order (take (next s (Rows t (coming es))).shown (held ++ es)))
      × InstantsStand from t (next s (Rows t (coming es))) (held ++ es)
  instant_rows = (
    law (at_once s.reach) refl h.shown,
    record {
      same = held_then;
      up_to = Each_append (λ e. e.instant ≤ t) held es h.up_to (Each_map (λ e. e.instant ≡ t) (λ e. e.instant ≤ t) (λ e i. omega (arith, i)) es now);
      began = h.began;
      few = few_then (at_once s.reach);
      shown = shown_then (at_once s.reach) refl;
    },
  )

-- ---- ticks
-- the elements that are held after the tick of t
abbrev pub held_after : InstantState → ℕ → List Element → List Element
held_after s t held = cond (moves s.reach t) (filter (λ e. not (is_past s.reach t (e.instant, e.row))) held) held

pub rows_of_tick : (t : ℕ) (xs : List (Bool × Row)) → rows_in (map (RowAt t) xs ++ TickAt t ∷ []) ≡ xs
unfolding rows_in
rows_of_tick t xs =
    let at : Bool × Row → Entry Row = RowAt t in
    rows_in-append (map at xs) (TickAt t ∷ []) ∙ append-nil (rows_in (map at xs)) ∙ rows_in-batch t xs

entering_is : (es : List Element) → map entering (rows_in_order es) ≡ coming es
entering_is [] = refl
entering_is (e ∷ es) = ap (λ l. (true, e.row) ∷ l) (entering_is es)

module _ (from t : ℕ) (s : InstantState) (held : List Element) (h : InstantsStand from t s held) where
  abbrev past : Element → Bool
  past e = is_past s.reach t (e.instant, e.row)

  abbrev stay : Element → Bool
  stay e = not (past e)

  abbrev w : Window
  w = Instants s.reach

  up_to_next : Each (λ e. e.instant ≤ t + 1) held
  up_to_next = Each_map (λ e. e.instant ≤ t) (λ e. e.instant ≤ t + 1) (λ e i. omega (arith, i)) held h.up_to

  -- WHERE IT MOVES
  shown_now : (es : List Element) → moves s.reach t ≡ true → Each (λ e. shows from w t es e ≡ stay e) held
  shown_now es m = Each_map (λ e. e.instant ≤ t) (λ e. shows from w t es e ≡ stay e) (λ e i. now_shown s.reach from t e.instant m h.began i) held h.up_to

  window_now : moves s.reach t ≡ true → filter (shows from w t held) held ≡ filter stay held
  window_now m = filter_each (shows from w t held) stay held (shown_now held m)

  stays_later : (u : ℕ) (later : List Element) → moves s.reach t ≡ true → t < u → window_rows from w u (held ++ later) ≡ window_rows from w u (filter stay held ++ later)
  stays_later u later m lt =
      let q : Element → Bool = shows from w u (held ++ later) in
      let r : Element → Bool = shows from w u (filter stay held ++ later) in
      let same : (e : Element) → q e ≡ r e = λ e. refl in
      ap rows_in_order
      (filter-append q held later
      ∙ ap (λ l. l ++ filter q later) (filter_through stay q r held (each_of (λ e. (stay e ≡ true → q e ≡ r e) × (stay e ≡ false → q e ≡ false)) (λ e. (λ k. same e, λ k. past_gone s.reach from t u e.instant m lt k)) held))
      ∙ ap (λ l. filter r (filter stay held) ++ l) (filter_each q r later (each_of (λ e. q e ≡ r e) same later))
      ∙ sym (filter-append r (filter stay held) later))

  leave_is : map (λ i. i.1) (filter (is_past s.reach t) (take s.shown s.held)) ≡ rows_in_order (filter past (take s.shown held))
  leave_is =
      ap (λ (l : List (ℕ × Row)). map (λ i. i.1) (filter (is_past s.reach t) (take s.shown l))) h.same
      ∙ ap (λ (l : List (ℕ × Row)). map (λ i. i.1) (filter (is_past s.reach t) l)) (take_plain s.shown held)
      ∙ ap (λ (l : List (ℕ × Row)). map (λ i. i.1) l) (filter_plain (is_past s.reach t) (take s.shown held))
      ∙ rows_of_plain (filter past (take s.shown held))

  enter_is : map (λ i. i.1) (filter (λ i. not (is_past s.reach t i)) (drop s.shown s.held)) ≡ rows_in_order (filter stay (drop s.shown held))
  enter_is =
      ap (λ (l : List (ℕ × Row)). map (λ i. i.1) (filter (λ i. not (is_past s.reach t i)) (drop s.shown l))) h.same
      ∙ ap (λ (l : List (ℕ × Row)). map (λ i. i.1) (filter (λ i. not (is_past s.reach t i)) l)) (drop_plain s.shown held)
      ∙ ap (λ (l : List (ℕ × Row)). map (λ i. i.1) l) (filter_plain (λ i. not (is_past s.reach t i)) (drop s.shown held))
      ∙ rows_of_plain (filter stay (drop s.shown held))

  signed_is : signed (near_at s t) ≡ map leaving (rows_in_order (filter past (take s.shown held))) ++ coming (filter stay (drop s.shown held))
  signed_is = ap₂ (λ a b. map leaving a ++ map entering b) leave_is enter_is ∙ ap (λ l. map leaving (rows_in_order (filter past (take s.shown held))) ++ l) (entering_is (filter stay (drop s.shown held)))

  whole_stays : filter stay (take s.shown held) ++ filter stay (drop s.shown held) ≡ filter stay held
  whole_stays = sym (filter-append stay (take s.shown held) (drop s.shown held)) ∙ ap (filter stay) (take-append-drop s.shown held)

  turns : Turns (rows_in_order (take s.shown held)) (signed (near_at s t)) (rows_in_order (filter stay held))
  turns =
      let o : List Row = rows_in_order (take s.shown held) in
      let P : List (Bool × Row) → Type 0 = λ xs. Turns o xs (rows_in_order (filter stay held)) in
      let Q : List Element → Type 0 = λ l. Turns o (map leaving (rows_in_order (filter past (take s.shown held))) ++ coming (filter stay (drop s.shown held))) (rows_in_order l) in
      subst P (sym signed_is) (subst Q whole_stays (Turns-append (some_leave past (take s.shown held)) (all_come (filter stay (take s.shown held)) (filter stay (drop s.shown held)))))

  kept_is : filter (λ i. not (is_past s.reach t i)) s.held ≡ plain (filter stay held)
  kept_is = ap (filter (λ i. not (is_past s.reach t i))) h.same ∙ filter_plain (λ i. not (is_past s.reach t i)) held

  kept_long : (moved s t).shown ≡ length (filter stay held)
  kept_long = ap length kept_is ∙ length_plain (filter stay held)

  all_stay : take (moved s t).shown (filter stay held) ≡ filter stay held
  all_stay = take_all _ _ (omega (arith, kept_long))

  moved_shown : (b : Bool) → moves s.reach t ≡ true → AreShown b from (t + 1) (moved s t) (filter stay held)
  moved_shown true m = kept_long
  moved_shown false m = λ u is.
      let e : u ≡ t = omega (arith, is) in
      let P : ℕ → Type 0 = λ k. shown_of from w k (filter stay held) ≡ take (moved s t).shown (filter stay held) in
      subst P (sym e) (passed (shows from w t (filter stay held)) stay held (shown_now (filter stay held) m) ∙ sym all_stay)

  tick_moves : moves s.reach t ≡ true
      → WindowTick from w t held (rows_in_order (take s.shown held)) (rows_in (out (Tick t) (near_at s t))) (filter stay held) (rows_in_order (take (moved s t).shown (filter stay held)))
      × InstantsStand from (t + 1) (moved s t) (filter stay held)
  tick_moves m = (
    record {
      puts =
          let P : List (Bool × Row) → Type 0 = λ xs. Turns (rows_in_order (take s.shown held)) xs (rows_in_order (take (moved s t).shown (filter stay held))) in
          let Q : List Element → Type 0 = λ l. Turns (rows_in_order (take s.shown held)) (signed (near_at s t)) (rows_in_order l) in
          subst P (sym (rows_of_tick t (signed (near_at s t)))) (subst Q (sym all_stay) turns);
      now = same_of _ _ (ap rows_in_order (all_stay ∙ sym (window_now m)));
      stays = λ u later lt after. same_of _ _ (stays_later u later m lt);
    },
    record {
      same = kept_is;
      up_to = Each_filter (λ e. e.instant ≤ t + 1) stay held up_to_next;
      began = omega (arith, h.began);
      few = omega (arith, kept_long);
      shown = moved_shown (at_once s.reach) m;
    },
  )

  -- WHERE IT DOES NOT, what it has put out is what it shows
  shows_still : (b : Bool) → at_once s.reach ≡ b → AreShown b from t s held → moves s.reach t ≡ false → shown_of from w t held ≡ take s.shown held
  shows_still true o k m =
      all_pass (shows from w t held) held (Each_map (λ e. e.instant ≤ t) (λ e. shows from w t held e ≡ true) (λ e i. all_shown s.reach from t e.instant o m i) held h.up_to)
      ∙ sym (take_all s.shown held (omega (arith, k)))
  shows_still false o k m = here t refl
    where
      here : (n : ℕ) → n ≡ t → shown_of from w t held ≡ take s.shown held
      here zero e = absurd (true≢false (sym (moves_first s.reach o) ∙ ap (moves s.reach) e ∙ m))
      here (suc u) e =
          let p : Element → Bool = shows from w (suc u) held in
          let q : Element → Bool = shows from w u held in
          ap (λ k. shown_of from w k held) (sym e)
          ∙ filter_each p q held (each_of (λ x. p x ≡ q x) (λ x. still_shown s.reach from u x.instant o (ap (moves s.reach) e ∙ m)) held)
          ∙ k u e

  waits_shown : (b : Bool) → at_once s.reach ≡ b → AreShown b from t s held → moves s.reach t ≡ false → AreShown b from (t + 1) s held
  waits_shown true o k m = k
  waits_shown false o k m = λ u is.
      let e : u ≡ t = omega (arith, is) in
      let P : ℕ → Type 0 = λ n. shown_of from w n held ≡ take s.shown held in
      subst P (sym e) (shows_still false o k m)

  tick_waits : moves s.reach t ≡ false
      → WindowTick from w t held (rows_in_order (take s.shown held)) (rows_in (out (Tick t) (no_rows s))) held (rows_in_order (take s.shown held))
      × InstantsStand from (t + 1) s held
  tick_waits m = (
    record {
      puts =
          let P : List (Bool × Row) → Type 0 = λ xs. Turns (rows_in_order (take s.shown held)) xs (rows_in_order (take s.shown held)) in
          subst P (sym (rows_of_tick t [])) (Turns-none (Same-refl (rows_in_order (take s.shown held))));
      now = same_of _ _ (ap rows_in_order (sym (shows_still (at_once s.reach) refl h.shown m)));
      stays = λ u later lt after. same_of _ _ refl;
    },
    record { same = h.same; up_to = up_to_next; began = omega (arith, h.began); few = h.few; shown = waits_shown (at_once s.reach) refl h.shown m },
  )

  pub instant_tick : WindowTick from w t held (rows_in_order (take s.shown held)) (rows_in (out (Tick t) (near s (Tick t)))) (held_after s t held) (rows_in_order (take (next s (Tick t)).shown (held_after s t held)))
      × InstantsStand from (t + 1) (next s (Tick t)) (held_after s t held)
  instant_tick = here (moves s.reach t) refl
    where
      here : (b : Bool) → moves s.reach t ≡ b
          → WindowTick from w t held (rows_in_order (take s.shown held)) (rows_in (out (Tick t) (cond b (near_at s t) (no_rows s)))) (cond b (filter stay held) held) (rows_in_order (take (cond b (moved s t) s).shown (cond b (filter stay held) held)))
          × InstantsStand from (t + 1) (cond b (moved s t) s) (cond b (filter stay held) held)
      here true e = tick_moves e
      here false e = tick_waits e
