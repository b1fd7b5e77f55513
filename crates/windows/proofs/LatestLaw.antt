-- The law of one step of a window of the last rows of each partition.
use Rattle.std.proofs.Common.{◌≡◌, ℕ, ◌+◌, ◌-◌, ◌≤◌, Bool, true, false, cond, List, [], ◌∷◌, ◌++◌, map, filter, length, drop, refl, ap, sym, ◌∙◌, subst, arith, append-nil, append_assoc}
use Rattle.std.proofs.lemmas.List.{length-map, drop-map}
use Rattle.std.proofs.lemmas.List.{map-append}
use Rattle.std.proofs.lemmas.List.Elements.{filter-append}
use Rattle.values.specs.Row.{Row, same_row}
use Rattle.values.specs.Window.{Element, LastRows, window_rows}
use Rattle.op_queue.specs.Entries.{Entry, RowAt, TickAt}
use Rattle.op_queue.specs.Paths.{rows_in}
use Rattle.op_queue.specs.Signed.{Same, Turns}
use Rattle.op_queue.proofs.PathLemmas.{rows_in-batch}
use Rattle.op_queue.proofs.SignedLemmas.{Same-refl, Turns-append, Turns-none}
use Rattle.windows.specs.Laws.{AreUpTo, Each, IsLater, IsRising, LatestStands, WindowRows, WindowTick, coming, is_of, rows_in_order, shown_of}
use Rattle.windows.specs.Latest.{all_after, all_fallen, fallen_of, held_after, interleaved, key_in, last_of, minus_of}
use Rattle.windows.proofs.LatestLemmas.{after_is, length-last_of, like}
use Rattle.windows.proofs.MoveLemmas.{ArePartsOf, fallen_rows_are, one_comes}
use Rattle.windows.proofs.ShownLemmas.{shows_each, stays_shown}
use Rattle.windows.proofs.WindowLemmas.{Each_append, Each_filter, Each_map, last_each, last_each-again, last_each-part, last_each-twice}

-- ---- the state after rows is that of the elements that are shown
like_is : (columns : List ℕ) (k : Row) (es : List Element) → like columns k (coming es) ≡ rows_in_order (filter (is_of columns k) es)
like_is columns k [] = refl
like_is columns k (e ∷ es) = here (same_row (key_in columns e.row) k) (like_is columns k es)
  where
    here : (b : Bool) → like columns k (coming es) ≡ rows_in_order (filter (is_of columns k) es)
        → cond b (e.row ∷ like columns k (coming es)) (like columns k (coming es)) ≡ rows_in_order (cond b (e ∷ filter (is_of columns k) es) (filter (is_of columns k) es))
    here true h = ap (λ l. e.row ∷ l) h
    here false h = h

last_rows : (n : ℕ) (es : List Element) → last_of n (rows_in_order es) ≡ rows_in_order (last_of n es)
last_rows n es =
    let f : Element → Row = λ e. e.row in
    ap (λ j. drop (j - n) (rows_in_order es)) (length-map es f) ∙ drop-map f (length es - n) es

pub parts_few : (columns : List ℕ) (n : ℕ) (state : Row → List Row) (held : List Element) → ArePartsOf columns state held → last_each columns n held ≡ held → (k : Row) → length (state k) ≤ n
parts_few columns n state held parts shown k =
    let f : Element → Row = λ e. e.row in
    let e : state k ≡ rows_in_order (last_of n (filter (is_of columns k) held)) =
    parts k ∙ ap rows_in_order (ap (filter (is_of columns k)) (sym shown) ∙ last_each-part columns n k held) in
    let l : length (state k) ≡ length (last_of n (filter (is_of columns k) held)) = ap length e ∙ length-map (last_of n (filter (is_of columns k) held)) f in
    omega (arith, l, length-last_of n (filter (is_of columns k) held))

pub parts_after : (columns : List ℕ) (n : ℕ) (state : Row → List Row) (held es : List Element) → ArePartsOf columns state held → last_each columns n held ≡ held
    → ArePartsOf columns (all_after columns n state (coming es)) (last_each columns n (held ++ es))
parts_after columns n state held es parts shown k =
    let f : Element → Row = λ e. e.row in
    after_is columns n state (coming es) k (parts_few columns n state held parts shown k)
    ∙ ap (λ l. last_of n (l ++ like columns k (coming es))) (parts k)
    ∙ ap (λ l. last_of n (rows_in_order (filter (is_of columns k) held) ++ l)) (like_is columns k es)
    ∙ ap (last_of n) (sym (map-append f (filter (is_of columns k) held) (filter (is_of columns k) es)) ∙ ap rows_in_order (sym (filter-append (is_of columns k) held es)))
    ∙ last_rows n (filter (is_of columns k) (held ++ es))
    ∙ ap rows_in_order (sym (last_each-part columns n k (held ++ es)))

-- ---- row by row
pub rows_turn : (columns : List ℕ) (n : ℕ) (state : Row → List Row) (held es : List Element) → ArePartsOf columns state held → last_each columns n held ≡ held
    → Turns (rows_in_order held) (interleaved (coming es) (all_fallen columns n state (coming es))) (rows_in_order (last_each columns n (held ++ es)))
rows_turn columns n state held [] parts shown =
    let P : List Element → Type 0 = λ l. Turns (rows_in_order held) [] (rows_in_order l) in
    subst P (sym (ap (last_each columns n) (append-nil held) ∙ shown)) (Turns-none (Same-refl (rows_in_order held)))
rows_turn columns n state held (e ∷ es) parts shown =
    let f = fallen_of n (state (key_in columns e.row) ++ e.row ∷ []) in
    let next : List Element = last_each columns n (held ++ e ∷ []) in
    let state' : Row → List Row = held_after columns n state e.row in
    let P : List (Bool × Row) → Type 0 = λ ys. Turns (rows_in_order held) ((true, e.row) ∷ ys) (rows_in_order next) in
    let one : Turns (rows_in_order held) ((true, e.row) ∷ minus_of f) (rows_in_order next) = subst P (fallen_rows_are columns n state held e parts shown) (one_comes columns n held e) in
    let rest : Turns (rows_in_order next) (interleaved (coming es) (all_fallen columns n state' (coming es))) (rows_in_order (last_each columns n (next ++ es))) =
    rows_turn columns n state' next es (parts_after columns n state held (e ∷ []) parts shown) (last_each-twice columns n (held ++ e ∷ [])) in
    let same : last_each columns n (next ++ es) ≡ last_each columns n (held ++ e ∷ es) = sym (last_each-again columns n (held ++ e ∷ []) es) ∙ ap (last_each columns n) (append_assoc held (e ∷ []) es) in
    let Q : List Element → Type 0 = λ l. Turns (rows_in_order held) (((true, e.row) ∷ minus_of f) ++ interleaved (coming es) (all_fallen columns n state' (coming es))) (rows_in_order l) in
    subst Q same (Turns-append one rest)

-- ---- the law
rising_filter : (p : Element → Bool) (es : List Element) → IsRising es → IsRising (filter p es)
rising_filter p [] r = tt
rising_filter p (e ∷ es) r = here (p e) (rising_filter p es r.1)
  where
    here : (b : Bool) → IsRising (filter p es) → IsRising (cond b (e ∷ filter p es) (filter p es))
    here true h = (Each_filter (IsLater e) p es r.0, h)
    here false h = h

same_of : (xs ys : List Row) → xs ≡ ys → Same xs ys
same_of xs ys e = let P : List Row → Type 0 = λ l. Same xs l in subst P e (Same-refl xs)

pub latest_rows : (from : ℕ) (columns : List ℕ) (n : ℕ) (state : Row → List Row) (t : ℕ) (held es : List Element) → LatestStands from columns n t state held
    → Each (λ e. e.instant ≡ t) es → IsRising (held ++ es)
    → WindowRows from (LastRows columns n) t held (rows_in_order held) es (rows_in (map (RowAt t) (interleaved (coming es) (all_fallen columns n state (coming es)))))
    (shown_of from (LastRows columns n) t (held ++ es)) (rows_in_order (shown_of from (LastRows columns n) t (held ++ es)))
    × LatestStands from columns n t (all_after columns n state (coming es)) (shown_of from (LastRows columns n) t (held ++ es))
latest_rows from columns n state t held es h now rising =
    let all : AreUpTo t (held ++ es) = Each_append (λ e. e.instant ≤ t) held es h.up_to (Each_map (λ e. e.instant ≡ t) (λ e. e.instant ≤ t) (λ e i. omega (arith, i)) es now) in
    let shown : last_each columns n held ≡ held = sym (shows_each from columns n t held h.rising h.up_to) ∙ h.shown in
    let is : shown_of from (LastRows columns n) t (held ++ es) ≡ last_each columns n (held ++ es) = shows_each from columns n t (held ++ es) rising all in
    let ys : List (Bool × Row) = interleaved (coming es) (all_fallen columns n state (coming es)) in
    let o2 : List Element = shown_of from (LastRows columns n) t (held ++ es) in
    let P : List Element → Type 0 = λ l. Turns (rows_in_order held) ys (rows_in_order l) in
    let Q : List (Bool × Row) → Type 0 = λ zs. Turns (rows_in_order held) zs (rows_in_order o2) in
    let R : List Element → Type 0 = λ l. ArePartsOf columns (all_after columns n state (coming es)) l in
    let rising2 : IsRising o2 = rising_filter _ (held ++ es) rising in
    let all2 : AreUpTo t o2 = Each_filter (λ e. e.instant ≤ t) _ (held ++ es) all in (
      record {
        puts = subst Q (sym (rows_in-batch t ys)) (subst P (sym is) (rows_turn columns n state held es h.parts shown));
        stays = λ u later le after.
            same_of _ _ (ap (window_rows from (LastRows columns n) u) (sym (append_assoc held es later)) ∙ stays_shown from columns n t u (held ++ es) later le all after);
      },
      record {
        parts = subst R (sym is) (parts_after columns n state held es h.parts shown);
        rising = rising2;
        up_to = all2;
        shown = shows_each from columns n t o2 rising2 all2 ∙ ap (last_each columns n) is ∙ last_each-twice columns n (held ++ es) ∙ sym is;
      },
    )

abbrev pub tick_entry : ℕ → List (Entry Row)
tick_entry t = TickAt t ∷ []

pub latest_tick : (from : ℕ) (columns : List ℕ) (n : ℕ) (state : Row → List Row) (t : ℕ) (held : List Element) → LatestStands from columns n t state held
    → WindowTick from (LastRows columns n) t held (rows_in_order held) (rows_in (tick_entry t)) held (rows_in_order held) × LatestStands from columns n (t + 1) state held
unfolding rows_in
latest_tick from columns n state t held h =
    let all : AreUpTo (t + 1) held = Each_map (λ e. e.instant ≤ t) (λ e. e.instant ≤ t + 1) (λ e i. omega (arith, i)) held h.up_to in (
      record {
        puts = Turns-none (Same-refl (rows_in_order held));
        now = same_of _ _ (sym (ap rows_in_order h.shown));
        stays = λ u later lt after. Same-refl _;
      },
      record {
        parts = h.parts;
        rising = h.rising;
        up_to = all;
        shown = shows_each from columns n (t + 1) held h.rising all ∙ sym (shows_each from columns n t held h.rising h.up_to) ∙ h.shown;
      },
    )
