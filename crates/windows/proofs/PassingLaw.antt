-- A window passes ticks at which nothing changes.
use Rattle.std.proofs.Common.{◌≡◌, ℕ, zero, suc, ◌+◌, ◌-◌, ◌<◌, ◌≤◌, Bool, true, false, cond, not, List, [], ◌∷◌, map, filter, length, take, drop, inl, inr, refl, sym, ap, ◌∙◌, subst, subst₂, arith}
use Rattle.std.proofs.lemmas.Bool.Decides.{nat_tests}
use Rattle.std.proofs.lemmas.List.{drop_all, take_all}
use Rattle.values.specs.Moving.{at_once, moves, oldest}
use Rattle.values.specs.Row.{Row}
use Rattle.values.specs.Window as shown
use Rattle.values.specs.Window.{Element, Window, LastRows, window_rows}
use Rattle.values.specs.Plain.{plain}
use Rattle.values.specs.declared.reach.Reach.{Reach}
use Rattle.values.proofs.ReachLemmas.{oldest_rises}
use Rattle.op_queue.specs.Entries.{Entry, TickAt}
use Rattle.op_queue.specs.Paths.{rows_in}
use Rattle.op_queue.specs.Signed.{Same, Turns}
use Rattle.op_queue.specs.declared.item.Item.TheVariants.{Tick}
use Rattle.op_queue.proofs.SignedLemmas.{Same-from_none, Same-trans}
use Rattle.windows.specs.Instants.{InstantState, Stays, is_past, moved, near, near_at, next, no_rows, out, rows_in as rows_of, with_rows}
use Rattle.windows.specs.Laws.{InstantsStand, LatestStands, WindowTick, rows_in_order}
use Rattle.windows.proofs.InstantsLaw.{held_after, instant_tick, rows_of_tick}
use Rattle.windows.proofs.LatestLaw.{latest_tick}

-- a tick at which nothing is put out: what was put out is what it shows
quiet_tick : {first : ℕ} {w : Window} {t : ℕ} {held : List Element} {o : List Row} {ys : List (Bool × Row)} {held2 : List Element} {o2 : List Row} → WindowTick first w t held o ys held2 o2 → ys ≡ [] → Same o (window_rows first w t held)
quiet_tick {o = o} {o2 = o2} law e = let P : List (Bool × Row) → Type 0 = λ ys. Turns o ys o2 in Same-trans (Same-from_none (subst P e law.puts).adds) law.now

-- ---- instants
-- none of its rows is past at the last of them, so none is before
below_all : (r : Reach) (t u : ℕ) → t ≤ u → (held : List (ℕ × Row)) → filter (is_past r u) held ≡ [] → filter (is_past r t) held ≡ []
below_all r t u le [] e = refl
below_all r t u le (h ∷ hs) e = here (is_past r u h) refl e (λ x. below_all r t u le hs x)
  where
    lower : oldest r t ≤ oldest r u
    lower = oldest_rises r t u le

    not_yet : is_past r u h ≡ false → is_past r t h ≡ false
    not_yet k = grind (arith, nat_tests, k, lower)

    here : (b : Bool) → is_past r u h ≡ b → cond b (h ∷ filter (is_past r u) hs) (filter (is_past r u) hs) ≡ [] → (filter (is_past r u) hs ≡ [] → filter (is_past r t) hs ≡ []) → filter (is_past r t) (h ∷ hs) ≡ []
    here true k x rest = absurd (cc (x))
    here false k x rest = ap (λ c. cond c (h ∷ filter (is_past r t) hs) (filter (is_past r t) hs)) (not_yet k) ∙ rest x

-- nothing changes at the tick of t
record Unchanged (s : InstantState) (t : ℕ) (held : List Element) : Type 0 where
  state : next s (Tick t) ≡ s
  elements : held_after s t held ≡ held
  silent : near s (Tick t) ≡ no_rows s

-- it does not move
unmoved : (s : InstantState) (t : ℕ) (held : List Element) → moves s.reach t ≡ false → Unchanged s t held
unmoved s t held e = record {
  state = ap (λ b. cond b (moved s t) s) e;
  elements = ap (λ b. cond b (filter (λ e. not (is_past s.reach t (e.instant, e.row))) held) held) e;
  silent = ap (λ b. cond b (near_at s t) (no_rows s)) e;
}

-- or it shows all its rows, and none is past
either_way : {A : Type 0} (b : Bool) (x y : A) → x ≡ y → cond b x y ≡ y
either_way true x y e = e
either_way false x y e = refl

all_stay : {A : Type 0} (p : A → Bool) (xs : List A) → filter p xs ≡ [] → filter (λ x. not (p x)) xs ≡ xs
all_stay p [] e = refl
all_stay p (x ∷ xs) e = here (p x) e (λ d. all_stay p xs d)
  where
    here : (b : Bool) → cond b (x ∷ filter p xs) (filter p xs) ≡ [] → (filter p xs ≡ [] → filter (λ x. not (p x)) xs ≡ xs) → cond (not b) (x ∷ filter (λ x. not (p x)) xs) (filter (λ x. not (p x)) xs) ≡ x ∷ xs
    here true e rest = absurd (cc (e))
    here false e rest = ap (λ l. x ∷ l) (rest e)

none_plain : (p : ℕ × Row → Bool) (es : List Element) → filter p (plain es) ≡ [] → filter (λ e. p (e.instant, e.row)) es ≡ []
none_plain p [] n = refl
none_plain p (e ∷ es) n = here (p (e.instant, e.row)) n (λ d. none_plain p es d)
  where
    here : (b : Bool) → cond b ((e.instant, e.row) ∷ filter p (plain es)) (filter p (plain es)) ≡ [] → (filter p (plain es) ≡ [] → filter (λ e. p (e.instant, e.row)) es ≡ []) → cond b (e ∷ filter (λ e. p (e.instant, e.row)) es) (filter (λ e. p (e.instant, e.row)) es) ≡ []
    here true n rest = absurd (cc (n))
    here false n rest = rest n

shown_all : (s : InstantState) (t : ℕ) (held : List Element) → s.held ≡ plain held → s.shown ≡ length s.held → filter (is_past s.reach t) s.held ≡ [] → Unchanged s t held
shown_all s t held same all none =
    let p : ℕ × Row → Bool = is_past s.reach t in
    let kept : filter (λ h. not (p h)) s.held ≡ s.held = all_stay p s.held none in
    let front : take s.shown s.held ≡ s.held = take_all s.shown s.held (omega (arith, all)) in
    let back : drop s.shown s.held ≡ [] = drop_all s.shown s.held (omega (arith, all)) in
    record {
      state = either_way (moves s.reach t) (moved s t) s
          (ap (with_rows s true) kept
          ∙ ap (λ (k : ℕ). record { reach = s.reach; width = s.width; held = s.held; shown = k }) (sym all));
      elements = either_way (moves s.reach t) (filter (λ e. not (is_past s.reach t (e.instant, e.row))) held) held
          (all_stay (λ (e : Element). p (e.instant, e.row)) held (none_plain p held (ap (filter p) (sym same) ∙ none)));
      silent = either_way (moves s.reach t) (near_at s t) (no_rows s)
          (ap (λ (l : List (ℕ × Row)). record { at_once = at_once s.reach; leave = rows_of (filter p l); pass = rows_of (filter p (drop s.shown s.held)); enter = rows_of (filter (λ h. not (p h)) (drop s.shown s.held)) }) front
          ∙ ap (λ (l : List (ℕ × Row)). record { at_once = at_once s.reach; leave = rows_of l; pass = rows_of (filter p (drop s.shown s.held)); enter = rows_of (filter (λ h. not (p h)) (drop s.shown s.held)) }) none
          ∙ ap (λ (l : List (ℕ × Row)). record { at_once = at_once s.reach; leave = []; pass = rows_of (filter p l); enter = rows_of (filter (λ h. not (p h)) l) }) back);
    }

unchanged : (s : InstantState) (n b : ℕ) (held : List Element) → Stays n b s → s.held ≡ plain held → (t : ℕ) → n ≤ t → t < b → Unchanged s t held
unchanged s n b held (inl f) same t x y = unmoved s t held (f t x y)
unchanged s n b held (inr h) same t x y = shown_all s t held same h.0 (below_all s.reach t (b - 1) (omega (arith, y)) s.held h.1)

stand_along : (first : ℕ) (s : InstantState) (n d : ℕ) (held : List Element) → ((t : ℕ) → n ≤ t → t < n + d → Unchanged s t held) → InstantsStand first n s held → InstantsStand first (n + d) s held
stand_along first s n zero held f h = let e : n ≡ n + zero = omega arith in subst (λ t. InstantsStand first t s held) e h
stand_along first s n (suc d) held f h =
    let e : n + 1 + d ≡ n + suc d = omega arith in
    let u : Unchanged s n held = f n (omega arith) (omega arith) in
    let here : InstantsStand first (n + 1) s held = subst₂ (λ r l. InstantsStand first (n + 1) r l) u.state u.elements (instant_tick first n s held h).1 in
    subst (λ t. InstantsStand first t s held) e (stand_along first s (n + 1) d held (λ t x y. f t (omega (arith, x)) (omega (arith, y))) here)

pub instants_on : (first : ℕ) (s : InstantState) (n b : ℕ) (held : List Element) → n ≤ b → Stays n b s → InstantsStand first n s held → InstantsStand first b s held
instants_on first s n b held le z h =
    let e : n + (b - n) ≡ b = omega (arith, le) in
    subst (λ t. InstantsStand first t s held) e (stand_along first s n (b - n) held (λ t x y. unchanged s n b held z h.same t x (omega (arith, y, le))) h)

pub instants_quiet : (first : ℕ) (s : InstantState) (n b : ℕ) (held : List Element) → Stays n b s → InstantsStand first n s held
    → (t : ℕ) → n ≤ t → t < b → Same (rows_in_order (take s.shown held)) (window_rows first (shown.Instants s.reach) t held)
instants_quiet first s n b held z h t x y =
    let e : n + (t - n) ≡ t = omega (arith, x) in
    let at : InstantsStand first t s held = subst (λ u. InstantsStand first u s held) e (stand_along first s n (t - n) held (λ u i j. unchanged s n b held z h.same u i (omega (arith, j, y, x))) h) in
    quiet_tick (instant_tick first t s held at).0 (ap (λ c. rows_in (out (Tick t) c)) (unchanged s n b held z h.same t x y).silent ∙ rows_of_tick t [])

-- ---- the last rows of each partition, at any instants
pub latest_on : (first : ℕ) (columns : List ℕ) (k : ℕ) (state : Row → List Row) (n d : ℕ) (held : List Element) → LatestStands first columns k n state held → LatestStands first columns k (n + d) state held
latest_on first columns k state n zero held h = let e : n ≡ n + zero = omega arith in subst (λ t. LatestStands first columns k t state held) e h
latest_on first columns k state n (suc d) held h = let e : n + 1 + d ≡ n + suc d = omega arith in subst (λ t. LatestStands first columns k t state held) e (latest_on first columns k state (n + 1) d held (latest_tick first columns k state n held h).1)

pub latest_quiet : (first : ℕ) (columns : List ℕ) (k : ℕ) (state : Row → List Row) (n : ℕ) (held : List Element) → LatestStands first columns k n state held → (t : ℕ) → n ≤ t → Same (rows_in_order held) (window_rows first (LastRows columns k) t held)
latest_quiet first columns k state n held h t x =
    let e : n + (t - n) ≡ t = omega (arith, x) in
    (latest_tick first columns k state t held (subst (λ u. LatestStands first columns k u state held) e (latest_on first columns k state n (t - n) held h))).0.now
