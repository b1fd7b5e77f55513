-- The law of one step of a window, by the bag that the window shows
-- (Arasu, Babu and Widom, "The CQL continuous query language", 2006).
use Rattle.std.specs.Prelude.{ℕ, suc, take, length, ◌+◌, ◌<◌, ◌≤◌, ◌≡◌, Bool, true, false, List, []}
use Rattle.std.specs.Prelude.{◌∷◌, ◌++◌, map, filter}
use Rattle.values.specs.Moving.{at_once}
use Rattle.values.specs.Row.{Row, same_row}
use Rattle.values.specs.Window as shown
use Rattle.values.specs.Window.{Element, Window, LastRows, is_later}
use Rattle.values.specs.Window.{shows, window_rows}
use Rattle.values.specs.Plain.{plain}
use Rattle.op_queue.specs.Paths.{rows_in}
use Rattle.op_queue.specs.Signed.{Same, Turns}
use Rattle.op_queue.specs.declared.item.Item.TheVariants.{Rows, Tick}
use Rattle.windows.specs.Instants.{InstantState}
use Rattle.windows.specs.Latest.{held_in, key_in}
use Rattle.windows.specs.Windows.{WindowState, near, out, window_of}
use Rattle.windows.specs.declared.window.Holding.TheVariants.{Instants, Latest}

-- every item has P
abbrev pub Each : {A : Type 0} → (A → Type 0) → List A → Type 0
Each P [] = Unit {0}
Each P (x ∷ xs) = P x × Each P xs

abbrev pub IsLater : Element → Element → Type 0
IsLater e f = is_later e f ≡ true

-- each element came later than those before it
abbrev pub IsRising : List Element → Type 0
IsRising [] = Unit {0}
IsRising (e ∷ es) = Each (IsLater e) es × IsRising es

-- each of `later` came later than all of es
abbrev pub ComeAfter : List Element → List Element → Type 0
ComeAfter es later = Each (λ f. Each (λ e. IsLater e f) es) later

abbrev pub AreUpTo : ℕ → List Element → Type 0
AreUpTo t es = Each (λ e. e.instant ≤ t) es

abbrev pub rows_in_order : List Element → List Row
rows_in_order es = map (λ e. e.row) es

-- the elements that the window shows
abbrev pub shown_of : ℕ → Window → ℕ → List Element → List Element
shown_of from w t es = filter (shows from w t es) es

-- AT ROWS of the instant t: the window holds the elements `held` and has put out the bag o; the
-- elements es come, it puts out ys, and then it holds `held2` and has put out o2. What it shows at
-- t or later, whatever comes later still, it shows by what it holds
pub record WindowRows (from : ℕ) (w : Window) (t : ℕ) (held : List Element) (o : List Row)
    (es : List Element) (ys : List (Bool × Row)) (held2 : List Element)
    (o2 : List Row) : Type 0 where
  pub puts : Turns o ys o2
  pub stays : (u : ℕ) (later : List Element) → t ≤ u → ComeAfter (held ++ es) later
      → Same (window_rows from w u (held ++ (es ++ later))) (window_rows from w u (held2 ++ later))

-- AT THE TICK of t: what it has then put out is what the window shows
pub record WindowTick (from : ℕ) (w : Window) (t : ℕ) (held : List Element) (o : List Row)
    (ys : List (Bool × Row)) (held2 : List Element) (o2 : List Row) : Type 0 where
  pub puts : Turns o ys o2
  pub now : Same o2 (window_rows from w t held)
  pub stays : (u : ℕ) (later : List Element) → t < u → ComeAfter held later
      → Same (window_rows from w u (held ++ later)) (window_rows from w u (held2 ++ later))

-- the rows of elements that come in
abbrev pub coming : List Element → List (Bool × Row)
coming es = map (λ e. (true, e.row)) es

-- some elements of a list, in its order
pub record IsPart (part es : List Element) : Type 0 where
  pub test : Element → Bool
  pub is : part ≡ filter test es

-- ---- instants
-- at the open instant t it shows all that it holds, if rows are shown as soon as they
-- come; else those that the window showed at the instant before
abbrev pub AreShown : Bool → ℕ → ℕ → InstantState → List Element → Type 0
AreShown true from t s held = s.shown ≡ length held
AreShown false from t s held = (u : ℕ) → suc u ≡ t
    → shown_of from (shown.Instants s.reach) u held ≡ take s.shown held

-- at the open instant t the state holds these elements
pub record InstantsStand (from t : ℕ) (s : InstantState) (held : List Element) : Type 0 where
  pub same : s.held ≡ plain held
  pub up_to : AreUpTo t held
  pub began : from ≤ t
  pub few : s.shown ≤ length held
  pub shown : AreShown (at_once s.reach) from t s held

-- ---- the last rows of each partition
abbrev pub is_of : List ℕ → Row → Element → Bool
is_of columns k e = same_row (key_in columns e.row) k

-- what the state holds of each partition at the instant t
-- are the rows of these elements, and all of them are shown
pub record LatestStands (from : ℕ) (columns : List ℕ) (n t : ℕ) (state : Row → List Row)
    (held : List Element) : Type 0 where
  pub parts : (k : Row) → state k ≡ rows_in_order (filter (is_of columns k) held)
  pub rising : IsRising held
  pub up_to : AreUpTo t held
  pub shown : shown_of from (LastRows columns n) t held ≡ held

-- ---- any window
-- at the open instant t the state holds these elements
abbrev pub Stands : ℕ → ℕ → WindowState → List Element → Type 0
Stands from t (Instants s) held = InstantsStand from t s held
Stands from t (Latest s) held = LatestStands from s.columns s.count t (held_in s.entries) held

-- what it has put out of them
abbrev pub shown_by : WindowState → List Element → List Row
shown_by (Instants s) held = rows_in_order (take s.shown held)
shown_by (Latest s) held = rows_in_order held

-- IT TAKES THE ROWS of the elements es at the instant t
pub record TakesRows (from t : ℕ) (s new : WindowState) (held es : List Element) : Type 0 where
  pub held2 : List Element
  pub law : WindowRows from (window_of s) t held (shown_by s held) es
      (rows_in (out (Rows t (coming es)) (near s (Rows t (coming es))))) held2 (shown_by new held2)
  pub part : IsPart held2 (held ++ es)
  pub stands : Stands from t new held2

-- IT TAKES THE TICK of the instant t
pub record TakesTick (from t : ℕ) (s new : WindowState) (held : List Element) : Type 0 where
  pub held2 : List Element
  pub law : WindowTick from (window_of s) t held (shown_by s held)
      (rows_in (out (Tick t) (near s (Tick t)))) held2 (shown_by new held2)
  pub part : IsPart held2 held
  pub stands : Stands from (t + 1) new held2

-- IT PASSES THE TICKS from the instant n to below b: what it has put out is what it shows at each
pub record PassesTicks (from n b : ℕ) (s : WindowState) (held : List Element) : Type 0 where
  pub still : (t : ℕ) → n ≤ t → t < b
      → Same (shown_by s held) (window_rows from (window_of s) t held)
  pub stands : Stands from b s held
