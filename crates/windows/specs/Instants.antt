-- The turns of a window that shows rows by their instants.
use Rattle.std.specs.Prelude.{ℕ, ◌≡◌, ◌-◌, ◌<◌, ◌≤◌, ◌⊎◌, Bool, true, false, cond, not, nat_lt}
use Rattle.std.specs.Prelude.{List, [], ◌∷◌, ◌++◌, map, length, take, drop}
use Rattle.std.specs.List.{filter, All}
use Rattle.std.specs.List.Sorted.{IsNonDecreasingBy}
use Rattle.values.specs.Moving.{at_once, moves, oldest}
use Rattle.values.specs.Row.{Row}
use Rattle.values.specs.declared.reach.Reach.{Reach}
use Rattle.op_queue.specs.Entries.{Entry, RowAt, TickAt}
use Rattle.op_queue.specs.declared.item.Item.{Item}
use Rattle.op_queue.specs.declared.item.Item.TheVariants.{Rows, Tick}
use Rattle.windows.specs.Widths.{AreWide}

-- which instants it shows; how many columns its rows have; its rows with their instants,
-- in order; and how many of them, from the first on, it shows
pub record InstantState : Type 0 where
  pub reach : Reach
  pub width : ℕ
  pub held : List (ℕ × Row)
  pub shown : ℕ

-- rows stand by instant, and have so many columns
pub record IsInOrder (w : ℕ) (held : List (ℕ × Row)) : Type 0 where
  pub ordered : IsNonDecreasingBy (λ h. h.0) held
  pub wide : All (λ h. length h.1 ≡ w) held

-- and those that are shown are in front
pub record IsInstants (w : ℕ) (held : List (ℕ × Row)) (shown : ℕ) : Type 0 where
  pub order : IsInOrder w held
  pub few : shown ≤ length held

-- once it has moved at the tick of the instant t, the row is of an earlier instant than it shows
abbrev pub is_past : Reach → ℕ → ℕ × Row → Bool
is_past r t h = nat_lt h.0 (oldest r t)

-- no held row is of a later instant
abbrev pub IsAfter : ℕ → List (ℕ × Row) → Type 0
IsAfter t held = All (λ h. h.0 ≤ t) held

-- how many rows are past
abbrev pub past_count : InstantState → ℕ → ℕ
past_count s t = length (filter (is_past s.reach t) s.held)

-- NOTHING CHANGES at the ticks from the instant n to below b: the window does not move, or it shows
-- all its rows, and at the last of these ticks none of them is past
abbrev pub Stays : ℕ → ℕ → InstantState → Type 0
Stays n b s = ((t : ℕ) → n ≤ t → t < b → moves s.reach t ≡ false)
    ⊎ ((s.shown ≡ length s.held) × (filter (is_past s.reach (b - 1)) s.held ≡ []))

-- WHAT A TURN NEEDS: whether rows are shown as soon as they come; at a tick at which it moves, the
-- shown rows that leave, the other rows that go and were never shown, and those that are shown from
-- now on
pub record InstantExcerpt : Type 0 where
  pub at_once : Bool
  pub leave : List Row
  pub pass : List Row
  pub enter : List Row

-- all rows have as many columns
abbrev pub HaveOneWidthIn : InstantExcerpt → Type 0
HaveOneWidthIn n = (w : ℕ) × (AreWide w n.leave × AreWide w n.enter)

abbrev pub rows_in : List (ℕ × Row) → List Row
rows_in held = map (λ h. h.1) held

-- where it does not move
abbrev pub no_rows : InstantState → InstantExcerpt
no_rows s = record { at_once = at_once s.reach; leave = []; pass = []; enter = [] }

-- where it moves
abbrev pub near_at : InstantState → ℕ → InstantExcerpt
near_at s t = record {
  at_once = at_once s.reach;
  leave = rows_in (filter (is_past s.reach t) (take s.shown s.held));
  pass = rows_in (filter (is_past s.reach t) (drop s.shown s.held));
  enter = rows_in (filter (λ h. not (is_past s.reach t h)) (drop s.shown s.held));
}

abbrev pub near : InstantState → Item → InstantExcerpt
near s (Rows t b) = no_rows s
near s (Tick t) = cond (moves s.reach t) (near_at s t) (no_rows s)

abbrev pub leaving : Row → Bool × Row
leaving r = (false, r)

abbrev pub entering : Row → Bool × Row
entering r = (true, r)

-- a row that enters or leaves
abbrev pub with_sign : Bool → Row → Bool × Row
with_sign enters r = (enters, r)

-- those that leave and then those that enter
abbrev pub signed : InstantExcerpt → List (Bool × Row)
signed n = map leaving n.leave ++ map entering n.enter

-- WHAT IT PUTS OUT: the rows that came, if they are shown at once;
-- at a tick what the excerpt has, and then the tick
abbrev pub out : Item → InstantExcerpt → List (Entry Row)
out (Rows t b) n = cond n.at_once (map (RowAt t) b) []
out (Tick t) n = map (RowAt t) (signed n) ++ TickAt t ∷ []

-- where it moves
abbrev pub moved_out : InstantState → ℕ → List (Entry Row)
moved_out s t = out (Tick t) (near_at s t)

-- at any tick
abbrev pub tick_out : InstantState → ℕ → List (Entry Row)
tick_out s t = out (Tick t) (near s (Tick t))

-- THE NEXT STATE
abbrev pub held_at : ℕ → Bool × Row → ℕ × Row
held_at t s = (t, s.1)

-- with other rows, of which it shows all, or as many as before
abbrev pub with_rows : InstantState → Bool → List (ℕ × Row) → InstantState
with_rows s all held = record {
  reach = s.reach;
  width = s.width;
  held = held;
  shown = cond all (length held) s.shown;
}

-- after a tick at which it moves
abbrev pub moved : InstantState → ℕ → InstantState
moved s t = with_rows s true (filter (λ h. not (is_past s.reach t h)) s.held)

abbrev pub next : InstantState → Item → InstantState
next s (Rows t b) = with_rows s (at_once s.reach) (s.held ++ map (held_at t) b)
next s (Tick t) = cond (moves s.reach t) (moved s t) s
