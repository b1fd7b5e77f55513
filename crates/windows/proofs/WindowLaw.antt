-- The laws of a window, whatever its kind.
use Rattle.std.proofs.Common.{◌≡◌, ℕ, ◌+◌, ◌-◌, ◌<◌, ◌≤◌, Bool, true, false, cond, not, List, [], ◌∷◌, ◌++◌, filter, take, refl, ap, ap₂, sym, ◌∙◌, subst, subst₂, arith}
use Rattle.values.specs.Moving as moving
use Rattle.values.specs.Row.{Row}
use Rattle.values.specs.Window.{Element, LastRows, Window, shows}
use Rattle.op_queue.specs.Items.{item_instant}
use Rattle.op_queue.specs.Paths.{rows_in}
use Rattle.op_queue.specs.declared.item.Item.{Item}
use Rattle.op_queue.specs.declared.item.Item.TheVariants.{Rows, Tick}
use Rattle.windows.specs.Instants as instants
use Rattle.windows.specs.Instants.{InstantState}
use Rattle.windows.specs.Latest as latest
use Rattle.windows.specs.Latest.{LatestState, held_in}
use Rattle.windows.specs.Laws.{AreShown, Each, InstantsStand, IsPart, IsRising, LatestStands, PassesTicks, Stands, TakesRows, TakesTick, WindowRows, WindowTick, coming, rows_in_order, shown_by, shown_of}
use Rattle.windows.specs.Widths.{IsItemWide}
use Rattle.windows.specs.Windows.{Begins, IsAfter, IsEmpty, IsNext, MayTake, Stays, WindowState, near, out, width_of, window_of}
use Rattle.windows.specs.declared.window.Holding.TheVariants.{Instants, Latest}
use Rattle.windows.proofs.InstantsLaw.{held_after, instant_rows, instant_tick}
use Rattle.windows.proofs.LatestLaw.{latest_rows, latest_tick}
use Rattle.windows.proofs.PassingLaw.{instants_on, instants_quiet, latest_on, latest_quiet}

all_kept : (es : List Element) → es ≡ filter (λ e. true) es
all_kept [] = refl
all_kept (e ∷ es) = ap (λ l. e ∷ l) (all_kept es)

whole : (es : List Element) → IsPart es es
whole es = record { test = λ e. true; is = all_kept es }

part_after : (s : InstantState) (t : ℕ) (held : List Element) (b : Bool) → IsPart (cond b (filter (λ e. not (instants.is_past s.reach t (e.instant, e.row))) held) held) held
part_after s t held true = record { test = λ e. not (instants.is_past s.reach t (e.instant, e.row)); is = refl }
part_after s t held false = whole held

-- ---- the next state
-- it stands for what a law of plain partitions says
latest_stands : (first t : ℕ) (s new : LatestState) (i : Item) (h : List Element) → latest.IsAfterItem s i new
    → LatestStands first s.columns s.count t (latest.next s i) h → LatestStands first new.columns new.count t (held_in new.entries) h
latest_stands first t s new i h a st =
    subst₂ (λ c m. LatestStands first c m t (held_in new.entries) h) (sym a.columns) (sym a.count)
    (record { parts = λ k. a.held k ∙ st.parts k; rising = st.rising; up_to = st.up_to; shown = st.shown })

-- it is the same window
pub record SameWindow (s new : WindowState) : Type 0 where
  pub window : window_of new ≡ window_of s
  pub width : width_of new ≡ width_of s

instants_same : (s : InstantState) (i : Item) → SameWindow (Instants s) (Instants (instants.next s i))
instants_same s (Rows t b) = record { window = refl; width = refl }
instants_same s (Tick t) = here (moving.moves s.reach t)
  where
    here : (m : Bool) → SameWindow (Instants s) (Instants (cond m (instants.moved s t) s))
    here true = record { window = refl; width = refl }
    here false = record { window = refl; width = refl }

pub next_same : (s new : WindowState) (i : Item) → IsNext s i new → SameWindow s new
next_same (Instants s) new i e = subst (SameWindow (Instants s)) (sym e) (instants_same s i)
next_same (Latest s) (Instants new) i h = absurd h
next_same (Latest s) (Latest new) i h = record { window = ap₂ (λ c m. LastRows c m) h.columns h.count; width = h.width }

-- ---- rows
pub takes_rows : (first : ℕ) (s new : WindowState) (t : ℕ) (held es : List Element) → Stands first t s held → Each (λ e. e.instant ≡ t) es → IsRising (held ++ es) → IsNext s (Rows t (coming es)) new → TakesRows first t s new held es
takes_rows first (Instants s) new t held es h now rising n =
    let law = instant_rows first t s held es h now in
    subst (λ x. TakesRows first t (Instants s) x held es) (sym n) (record { held2 = held ++ es; law = law.0; part = whole (held ++ es); stands = law.1 })
takes_rows first (Latest s) (Instants new) t held es h now rising n = absurd n
takes_rows first (Latest s) (Latest new) t held es h now rising n =
    let law = latest_rows first s.columns s.count (held_in s.entries) t held es h now rising in
    record {
      held2 = shown_of first (LastRows s.columns s.count) t (held ++ es);
      law = law.0;
      part = record { test = shows first (LastRows s.columns s.count) t (held ++ es); is = refl };
      stands = latest_stands first t s new (Rows t (coming es)) _ n law.1;
    }

-- ---- ticks
pub takes_tick : (first : ℕ) (s new : WindowState) (t : ℕ) (held : List Element) → Stands first t s held → IsNext s (Tick t) new → TakesTick first t s new held
takes_tick first (Instants s) new t held h n =
    let law = instant_tick first t s held h in
    subst (λ x. TakesTick first t (Instants s) x held) (sym n) (record { held2 = held_after s t held; law = law.0; part = part_after s t held (moving.moves s.reach t); stands = law.1 })
takes_tick first (Latest s) (Instants new) t held h n = absurd n
takes_tick first (Latest s) (Latest new) t held h n =
    let law = latest_tick first s.columns s.count (held_in s.entries) t held h in
    record { held2 = held; law = law.0; part = whole held; stands = latest_stands first (t + 1) s new (Tick t) _ n law.1 }

-- ---- ticks at which nothing changes
pub passes_ticks : (first : ℕ) (s : WindowState) (n b : ℕ) (held : List Element) → n ≤ b → Stands first n s held → Stays n b s → PassesTicks first n b s held
passes_ticks first (Instants s) n b held le h z = record { still = instants_quiet first s n b held z h; stands = instants_on first s n b held le z h }
passes_ticks first (Latest s) n b held le h z =
    let e : n + (b - n) ≡ b = omega (arith, le) in
    record {
      still = λ t x y. latest_quiet first s.columns s.count (held_in s.entries) n held h t x;
      stands = subst (λ u. LatestStands first s.columns s.count u (held_in s.entries) held) e (latest_on first s.columns s.count (held_in s.entries) n (b - n) held h);
    }

-- ---- the beginning: it holds and shows nothing
none_shown : (b : Bool) (first : ℕ) (s : InstantState) → s.shown ≡ 0 → AreShown b first first s []
none_shown true first s e = e
none_shown false first s e = λ u is. sym (ap (λ n. take n []) e)

pub begins_empty : (first : ℕ) (s : WindowState) → IsEmpty s → Stands first first s []
begins_empty first (Instants s) h = record { same = h.0; up_to = tt; began = omega arith; few = omega (arith, h.1); shown = none_shown (moving.at_once s.reach) first s h.1 }
begins_empty first (Latest s) h = record { parts = λ k. h k; rising = tt; up_to = tt; shown = refl }

pub shows_none : (s : WindowState) → IsEmpty s → [] ≡ shown_by s []
shows_none (Instants s) h = sym (ap (λ n. rows_in_order (take n [])) h.1)
shows_none (Latest s) h = refl

-- and so it may take an item of any instant
none_held : (t : ℕ) → instants.IsAfter t []
none_held t i d lt = absurd (omega (arith, lt))

none_after : (t : ℕ) (s : WindowState) → IsEmpty s → IsAfter t s
none_after t (Instants s) h = subst (instants.IsAfter t) (sym h.0) (none_held t)
none_after t (Latest s) h = tt

pub begins_after : (told : Window) (w t : ℕ) (s : WindowState) → Begins told w s → IsAfter t s
begins_after told w t s b = none_after t s b.empty

pub begins_take : (told : Window) (w : ℕ) (s : WindowState) (i : Item) → Begins told w s → IsItemWide w i → MayTake s i
begins_take told w s i b wide = record { after = begins_after told w (item_instant i) s b; wide = subst (λ n. IsItemWide n i) (sym b.wide) wide }
