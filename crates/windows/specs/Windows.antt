-- The turns of a window, whatever its kind: it shows rows by their instants, or the last of each
-- partition.
use Rattle.std.specs.Prelude.{ℕ, ◌≡◌, ◌≤◌, List, [], length}
use Rattle.values.specs.Row.{Row}
use Rattle.values.specs.Window as shown
use Rattle.values.specs.declared.TheConstants.{MAX_COLUMNS}
use Rattle.values.specs.declared.resolved.Window.{Window as Told}
use Rattle.values.specs.declared.resolved.Window.TheVariants as told
use Rattle.op_queue.specs.Entries.{Entry}
use Rattle.op_queue.specs.Items.{item_instant}
use Rattle.op_queue.specs.declared.item.Item.{Item}
use Rattle.windows.specs.Instants as instants
use Rattle.windows.specs.Latest as latest
use Rattle.windows.specs.Latest.{LatestState}
use Rattle.windows.specs.Widths.{IsItemWide}
use Rattle.windows.specs.declared.window.Holding.{Holding}
use Rattle.windows.specs.declared.window.Holding.TheVariants.{Instants, Latest}
use Rattle.windows.specs.declared.window.Needed.{Needed}
use Rattle.windows.specs.declared.window.Needed.TheVariants as needed

-- what a window holds, and what a turn needs of it
abbrev pub WindowState : Type 0
WindowState = Holding

abbrev pub WindowExcerpt : Type 0
WindowExcerpt = Needed

-- which window of the query language it is
abbrev pub window_of : WindowState → shown.Window
window_of (Instants s) = shown.Instants s.reach
window_of (Latest s) = shown.LastRows s.columns s.count

-- how many columns its rows have
abbrev pub width_of : WindowState → ℕ
width_of (Instants s) = s.width
width_of (Latest s) = s.width

-- THE EXCERPT, and what is put out
abbrev pub near : WindowState → Item → WindowExcerpt
near (Instants s) i = needed.Instants (instants.near s i)
near (Latest s) i = needed.Latest (latest.near s i)

abbrev pub out : Item → WindowExcerpt → List (Entry Row)
out i (needed.Instants n) = instants.out i n
out i (needed.Latest fallen) = latest.out i fallen

-- the excerpt's rows have one width, and where rows fall out it speaks of each row of the item
abbrev pub Fits : Item → WindowExcerpt → Type 0
Fits i (needed.Instants n) = instants.HaveOneWidthIn n
Fits i (needed.Latest fallen) = latest.FallenFit i fallen

-- THE NEXT STATE. The last rows of partitions are kept by key, in a list that may stand in any way
-- that has the same rows at each key
abbrev pub IsNextLatest : LatestState → Item → WindowState → Type 0
IsNextLatest s i (Instants new) = ⊥
IsNextLatest s i (Latest new) = latest.IsAfterItem s i new

abbrev pub IsNext : WindowState → Item → WindowState → Type 0
IsNext (Instants s) i new = new ≡ Instants (instants.next s i)
IsNext (Latest s) i new = IsNextLatest s i new

-- THE CALLER'S CONDITIONS: instants come one after the other, and the item has the columns
abbrev pub IsAfter : ℕ → WindowState → Type 0
IsAfter t (Instants s) = instants.IsAfter t s.held
IsAfter t (Latest s) = Unit {0}

pub record MayTake (s : WindowState) (i : Item) : Type 0 where
  pub after : IsAfter (item_instant i) s
  pub wide : IsItemWide (width_of s) i

-- NOTHING CHANGES at the ticks from the instant n to below b
abbrev pub Stays : ℕ → ℕ → WindowState → Type 0
Stays n b (Instants s) = instants.Stays n b s
Stays n b (Latest s) = Unit {0}

-- AT ITS BEGINNING it holds nothing
abbrev pub IsEmpty : WindowState → Type 0
IsEmpty (Instants s) = (s.held ≡ []) × (s.shown ≡ 0)
IsEmpty (Latest s) = (k : Row) → latest.held_in s.entries k ≡ []

pub record Begins (window : shown.Window) (width : ℕ) (s : WindowState) : Type 0 where
  pub shows : window_of s ≡ window
  pub wide : width_of s ≡ width
  pub empty : IsEmpty s

-- the caller's condition: a partition is by no more columns than a row has
abbrev pub IsFormed : Told → Type 0
IsFormed (told.Instants r) = Unit {0}
IsFormed (told.LastRows columns n) = length columns.items ≤ MAX_COLUMNS
