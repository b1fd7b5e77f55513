-- The entries that an item stands for, and what stands at the front of a queue.
use Rattle.std.specs.Prelude.{◌≡◌, ℕ, ◌+◌, ◌-◌, ◌<◌, ◌≤◌, Option, None, Some, List, ◌∷◌, [], length}
use Rattle.std.specs.Prelude.{map, take}
use Rattle.std.specs.List.{range_with_len}
use Rattle.values.specs.Row.{Row}
use Rattle.op_queue.specs.Entries.{Entry, RowAt, TickAt}
use Rattle.op_queue.specs.Forward.{instant_of}
use Rattle.op_queue.specs.declared.item.Item.{Item}
use Rattle.op_queue.specs.declared.item.Item.TheVariants.{Rows, Tick}

abbrev pub entries_of : Item → List (Entry Row)
entries_of (Rows t b) = map (RowAt t) b
entries_of (Tick t) = TickAt t ∷ []

abbrev pub item_instant : Item → ℕ
item_instant (Rows t b) = t
item_instant (Tick t) = t

-- the ticks from the first to the last
abbrev pub ticks : ℕ → ℕ → List (Entry Row)
ticks first last = map TickAt (range_with_len first (last + 1 - first))

-- the instant of the row or the tick that comes first
abbrev pub first_instant : List (Entry Row) → Option ℕ
first_instant [] = None
first_instant (e ∷ es) = Some (instant_of e)

-- the rows before the first tick
abbrev pub front_rows : List (Entry Row) → List (Entry Row)
front_rows [] = []
front_rows (RowAt t s ∷ es) = RowAt t s ∷ front_rows es
front_rows (TickAt t ∷ es) = []

-- the tick at the front, or the first k of the rows before the first tick
abbrev pub front_part : ℕ → List (Entry Row) → List (Entry Row)
front_part k [] = []
front_part k (RowAt t s ∷ es) = take k (front_rows (RowAt t s ∷ es))
front_part k (TickAt t ∷ es) = TickAt t ∷ []

-- the item's entries stand first in the list, and are at most k
pub record IsFrontPart (k : ℕ) (es : List (Entry Row)) (i : Item) : Type 0 where
  pub some : 0 < length (entries_of i)
  pub few : length (entries_of i) ≤ k
  pub first : entries_of i ≡ take (length (entries_of i)) es
