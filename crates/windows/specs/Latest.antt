-- The turns of a window of the last rows of each partition.
use Rattle.std.specs.Prelude.{ℕ, suc, ◌-◌, ◌≡◌, ◌≤◌, Bool, false, cond, nat_lt, Option, Some, None}
use Rattle.std.specs.Prelude.{List, [], ◌∷◌, ◌++◌, map, length, drop, get_or, unwrap_or}
use Rattle.std.specs.Map.{lookup}
use Rattle.std.specs.BTreeMap.{is_at}
use Rattle.std.specs.declared.cmp.Ordering.{Ordering}
use Rattle.values.specs.Row.{Row, row_cmp, same_row, value_at}
use Rattle.op_queue.specs.Entries.{Entry, RowAt, TickAt}
use Rattle.op_queue.specs.declared.item.Item.{Item}
use Rattle.op_queue.specs.declared.item.Item.TheVariants.{Rows, Tick}
use Rattle.windows.specs.Widths.{OneRow, AreWide, HaveOneWidth}

abbrev pub key_cmp : OneRow → OneRow → Ordering
key_cmp r s = row_cmp r.items s.items

-- what a map has at a key
abbrev pub part : OneRow → List (OneRow × List Row) → List Row
part k es = unwrap_or (lookup (is_at (key_cmp k)) es) []

-- what is held of the partition of each key, the oldest first
abbrev pub held_in : List (OneRow × List Row) → Row → List Row
held_in es k = part (record { items = k }) es

-- the columns of a partition, none where all rows are one; how many rows it shows of
-- each; how many columns its rows have; and what it holds of the partition of each key
pub record LatestState : Type 0 where
  pub columns : List ℕ
  pub count : ℕ
  pub width : ℕ
  pub entries : List (OneRow × List Row)

-- the values in the columns of a partition
abbrev pub key_in : List ℕ → Row → Row
key_in columns row = map (value_at row) columns

-- the last n
abbrev pub last_of : {A : Type 0} → ℕ → List A → List A
last_of n xs = drop (length xs - n) xs

-- the oldest, where there are more than n
abbrev pub fallen_of : ℕ → List Row → Option Row
fallen_of n rows = cond (nat_lt n (length rows)) (Some (get_or rows 0 [])) None

-- what is held after a row
abbrev pub held_after : List ℕ → ℕ → (Row → List Row) → Row → Row → List Row
held_after columns n held row k =
    cond (same_row (key_in columns row) k) (last_of n (held k ++ row ∷ [])) (held k)

abbrev pub all_after : List ℕ → ℕ → (Row → List Row) → List (Bool × Row) → Row → List Row
all_after columns n held [] = held
all_after columns n held (x ∷ xs) = all_after columns n (held_after columns n held x.1) xs

-- of each row in turn, the row of its partition that it makes fall out, if that is full
abbrev pub all_fallen : List ℕ → ℕ → (Row → List Row) → List (Bool × Row) → List (Option Row)
all_fallen columns n held [] = []
all_fallen columns n held (x ∷ xs) =
    fallen_of n (held (key_in columns x.1) ++ x.1 ∷ [])
    ∷ all_fallen columns n (held_after columns n held x.1) xs

abbrev pub near : LatestState → Item → List (Option Row)
near s (Rows t b) = all_fallen s.columns s.count (held_in s.entries) b
near s (Tick t) = []

-- row by row the new one, then the one that falls out with minus
abbrev pub minus_of : Option Row → List (Bool × Row)
minus_of None = []
minus_of (Some r) = (false, r) ∷ []

abbrev pub interleaved : List (Bool × Row) → List (Option Row) → List (Bool × Row)
interleaved [] fallen = []
interleaved (x ∷ xs) [] = []
interleaved (x ∷ xs) (f ∷ fallen) = x ∷ (minus_of f ++ interleaved xs fallen)

abbrev pub out : Item → List (Option Row) → List (Entry Row)
out (Rows t b) fallen = map (RowAt t) (interleaved b fallen)
out (Tick t) fallen = TickAt t ∷ []

abbrev pub next : LatestState → Item → Row → List Row
next s (Rows t b) = all_after s.columns s.count (held_in s.entries) b
next s (Tick t) = held_in s.entries

-- the same window, and of each partition what is next
pub record IsAfterItem (s : LatestState) (i : Item) (new : LatestState) : Type 0 where
  pub columns : new.columns ≡ s.columns
  pub count : new.count ≡ s.count
  pub width : new.width ≡ s.width
  pub held : (k : Row) → held_in new.entries k ≡ next s i k

-- no partition has more rows than it shows, and all have this many columns
pub record AreParts (n w : ℕ) (held : Row → List Row) : Type 0 where
  pub few : (k : Row) → length (held k) ≤ n
  pub wide : (k : Row) → AreWide w (held k)

-- the row at a place, if there is one
abbrev pub row_in : List Row → ℕ → Option Row
row_in rows place = cond (nat_lt place (length rows)) (Some (get_or rows place [])) None

-- of more than n rows the one that the last makes fall out of the last n
abbrev pub fallen_in : ℕ → List Row → Option Row
fallen_in n rows = cond (nat_lt n (length rows)) (Some (get_or rows (length rows - suc n) [])) None

-- as many as the rows, and of their width
abbrev pub AreFallen : List (Bool × Row) → List (Option Row) → Type 0
AreFallen b fallen = (length fallen ≡ length b) × HaveOneWidth (interleaved b fallen)

-- the same of an item
abbrev pub FallenFit : Item → List (Option Row) → Type 0
FallenFit (Rows t b) fallen = AreFallen b fallen
FallenFit (Tick t) fallen = Unit {0}
