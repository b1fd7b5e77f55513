-- The open rows of a stream in two parts: those that came
-- in the order of their instants, and those that came late.
use Rattle.std.specs.Prelude.{◌≡◌, ℕ, ℤ, ◌<◌, ◌≤◌, ◌+◌, ◌*◌, ◌++◌, Option, List, [], ◌∷◌, length}
use Rattle.std.specs.Prelude.{map, take}
use Rattle.std.specs.List.{AllByRecursion, range_with_len}
use Rattle.values.specs.Row.{Row}
use Rattle.values.specs.Window.{Element}
use Rattle.stream_store.specs.declared.ordered_rows.OrderedHead.{OrderedHead}
use Rattle.stream_store.specs.LateRows.{IsFlat, numbered_rows, rows_in}
use Rattle.stream_store.specs.Open.{Entry, AreWide, after_put, below, elements_at, open_of, placed}

-- by this key no element is above one behind it
abbrev pub Rising : (Element → ℕ) → List Element → Type 0
Rising f [] = Unit {0}
Rising f (e ∷ es) = AllByRecursion (λ g. f e ≤ f g) es × Rising f es

-- ---- rows that came in the order of their instants
-- how many columns they have, the instant that they have reached, and the rows by arrival
pub record RisenRows : Type 0 where
  pub width : ℕ
  pub reached : ℕ
  pub rows : List Element

abbrev pub instant_of : OrderedHead → ℕ
instant_of h = h.high * 4294967296 + h.low

-- what a head says: an instant and a number
abbrev pub key_of : OrderedHead → ℕ × ℕ
key_of h = (instant_of h, h.number)

-- so many rows of one instant, with numbers from n on
abbrev pub keys_from : ℕ → ℕ → ℕ → List (ℕ × ℕ)
keys_from instant n count = map (λ m. (instant, m)) (range_with_len n count)

abbrev pub headed : OrderedHead × Row → Element
headed r = record { arrival = r.0.number; instant = instant_of r.0; row = r.1 }

-- each head with its values
abbrev pub risen_in : ℕ → List OrderedHead → List (Option ℤ) → List Element
risen_in width heads values = map headed (rows_in width heads values)

pub record IsRisen (width reached : ℕ) (heads : List OrderedHead) (values : List (Option ℤ))
    : Type 0 where
  pub flat : IsFlat width heads values
  pub rising : Rising (λ e. e.instant) (risen_in width heads values)
  pub within : AllByRecursion (λ (e : Element). e.instant ≤ reached) (risen_in width heads values)

-- more rows of one instant, with numbers from n on
abbrev pub with_risen : ℕ → ℕ → List (ℕ × Row) → RisenRows → RisenRows
with_risen instant n rows risen =
    record {
      width = risen.width;
      reached = instant;
      rows = risen.rows ++ elements_at instant (numbered_rows n rows);
    }

-- the first rows, and the instant that they had reached
abbrev pub first_risen : ℕ → ℕ → RisenRows → RisenRows
first_risen count reached risen =
    record { width = risen.width; reached = reached; rows = take count risen.rows }

-- ---- both parts
-- how many columns the open rows have, and the rows by instant, then arrival
pub record OpenElements : Type 0 where
  pub width : ℕ
  pub rows : List Element

-- with elements that came late, each behind those of its instant and of earlier ones
abbrev pub with_late : List Element → List Element → List Element
with_late [] es = es
with_late (l ∷ late) es = with_late late (placed l es)

abbrev pub open_in : RisenRows → List Entry → OpenElements
open_in risen late = record { width = risen.width; rows = with_late (open_of late) risen.rows }

-- what is late lies below the instant that the others have reached
pub record IsOpen (risen : RisenRows) (late : List Entry) : Type 0 where
  pub wide : AreWide risen.width late
  pub below : AllByRecursion (λ (e : Element). e.instant < risen.reached) (open_of late)

-- more rows came, with numbers from n on: what stands then, and what of it stood before
pub record IsMore (n : ℕ) (rows : List (ℕ × Row)) (risen : RisenRows) (late : List Entry)
    (new_risen : RisenRows) (new_late : List Entry) : Type 0 where
  pub put : with_late (open_of new_late) new_risen.rows
      ≡ after_put n rows (with_late (open_of late) risen.rows)
  pub parts : IsOpen new_risen new_late
  pub width : new_risen.width ≡ risen.width
  pub longer : length risen.rows ≤ length new_risen.rows
  pub kept : (k : ℕ) → k ≤ length risen.rows → take k new_risen.rows ≡ take k risen.rows
  pub stays : (k : ℕ) → k ≤ n → below k new_late ≡ below k late
