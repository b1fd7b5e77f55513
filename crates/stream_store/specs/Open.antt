-- Open rows as the entries of a map from their instants, and as elements.
use Rattle.std.specs.Prelude.{◌≡◌, ℕ, suc, nat_le, nat_lt, if◌then◌else◌, List, [], ◌∷◌, map}
use Rattle.std.specs.List.{AllByRecursion, filter, flat_map}
use Rattle.std.specs.Ordering.{nat_cmp, match_ordering}
use Rattle.values.specs.Row.{Row}
use Rattle.values.specs.Window.{Element}
use Rattle.stream_store.specs.LateRows.{RowsAt, none_at, with_rows, first_below, has_rows}

-- an instant and its rows
abbrev pub Entry : Type 0
Entry = ℕ × RowsAt

-- the rows of an instant as elements
abbrev pub elements_at : ℕ → List (ℕ × Row) → List Element
elements_at instant rows = map (λ r. record { arrival = r.0; instant = instant; row = r.1 }) rows

-- by instant, then arrival
abbrev pub open_of : List Entry → List Element
open_of entries = flat_map (λ e. elements_at e.0 e.1.rows) entries

-- the rows of each instant have so many columns
abbrev pub AreWide : ℕ → List Entry → Type 0
AreWide columns entries = AllByRecursion (λ (e : Entry). e.1.width ≡ columns) entries

-- more rows of one instant, behind its others, with numbers from n on
abbrev pub put_rows : ℕ → ℕ → ℕ → List (ℕ × Row) → List Entry → List Entry
put_rows width instant n rows [] = (instant, with_rows n rows (none_at width)) ∷ []
put_rows width instant n rows (e ∷ es) =
    match_ordering (nat_cmp instant e.0) ((instant, with_rows n rows (none_at width)) ∷ e ∷ es)
    ((e.0, with_rows n rows e.1) ∷ es) (e ∷ put_rows width instant n rows es)

-- the rows have this instant
abbrev pub AreAt : ℕ → List (ℕ × Row) → Type 0
AreAt instant rows = AllByRecursion (λ (r : ℕ × Row). r.0 ≡ instant) rows

-- an element that came last, behind those of its instant and of earlier ones
abbrev pub placed : Element → List Element → List Element
placed last [] = last ∷ []
placed last (e ∷ es) = if nat_lt last.instant e.instant then last ∷ e ∷ es else e ∷ placed last es

-- rows that came one after another, with numbers from n on
abbrev pub after_put : ℕ → List (ℕ × Row) → List Element → List Element
after_put n [] es = es
after_put n (r ∷ rows) es = after_put (suc n) rows
    (placed (record { arrival = n; instant = r.0; row = r.1 }) es)

-- without the rows of the numbers from n on, which are the last
-- ones of their instants, and without instants that have no row
abbrev pub below : ℕ → List Entry → List Entry
below n entries = filter (λ e. has_rows e.1) (map (λ e. (e.0, first_below n e.1)) entries)

-- the instants past one
abbrev pub instants_past : ℕ → List Entry → List Entry
instants_past at entries = filter (λ e. nat_lt at e.0) entries

-- the elements up to an instant
abbrev pub up_to : ℕ → List Element → List Element
up_to at es = filter (λ e. nat_le e.instant at) es

-- the elements past it
abbrev pub past : ℕ → List Element → List Element
past at es = filter (λ e. nat_lt at e.instant) es
