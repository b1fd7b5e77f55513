-- The definitions at worked examples.
use Rattle.std.specs.Prelude.{◌≡◌, ℕ, Some, pos, List, [], ◌∷◌, codes, refl}
use Rattle.values.specs.Row.{Row}
use Rattle.values.specs.Window.{Element}
use Rattle.reference.specs.Machine.{Stream}
use Rattle.stream_store.specs.LateRows.{rows_in}
use Rattle.stream_store.specs.Open.{Entry, open_of, put_rows, after_put, below, instants_past}
use Rattle.stream_store.specs.Open.{up_to}
use Rattle.stream_store.specs.OpenRows.{risen_in, with_late}
use Rattle.stream_store.specs.Closing.{by_key, closed_of}
use Rattle.stream_store.specs.Gains.{closing_of}

abbrev row : ℕ → Row
row n = Some (pos n) ∷ []

abbrev element : ℕ → ℕ → ℕ → Element
element arrival instant n = record { arrival = arrival; instant = instant; row = row n }

-- three rows came, the last one at the earliest instant; the instants 0 and 1 are closed
abbrev stream : Stream
stream = record {
  name = codes "S";
  columns = codes "a" ∷ [];
  elements = element 0 3 7 ∷ element 1 1 5 ∷ element 2 1 6 ∷ [];
  arrivals = 3;
  first_open = 2;
}

closed_rows : (closed_of stream).elements ≡ element 1 1 5 ∷ element 2 1 6 ∷ []
closed_rows = refl

rows_to_close : closing_of (pos 3) stream ≡ element 0 3 7 ∷ []
rows_to_close = refl

none_to_close : closing_of (pos 2) stream ≡ []
none_to_close = refl

by_arrival : by_key (λ e. e.arrival) 0 3 (element 1 1 5 ∷ element 2 1 6 ∷ element 0 3 7 ∷ [])
    ≡ stream.elements
by_arrival = refl

-- rows of two columns, kept flat
flat_rows : rows_in {H = ℕ} 2 (0 ∷ 4 ∷ [])
    (Some (pos 7) ∷ Some (pos 8) ∷ Some (pos 5) ∷ Some (pos 6) ∷ [])
    ≡ (0, Some (pos 7) ∷ Some (pos 8) ∷ []) ∷ (4, Some (pos 5) ∷ Some (pos 6) ∷ []) ∷ []
flat_rows = refl

-- the open rows of the instants 1 and 3
abbrev entries : List Entry
entries = (1, record { width = 1; rows = (1, row 5) ∷ (2, row 6) ∷ [] })
    ∷ (3, record { width = 1; rows = (0, row 7) ∷ [] }) ∷ []

late_rows : open_of entries ≡ element 1 1 5 ∷ element 2 1 6 ∷ element 0 3 7 ∷ []
late_rows = refl

-- one more row at an instant that has rows, and two at an instant that has none
one_behind : open_of (put_rows 1 1 3 ((1, row 4) ∷ []) entries)
    ≡ element 1 1 5 ∷ element 2 1 6 ∷ element 3 1 4 ∷ element 0 3 7 ∷ []
one_behind = refl

two_between : open_of (put_rows 1 2 3 ((2, row 4) ∷ (2, row 9) ∷ []) entries)
    ≡ element 1 1 5 ∷ element 2 1 6 ∷ element 3 2 4 ∷ element 4 2 9 ∷ element 0 3 7 ∷ []
two_between = refl

two_more : after_put 3 ((1, row 4) ∷ (2, row 9) ∷ []) (open_of entries)
    ≡ element 1 1 5 ∷ element 2 1 6 ∷ element 3 1 4 ∷ element 4 2 9 ∷ element 0 3 7 ∷ []
two_more = refl

-- a refused append leaves nothing, not even an instant
none_left : below 3 (put_rows 1 2 4 ((2, row 9) ∷ [])
    (put_rows 1 1 3 ((1, row 4) ∷ []) entries)) ≡ entries
none_left = refl

up_to_two : up_to 2 (open_of entries) ≡ element 1 1 5 ∷ element 2 1 6 ∷ []
up_to_two = refl

past_two : open_of (instants_past 2 entries) ≡ element 0 3 7 ∷ []
past_two = refl

-- ---- both parts
-- rows of one column that came in the order of their instants
risen_rows : risen_in 1 (record { high = 0; low = 3; number = 0 }
    ∷ record { high = 2; low = 1; number = 4 } ∷ []) (Some (pos 7) ∷ Some (pos 5) ∷ [])
    ≡ element 0 3 7 ∷ element 4 8589934593 5 ∷ []
risen_rows = refl

-- the rows 0, 1 and 4 rose; the rows 2 and 3 came late, the row 2 at an instant that has the row 0
both_parts : with_late (element 2 3 6 ∷ element 3 4 1 ∷ [])
    (element 0 3 7 ∷ element 1 5 8 ∷ element 4 5 9 ∷ [])
    ≡ element 0 3 7 ∷ element 2 3 6 ∷ element 3 4 1 ∷ element 1 5 8 ∷ element 4 5 9 ∷ []
both_parts = refl
