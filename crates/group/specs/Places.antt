-- What stands at the places of a list, some of which are free.
use Rattle.std.specs.Prelude.{ℕ, List, Option, Some, None, slice_index_or}
use Rattle.group.specs.Cells.{Held, CellState}
use Rattle.group.specs.declared.slot_list.ListPlace.{ListPlace}
use Rattle.group.specs.declared.slot_list.ListPlace.TheVariants.{Free, Taken}

-- the group here, if there is one
abbrev pub slot_of : {n : ℕ} → ListPlace n → Option (Held × CellState)
slot_of (Taken s) = Some s
slot_of (Free next) = None

-- the group at a place of the list, if there is one
abbrev pub at_place : {n : ℕ} → List (ListPlace n) → ℕ → Option (Held × CellState)
at_place xs p = slot_of (slice_index_or xs p (Free 0))
