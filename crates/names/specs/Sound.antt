-- What is true of the meaning of each resolved query, as tests.
use Rattle.std.specs.Prelude.{ℕ, Bool, true, false, ◌&&◌, nat_le, nat_lt, List, [], ◌∷◌, length}
use Rattle.std.specs.List.{list_all}
use Rattle.values.specs.declared.TheConstants.{MAX_COLUMNS}
use Rattle.values.specs.declared.resolved.Shape.{Shape}
use Rattle.values.specs.declared.resolved.Shape.TheVariants.{Listed, Grouped}
use Rattle.values.specs.declared.resolved.Window.{Window}
use Rattle.values.specs.declared.resolved.Window.TheVariants.{Instants, LastRows}

-- the rows of its list and of Group By have at most MAX_COLUMNS values
abbrev pub has_narrow_rows : Shape → Bool
has_narrow_rows (Listed columns) = nat_le (length columns.items) MAX_COLUMNS
has_narrow_rows (Grouped by items) =
    nat_le (length by.items) MAX_COLUMNS && nat_le (length items.items) MAX_COLUMNS

-- the columns of Partition By are columns of a source so wide, and at most MAX_COLUMNS
abbrev pub is_within : Window → ℕ → Bool
is_within (Instants reach) width = true
is_within (LastRows columns n) width =
    list_all (λ k. nat_lt k width) columns.items && nat_le (length columns.items) MAX_COLUMNS

abbrev pub all_within : List Window → List ℕ → Bool
all_within [] widths = true
all_within (w ∷ windows) [] = false
all_within (w ∷ windows) (v ∷ widths) = is_within w v && all_within windows widths
