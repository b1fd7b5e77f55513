-- Rows of one width with their instants, kept flat: the instants, and the values of all rows.
use Rattle.std.specs.Prelude.{ℕ, List, [], ◌∷◌, take, drop, Option, ℤ}
use Rattle.values.specs.Row.{Row}

abbrev pub kept_in : ℕ → List ℕ → List (Option ℤ) → List (ℕ × Row)
kept_in width [] values = []
kept_in width (at ∷ instants) values =
    (at, take width values) ∷ kept_in width instants (drop width values)
