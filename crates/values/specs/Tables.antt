-- Tables: the bags that windows show, one for each.
use Rattle.std.specs.Prelude.{List, [], ◌∷◌}
use Rattle.values.specs.Row.{Row}
use Rattle.values.specs.Perm.{Perm}

-- the tables are in pairs the same bags
abbrev pub SameTables : List (List Row) → List (List Row) → Type 0
SameTables [] [] = Unit {0}
SameTables [] (v ∷ vs) = ⊥
SameTables (w ∷ ws) [] = ⊥
SameTables (w ∷ ws) (v ∷ vs) = Perm w v × SameTables ws vs
