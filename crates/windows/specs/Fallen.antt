-- How the rows that fall out are kept: a truth for each row
-- of an item, and those that fall one behind the other.
use Rattle.std.specs.Prelude.{ℕ, suc, ◌≡◌, Bool, true, false, Option, Some, None, List, [], ◌∷◌}
use Rattle.std.specs.Prelude.{length, take}
use Rattle.values.specs.Row.{Row}
use Rattle.windows.specs.Widths.{AreWide}

-- each truth in turn takes the next of the rows, if it is true
abbrev pub fallen_at : List Bool → List Row → List (Option Row)
fallen_at [] rows = []
fallen_at (false ∷ falls) rows = None ∷ fallen_at falls rows
fallen_at (true ∷ falls) [] = []
fallen_at (true ∷ falls) (r ∷ rows) = Some r ∷ fallen_at falls rows

-- how many are true
abbrev pub falling : List Bool → ℕ
falling [] = 0
falling (false ∷ falls) = falling falls
falling (true ∷ falls) = suc (falling falls)

-- the rows that there are
abbrev pub those_fallen : List (Option Row) → List Row
those_fallen [] = []
those_fallen (None ∷ fallen) = those_fallen fallen
those_fallen (Some r ∷ fallen) = r ∷ those_fallen fallen

-- how many there are before a place
abbrev pub fallen_before : List (Option Row) → ℕ → ℕ
fallen_before fallen place = length (those_fallen (take place fallen))

-- the row, if there is one, has this many columns
abbrev pub IsFallenWide : ℕ → Option Row → Type 0
IsFallenWide w None = Unit {0}
IsFallenWide w (Some r) = length r ≡ w

-- the row, if there is one, is as wide as others
abbrev pub IsBeside : Option Row → List Row → Type 0
IsBeside None rows = Unit {0}
IsBeside (Some r) rows = AreWide (length r) rows
