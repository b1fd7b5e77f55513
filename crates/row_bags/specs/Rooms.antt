-- How many values the rows of a bag may have where it is held.
use Rattle.std.specs.Prelude.{ℕ, ◌<◌, List}
use Rattle.values.specs.declared.TheConstants.{MAX_COLUMNS}
use Rattle.values.specs.Row.{Row}
use Rattle.row_bags.specs.declared.held.Held.TheVariants as code
use Rattle.row_bags.specs.declared.held.Held.{Held}

-- the bag that is held
abbrev pub bag_in : Held → List Row
bag_in (code.Two xs) = xs
bag_in (code.Four xs) = xs
bag_in (code.Eight xs) = xs
bag_in (code.Sixteen xs) = xs
bag_in (code.Widest xs) = xs

-- how many values its rows may have
abbrev pub room_of : Held → ℕ
room_of (code.Two xs) = 2
room_of (code.Four xs) = 4
room_of (code.Eight xs) = 8
room_of (code.Sixteen xs) = 16
room_of (code.Widest xs) = MAX_COLUMNS

-- the second has more room, where there is more
abbrev pub IsWider : Held → Held → Type 0
IsWider h w = room_of h < MAX_COLUMNS → room_of h < room_of w
