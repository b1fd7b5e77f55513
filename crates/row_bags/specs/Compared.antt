-- Bags compared by how often they have their rows.
use Rattle.std.specs.Prelude.{◌+◌, ◌==◌, ◌&&◌, Bool, List}
use Rattle.std.specs.List.{list_all}
use Rattle.values.specs.Row.{Row, row_cmp}
use Rattle.values.specs.Bag.{copies}

-- whether the first two bags together have the row as often as the last two
abbrev pub is_balanced : List Row → List Row → List Row → List Row → Row → Bool
is_balanced a b c d r =
    (copies row_cmp r a + copies row_cmp r b) == (copies row_cmp r c + copies row_cmp r d)

-- the same of each row that one of them has
abbrev pub are_balanced : List Row → List Row → List Row → List Row → Bool
are_balanced a b c d = list_all (is_balanced a b c d) a && (list_all (is_balanced a b c d) b
    && (list_all (is_balanced a b c d) c && list_all (is_balanced a b c d) d))
