-- Groups that show just what they have to show.
use Rattle.std.specs.Prelude.{◌≡◌, ◌⊎◌, pos, Some, List, map, length, true}
use Rattle.std.specs.Ordering.{int_cmp, is_lt}
use Rattle.std.specs.Map.{lookup}
use Rattle.std.specs.BTreeMap.{is_at}
use Rattle.std.specs.List.{All, Contains, range_with_len}
use Rattle.values.specs.declared.resolved.ListItem.TheVariants.{Key}
use Rattle.group.specs.Groups.{GroupBy}
use Rattle.group.specs.Cells.{Held, held_cmp, CellState}

-- the group k shows its key, has rows, and has as many tallies as the key has values
pub record IsQuietCell (k : Held) (c : CellState) : Type 0 where
  pub shown : c.shown ≡ Some k
  pub rows : is_lt (int_cmp (pos 0) c.rows) ≡ true
  pub tallies : length c.tallies ≡ length k.items

-- the map has such a group k
pub record IsQuiet (es : List (Held × CellState)) (k : Held) : Type 0 where
  pub cell : CellState
  pub there : lookup (is_at (held_cmp k)) es ≡ Some cell
  pub quiet : IsQuietCell k cell

-- each of the keys qs is one of the keys ts, or its group is quiet
abbrev pub AreQuiet : List (Held × CellState) → List Held → List Held → Type 0
AreQuiet es ts qs = (k : Held) → Contains qs k → Contains ts k ⊎ IsQuiet es k

-- of each of these groups the list is the key
abbrev pub ListsKeys : GroupBy → List Held → Type 0
ListsKeys g ks = All (λ k. g.items ≡ map Key (range_with_len 0 (length k.items))) ks
