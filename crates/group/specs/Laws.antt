-- What a state of groups stands for: the bag of rows that
-- it has taken in, and the bag of rows that it has put out.
use Rattle.std.specs.Prelude.{ℕ, zero, suc, ◌<◌, ◌≤◌, ◌≡◌, ◌^◌, ℤ, pos, negsuc, ◌-ℤ◌, Option, Some}
use Rattle.std.specs.Prelude.{None, List, [], ◌∷◌, map, filter, length, Bool, true, cond}
use Rattle.std.specs.List.{All, list_any, flat_map}
use Rattle.std.specs.List.Sorted.{IsStrictlySortedBy}
use Rattle.std.specs.Map.{lookup, keys_of}
use Rattle.std.specs.BTreeMap.{is_at}
use Rattle.std.specs.Ordering.{is_eq}
use Rattle.values.specs.Row.{Row, row_cmp, same_row, value_cmp}
use Rattle.values.specs.Bag.{is_same, distinct}
use Rattle.values.specs.Relation.{keys_of as keys_in, group_row}
use Rattle.values.specs.Resolved.{columns_of, items_of}
use Rattle.values.specs.declared.resolved.ListItem.{ListItem}
use Rattle.op_queue.specs.Signed.{weigh, Same, Adds, Legal, Turns}
use Rattle.op_queue.specs.declared.item.Item.TheVariants.{Rows, Tick}
use Rattle.group.specs.Groups.{GroupBy, grouped, key_in, no_columns, once_each}
use Rattle.group.specs.Cells.{Held, held, held_cmp, Values, TallyState, number_of, keeps, CellState}
use Rattle.group.specs.Turns.{GroupState, cell_of, beginning, near, outputs, change, next}

-- how often a row stands in a bag
abbrev pub count : Row → List Row → ℕ
count k xs = weigh (λ y. cond (is_same row_cmp k y) 1 0) xs

-- the rows of the group k
abbrev pub members : GroupBy → Row → List Row → List Row
members g k b = filter (λ r. same_row k (key_in g.by r)) b

-- THE GROUPS OF THE DEFINITION, key by key
abbrev pub keys_at : GroupBy → List Row → List Row
keys_at g b = keys_in (columns_of g.by) (map (λ r. r ∷ []) b)

abbrev pub row_at : GroupBy → List Row → Row → Row
row_at g b k = group_row (columns_of g.by) (items_of g.items) (map (λ r. r ∷ []) b) k

abbrev pub is_key : GroupBy → List Row → Row → Bool
is_key g b k = list_any (is_same row_cmp k) (keys_at g b)

-- the row of the group k, if there is that group
abbrev pub row_of : GroupBy → List Row → Row → List Row
row_of g b k = cond (is_key g b k) (row_at g b k ∷ []) []

-- COUNTS
-- a number as weights: whether there is one, how far it is above nought, and how far below
abbrev pub some_by : Option ℤ → ℕ
some_by None = 0
some_by (Some z) = 1

abbrev pub over_by : Option ℤ → ℕ
over_by None = 0
over_by (Some (pos n)) = n
over_by (Some (negsuc n)) = 0

abbrev pub under_by : Option ℤ → ℕ
under_by None = 0
under_by (Some (pos n)) = 0
under_by (Some (negsuc n)) = suc n

-- whether it is the value v; null is no number
abbrev pub copy_by : Option ℤ → Option ℤ → ℕ
copy_by v None = 0
copy_by v (Some z) = cond (is_eq (value_cmp v (Some z))) 1 0

abbrev pub some_count : ℕ → Option ℕ
some_count zero = None
some_count (suc n) = Some (suc n)

-- the values have each number of the column as often as the rows do
pub record HoldsNumbers (i : ListItem) (es : Values) (xs : List Row) : Type 0 where
  pub counts : (v : Option ℤ) → lookup (is_at (value_cmp v)) es
      ≡ some_count (weigh (λ x. copy_by v (number_of i x)) xs)
  pub sorted : IsStrictlySortedBy value_cmp (keys_of es)

-- the tally of an item counts the rows xs
pub record Tallies (i : ListItem) (t : TallyState) (xs : List Row) : Type 0 where
  pub numbers : t.numbers ≡ pos (weigh (λ x. some_by (number_of i x)) xs)
  pub total : t.total ≡ pos (weigh (λ x. over_by (number_of i x)) xs) -ℤ pos
      (weigh (λ x. under_by (number_of i x)) xs)
  pub values : keeps i ≡ true → HoldsNumbers i t.values xs

abbrev pub AllTally : List ListItem → List TallyState → List Row → Type 0
AllTally [] [] xs = Unit {0}
AllTally [] (t ∷ ts) xs = ⊥
AllTally (i ∷ is) [] xs = ⊥
AllTally (i ∷ is) (t ∷ ts) xs = Tallies i t xs × AllTally is ts xs

-- what is kept of a group counts the rows xs
pub record Counts (is : List ListItem) (c : CellState) (xs : List Row) : Type 0 where
  pub rows : c.rows ≡ pos (weigh (λ x. 1) xs)
  pub tallies : AllTally is c.tallies xs

-- THE STATE
abbrev pub shown_list : Option Held → List Row
shown_list None = []
shown_list (Some r) = r.items ∷ []

abbrev pub shown_rows : GroupState → Row → List Row
shown_rows s k = shown_list (cell_of (length s.group.items) (held k) s.cells).shown

abbrev pub touched_keys : GroupState → List Row
touched_keys s = map (λ k. k.items) s.touched

abbrev pub IsWide : ℕ → Option Held → Type 0
IsWide n None = Unit {0}
IsWide n (Some r) = length r.items ≡ n

-- the state has taken in the bag b and put out the bag o
pub record Stands (s : GroupState) (o b : List Row) : Type 0 where
  -- o is what the groups of some keys show, each once; no other group shows anything
  pub keys : List Row
  pub once : (k : Row) → count k keys ≤ 1
  pub was : Same o (flat_map (shown_rows s) keys)
  pub others : (k : Row) → count k keys ≡ 0 → shown_rows s k ≡ []
  pub wide : (k : Row) → IsWide (length s.group.items)
      (cell_of (length s.group.items) (held k) s.cells).shown
  -- each group counts its rows of b
  pub counts : (k : Row) → Counts s.group.items (cell_of (length s.group.items) (held k) s.cells)
      (members s.group k b)
  -- a group that is not touched shows its row of b
  pub quiet : (k : Row) → count k (touched_keys s) ≡ 0 → shown_rows s k ≡ row_of s.group b k
  pub touched : (k : Row) → count k (touched_keys s) ≤ 1
  pub ordered : IsStrictlySortedBy held_cmp s.touched
  pub whole : no_columns s.group.by ≡ true → (k : Row) → 0 < count k (touched_keys s) → k ≡ []
  pub sorted : IsStrictlySortedBy held_cmp (keys_of s.cells)

-- THE LAW OF ONE STEP
-- rows put out nothing: the state has taken them in too
abbrev pub RowsLaw : GroupState → Type 0
RowsLaw s = (o b d : List Row) (t : ℕ) (batch : List (Bool × Row)) → Stands s o b → Legal b batch
    → Adds b batch d → Stands (next s (Rows t batch) []) o d

-- a tick's outputs turn what was put out into the groups of
-- the bag, and may be cut anywhere; the state has put them out
abbrev pub TickLaw : GroupState → ℕ → Type 0
TickLaw s t = (o b : List Row) → Stands s o b → weigh (λ x. 1) b ≤ 2 ^ 62
    → Turns o (outputs s.group (near s (Tick t))) (grouped s.group b)
    × Stands (next s (Tick t) (change s.group (Tick t) (near s (Tick t)))) (grouped s.group b) b

-- each row once
abbrev pub DistinctLaw : ℕ → Type 0
DistinctLaw width = (b : List Row) → 0 < width → All (λ r. length r ≡ width) b
    → grouped (once_each width) b ≡ distinct row_cmp b

pub record Laws : Type 0 where
  pub beginning : (g : GroupBy) → Stands (beginning g) [] []
  pub rows : (s : GroupState) → RowsLaw s
  pub tick : (s : GroupState) (t : ℕ) → TickLaw s t
  pub distinct : (width : ℕ) → DistinctLaw width
