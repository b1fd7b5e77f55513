-- What is kept of a group: its rows counted, and of
-- each item of the list the numbers that it reads.
use Rattle.std.specs.Prelude.{ℕ, zero, suc, ◌+◌, ◌-◌, ◌*◌, ◌^◌, ◌<◌, ◌≤◌, ◌≡◌, ℤ, pos, neg_ℤ, ◌+ℤ◌}
use Rattle.std.specs.Prelude.{Option, Some, None, unwrap_or, List, [], ◌∷◌, ◌++◌, length, replicate}
use Rattle.std.specs.Prelude.{get_or, nat_lt, Bool, true, false, cond}
use Rattle.std.specs.List.{All, slice_get}
use Rattle.std.specs.Map.{lookup, set_value, remove_entry, values_of}
use Rattle.std.specs.BTreeMap.{is_at, insert_entry}
use Rattle.std.specs.Ordering.{int_eq}
use Rattle.std.specs.declared.cmp.Ordering.{Ordering}
use Rattle.arrayvec.specs.ArrayVec.{ArrayVec}
use Rattle.values.specs.Row.{Row, row_cmp, value_cmp, value_at}
use Rattle.values.specs.Value.{clamp_answer}
use Rattle.values.specs.Ranges.{IsAnswerValue}
use Rattle.values.specs.Condition.{field}
use Rattle.values.specs.Resolved.{column_of}
use Rattle.values.specs.declared.resolved.Aggregate.{Aggregate}
use Rattle.values.specs.declared.resolved.Aggregate.TheVariants.{Count, Sum, Min, Max}
use Rattle.values.specs.declared.resolved.ListItem.{ListItem}
use Rattle.values.specs.declared.resolved.ListItem.TheVariants.{Key, CountAll, Of}
use Rattle.group.specs.declared.cells.Figure.{Figure}
use Rattle.lane_kernels.specs.Lanes.{IsWithin}

-- a row as the code holds it, and the order of such rows
abbrev pub Held : Type 0
Held = ArrayVec (Option ℤ)

abbrev pub held : Row → Held
held r = record { items = r }

abbrev pub held_cmp : Held → Held → Ordering
held_cmp a b = row_cmp a.items b.items

-- how often each value stands in a bag of values, by value in order
abbrev pub Values : Type 0
Values = List (Option ℤ × ℕ)

abbrev pub count_of : Option ℤ → Values → ℕ
count_of v es = unwrap_or (lookup (is_at (value_cmp v)) es) 0

abbrev pub one_more : Option ℤ → Values → Values
one_more v es = insert_entry value_cmp es v (count_of v es + 1)

abbrev pub one_less : Option ℤ → Values → Values
one_less v es = cond (nat_lt 1 (count_of v es))
    (set_value (is_at (value_cmp v)) es (count_of v es - 1)) (remove_entry (is_at (value_cmp v)) es)

abbrev pub values_by : Bool → Option ℤ → Values → Values
values_by enters v es = cond enters (one_more v es) (one_less v es)

-- of the numbers that an item reads: how many, their sum,
-- and each of them where a least or greatest is asked for
pub record TallyState : Type 0 where
  pub numbers : ℤ
  pub total : ℤ
  pub values : Values

abbrev pub tally_zero : TallyState
tally_zero = record { numbers = pos 0; total = pos 0; values = [] }

abbrev pub keeping : TallyState → Values → TallyState
keeping t vs = record { numbers = t.numbers; total = t.total; values = vs }

-- the number that an item reads in a row
abbrev pub number_of : ListItem → Row → Option ℤ
number_of (Key k) r = None
number_of CountAll r = None
number_of (Of a c) r = field (r ∷ []) (column_of c)

-- whether an item reads numbers at all
abbrev pub reads : ListItem → Bool
reads (Key k) = false
reads CountAll = false
reads (Of a c) = true

-- whether an aggregate needs each number kept: the least or greatest may leave
abbrev pub keeps_each : Aggregate → Bool
keeps_each Count = false
keeps_each Sum = false
keeps_each Min = true
keeps_each Max = true

-- whether each number that an item reads is kept
abbrev pub keeps : ListItem → Bool
keeps (Key k) = false
keeps CountAll = false
keeps (Of a c) = keeps_each a

-- what enters counts plus, what leaves minus
abbrev pub signed_by : Bool → ℤ → ℤ
signed_by enters z = cond enters z (neg_ℤ z)

abbrev pub tally_by : Bool → Bool → Option ℤ → TallyState → TallyState
tally_by enters kept None t = t
tally_by enters kept (Some z) t = record {
  numbers = t.numbers +ℤ signed_by enters (pos 1);
  total = t.total +ℤ signed_by enters z;
  values = cond kept (values_by enters (Some z) t.values) t.values;
}

abbrev pub tally_after : Bool × Row → ListItem → TallyState → TallyState
tally_after s i t = tally_by s.0 (keeps i) (number_of i s.1) t

-- the first p tallies are changed, each by its item
abbrev pub partly : (ListItem → TallyState → TallyState) → ℕ → List ListItem → List TallyState
    → List TallyState
partly f zero is ts = ts
partly f (suc p) [] ts = ts
partly f (suc p) (i ∷ is) [] = []
partly f (suc p) (i ∷ is) (t ∷ ts) = f i t ∷ partly f p is ts

abbrev pub each : (ListItem → TallyState → TallyState) → List ListItem → List TallyState
    → List TallyState
each f is ts = partly f (length is) is ts

abbrev pub tallies_after : Bool × Row → List ListItem → List TallyState → List TallyState
tallies_after s is ts = each (tally_after s) is ts

-- and so many more of no numbers
abbrev pub all_tallies : ℕ → List TallyState → List TallyState
all_tallies zero ts = ts
all_tallies (suc n) ts = ts ++ replicate (suc n) tally_zero

-- how many rows the group has, a tally for each item
-- of the list, and the row that was shown of it last
pub record CellState : Type 0 where
  pub rows : ℤ
  pub tallies : List TallyState
  pub shown : Option Held

-- a group of no rows of which nothing was shown
abbrev pub cell_zero : ℕ → CellState
cell_zero n = record { rows = pos 0; tallies = replicate n tally_zero; shown = None }

abbrev pub cell_after : List ListItem → CellState → Bool × Row → CellState
cell_after is c s = record {
  rows = c.rows +ℤ signed_by s.0 (pos 1);
  tallies = tallies_after s is c.tallies;
  shown = c.shown;
}

abbrev pub showing : CellState → Option Held → CellState
showing c r = record { rows = c.rows; tallies = c.tallies; shown = r }

-- WHAT A GROUP SHOWS

-- the exact figure of an item: a number that counts or sums, or a value that stands in a row
abbrev pub number_figure : ℤ → Figure
number_figure z = record { number = Some z; value = None }

abbrev pub value_figure : Option ℤ → Figure
value_figure v = record { number = None; value = v }

abbrev pub sum_figure : ℤ → ℤ → Figure
sum_figure numbers total = cond (int_eq numbers (pos 0)) (value_figure None) (number_figure total)

abbrev pub key_or_null : Option (Option ℤ × ℕ) → Option ℤ
key_or_null None = None
key_or_null (Some e) = e.0

abbrev pub least : Values → Option ℤ
least es = key_or_null (slice_get es 0)

abbrev pub greatest : Values → Option ℤ
greatest es = key_or_null (slice_get es (length es - 1))

-- the figure of an aggregate of the numbers of a tally
abbrev pub aggregate_figure : Aggregate → TallyState → Figure
aggregate_figure Count t = number_figure t.numbers
aggregate_figure Sum t = sum_figure t.numbers t.total
aggregate_figure Min t = value_figure (least t.values)
aggregate_figure Max t = value_figure (greatest t.values)

abbrev pub figure : Row → ℤ → ListItem → TallyState → Figure
figure key rows (Key k) t = value_figure (value_at key k)
figure key rows CountAll t = number_figure rows
figure key rows (Of a c) t = aggregate_figure a t

abbrev pub figures : Row → ℤ → List ListItem → List TallyState → List Figure
figures key rows [] ts = []
figures key rows (i ∷ is) [] = []
figures key rows (i ∷ is) (t ∷ ts) = figure key rows i t ∷ figures key rows is ts

abbrev pub clamped_or : Option ℤ → Option ℤ → Option ℤ
clamped_or v None = v
clamped_or v (Some z) = Some (clamp_answer z)

-- a number is shown as the nearest one of the answer range
abbrev pub shown_figure : Figure → Option ℤ
shown_figure f = clamped_or f.value f.number

-- ROOM
-- the counts and the sum are those of at most n rows
pub record TallyRoom (n : ℕ) (t : TallyState) : Type 0 where
  pub numbers : IsWithin n t.numbers
  pub total : IsWithin (n * 2 ^ 63) t.total
  pub values : All (λ m. m ≤ n) (values_of t.values)

pub record CellRoom (n : ℕ) (is : List ListItem) (c : CellState) : Type 0 where
  pub rows : IsWithin n c.rows
  pub aligned : length c.tallies ≡ length is
  pub tallies : All (TallyRoom n) c.tallies

-- the numbers that the items read in a row are of the answer range
abbrev pub ReadsInRange : List ListItem → Bool × Row → Type 0
ReadsInRange is s = (k : ℕ) → k < length is → IsAnswerValue (number_of (get_or is k (Key 0)) s.1)
