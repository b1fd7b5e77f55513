-- Each row takes a little of the room that counts and sums have.
use Rattle.std.proofs.Common.{◌≡◌, ℕ, ℤ, zero, suc, ◌+◌, ◌-◌, ◌*◌, ◌^◌, ◌≤◌, ◌≤ℤ◌, neg_ℤ, pos, Bool, true, false, cond, nat_lt, Option, Some, None, unwrap_or, List, [], ◌∷◌, length, fold, replicate, ◌∙◌, sym, subst, arith}
use Rattle.std.specs.List.{All}
use Rattle.std.specs.Option.{IfSome}
use Rattle.std.specs.Map.{lookup, set_value, remove_entry, values_of}
use Rattle.std.specs.BTreeMap.{is_at, insert_entry}
use Rattle.std.proofs.lemmas.Map.Views.{All-values-insert_entry, All-values-set_value, All-map-remove_entry, IfSome-lookup_from_All}
use Rattle.std.proofs.lemmas.Int.{ints}
use Rattle.lane_kernels.specs.Lanes.{IsWithin}
use Rattle.lane_kernels.proofs.SumLemmas.{within_add, within_neg}
use Rattle.values.specs.Row.{Row, value_cmp}
use Rattle.values.specs.Value.{answer_max}
use Rattle.values.specs.Ranges.{IsAnswerValue, IsAnswerNumber}
use Rattle.values.specs.declared.resolved.ListItem.{ListItem}
use Rattle.group.specs.Cells.{Held, held_cmp, Values, count_of, values_by, TallyState, tally_zero, tally_by, tally_after, tallies_after, keeps, number_of, signed_by, CellState, cell_zero, cell_after, showing, TallyRoom, CellRoom, ReadsInRange}
use Rattle.op_queue.specs.declared.item.Item as queue
use Rattle.op_queue.specs.declared.item.Item.TheVariants.{Rows, Tick}
use Rattle.group.specs.Groups.{GroupBy}
use Rattle.group.specs.Turns.{RoomFor, beginning, GroupState, has_key, cell_of, with_cell, shown_at, shown_after, row_key, row_after, ShownState, closed_state, CountsUpTo, KeepsRoom}
use Rattle.std.proofs.lemmas.List.{length-replicate}
use Rattle.group.proofs.TallyLemmas.{length-partly}

-- COUNTS OF VALUES
or_zero : (m : ℕ) (o : Option ℕ) → IfSome o (λ n. n ≤ m) → unwrap_or o 0 ≤ m
or_zero m None h = omega arith
or_zero m (Some n) h = h

pub count_of-le : (m : ℕ) (v : Option ℤ) (es : Values) → All (λ n. n ≤ m) (values_of es) → count_of v es ≤ m
count_of-le m v es h = or_zero m (lookup (is_at (value_cmp v)) es) (IfSome-lookup_from_All (λ n. n ≤ m) (is_at (value_cmp v)) es h)

all_le : (m n : ℕ) (xs : List ℕ) → m ≤ n → All (λ x. x ≤ m) xs → All (λ x. x ≤ n) xs
all_le m n xs h a = λ k d lt. omega (arith, h, a k d lt)

values_room : (n : ℕ) (enters kept : Bool) (v : Option ℤ) (es : Values) → All (λ m. m ≤ n) (values_of es) → All (λ m. m ≤ n + 1) (values_of (cond kept (values_by enters v es) es))
values_room n enters false v es h = all_le _ _ (values_of es) (omega arith) h
values_room n true true v es h = All-values-insert_entry value_cmp v (count_of v es + 1) (λ m. m ≤ n + 1) es (all_le _ _ (values_of es) (omega arith) h) (omega (arith, count_of-le n v es h))
values_room n false true v es h = here (nat_lt 1 (count_of v es))
  where
    more : All (λ m. m ≤ n + 1) (values_of es)
    more = all_le n (n + 1) (values_of es) (omega arith) h

    here : (b : Bool) → All (λ m. m ≤ n + 1) (values_of (cond b (set_value (is_at (value_cmp v)) es (count_of v es - 1)) (remove_entry (is_at (value_cmp v)) es)))
    here true = All-values-set_value (is_at (value_cmp v)) (λ m. m ≤ n + 1) es (count_of v es - 1) more (omega (arith, count_of-le n v es h))
    here false = All-map-remove_entry (is_at (value_cmp v)) (λ e. e.1) (λ m. m ≤ n + 1) es more

-- A TALLY
pub within_le : (m n : ℕ) (z : ℤ) → m ≤ n → IsWithin m z → IsWithin n z
within_le m n z h w = let l : neg_ℤ (pos m) ≤ℤ z = w.low in let u : z ≤ℤ pos m = w.high in record { low = omega (arith, ints); high = omega (arith, ints) }

signed_within : (n : ℕ) (enters : Bool) (z : ℤ) → IsWithin n z → IsWithin n (signed_by enters z)
signed_within n true z w = w
signed_within n false z w = within_neg n z w

one_within : IsWithin 1 (pos 1)
one_within = record { low = omega (arith, ints); high = omega (arith, ints) }

answer_within : (z : ℤ) → IsAnswerNumber z → IsWithin (2 ^ 63) z
answer_within z w = let l : neg_ℤ answer_max ≤ℤ z = w.0 in let u : z ≤ℤ answer_max = w.1 in record { low = omega (arith, ints); high = omega (arith, ints) }

pub tally_room_le : (m n : ℕ) (t : TallyState) → m ≤ n → TallyRoom m t → TallyRoom n t
tally_room_le m n t h r = record {
  numbers = within_le m n t.numbers h r.numbers;
  total = within_le (m * 2 ^ 63) (n * 2 ^ 63) t.total (omega (arith, h)) r.total;
  values = all_le m n (values_of t.values) h r.values;
}

pub tally_room : (n : ℕ) (enters kept : Bool) (v : Option ℤ) (t : TallyState) → IsAnswerValue v → TallyRoom n t → TallyRoom (n + 1) (tally_by enters kept v t)
tally_room n enters kept None t h r = tally_room_le n (n + 1) t (omega arith) r
tally_room n enters kept (Some z) t h r = record {
  numbers = within_add n 1 t.numbers (signed_by enters (pos 1)) r.numbers (signed_within 1 enters (pos 1) one_within);
  total = within_le (n * 2 ^ 63 + 2 ^ 63) ((n + 1) * 2 ^ 63) _ (omega arith) (within_add (n * 2 ^ 63) (2 ^ 63) t.total (signed_by enters z) r.total (signed_within (2 ^ 63) enters z (answer_within z h)));
  values = values_room n enters kept (Some z) t.values r.values;
}

-- A GROUP
pub first_and : (P : TallyState → Type 0) (t : TallyState) (ts : List TallyState) → P t → All P ts → All P (t ∷ ts)
first_and P t ts p a zero d lt = p
first_and P t ts p a (suc k) d lt = a k d (omega (arith, lt))

tallies_room : (n : ℕ) (s : Bool × Row) (is : List ListItem) (ts : List TallyState) → length ts ≡ length is → ReadsInRange is s → All (TallyRoom n) ts → All (TallyRoom (n + 1)) (tallies_after s is ts)
tallies_room n s [] [] l h a = λ k d lt. absurd (omega (arith, lt))
tallies_room n s [] (t ∷ ts) l h a = absurd (omega (arith, l))
tallies_room n s (i ∷ is) [] l h a = λ k d lt. absurd (omega (arith, lt))
tallies_room n s (i ∷ is) (t ∷ ts) l h a =
    first_and (TallyRoom (n + 1)) (tally_after s i t) (tallies_after s is ts)
    (tally_room n s.0 (keeps i) (number_of i s.1) t (h 0 (omega arith)) (a 0 t (omega arith)))
    (tallies_room n s is ts (omega (arith, l)) (λ j lj. h (suc j) (omega (arith, lj))) (λ j e lj. a (suc j) e (omega (arith, lj))))

pub cell_room_le : (m n : ℕ) (is : List ListItem) (c : CellState) → m ≤ n → CellRoom m is c → CellRoom n is c
cell_room_le m n is c h r = record {
  rows = within_le m n c.rows h r.rows;
  aligned = r.aligned;
  tallies = λ k d lt. tally_room_le m n _ h (r.tallies k d lt);
}

cell_room : (n : ℕ) (is : List ListItem) (c : CellState) (s : Bool × Row) → ReadsInRange is s → CellRoom n is c → CellRoom (n + 1) is (cell_after is c s)
cell_room n is c s h r = record {
  rows = within_add n 1 c.rows (signed_by s.0 (pos 1)) r.rows (signed_within 1 s.0 (pos 1) one_within);
  aligned = length-partly (tally_after s) (length is) is c.tallies ∙ r.aligned;
  tallies = tallies_room n s is c.tallies r.aligned h r.tallies;
}

nought_within : (n : ℕ) → IsWithin n (pos 0)
nought_within n = record { low = omega (arith, ints); high = omega (arith, ints) }

zero_tallies : (n m : ℕ) → All (TallyRoom n) (replicate m tally_zero)
zero_tallies n zero = λ k d lt. absurd (omega (arith, lt))
zero_tallies n (suc m) = first_and (TallyRoom n) tally_zero (replicate m tally_zero) (record { numbers = nought_within n; total = nought_within (n * 2 ^ 63); values = λ k d lt. absurd (omega (arith, lt)) }) (zero_tallies n m)

pub zero_room : (n : ℕ) (is : List ListItem) → CellRoom n is (cell_zero (length is))
zero_room n is = record { rows = nought_within n; aligned = length-replicate (length is) tally_zero; tallies = zero_tallies n (length is) }

-- ALL GROUPS
or_room : (n : ℕ) (is : List ListItem) (o : Option CellState) → IfSome o (CellRoom n is) → CellRoom n is (unwrap_or o (cell_zero (length is)))
or_room n is None h = zero_room n is
or_room n is (Some c) h = h

pub room_at : (n : ℕ) (is : List ListItem) (k : Held) (es : List (Held × CellState)) → All (CellRoom n is) (values_of es) → CellRoom n is (cell_of (length is) k es)
room_at n is k es h = or_room n is (lookup (is_at (held_cmp k)) es) (IfSome-lookup_from_All (CellRoom n is) (is_at (held_cmp k)) es h)

pub all_room_le : (m n : ℕ) (is : List ListItem) (es : List (Held × CellState)) → m ≤ n → All (CellRoom m is) (values_of es) → All (CellRoom n is) (values_of es)
all_room_le m n is es h a = λ k d lt. cell_room_le m n is _ h (a k d lt)

with_room : (n : ℕ) (is : List ListItem) (k : Held) (c d : CellState) (es : List (Held × CellState)) → All (CellRoom n is) (values_of es) → CellRoom n is c → CellRoom n is d → All (CellRoom n is) (values_of (with_cell k c d es))
with_room n is k c d es h p q = here (has_key k es)
  where
    here : (b : Bool) → All (CellRoom n is) (values_of (cond b (set_value (is_at (held_cmp k)) es c) (insert_entry held_cmp es k d)))
    here true = All-values-set_value (is_at (held_cmp k)) (CellRoom n is) es c h p
    here false = All-values-insert_entry held_cmp k d (CellRoom n is) es h q

-- after a row
pub room_after : (n : ℕ) (s : GroupState) (r : Bool × Row) → ReadsInRange s.group.items r → CountsUpTo n s → CountsUpTo (n + 1) (row_after s r)
room_after n s r range h =
    let is = s.group.items in
    let k = row_key s.group r in
    with_room (n + 1) is k (cell_after is (cell_of (length is) k s.cells) r) (cell_after is (cell_zero (length is)) r) s.cells
    (all_room_le n (n + 1) is s.cells (omega arith) h)
    (cell_room n is (cell_of (length is) k s.cells) r range (room_at n is k s.cells h))
    (cell_room n is (cell_zero (length is)) r range (zero_room n is))

showing_room : (n : ℕ) (is : List ListItem) (c : CellState) (o : Option Held) → CellRoom n is c → CellRoom n is (showing c o)
showing_room n is c o h = record { rows = h.rows; aligned = h.aligned; tallies = h.tallies }

shown_room : (n : ℕ) (is : List ListItem) (k : Held) (o : Option Held) (es : List (Held × CellState)) → All (CellRoom n is) (values_of es) → All (CellRoom n is) (values_of (shown_at (length is) k o es))
shown_room n is k None es h = All-map-remove_entry (is_at (held_cmp k)) (λ e. e.1) (CellRoom n is) es h
shown_room n is k (Some r) es h =
    with_room n is k (showing (cell_of (length is) k es) (Some r)) (showing (cell_zero (length is)) (Some r)) es h
    (showing_room n is (cell_of (length is) k es) (Some r) (room_at n is k es h)) (showing_room n is (cell_zero (length is)) (Some r) (zero_room n is))

closing_room : (n : ℕ) (is : List ListItem) (cs : List ShownState) (es : List (Held × CellState)) → All (CellRoom n is) (values_of es) → All (CellRoom n is) (values_of (fold (shown_after (length is)) es cs))
closing_room n is [] es h = h
closing_room n is (c ∷ cs) es h = closing_room n is cs (shown_at (length is) c.key c.row es) (shown_room n is c.key c.row es h)

-- after a tick
pub room_closed : (s : GroupState) (cs : List ShownState) → KeepsRoom s (closed_state s cs)
room_closed s cs n h = all_room_le n (n + 1024) s.group.items (fold (shown_after (length s.group.items)) s.cells cs) (omega arith) (closing_room n s.group.items cs s.cells h)

-- where nothing has changed
pub room_same : (s t : GroupState) → t ≡ s → KeepsRoom s t
room_same s t e = subst (KeepsRoom s) (sym e) (λ n h. all_room_le n (n + 1024) s.group.items s.cells (omega arith) h)

-- at the beginning
pub room_begins : (n : ℕ) (g : GroupBy) → CountsUpTo n (beginning g)
room_begins n g = λ k d lt. absurd (omega (arith, lt))

-- where there is room for a batch there is room for any item
pub room_for : (n : ℕ) (s : GroupState) (i : queue.Item) → n ≤ 2 ^ 62 → CountsUpTo n s → RoomFor s i
room_for n s (Rows t b) h a = all_room_le n (2 ^ 62) s.group.items s.cells h a
room_for n s (Tick t) h a = tt
