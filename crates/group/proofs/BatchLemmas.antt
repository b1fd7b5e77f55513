-- A batch of rows of one group is its rows, one after the other.
use Rattle.std.proofs.Common.{◌≡◌, ℕ, ℤ, zero, suc, ◌+◌, ◌-◌, ◌*◌, ◌<◌, ◌≤◌, ◌+ℤ◌, ◌-ℤ◌, ◌≤ℤ◌, ◌==◌, pos, neg_ℤ, Bool, true, false, cond, not, Option, Some, None, unwrap_or, List, [], ◌∷◌, length, fold, get_or, count_by, refl, sym, ap, ap₂, ◌∙◌, subst, arith}
use Rattle.std.specs.declared.cmp.Ordering.{Ordering}
use Rattle.std.specs.declared.cmp.Ordering.TheVariants.{Less, Equal, Greater}
use Rattle.std.specs.Ordering.{is_eq, match_ordering}
use Rattle.std.specs.Option.{is_some}
use Rattle.std.specs.Map.{lookup, set_value}
use Rattle.std.specs.BTreeMap.{is_at, insert_entry}
use Rattle.std.specs.BTreeSet.{insert_key}
use Rattle.std.specs.List.{All}
use Rattle.std.proofs.lemmas.Int.{ints}
use Rattle.std.proofs.lemmas.Cmp.{tied_itself}
use Rattle.std.proofs.lemmas.List.{drop_more}
use Rattle.std.proofs.lemmas.List.FromFn.{map-range_with_len_more}
use Rattle.std.proofs.lemmas.List.Sums.{sum_by-cons, sum_by-append}
use Rattle.column.specs.Bits.{bits, place}
use Rattle.std.proofs.Math.ListN.{drop}
use Rattle.lane_kernels.proofs.SumLemmas.{within_add}
use Rattle.std.proofs.lemmas.List.{get_or-map, get_or_past}
use Rattle.std.proofs.lemmas.List.Elements.{All-map}
use Rattle.column.specs.Rows.{IsTable, column_of as lane_of}
use Rattle.values.specs.Condition.{field}
use Rattle.values.specs.Resolved.{column_of}
use Rattle.values.specs.Row.{Row, value_at}
use Rattle.values.specs.Ranges.{IsAnswerValue}
use Rattle.values.specs.declared.resolved.SourceColumn.{SourceColumn}
use Rattle.values.specs.declared.resolved.ListItem.{ListItem}
use Rattle.lane_kernels.specs.Lanes.{IsWithin}
use Rattle.lane_kernels.specs.Truth.{signed_count, signed_total}
use Rattle.group.specs.Groups.{GroupBy, key_in, no_columns}
use Rattle.group.specs.Cells.{Held, held, held_cmp, TallyState, CellState, cell_zero, cell_after, keeps, number_of, signed_by, tally_by, tally_after, each, tallies_after, ReadsInRange}
use Rattle.group.specs.Turns.{GroupState, has_key, cell_of, with_cell, taken_in, row_key, row_after, rows_after, CountsUpTo, KeepsRoom}
use Rattle.group.specs.Batches.{rows_counted, leaving, fields, numbers_read, tally_values, tally_sums, tally_rows, AllInRange, batch_in, row_in}
use Rattle.group.proofs.KeyLemmas.{held_order, key_itself, lookup-insert_entry}
use Rattle.group.proofs.RoomLemmas.{room_after, all_room_le}

plus_zero : (a : ℤ) → a ≡ a +ℤ pos 0
plus_zero a = omega (arith, ints)

regroup : (a b c : ℤ) → (a +ℤ b) +ℤ c ≡ a +ℤ (b +ℤ c)
regroup a b c = omega (arith, ints)

-- THE VALUES OF A COLUMN
-- a row between operators has the columns of source 0 alone
no_source : (n k : ℕ) (r : Row) → (n ≡ 0 → ⊥) → value_at (get_or (r ∷ []) n []) k ≡ None
no_source zero k r h = absurd (h refl)
no_source (suc n) k r h = refl

pub other_source : (c : SourceColumn) (rs : List (Bool × Row)) → (c.source ≡ 0 → ⊥) → All (λ v. v ≡ None) (fields c rs)
other_source c rs h = All-map (λ v. v ≡ None) (λ s. field (s.1 ∷ []) (column_of c)) rs (λ k d lt. no_source c.source c.column (get_or rs k d).1 h)

own_source : (c : SourceColumn) (r : Row) → c.source ≡ 0 → field (r ∷ []) (column_of c) ≡ value_at r c.column
own_source c r e = ap (λ (n : ℕ). value_at (get_or (r ∷ []) n []) c.column) e

pub past_columns : (c : SourceColumn) (rs : List (Bool × Row)) (w : ℕ) → c.source ≡ 0 → IsTable w rs → w ≤ c.column → All (λ v. v ≡ None) (fields c rs)
past_columns c rs w e t h = All-map (λ v. v ≡ None) (λ s. field (s.1 ∷ []) (column_of c)) rs (λ k d lt. own_source c (get_or rs k d).1 e ∙ get_or_past (get_or rs k d).1 c.column None (omega (arith, t k d lt, h)))

pub own_fields : (c : SourceColumn) (rs : List (Bool × Row)) → c.source ≡ 0 → fields c rs ≡ lane_of rs c.column
own_fields c [] e = refl
own_fields c (s ∷ rs) e = ap₂ (λ (v : Option ℤ) (vs : List (Option ℤ)). v ∷ vs) (own_source c s.1 e) (own_fields c rs e)

-- the same of the row at a place
pub other_field : (c : SourceColumn) (r : Row) → (c.source ≡ 0 → ⊥) → field (r ∷ []) (column_of c) ≡ None
other_field c r h = no_source c.source c.column r h

pub past_field : (c : SourceColumn) (rs : List (Bool × Row)) (k w : ℕ) → c.source ≡ 0 → IsTable w rs → k < length rs → w ≤ c.column → field ((row_in rs k).1 ∷ []) (column_of c) ≡ None
past_field c rs k w e t lt h = own_source c (row_in rs k).1 e ∙ get_or_past (row_in rs k).1 c.column None (omega (arith, t k (true, []) lt, h))

pub own_field : (c : SourceColumn) (rs : List (Bool × Row)) (k : ℕ) → c.source ≡ 0 → k < length rs → get_or (lane_of rs c.column) k None ≡ field ((row_in rs k).1 ∷ []) (column_of c)
own_field c rs k e lt = get_or-map (λ (r : Bool × Row). value_at r.1 c.column) rs k (true, []) None lt ∙ sym (own_source c (row_in rs k).1 e)

pub nulls_in_range : (vs : List (Option ℤ)) → All (λ v. v ≡ None) vs → All IsAnswerValue vs
nulls_in_range vs h = λ k d lt. subst IsAnswerValue (sym (h k d lt)) tt

pub none_in_range : (i : ListItem) (rs : List (Bool × Row)) → ((r : Row) → number_of i r ≡ None) → All IsAnswerValue (numbers_read i rs)
none_in_range i rs h = nulls_in_range (numbers_read i rs) (All-map (λ v. v ≡ None) (λ s. number_of i s.1) rs (λ k d lt. h (get_or rs k d).1))

-- A TALLY
sign_turned : (m : Bool) (z : ℤ) → signed_by (not m) z ≡ cond m (neg_ℤ z) z
sign_turned true z = refl
sign_turned false z = refl

abbrev moved : TallyState → ℤ → ℤ → TallyState
moved t n z = record { numbers = t.numbers +ℤ n; total = t.total +ℤ z; values = t.values }

-- values of which none is kept are counted and summed
pub values_summed : (ms : List Bool) (vs : List (Option ℤ)) (t : TallyState) → tally_values false ms vs t ≡ tally_sums ms vs t
values_summed [] vs t = ap₂ (λ (n z : ℤ). record { numbers = n; total = z; values = t.values }) (plus_zero t.numbers) (plus_zero t.total)
values_summed (m ∷ ms) [] t = ap₂ (λ (n z : ℤ). record { numbers = n; total = z; values = t.values }) (plus_zero t.numbers) (plus_zero t.total)
values_summed (m ∷ ms) (None ∷ vs) t = values_summed ms vs t
values_summed (m ∷ ms) (Some x ∷ vs) t =
    values_summed ms vs (tally_by (not m) false (Some x) t)
    ∙ ap₂ (λ (n z : ℤ). record { numbers = n; total = z; values = t.values })
    (regroup t.numbers (signed_by (not m) (pos 1)) (signed_count ms vs) ∙ ap (λ (a : ℤ). t.numbers +ℤ (a +ℤ signed_count ms vs)) (sign_turned m (pos 1)))
    (regroup t.total (signed_by (not m) x) (signed_total ms vs) ∙ ap (λ (a : ℤ). t.total +ℤ (a +ℤ signed_total ms vs)) (sign_turned m x))

not_twice : (b : Bool) → not (not b) ≡ b
not_twice true = refl
not_twice false = refl

-- the rows are their numbers with their signs
pub rows_are_values : (i : ListItem) (rs : List (Bool × Row)) (t : TallyState) → tally_values (keeps i) (leaving rs) (numbers_read i rs) t ≡ tally_rows rs i t
rows_are_values i [] t = refl
rows_are_values i (s ∷ rs) t =
    ap (λ (b : Bool). tally_values (keeps i) (leaving rs) (numbers_read i rs) (tally_by b (keeps i) (number_of i s.1) t)) (not_twice s.0)
    ∙ rows_are_values i rs (tally_after s i t)

-- rows in which the item reads nothing change nothing
pub none_read : (i : ListItem) (rs : List (Bool × Row)) (t : TallyState) → ((r : Row) → number_of i r ≡ None) → tally_rows rs i t ≡ t
none_read i [] t h = refl
none_read i (s ∷ rs) t h = ap (λ (o : Option ℤ). tally_rows rs i (tally_by s.0 (keeps i) o t)) (h s.1) ∙ none_read i rs t h

pub nulls_are_nothing : (kept : Bool) (ms : List Bool) (vs : List (Option ℤ)) (t : TallyState) → All (λ v. v ≡ None) vs → tally_values kept ms vs t ≡ t
nulls_are_nothing kept [] vs t h = refl
nulls_are_nothing kept (m ∷ ms) [] t h = refl
nulls_are_nothing kept (m ∷ ms) (v ∷ vs) t h =
    ap (λ (o : Option ℤ). tally_values kept ms vs (tally_by (not m) kept o t)) (h 0 None (omega arith)) ∙ nulls_are_nothing kept ms vs t (λ k d lt. h (suc k) d (omega (arith, lt)))

-- one value more
pub value_more : (kept : Bool) (ms : List Bool) (vs : List (Option ℤ)) (p : ℕ) (t : TallyState) → p < length ms → p < length vs
    → tally_values kept (drop (p + 1) ms) (drop (p + 1) vs) (tally_by (not (get_or ms p false)) kept (get_or vs p None) t) ≡ tally_values kept (drop p ms) (drop p vs) t
value_more kept ms vs p t h g = sym (ap₂ (λ (bs : List Bool) (ws : List (Option ℤ)). tally_values kept bs ws t) (drop_more ms p false h) (drop_more vs p None g))

-- and no value left
pub values_end : (kept : Bool) (p : ℕ) (ms : List Bool) (vs : List (Option ℤ)) (t : TallyState) → length ms ≤ p → tally_values kept (drop p ms) vs t ≡ t
values_end kept zero [] vs t h = refl
values_end kept (suc p) [] vs t h = refl
values_end kept zero (m ∷ ms) vs t h = absurd (omega (arith, h))
values_end kept (suc p) (m ∷ ms) vs t h = values_end kept p ms vs t (omega (arith, h))

-- bounds
weaker : (m n : ℕ) (x : ℤ) → m ≤ n → IsWithin m x → IsWithin n x
weaker m n x h w = let l : neg_ℤ (pos m) ≤ℤ x = w.low in let u : x ≤ℤ pos m = w.high in record { low = omega (arith, ints); high = omega (arith, ints) }

nought : (n : ℕ) → IsWithin n (pos 0)
nought n = record { low = omega (arith, ints); high = omega (arith, ints) }

one : (m : Bool) → IsWithin 1 (cond m (neg_ℤ (pos 1)) (pos 1))
one true = record { low = omega (arith, ints); high = omega (arith, ints) }
one false = record { low = omega (arith, ints); high = omega (arith, ints) }

counts_within : (ms : List Bool) (vs : List (Option ℤ)) → IsWithin (length vs) (signed_count ms vs)
counts_within [] vs = nought (length vs)
counts_within (m ∷ ms) [] = nought 0
counts_within (m ∷ ms) (None ∷ vs) = weaker (length vs) (length (None ∷ vs)) _ (omega arith) (counts_within ms vs)
counts_within (m ∷ ms) (Some x ∷ vs) = weaker (1 + length vs) (length (Some x ∷ vs)) _ (omega arith) (within_add 1 (length vs) _ _ (one m) (counts_within ms vs))

pub count_within : (ms : List Bool) (vs : List (Option ℤ)) → length vs ≤ 1024 → IsWithin 1024 (signed_count ms vs)
count_within ms vs h = weaker (length vs) 1024 _ h (counts_within ms vs)

one_row : (b : Bool) → IsWithin 1 (signed_by b (pos 1))
one_row true = record { low = omega (arith, ints); high = omega (arith, ints) }
one_row false = record { low = omega (arith, ints); high = omega (arith, ints) }

rows_within : (rs : List (Bool × Row)) → IsWithin (length rs) (rows_counted rs)
rows_within [] = nought 0
rows_within (s ∷ rs) = weaker (1 + length rs) (length (s ∷ rs)) _ (omega arith) (within_add 1 (length rs) _ _ (one_row s.0) (rows_within rs))

pub few_within : (rs : List (Bool × Row)) → length rs ≤ 1024 → IsWithin 1024 (rows_counted rs)
few_within rs h = weaker (length rs) 1024 _ h (rows_within rs)

-- ALL TALLIES OF A GROUP
each_none : (is : List ListItem) (ts : List TallyState) → length ts ≡ length is → each (tally_rows []) is ts ≡ ts
each_none [] ts l = refl
each_none (i ∷ is) [] l = refl
each_none (i ∷ is) (t ∷ ts) l = ap (λ (us : List TallyState). t ∷ us) (each_none is ts (omega (arith, l)))

each_more : (s : Bool × Row) (rs : List (Bool × Row)) (is : List ListItem) (ts : List TallyState) → each (tally_rows rs) is (tallies_after s is ts) ≡ each (tally_rows (s ∷ rs)) is ts
each_more s rs [] ts = refl
each_more s rs (i ∷ is) [] = refl
each_more s rs (i ∷ is) (t ∷ ts) = ap (λ (us : List TallyState). tally_rows rs i (tally_after s i t) ∷ us) (each_more s rs is ts)

-- A GROUP
abbrev grown : CellState → ℤ → List TallyState → CellState
grown c n ts = record { rows = n; tallies = ts; shown = c.shown }

length-tallies_after : (s : Bool × Row) (is : List ListItem) (ts : List TallyState) → length (tallies_after s is ts) ≡ length ts
length-tallies_after s [] ts = refl
length-tallies_after s (i ∷ is) [] = refl
length-tallies_after s (i ∷ is) (t ∷ ts) = ap suc (length-tallies_after s is ts)

pub cell_of_batch : (is : List ListItem) (rs : List (Bool × Row)) (c : CellState) → length c.tallies ≡ length is → grown c (c.rows +ℤ rows_counted rs) (each (tally_rows rs) is c.tallies) ≡ fold (cell_after is) c rs
cell_of_batch is [] c l = ap₂ (λ (n : ℤ) (ts : List TallyState). grown c n ts) (sym (plus_zero c.rows)) (each_none is c.tallies l)
cell_of_batch is (s ∷ rs) c l =
    ap₂ (λ (n : ℤ) (ts : List TallyState). grown c n ts) (sym (regroup c.rows (signed_by s.0 (pos 1)) (rows_counted rs))) (sym (each_more s rs is c.tallies))
    ∙ cell_of_batch is rs (cell_after is c s) (length-tallies_after s is c.tallies ∙ l)

-- how many rows, by how many leave
pub counted_by_leaving : (rs : List (Bool × Row)) → pos (length rs) -ℤ pos (2 * count_by (λ b. b) (leaving rs)) ≡ rows_counted rs
counted_by_leaving [] = refl
counted_by_leaving (s ∷ rs) =
    ap (λ (n : ℕ). pos (suc (length rs)) -ℤ pos (2 * n)) (sum_by-cons (λ (b : Bool). cond b 1 0) (not s.0) (leaving rs))
    ∙ here s.0 (length rs) (count_by (λ b. b) (leaving rs))
    ∙ ap (λ (z : ℤ). signed_by s.0 (pos 1) +ℤ z) (counted_by_leaving rs)
  where
    here : (b : Bool) (n m : ℕ) → pos (suc n) -ℤ pos (2 * (cond {A = ℕ} (not b) 1 0 + m)) ≡ signed_by b (pos 1) +ℤ (pos n -ℤ pos (2 * m))
    here true n m = omega (arith, ints)
    here false n m = omega (arith, ints)

-- bits past the rows are not set
one_past : (v : ℕ) → v ≡ 0 → count_by (λ b. b) ((v == 1) ∷ []) ≡ 0
one_past v e = ap (λ (x : ℕ). count_by (λ b. b) ((x == 1) ∷ [])) e

bits_past : (words : List ℕ) (n : ℕ) → ((i : ℕ) → n ≤ i → place words i ≡ 0) → (j : ℕ) → count_by (λ b. b) (bits (n + j) words) ≡ count_by (λ b. b) (bits n words)
bits_past words n clear zero = let e : n + 0 ≡ n = omega arith in ap (λ (k : ℕ). count_by (λ b. b) (bits k words)) e
bits_past words n clear (suc j) =
    let e : n + suc j ≡ n + j + 1 = omega arith in
    ap (λ (k : ℕ). count_by (λ b. b) (bits k words)) e
    ∙ ap (λ (bs : List Bool). count_by (λ b. b) bs) (map-range_with_len_more (λ i. place words i == 1) 0 (n + j) (n + j) (omega arith))
    ∙ sum_by-append (λ (b : Bool). cond b 1 0) (bits (n + j) words) ((place words (n + j) == 1) ∷ [])
    ∙ omega (arith, one_past (place words (n + j)) (clear (n + j) (omega arith)), bits_past words n clear j)

pub leaving_counted : (rs : List (Bool × Row)) (words : List ℕ) (k : ℕ) → length rs ≤ k → bits (length rs) words ≡ leaving rs → ((i : ℕ) → length rs ≤ i → place words i ≡ 0) → count_by (λ b. b) (bits k words) ≡ count_by (λ b. b) (leaving rs)
leaving_counted rs words k h e clear =
    let n : length rs + (k - length rs) ≡ k = omega arith in
    sym (ap (λ (j : ℕ). count_by (λ b. b) (bits j words)) n) ∙ bits_past words (length rs) clear (k - length rs) ∙ ap (λ (bs : List Bool). count_by (λ b. b) bs) e

-- MAPS
set_again : {K V : Type 0} (test : K → Bool) (v w : V) (es : List (K × V)) → set_value test (set_value test es v) w ≡ set_value test es w
set_again test v w [] = refl
set_again test v w (e ∷ es) = here (set_again test v w es) (test e.0) refl
  where
    here : set_value test (set_value test es v) w ≡ set_value test es w → (b : Bool) → test e.0 ≡ b → set_value test (cond b ((e.0, v) ∷ es) (e ∷ set_value test es v)) w ≡ cond b ((e.0, w) ∷ es) (e ∷ set_value test es w)
    here i true h = ap (λ (b : Bool). cond b ((e.0, w) ∷ es) ((e.0, v) ∷ set_value test es w)) h
    here i false h = ap (λ (b : Bool). cond b ((e.0, w) ∷ set_value test es v) (e ∷ set_value test (set_value test es v) w)) h ∙ ap (λ xs. e ∷ xs) i

found_set : {K V : Type 0} (test : K → Bool) (v : V) (es : List (K × V)) → is_some (lookup test es) ≡ true → lookup test (set_value test es v) ≡ Some v
found_set test v [] h = cc
found_set test v (e ∷ es) h = here (λ i. found_set test v es i) (test e.0) refl h
  where
    here : (is_some (lookup test es) ≡ true → lookup test (set_value test es v) ≡ Some v) → (b : Bool) → test e.0 ≡ b → is_some (cond b (Some e.1) (lookup test es)) ≡ true → lookup test (cond b ((e.0, v) ∷ es) (e ∷ set_value test es v)) ≡ Some v
    here i true t h = ap (λ (b : Bool). cond b (Some v) (lookup test es)) t
    here i false t h = ap (λ (b : Bool). cond b (Some e.1) (lookup test (set_value test es v))) t ∙ i h

insert_again : {V : Type 0} (k : Held) (v w : V) (es : List (Held × V)) → set_value (is_at (held_cmp k)) (insert_entry held_cmp es k v) w ≡ insert_entry held_cmp es k w
insert_again k v w [] = ap (λ (b : Bool). cond b ((k, w) ∷ []) ((k, v) ∷ [])) (key_itself held_cmp held_order k)
insert_again k v w (e ∷ es) = here (insert_again k v w es) (held_cmp k e.0) refl
  where
    here : set_value (is_at (held_cmp k)) (insert_entry held_cmp es k v) w ≡ insert_entry held_cmp es k w → (o : Ordering) → held_cmp k e.0 ≡ o → set_value (is_at (held_cmp k)) (match_ordering o ((k, v) ∷ e ∷ es) ((e.0, v) ∷ es) (e ∷ insert_entry held_cmp es k v)) w ≡ match_ordering o ((k, w) ∷ e ∷ es) ((e.0, w) ∷ es) (e ∷ insert_entry held_cmp es k w)
    here i Less h = ap (λ (b : Bool). cond b ((k, w) ∷ e ∷ es) ((k, v) ∷ set_value (is_at (held_cmp k)) (e ∷ es) w)) (key_itself held_cmp held_order k)
    here i Equal h = ap (λ (o : Ordering). cond (is_eq o) ((e.0, w) ∷ es) ((e.0, v) ∷ set_value (is_at (held_cmp k)) es w)) h
    here i Greater h = ap (λ (o : Ordering). cond (is_eq o) ((e.0, w) ∷ insert_entry held_cmp es k v) (e ∷ set_value (is_at (held_cmp k)) (insert_entry held_cmp es k v) w)) h ∙ ap (λ xs. e ∷ xs) i

key_again : (k : Held) (ks : List Held) → insert_key held_cmp (insert_key held_cmp ks k) k ≡ insert_key held_cmp ks k
key_again k [] = ap (λ (o : Ordering). match_ordering o (k ∷ k ∷ []) (k ∷ []) (k ∷ k ∷ [])) (tied_itself held_order.total k)
key_again k (j ∷ ks) = here (key_again k ks) (held_cmp k j) refl
  where
    here : insert_key held_cmp (insert_key held_cmp ks k) k ≡ insert_key held_cmp ks k → (o : Ordering) → held_cmp k j ≡ o → insert_key held_cmp (match_ordering o (k ∷ j ∷ ks) (j ∷ ks) (j ∷ insert_key held_cmp ks k)) k ≡ match_ordering o (k ∷ j ∷ ks) (j ∷ ks) (j ∷ insert_key held_cmp ks k)
    here i Less h = ap (λ (o : Ordering). match_ordering o (k ∷ k ∷ j ∷ ks) (k ∷ j ∷ ks) (k ∷ insert_key held_cmp (j ∷ ks) k)) (tied_itself held_order.total k)
    here i Equal h = ap (λ (o : Ordering). match_ordering o (k ∷ j ∷ ks) (j ∷ ks) (j ∷ insert_key held_cmp ks k)) h
    here i Greater h = ap (λ (o : Ordering). match_ordering o (k ∷ j ∷ insert_key held_cmp ks k) (j ∷ insert_key held_cmp ks k) (j ∷ insert_key held_cmp (insert_key held_cmp ks k) k)) h ∙ ap (λ (xs : List Held). j ∷ xs) i

-- one more row of a group of which a cell was just put
next_in : (is : List ListItem) (k : Held) (s : Bool × Row) (c d : CellState) (es : List (Held × CellState)) → taken_in is k s (with_cell k c d es) ≡ with_cell k (cell_after is c s) (cell_after is d s) es
next_in is k s c d es = here (has_key k es) refl
  where
    here : (b : Bool) → has_key k es ≡ b → taken_in is k s (cond b (set_value (is_at (held_cmp k)) es c) (insert_entry held_cmp es k d)) ≡ cond b (set_value (is_at (held_cmp k)) es (cell_after is c s)) (insert_entry held_cmp es k (cell_after is d s))
    here true h =
        ap (λ (o : Option CellState). cond (is_some o) (set_value (is_at (held_cmp k)) (set_value (is_at (held_cmp k)) es c) (cell_after is (unwrap_or o (cell_zero (length is))) s)) (insert_entry held_cmp (set_value (is_at (held_cmp k)) es c) k (cell_after is (cell_zero (length is)) s))) (found_set (is_at (held_cmp k)) c es h)
        ∙ set_again (is_at (held_cmp k)) c (cell_after is c s) es
    here false h =
        ap (λ (o : Option CellState). cond (is_some o) (set_value (is_at (held_cmp k)) (insert_entry held_cmp es k d) (cell_after is (unwrap_or o (cell_zero (length is))) s)) (insert_entry held_cmp (insert_entry held_cmp es k d) k (cell_after is (cell_zero (length is)) s)))
        (lookup-insert_entry held_cmp held_order k k d es ∙ ap (λ (b : Bool). cond b (Some d) (lookup (is_at (held_cmp k)) es)) (key_itself held_cmp held_order k))
        ∙ insert_again k d (cell_after is d s) es

-- THE ONE GROUP
whole_key : (g : GroupBy) (s : Bool × Row) → no_columns g.by ≡ true → row_key g s ≡ held []
whole_key g s h = here g.by h
  where
    here : (by : List SourceColumn) → no_columns by ≡ true → held (key_in by s.1) ≡ held []
    here [] h = refl
    here (c ∷ by) h = cc

abbrev state_at : GroupBy → List (Held × CellState) → List Held → GroupState
state_at g es ks = record { group = g; cells = es; touched = ks }

whole_rest : (g : GroupBy) → no_columns g.by ≡ true → (rs : List (Bool × Row)) (c d : CellState) (es : List (Held × CellState)) (ks : List Held)
    → rows_after (state_at g (with_cell (held []) c d es) (insert_key held_cmp ks (held []))) rs
    ≡ state_at g (with_cell (held []) (fold (cell_after g.items) c rs) (fold (cell_after g.items) d rs) es) (insert_key held_cmp ks (held []))
whole_rest g h [] c d es ks = refl
whole_rest g h (s ∷ rs) c d es ks =
    ap (λ (k : Held). rows_after (state_at g (taken_in g.items k s (with_cell (held []) c d es)) (insert_key held_cmp (insert_key held_cmp ks (held [])) k)) rs) (whole_key g s h)
    ∙ ap₂ (λ (xs : List (Held × CellState)) (js : List Held). rows_after (state_at g xs js) rs) (next_in g.items (held []) s c d es) (key_again (held []) ks)
    ∙ whole_rest g h rs (cell_after g.items c s) (cell_after g.items d s) es ks

-- the state after a batch
pub whole_batch : (s : GroupState) (rs : List (Bool × Row)) → no_columns s.group.by ≡ true → 1 ≤ length rs
    → state_at s.group (batch_in s.group.items (held []) rs s.cells) (insert_key held_cmp s.touched (held [])) ≡ rows_after s rs
whole_batch s [] h l = absurd (omega (arith, l))
whole_batch s (r ∷ rs) h l =
    sym (whole_rest s.group h rs (cell_after s.group.items (cell_of (length s.group.items) (held []) s.cells) r) (cell_after s.group.items (cell_zero (length s.group.items)) r) s.cells s.touched)
    ∙ ap (λ (k : Held). rows_after (state_at s.group (taken_in s.group.items k r s.cells) (insert_key held_cmp s.touched k)) rs) (sym (whole_key s.group r h))

-- ROOM
read_rest : (is : List ListItem) (s : Bool × Row) (rs : List (Bool × Row)) → AllInRange is (s ∷ rs) → AllInRange is rs
read_rest is s rs h = λ k l j d lt. h k l (suc j) d (omega (arith, lt))

read_first : (is : List ListItem) (s : Bool × Row) (rs : List (Bool × Row)) → AllInRange is (s ∷ rs) → ReadsInRange is s
read_first is s rs h = λ k l. h k l 0 None (omega arith)

rows_room : (is : List ListItem) (rs : List (Bool × Row)) (n : ℕ) (s : GroupState) → s.group.items ≡ is → AllInRange is rs → CountsUpTo n s → CountsUpTo (n + length rs) (rows_after s rs)
rows_room is [] n s e h a = let z : n ≡ n + 0 = omega arith in subst (λ (m : ℕ). CountsUpTo m s) z a
rows_room is (r ∷ rs) n s e h a =
    let z : n + 1 + length rs ≡ n + suc (length rs) = omega arith in
    subst (λ (m : ℕ). CountsUpTo m (rows_after (row_after s r) rs)) z
    (rows_room is rs (n + 1) (row_after s r) e (read_rest is r rs h) (room_after n s r (subst (λ (js : List ListItem). ReadsInRange js r) (sym e) (read_first is r rs h)) a))

pub batch_keeps_room : (s : GroupState) (rs : List (Bool × Row)) → length rs ≤ 1024 → AllInRange s.group.items rs → KeepsRoom s (rows_after s rs)
batch_keeps_room s rs few h = λ n a. all_room_le (n + length rs) (n + 1024) (rows_after s rs).group.items (rows_after s rs).cells (omega (arith, few)) (rows_room s.group.items rs n s refl h a)
