-- Room for the counts and sums of groups, by how many rows they have taken, whose values are of the answer range.
use Rattle.std.proofs.Common.{◌≡◌, ℕ, ℤ, zero, suc, ◌*◌, ◌^◌, ◌≤◌, ◌≤ℤ◌, neg_ℤ, pos, negsuc, Bool, true, false, Option, Some, None, unwrap_or, cond, List, [], ◌∷◌, length, get_or, refl, sym, ap, subst, arith}
use Rattle.std.specs.List.{All}
use Rattle.std.specs.Option.{IfSome}
use Rattle.std.specs.Map.{lookup, keys_of, values_of}
use Rattle.std.specs.BTreeMap.{is_at}
use Rattle.std.proofs.lemmas.Cmp.{eq_by_cmp_equiv}
use Rattle.std.specs.Ordering.{is_eq}
use Rattle.std.proofs.lemmas.Int.{ints}
use Rattle.std.proofs.lemmas.List.Elements.{All-nil, All-cons, All-head, All-tail, All-filter}
use Rattle.std.proofs.lemmas.Map.Keys.{IsDistinct-from_sorted}
use Rattle.std.proofs.lemmas.Map.Views.{All-values_from_lookup}
use Rattle.lane_kernels.specs.Lanes.{IsWithin}
use Rattle.values.specs.Row.{Row, value_at, value_cmp, same_row}
use Rattle.values.specs.Value.{answer_max}
use Rattle.values.specs.Ranges.{IsAnswerValue}
use Rattle.values.specs.Condition.{SourceColumn, field}
use Rattle.values.specs.Resolved.{column_of}
use Rattle.values.specs.declared.resolved.ListItem.{ListItem}
use Rattle.values.specs.declared.resolved.ListItem.TheVariants.{Key, CountAll, Of}
use Rattle.values.proofs.Order.{value_order}
use Rattle.op_queue.specs.Signed.{weigh}
use Rattle.group.specs.Cells.{held_cmp, Values, TallyState, number_of, keeps, CellState, cell_zero, TallyRoom, CellRoom}
use Rattle.group.specs.Groups.{key_in}
use Rattle.group.specs.Turns.{GroupState, cell_of, CountsUpTo}
use Rattle.group.specs.Laws.{some_by, over_by, under_by, copy_by, some_count, HoldsNumbers, Tallies, AllTally, Counts, Stands, members}
use Rattle.group.proofs.KeyLemmas.{held_order}
use Rattle.group.proofs.FigureLemmas.{numbers_le}
use Rattle.laws_queries.specs.Counts.{count}
use Rattle.laws_queries.specs.Runs.{AreLean, KeepsFew}
use Rattle.laws_queries.proofs.CountLemmas.{count_kept}

-- VALUES OF A ROW
pub value_in : (r : Row) (k : ℕ) → All IsAnswerValue r → IsAnswerValue (value_at r k)
value_in [] k a = tt
value_in (v ∷ r) zero a = All-head IsAnswerValue v r a
value_in (v ∷ r) (suc k) a = value_in r k (All-tail IsAnswerValue v r a)

pub field_in : (r : Row) (c : SourceColumn) → All IsAnswerValue r → IsAnswerValue (field (r ∷ []) c)
field_in r c a = here c.source
  where
    here : (s : ℕ) → IsAnswerValue (value_at (get_or (r ∷ []) s []) c.column)
    here zero = value_in r c.column a
    here (suc s) = tt

pub number_in : (i : ListItem) (r : Row) → All IsAnswerValue r → IsAnswerValue (number_of i r)
number_in (Key k) r a = tt
number_in CountAll r a = tt
number_in (Of g c) r a = field_in r (column_of c) a

-- WEIGHTS OF NUMBERS
abbrev pub InRange : Row → Type 0
InRange r = All IsAnswerValue r

over_most : (v : Option ℤ) → IsAnswerValue v → over_by v ≤ 2 ^ 63
over_most None h = omega arith
over_most (Some (pos n)) h = let u : pos n ≤ℤ answer_max = h.1 in omega (arith, ints)
over_most (Some (negsuc n)) h = omega arith

under_most : (v : Option ℤ) → IsAnswerValue v → under_by v ≤ 2 ^ 63
under_most None h = omega arith
under_most (Some (pos n)) h = omega arith
under_most (Some (negsuc n)) h = let l : neg_ℤ answer_max ≤ℤ negsuc n = h.0 in omega (arith, ints)

some_most : (v : Option ℤ) → some_by v ≤ 1
some_most None = omega arith
some_most (Some z) = omega arith

weigh_most : (w : Row → ℕ) → ((x : Row) → InRange x → w x ≤ 2 ^ 63) → (xs : List Row) → All InRange xs → weigh w xs ≤ count xs * 2 ^ 63
unfolding weigh
weigh_most w h [] a = omega arith
weigh_most w h (x ∷ xs) a = omega (arith, h x (All-head InRange x xs a), weigh_most w h xs (All-tail InRange x xs a))

-- A TALLY
some_within : (n m : ℕ) → m ≤ n → IfSome (some_count m) (λ k. k ≤ n)
some_within n zero h = tt
some_within n (suc m) h = h

copy_most : (v : Option ℤ) (o : Option ℤ) → copy_by v o ≤ 1
copy_most v None = omega arith
copy_most v (Some z) = here (is_eq (value_cmp v (Some z)))
  where
    here : (t : Bool) → cond t 1 0 ≤ 1
    here true = omega arith
    here false = omega arith

values_within : (n : ℕ) (i : ListItem) (es : Values) (xs : List Row) → count xs ≤ n → HoldsNumbers i es xs → All (λ m. m ≤ n) (values_of es)
values_within n i es xs l h =
    All-values_from_lookup (eq_by_cmp_equiv value_order.total) (λ m. m ≤ n) es (IsDistinct-from_sorted value_cmp (keys_of es) h.sorted)
    (λ v. subst (λ o. IfSome o (λ m. m ≤ n)) (sym (h.counts v)) (some_within n (weigh (λ x. copy_by v (number_of i x)) xs) (few v)))
  where
    few : (v : Option ℤ) → weigh (λ x. copy_by v (number_of i x)) xs ≤ n
    few v = omega (arith, l, numbers_le (λ x. copy_by v (number_of i x)) (λ x. copy_most v (number_of i x)) xs)

none_within : (n : ℕ) (es : Values) → es ≡ [] → All (λ m. m ≤ n) (values_of es)
none_within n es e = subst (λ (es : Values). All (λ m. m ≤ n) (values_of es)) (sym e) (All-nil (λ (m : ℕ). m ≤ n))

tally_within : (n : ℕ) (i : ListItem) (t : TallyState) (xs : List Row) → count xs ≤ n → All InRange xs → (keeps i ≡ false → t.values ≡ []) → Tallies i t xs
    → TallyRoom n t
tally_within n i t xs l a lean h =
    let s : weigh (λ x. some_by (number_of i x)) xs ≤ count xs = numbers_le (λ x. some_by (number_of i x)) (λ x. some_most (number_of i x)) xs in
    let o : weigh (λ x. over_by (number_of i x)) xs ≤ count xs * 2 ^ 63 =
    weigh_most (λ x. over_by (number_of i x)) (λ x r. over_most (number_of i x) (number_in i x r)) xs a in
    let u : weigh (λ x. under_by (number_of i x)) xs ≤ count xs * 2 ^ 63 =
    weigh_most (λ x. under_by (number_of i x)) (λ x r. under_most (number_of i x) (number_in i x r)) xs a in
    record {
      numbers = subst (IsWithin n) (sym h.numbers) (record { low = omega (arith, ints, s, l); high = omega (arith, ints, s, l) });
      total = subst (IsWithin (n * 2 ^ 63)) (sym h.total) (record { low = omega (arith, ints, o, u, l); high = omega (arith, ints, o, u, l) });
      values = here (keeps i) refl;
    }
  where
    here : (b : Bool) → keeps i ≡ b → All (λ m. m ≤ n) (values_of t.values)
    here true e = values_within n i t.values xs l (h.values e)
    here false e = none_within n t.values (lean e)

-- A GROUP
aligned_by : (is : List ListItem) (ts : List TallyState) (xs : List Row) → AllTally is ts xs → length ts ≡ length is
aligned_by [] [] xs h = refl
aligned_by [] (t ∷ ts) xs h = absurd h
aligned_by (i ∷ is) [] xs h = absurd h
aligned_by (i ∷ is) (t ∷ ts) xs h = ap suc (aligned_by is ts xs h.1)

tallies_within : (n : ℕ) (is : List ListItem) (ts : List TallyState) (xs : List Row) → count xs ≤ n → All InRange xs → AreLean is ts → AllTally is ts xs
    → All (TallyRoom n) ts
tallies_within n [] [] xs l a lean h = All-nil (TallyRoom n)
tallies_within n [] (t ∷ ts) xs l a lean h = absurd h
tallies_within n (i ∷ is) [] xs l a lean h = absurd h
tallies_within n (i ∷ is) (t ∷ ts) xs l a lean h = All-cons (TallyRoom n) t ts (tally_within n i t xs l a lean.0 h.0) (tallies_within n is ts xs l a lean.1 h.1)

cell_within : (n : ℕ) (is : List ListItem) (c : CellState) (xs : List Row) → count xs ≤ n → All InRange xs → AreLean is c.tallies → Counts is c xs → CellRoom n is c
cell_within n is c xs l a lean h = record {
  rows = subst (IsWithin n) (sym h.rows) (record { low = omega (arith, ints, l); high = omega (arith, ints, l) });
  aligned = aligned_by is c.tallies xs h.tallies;
  tallies = tallies_within n is c.tallies xs l a lean h.tallies;
}

-- ALL GROUPS
or_some : {X : Type 0} (P : X → Type 0) (z : X) (o : Option X) → P (unwrap_or o z) → IfSome o P
or_some P z None h = tt
or_some P z (Some x) h = h

pub groups_within : (n : ℕ) (s : GroupState) (o b : List Row) → count b ≤ n → All InRange b → KeepsFew s → Stands s o b → CountsUpTo n s
groups_within n s o b l a lean h =
    All-values_from_lookup (eq_by_cmp_equiv held_order.total) (CellRoom n s.group.items) s.cells (IsDistinct-from_sorted held_cmp (keys_of s.cells) h.sorted)
    (λ k. or_some (CellRoom n s.group.items) (cell_zero (length s.group.items)) (lookup (is_at (held_cmp k)) s.cells)
    (cell_within n s.group.items (cell_of (length s.group.items) k s.cells) (members s.group k.items b)
    (omega (arith, l, count_kept (λ r. same_row k.items (key_in s.group.by r)) b)) (All-filter (λ r. same_row k.items (key_in s.group.by r)) InRange b a)
    (lean k.items) (h.counts k.items)))
