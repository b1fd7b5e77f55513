-- What is true of a query without a fault.
use Rattle.std.proofs.Common.{◌≡◌, ℕ, zero, suc, ◌+◌, ◌*◌, ◌<◌, ◌≤◌, Bool, true, false, cond, ◌&&◌, ◌||◌, nat_lt, nat_le, Option, Some, None, List, [], ◌∷◌, ◌++◌, map, flat_map, length, sum, slice_get, option_and_then, refl, sym, ap, ◌∙◌, arith, length-append}
use Rattle.std.specs.List.{list_any, list_all, range_with_len, position_or_len, AllByRecursion}
use Rattle.std.specs.Option.{is_none, unwrap_or, option_map_or}
use Rattle.std.specs.Str.{bytes_eq}
use Rattle.std.proofs.lemmas.List.{length-map}
use Rattle.std.proofs.lemmas.List.FromFn.{length-map-range_with_len}
use Rattle.std.proofs.lemmas.List.Sums.{sum_by-cons}
use Rattle.std.proofs.lemmas.Bool.{le-leb, lt-ltb, ltb-false}
use Rattle.std.proofs.lemmas.Bool.Decides.{nat_tests}
use Rattle.std.proofs.Math.Nat.{mul-suc}
use Rattle.values.specs.declared.TheConstants.{MAX_COLUMNS}
use Rattle.values.specs.Condition as conditions
use Rattle.values.specs.Relation as relations
use Rattle.values.specs.Resolved.{column_of, columns_of, item_of, items_of, window_of, shape_of}
use Rattle.values.specs.declared.resolved.Shape.{Shape}
use Rattle.values.specs.declared.resolved.Shape.TheVariants.{Listed, Grouped}
use Rattle.values.specs.declared.resolved.Window.{Window}
use Rattle.values.specs.declared.resolved.Window.TheVariants.{Instants, LastRows}
use Rattle.cql_reader.specs.Query as syntax
use Rattle.names.specs.Catalog.{Stream, number_in, columns_in}
use Rattle.names.specs.Matches as matches
use Rattle.names.specs.Matches.{Table, table_of, tables, allows, places, columns_at, matches_in, first_column, place_in}
use Rattle.names.specs.Resolved as spec
use Rattle.names.specs.Resolved.{all_columns, named_by, entry_list, is_grouped, listed_columns, windows_of, streams}
use Rattle.names.specs.Faults.{partition_of, partition_matches, all_matches, references_of_where, is_missing, is_many, has_repeat, lacks_key, is_ungrouped, is_wide, first_fault}
use Rattle.names.specs.Split.{all_conjuncts}
use Rattle.names.specs.Sound.{has_narrow_rows, is_within, all_within}
use Rattle.names.proofs.Lists.{any_append}
use Rattle.names.proofs.Tables.{first_of_tests}

or_false : (a b : Bool) → (a || b) ≡ false → (a ≡ false) × (b ≡ false)
or_false true b h = absurd (cc)
or_false false b h = (refl, h)

-- the tests that its meaning's laws need
pub record Accepted (q : syntax.Query) (catalog : List Stream) : Type 0 where
  pub streams : list_any (λ s. is_none (number_in catalog s.stream)) q.sources ≡ false
  pub partitions : list_any is_missing (flat_map (λ s. map (λ r. matches_in 0 r (table_of catalog s)) (partition_of s.window)) q.sources) ≡ false
  pub items : length (entry_list q.entries) ≤ MAX_COLUMNS
  pub group : length q.group ≤ MAX_COLUMNS
  pub windows : list_any (λ s. nat_lt MAX_COLUMNS (length (partition_of s.window))) q.sources ≡ false

none_of_seven : (a b c d e f g : Bool) → first_of_tests a b c d e f g ≡ None
    → (a ≡ false) × (b ≡ false) × (c ≡ false) × (d ≡ false) × (e ≡ false) × (f ≡ false) × (g ≡ false)
none_of_seven true b c d e f g h = absurd (cc)
none_of_seven false true c d e f g h = absurd (cc)
none_of_seven false false true d e f g h = absurd (cc)
none_of_seven false false false true e f g h = absurd (cc)
none_of_seven false false false false true f g h = absurd (cc)
none_of_seven false false false false false true g h = absurd (cc)
none_of_seven false false false false false false true h = absurd (cc)
none_of_seven false false false false false false false h = (refl, refl, refl, refl, refl, refl, refl)

pub accepted : (q : syntax.Query) (catalog : List Stream) → first_fault q catalog ≡ None → Accepted q catalog
accepted q catalog h =
    let after : List (List conditions.SourceColumn) = map (matches.matches 0 (tables catalog q.sources)) (flat_map named_by (entry_list q.entries) ++ (references_of_where q.condition ++ q.group)) in
    let long : Bool = list_any (λ s. nat_lt MAX_COLUMNS (length (partition_of s.window))) q.sources in
    let none = none_of_seven (list_any (λ s. is_none (number_in catalog s.stream)) q.sources) (list_any is_missing (all_matches q catalog))
    (list_any is_many (all_matches q catalog)) (has_repeat (map matches.name_of q.sources))
    (lacks_key (length q.sources) (all_conjuncts (spec.resolved q catalog).condition)) (is_ungrouped (tables catalog q.sources) q) (is_wide q) h in
    let wide = or_false (nat_lt MAX_COLUMNS (length (entry_list q.entries))) (nat_lt MAX_COLUMNS (length q.group) || long) none.6 in
    let group = or_false (nat_lt MAX_COLUMNS (length q.group)) long wide.1 in
    record {
      streams = none.0;
      partitions = (or_false (list_any is_missing (partition_matches q catalog)) (list_any is_missing after) (sym (any_append is_missing (partition_matches q catalog) after) ∙ none.1)).0;
      items = ltb-false MAX_COLUMNS (length (entry_list q.entries)) wide.0;
      group = ltb-false MAX_COLUMNS (length q.group) group.0;
      windows = group.1;
    }

-- NARROW ROWS

listed_is : (b : Bool) (cs ds by : List conditions.SourceColumn) (items : List relations.ListItem) → relations.Listed cs ≡ cond b (relations.Grouped by items) (relations.Listed ds) → cs ≡ ds
listed_is true cs ds by items h = absurd (cc)
listed_is false cs ds by items h = cc

grouped_is : (b : Bool) (by by' ds : List conditions.SourceColumn) (items items' : List relations.ListItem)
    → relations.Grouped by items ≡ cond b (relations.Grouped by' items') (relations.Listed ds) → (by ≡ by') × (items ≡ items')
grouped_is true by by' ds items items' h = (cc, cc)
grouped_is false by by' ds items items' h = absurd (cc)

named_once : (e : syntax.WrittenEntry) → length (named_by e) ≤ 1
named_once (syntax.Column r) = omega arith
named_once syntax.CountAll = omega arith
named_once (syntax.Of a r) = omega arith

named_few : (es : List syntax.WrittenEntry) → length (flat_map named_by es) ≤ length es
named_few [] = omega arith
named_few (e ∷ es) = omega (arith, named_once e, named_few es, length-append (named_by e) (flat_map named_by es))

length-all_columns : (s : ℕ) (ts : List Table) → length (all_columns s ts) ≡ sum (map (λ t. length t.columns) ts)
length-all_columns s [] = refl
length-all_columns s (t ∷ ts) =
    let f : ℕ → conditions.SourceColumn = λ k. record { source = s; column = k } in
    length-append (map f (range_with_len 0 (length t.columns))) (all_columns (suc s) ts)
    ∙ ap (λ (n : ℕ). n + length (all_columns (suc s) ts)) (length-map-range_with_len f 0 (length t.columns))
    ∙ ap (λ (n : ℕ). length t.columns + n) (length-all_columns (suc s) ts)
    ∙ sym (sum_by-cons (λ n. n) (length t.columns) (map (λ t. length t.columns) ts))

listed_few : (ts : List Table) (es : syntax.Entries) → length (entry_list es) ≤ MAX_COLUMNS → sum (map (λ t. length t.columns) ts) ≤ MAX_COLUMNS → length (listed_columns ts es) ≤ MAX_COLUMNS
listed_few ts syntax.All h w = omega (arith, w, length-all_columns 0 ts)
listed_few ts (syntax.Each es) h w = omega (arith, h, named_few es, length-map (flat_map named_by es) (matches.column_of ts))

both_true : (a b : Bool) → a ≡ true → b ≡ true → (a && b) ≡ true
both_true a b e f = rw e f

-- the rows of a query without a fault are narrow, where those of all sources together are
pub narrow : (s : Shape) (ts : List Table) (q : syntax.Query) → shape_of s ≡ spec.shape_of ts q → length (entry_list q.entries) ≤ MAX_COLUMNS → length q.group ≤ MAX_COLUMNS
    → sum (map (λ t. length t.columns) ts) ≤ MAX_COLUMNS → has_narrow_rows s ≡ true
narrow (Listed columns) ts q e items group w =
    let is : columns_of columns.items ≡ listed_columns ts q.entries = listed_is (is_grouped q) _ _ _ _ e in
    le-leb (length columns.items) MAX_COLUMNS (omega (arith, ap length is, length-map columns.items column_of, listed_few ts q.entries items w))
narrow (Grouped by listed) ts q e items group w =
    let is = grouped_is (is_grouped q) (columns_of by.items) (map (matches.column_of ts) q.group) (listed_columns ts q.entries)
    (items_of listed.items) (map (spec.item_of ts (map (matches.column_of ts) q.group)) (entry_list q.entries)) e in
    both_true (nat_le (length by.items) MAX_COLUMNS) (nat_le (length listed.items) MAX_COLUMNS)
    (le-leb (length by.items) MAX_COLUMNS (omega (arith, ap length is.0, length-map by.items column_of, length-map q.group (matches.column_of ts), group)))
    (le-leb (length listed.items) MAX_COLUMNS (omega (
      arith,
      ap length is.1,
      length-map listed.items item_of,
      length-map (entry_list q.entries) (spec.item_of ts (map (matches.column_of ts) q.group)),
      items,
    )))

-- WINDOWS

places_in : (n m : ℕ) (name : List ℕ) (xs : List (List ℕ)) → n + length xs ≤ m → AllByRecursion (λ k. k < m) (places n name xs)
places_in n m name [] h = tt
places_in n m name (x ∷ xs) h = kept (bytes_eq x name) (places_in (suc n) m name xs (omega (arith, h)))
  where
    kept : (b : Bool) → AllByRecursion (λ k. k < m) (places (suc n) name xs)
        → AllByRecursion (λ k. k < m) (cond b (n ∷ places (suc n) name xs) (places (suc n) name xs))
    kept true r = (omega (arith, h), r)
    kept false r = r

first_in : (source : ℕ) (ks : List ℕ) (m : ℕ) → AllByRecursion (λ k. k < m) ks → is_missing (columns_at source ks) ≡ false → (first_column (columns_at source ks)).column < m
first_in source [] m h n = absurd (cc)
first_in source (k ∷ ks) m h n = h.0

place_here : (t : Table) (r : syntax.Reference) → is_missing (matches_in 0 r t) ≡ false → place_in t r < length t.columns
place_here t r h = allowed (allows r.qualifier t.name) h
  where
    ks : List ℕ
    ks = places 0 r.name t.columns

    allowed : (b : Bool) → is_missing (cond b (columns_at 0 (places 0 r.name t.columns)) []) ≡ false
        → (first_column (cond b (columns_at 0 (places 0 r.name t.columns)) [])).column < length t.columns
    allowed true n = first_in 0 (places 0 r.name t.columns) (length t.columns) (places_in 0 (length t.columns) r.name t.columns (omega arith)) n
    allowed false n = absurd (cc)

places_here : (t : Table) (rs : List syntax.Reference) → list_any is_missing (map (λ r. matches_in 0 r t) rs) ≡ false
    → list_all (λ k. nat_lt k (length t.columns)) (map (place_in t) rs) ≡ true
places_here t [] h = refl
places_here t (r ∷ rs) h =
    let both = or_false (is_missing (matches_in 0 r t)) (list_any is_missing (map (λ r. matches_in 0 r t) rs)) h in
    both_true (nat_lt (place_in t r) (length t.columns)) (list_all (λ k. nat_lt k (length t.columns)) (map (place_in t) rs))
    (lt-ltb (place_in t r) (length t.columns) (place_here t r both.0)) (places_here t rs both.1)

window_within : (w : Window) (t : Table) (v : syntax.WrittenWindow) → window_of w ≡ spec.window_of t v
    → list_any is_missing (map (λ r. matches_in 0 r t) (partition_of v)) ≡ false → nat_lt MAX_COLUMNS (length (partition_of v)) ≡ false → is_within w (length t.columns) ≡ true
window_within (Instants reach) t v h m p = refl
window_within (LastRows columns n) t (syntax.Instants reach) h m p = absurd (cc)
window_within (LastRows columns n) t (syntax.Rows rows) h m p =
    let is : columns.items ≡ [] = cc in
    rw is refl
window_within (LastRows columns n) t (syntax.Partition by rows) h m p =
    let is : columns.items ≡ map (place_in t) by = cc in
    rw is (both_true (list_all (λ k. nat_lt k (length t.columns)) (map (place_in t) by)) (nat_le (length (map (place_in t) by)) MAX_COLUMNS)
    (places_here t by m) (le-leb (length (map (place_in t) by)) MAX_COLUMNS (omega (arith, length-map by (place_in t), ltb-false MAX_COLUMNS (length by) p))))

pub within : (ws : List Window) (vs : List ℕ) (catalog : List Stream) (ss : List syntax.WrittenSource) → map window_of ws ≡ windows_of catalog ss
    → vs ≡ map (λ t. length t.columns) (tables catalog ss)
    → list_any is_missing (flat_map (λ s. map (λ r. matches_in 0 r (table_of catalog s)) (partition_of s.window)) ss) ≡ false
    → list_any (λ s. nat_lt MAX_COLUMNS (length (partition_of s.window))) ss ≡ false → all_within ws vs ≡ true
within [] vs catalog ss h v m p = refl
within (w ∷ ws) vs catalog [] h v m p = absurd (cc)
within (w ∷ ws) [] catalog (s ∷ ss) h v m p = absurd (cc)
within (w ∷ ws) (k ∷ vs) catalog (s ∷ ss) h v m p =
    let t : Table = table_of catalog s in
    let width : k ≡ length t.columns = cc in
    let more : vs ≡ map (λ t. length t.columns) (tables catalog ss) = cc in
    let here : window_of w ≡ spec.window_of t s.window = cc in
    let rest : map window_of ws ≡ windows_of catalog ss = cc in
    let mine : List (List conditions.SourceColumn) = map (λ r. matches_in 0 r t) (partition_of s.window) in
    let others : List (List conditions.SourceColumn) = flat_map (λ s. map (λ r. matches_in 0 r (table_of catalog s)) (partition_of s.window)) ss in
    let found = or_false (list_any is_missing mine) (list_any is_missing others) (sym (any_append is_missing mine others) ∙ m) in
    let short = or_false (nat_lt MAX_COLUMNS (length (partition_of s.window))) (list_any (λ s. nat_lt MAX_COLUMNS (length (partition_of s.window))) ss) p in
    both_true (is_within w k) (all_within ws vs) (rw width (window_within w t s.window here found.0 short.0)) (within ws vs catalog ss rest more found.1 short.1)

-- STREAMS

known_at : (b : Bool) (k n : ℕ) → nat_lt k n ≡ b → is_none (cond b (Some k) None) ≡ false → unwrap_or (cond b (Some k) None) 0 < n
known_at true k n e h = grind (arith, nat_tests)
known_at false k n e h = absurd (cc)

pub known : (catalog : List Stream) (ss : List syntax.WrittenSource) → list_any (λ s. is_none (number_in catalog s.stream)) ss ≡ false
    → AllByRecursion (λ n. n < length catalog) (map (λ s. unwrap_or (number_in catalog s.stream) 0) ss)
known catalog [] h = tt
known catalog (s ∷ ss) h =
    let both = or_false (is_none (number_in catalog s.stream)) (list_any (λ s. is_none (number_in catalog s.stream)) ss) h in
    let k : ℕ = position_or_len (λ d. bytes_eq d.name s.stream) catalog in
    (known_at (nat_lt k (length catalog)) k (length catalog) refl both.0, known catalog ss both.1)

columns_at_few : (most : ℕ) (catalog : List Stream) (n : ℕ) → AllByRecursion (λ s. length s.columns ≤ most) catalog → length (option_map_or (λ s. s.columns) (slice_get catalog n) []) ≤ most
columns_at_few most [] n h = omega arith
columns_at_few most (s ∷ catalog) zero h = h.0
columns_at_few most (s ∷ catalog) (suc n) h = columns_at_few most catalog n h.1

columns_few : (most : ℕ) (catalog : List Stream) (o : Option ℕ) → AllByRecursion (λ s. length s.columns ≤ most) catalog
    → length (option_map_or (λ s. s.columns) (option_and_then (slice_get catalog) o) []) ≤ most
columns_few most catalog None h = omega arith
columns_few most catalog (Some n) h = columns_at_few most catalog n h

pub few : (most : ℕ) (catalog : List Stream) → AllByRecursion (λ s. length s.columns ≤ most) catalog → (ss : List syntax.WrittenSource)
    → sum (map (λ t. length t.columns) (tables catalog ss)) ≤ most * length ss
few most catalog h [] = omega arith
few most catalog h (s ∷ ss) =
    let here : length (columns_in catalog s.stream) ≤ most = columns_few most catalog (number_in catalog s.stream) h in
    omega (
      arith,
      here,
      few most catalog h ss,
      mul-suc most (length ss),
      sum_by-cons (λ n. n) (length (columns_in catalog s.stream)) (map (λ t. length t.columns) (tables catalog ss)),
    )
