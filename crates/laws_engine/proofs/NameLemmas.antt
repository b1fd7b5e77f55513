-- What an accepted text names: windows, a condition and a list that operators can be made for.
use Rattle.std.proofs.Common.{◌≡◌, ℕ, zero, suc, ◌+◌, ◌*◌, ◌<◌, ◌≤◌, Bool, true, false, cond, ◌&&◌, ◌||◌, nat_lt, Option, Some, None, List, [], ◌∷◌, map, flat_map, length, sum, slice_get, option_and_then, refl, sym, ap, ◌∙◌, arith, length-append, All as Each'}
use Rattle.std.specs.List.{AllByRecursion, list_any, range_with_len}
use Rattle.std.specs.Option.{is_none, option_map, option_map_or, unwrap_or}
use Rattle.std.proofs.lemmas.Bool.{ltb-false}
use Rattle.std.proofs.lemmas.List.{length-map}
use Rattle.std.proofs.lemmas.List.FromFn.{length-map-range_with_len}
use Rattle.std.proofs.lemmas.List.Sums.{sum_by-cons}
use Rattle.values.specs.declared.TheConstants.{MAX_COLUMNS}
use Rattle.values.specs.Answers.{Resolved}
use Rattle.values.specs.Condition as meant
use Rattle.values.specs.Relation.{ListItem, Shape, Listed, Grouped}
use Rattle.cql_reader.specs.Query as syntax
use Rattle.cql_reader.specs.WellFormed.{HasItems, IsGoodWindow, IsWellFormed}
use Rattle.names.specs.Catalog.{Stream, columns_in, number_in}
use Rattle.names.specs.Faults.{fault_tests, first_fault, first_of, has_outside, is_ungrouped, partition_of}
use Rattle.names.specs.Matches.{Table, column_of, place_in, table_of, tables}
use Rattle.names.specs.Resolved.{all_columns, condition_of, entry_list, is_aggregate, is_grouped, is_some_reference, item_of, listed_columns, named_by, resolved, shape_of, window_of, windows_of}
use Rattle.names.specs.declared.fault.ResolveFault.{ResolveFault}
use Rattle.names.proofs.Accepted.{Accepted, accepted, few, known}
use Rattle.laws_queries.specs.Registrations.{IsNarrowShape, IsTextWindow, NeedsFewTruths, shape_width}
use Rattle.laws_engine.proofs.ConditionLemmas.{IsFew, resolved_few}

pub or_none : (a b : Bool) → (a || b) ≡ false → (a ≡ false) × (b ≡ false)
or_none true b h = absurd (cc)
or_none false b h = (refl, h)

-- WINDOWS
window_text : (t : Table) (w : syntax.WrittenWindow) → IsGoodWindow w → nat_lt MAX_COLUMNS (length (partition_of w)) ≡ false → IsTextWindow (window_of t w)
window_text t (syntax.Instants reach) g h = tt
window_text t (syntax.Rows rows) g h = omega arith
window_text t (syntax.Partition by rows) g h = omega (arith, ltb-false MAX_COLUMNS (length by) h, length-map by (place_in t))

windows_text : (catalog : List Stream) (ss : List syntax.WrittenSource) → Each' (λ s. IsGoodWindow s.window) ss
    → list_any (λ s. nat_lt MAX_COLUMNS (length (partition_of s.window))) ss ≡ false → AllByRecursion IsTextWindow (windows_of catalog ss)
windows_text catalog [] g h = tt
windows_text catalog (s ∷ ss) g h =
    let both = or_none (nat_lt MAX_COLUMNS (length (partition_of s.window))) (list_any (λ s. nat_lt MAX_COLUMNS (length (partition_of s.window))) ss) h in
    (window_text (table_of catalog s) s.window (g zero s (omega arith)) both.0, windows_text catalog ss (λ k d lt. g (suc k) d (omega (arith, lt))) both.1)

-- THE CONDITION
condition_text : (ts : List Table) (o : Option syntax.WrittenCondition) → IsFew o → NeedsFewTruths (option_map (condition_of ts) o)
condition_text ts None h = tt
condition_text ts (Some c) h = resolved_few ts (Some c) h (condition_of ts c) refl

-- THE LIST is of the columns of all sources, or of the items
columns_counted : (s : ℕ) (ts : List Table) → length (all_columns s ts) ≡ sum (map (λ t. length t.columns) ts)
columns_counted s [] = refl
columns_counted s (t ∷ ts) =
    let column : ℕ → meant.SourceColumn = λ k. record { source = s; column = k } in
    length-append (map column (range_with_len 0 (length t.columns))) (all_columns (suc s) ts)
    ∙ ap (λ (n : ℕ). n + length (all_columns (suc s) ts)) (length-map-range_with_len column 0 (length t.columns))
    ∙ ap (λ (n : ℕ). length t.columns + n) (columns_counted (suc s) ts)
    ∙ sym (sum_by-cons (λ n. n) (length t.columns) (map (λ t. length t.columns) ts))

named_once : (e : syntax.WrittenEntry) → length (named_by e) ≤ 1
named_once (syntax.Column r) = omega arith
named_once syntax.CountAll = omega arith
named_once (syntax.Of a r) = omega arith

named_few : (es : List syntax.WrittenEntry) → length (flat_map named_by es) ≤ length es
named_few [] = omega arith
named_few (e ∷ es) = omega (arith, named_once e, named_few es, length-append (named_by e) (flat_map named_by es))

listed_few : (ts : List Table) (es : syntax.Entries) → length (entry_list es) ≤ MAX_COLUMNS → sum (map (λ t. length t.columns) ts) ≤ MAX_COLUMNS → length (listed_columns ts es) ≤ MAX_COLUMNS
listed_few ts syntax.All h w = omega (arith, w, columns_counted 0 ts)
listed_few ts (syntax.Each es) h w = omega (arith, h, named_few es, length-map (flat_map named_by es) (column_of ts))

listed_some : (ts : List Table) (es : syntax.Entries) → HasItems es → list_any is_aggregate (entry_list es) ≡ false → 0 < sum (map (λ t. length t.columns) ts)
    → 0 < length (listed_columns ts es)
listed_some ts syntax.All h e w = omega (arith, w, columns_counted 0 ts)
listed_some ts (syntax.Each []) h e w = absurd (omega (arith, h))
listed_some ts (syntax.Each (syntax.Column r ∷ es)) h e w = omega arith
listed_some ts (syntax.Each (syntax.CountAll ∷ es)) h e w = absurd (cc)
listed_some ts (syntax.Each (syntax.Of a r ∷ es)) h e w = absurd (cc)

items_some : (ts : List Table) (by : List meant.SourceColumn) (es : syntax.Entries) → HasItems es → has_outside ts by es ≡ false → 0 < length (map (item_of ts by) (entry_list es))
items_some ts by syntax.All h e = absurd (cc)
items_some ts by (syntax.Each es) h e = omega (arith, h, length-map es (item_of ts by))

-- a shape that is narrow and not empty
record FitsRow (s : Shape) : Type 0 where
  pub shown : 0 < shape_width s
  pub narrow : IsNarrowShape s

either_shape : (b : Bool) (listed : List meant.SourceColumn) (by : List meant.SourceColumn) (items : List ListItem)
    → (b ≡ true → FitsRow (Grouped by items)) → (b ≡ false → FitsRow (Listed listed)) → FitsRow (cond b (Grouped by items) (Listed listed))
either_shape true listed by items h k = h refl
either_shape false listed by items h k = k refl

and_none : (a b : Bool) → a ≡ true → (a && b) ≡ false → b ≡ false
and_none true b e h = h
and_none false b e h = absurd (cc)

shape_fits : (ts : List Table) (q : syntax.Query) → HasItems q.entries → length (entry_list q.entries) ≤ MAX_COLUMNS → length q.group ≤ MAX_COLUMNS → is_ungrouped ts q ≡ false
    → 0 < sum (map (λ t. length t.columns) ts) → sum (map (λ t. length t.columns) ts) ≤ MAX_COLUMNS → FitsRow (shape_of ts q)
shape_fits ts q items few_items few_by outside some few_columns =
    let by : List meant.SourceColumn = map (column_of ts) q.group in
    either_shape (is_grouped q) (listed_columns ts q.entries) by (map (item_of ts by) (entry_list q.entries))
    (λ grouped. record {
      shown = items_some ts by q.entries items (and_none (is_grouped q) (has_outside ts by q.entries) grouped outside);
      narrow = (omega (arith, few_by, length-map q.group (column_of ts)), omega (arith, few_items, length-map (entry_list q.entries) (item_of ts by)));
    })
    (λ alone. record {
      shown = listed_some ts q.entries items (or_none (is_some_reference q.group) (list_any is_aggregate (entry_list q.entries)) alone).1 some;
      narrow = listed_few ts q.entries few_items few_columns;
    })

-- THE SOURCES have columns, and not too many
columns_here : (catalog : List Stream) (n : ℕ) → AllByRecursion (λ s. 0 < length s.columns) catalog → n < length catalog → 0 < length (option_map_or (λ s. s.columns) (slice_get catalog n) [])
columns_here [] n h l = absurd (omega (arith, l))
columns_here (s ∷ ss) zero h l = h.0
columns_here (s ∷ ss) (suc n) h l = columns_here ss n h.1 (omega (arith, l))

columns_some : (catalog : List Stream) (o : Option ℕ) → AllByRecursion (λ s. 0 < length s.columns) catalog → is_none o ≡ false → unwrap_or o 0 < length catalog
    → 0 < length (option_map_or (λ s. s.columns) (option_and_then (slice_get catalog) o) [])
columns_some catalog None h e l = absurd (cc)
columns_some catalog (Some n) h e l = columns_here catalog n h l

sources_some : (catalog : List Stream) (ss : List syntax.WrittenSource) → AllByRecursion (λ s. 0 < length s.columns) catalog → 0 < length ss
    → list_any (λ s. is_none (number_in catalog s.stream)) ss ≡ false → 0 < sum (map (λ t. length t.columns) (tables catalog ss))
sources_some catalog [] h l e = absurd (omega (arith, l))
sources_some catalog (s ∷ ss) h l e =
    let both = or_none (is_none (number_in catalog s.stream)) (list_any (λ s. is_none (number_in catalog s.stream)) ss) e in
    let here : 0 < length (columns_in catalog s.stream) = columns_some catalog (number_in catalog s.stream) h both.0 (known catalog (s ∷ ss) e).0 in
    omega (arith, here, sum_by-cons (λ n. n) (length (columns_in catalog s.stream)) (map (λ t. length t.columns) (tables catalog ss)))

-- A QUERY WITHOUT A FAULT, over streams of 1 to 8 columns
pub record MeansFit (meaning : Resolved) : Type 0 where
  pub windows : AllByRecursion IsTextWindow meaning.windows
  pub condition : NeedsFewTruths meaning.condition
  pub shown : 0 < shape_width meaning.shape
  pub narrow : IsNarrowShape meaning.shape

none_met : (ts : List (Bool × ResolveFault)) → first_of ts ≡ None → AllByRecursion (λ t. t.0 ≡ false) ts
none_met [] h = tt
none_met ((true, fault) ∷ ts) h = absurd (cc)
none_met ((false, fault) ∷ ts) h = (refl, none_met ts h)

pub resolved_fits : (q : syntax.Query) (catalog : List Stream) → AllByRecursion (λ s. 0 < length s.columns) catalog → AllByRecursion (λ s. length s.columns ≤ 8) catalog
    → IsWellFormed q → IsFew q.condition → first_fault q catalog ≡ None → MeansFit (resolved q catalog)
resolved_fits q catalog some narrow formed few_truths none =
    let ts : List Table = tables catalog q.sources in
    let a : Accepted q catalog = accepted q catalog none in
    let outside : is_ungrouped ts q ≡ false = (none_met (fault_tests q catalog) none).1.1.1.1.1.0 in
    let width : sum (map (λ t. length t.columns) ts) ≤ 8 * length q.sources = few 8 catalog narrow q.sources in
    let shape : FitsRow (shape_of ts q) = shape_fits ts q formed.items a.items a.group outside (sources_some catalog q.sources some formed.some_source a.streams) (omega (arith, width, formed.few_sources)) in
    record {
      windows = windows_text catalog q.sources formed.windows a.windows;
      condition = condition_text ts q.condition few_truths;
      shown = shape.shown;
      narrow = shape.narrow;
    }
