-- A text without a fault means a query whose columns are columns of its sources.
use Rattle.std.proofs.Common.{◌≡◌, ℕ, zero, suc, ◌+◌, ◌<◌, ◌≤◌, Bool, true, false, Option, Some, None, List, [], ◌∷◌, ◌++◌, map, flat_map, length, get_or, refl, sym, ap, ◌∙◌, arith, append_assoc, length-append}
use Rattle.std.specs.List.{list_any, range_with_len}
use Rattle.std.specs.Option.{option_map}
use Rattle.std.proofs.lemmas.List.{length-map, map-append}
use Rattle.std.proofs.Math.Seq.{get_or-append_seam}
use Rattle.values.specs.Condition.{SourceColumn}
use Rattle.cql_reader.specs.Query as syntax
use Rattle.names.specs.Split.{columns_of, columns_of_operand}
use Rattle.std.specs.Str.{bytes_eq}
use Rattle.names.specs.Catalog.{Stream}
use Rattle.names.specs.Matches.{Table, table_of, tables, places, allows, matches_in, matches, first_column, column_of}
use Rattle.names.specs.Resolved.{operand_of, condition_of, item_of, named_by, all_columns, entry_list, is_grouped, listed_columns, shape_of, resolved, widths}
use Rattle.names.specs.Faults.{references_of_operand, references_of_condition, references_of_where, partition_matches, all_matches, is_missing, first_of, fault_tests, first_fault}
use Rattle.names.specs.declared.fault.ResolveFault.{ResolveFault}
use Rattle.std.specs.List.{AllByRecursion}
use Rattle.plan.specs.Scope.{InScope, ItemInScope, ShapeInScope, ConditionInScope, Scoped}
use Rattle.plan.specs.Scope.{Tables}
use Rattle.plan.specs.Values.{plan_value}
use Rattle.plan.specs.Build.{plan_of}
use Rattle.plan.proofs.Whole.{plan-body}
use Rattle.values.specs.Row.{Row}
use Rattle.values.specs.Answers.{body}
use Rattle.plan.proofs.Lists.{by_test, each-append, each-left, each-right, each-weaken, each-map, each-unmap}

none_met : (ts : List (Bool × ResolveFault)) → first_of ts ≡ None → AllByRecursion (λ t. t.0 ≡ false) ts
none_met [] h = tt
none_met ((true, fault) ∷ ts) h = absurd (cc)
none_met ((false, fault) ∷ ts) h = (refl, none_met ts h)

not_any : {X : Type 0} (t : X → Bool) (xs : List X) → list_any t xs ≡ false → AllByRecursion (λ x. t x ≡ false) xs
not_any t [] h = tt
not_any t (x ∷ xs) h =
    by_test (t x) (λ e. let bad : true ≡ false = rw e at h in cc) (λ e. (e, not_any t xs (rw e at h)))

abbrev pub widths_of : List Table → List ℕ
widths_of ts = map (λ t. length t.columns) ts

places_in : (n m : ℕ) (name : List ℕ) (xs : List (List ℕ)) → n + length xs ≤ m → AllByRecursion (λ k. k < m) (places n name xs)
places_in n m name [] h = tt
places_in n m name (x ∷ xs) h =
    let rest : AllByRecursion (λ k. k < m) (places (suc n) name xs) = places_in (suc n) m name xs (omega (arith, h)) in
    by_test (bytes_eq x name) (λ e. rw e (omega (arith, h), rest)) (λ e. rw e rest)

here_in : (pre : List ℕ) (v : ℕ) (more : List ℕ) (s : ℕ) → length pre ≡ s → (k : ℕ) → k < v → InScope (pre ++ v ∷ more) (record { source = s; column = k })
here_in pre v more s e k h =
    let at : get_or (pre ++ v ∷ more) s 0 ≡ v = rw (← e) (get_or-append_seam pre v more 0) in
    record { source = omega (arith, e, length-append pre (v ∷ more)); column = rw at h }

matches_here : (pre : List ℕ) (t : Table) (more : List ℕ) (s : ℕ) → length pre ≡ s → (r : syntax.Reference)
    → AllByRecursion (InScope (pre ++ length t.columns ∷ more)) (matches_in s r t)
matches_here pre t more s e r =
    let vs : List ℕ = pre ++ length t.columns ∷ more in
    let found : AllByRecursion (InScope vs) (map (λ k. record { source = s; column = k }) (places 0 r.name t.columns)) =
    each-map (InScope vs) (λ k. record { source = s; column = k }) (places 0 r.name t.columns)
    (each-weaken (λ k. k < length t.columns) (λ k. InScope vs (record { source = s; column = k })) (here_in pre (length t.columns) more s e)
    (places 0 r.name t.columns) (places_in 0 (length t.columns) r.name t.columns (omega arith))) in
    by_test (allows r.qualifier t.name) (λ y. rw y found) (λ n. rw n tt)

matches-scope : (pre : List ℕ) (ts : List Table) (s : ℕ) → length pre ≡ s → (r : syntax.Reference) → AllByRecursion (InScope (pre ++ widths_of ts)) (matches s ts r)
matches-scope pre [] s e r = tt
matches-scope pre (t ∷ ts) s e r =
    let vs : List ℕ = pre ++ length t.columns ∷ widths_of ts in
    let rest : AllByRecursion (InScope vs) (matches (suc s) ts r) =
    rw (← append_assoc pre (length t.columns ∷ []) (widths_of ts)) (matches-scope (pre ++ length t.columns ∷ []) ts (suc s) (omega (arith, e, length-append pre (length t.columns ∷ []))) r) in
    each-append (InScope vs) (matches_in s r t) (matches (suc s) ts r) (matches_here pre t (widths_of ts) s e r) rest

first_in : (P : SourceColumn → Type 0) (cs : List SourceColumn) → AllByRecursion P cs → is_missing cs ≡ false → P (first_column cs)
first_in P [] h n = cc
first_in P (c ∷ cs) h n = h.0

module _ (ts : List Table) where
  -- the reference names a column
  abbrev pub Names : syntax.Reference → Type 0
  Names r = InScope (widths_of ts) (column_of ts r)

  named : (r : syntax.Reference) → is_missing (matches 0 ts r) ≡ false → Names r
  named r n = first_in (InScope (widths_of ts)) (matches 0 ts r) (matches-scope [] ts 0 refl r) n

  operand-columns : (a : syntax.WrittenOperand) → columns_of_operand (operand_of ts a) ≡ map (column_of ts) (references_of_operand a)
  operand-columns (syntax.Named r) = refl
  operand-columns (syntax.Number z) = refl

  both-columns : (xs ys : List SourceColumn) (rs ss : List syntax.Reference) → xs ≡ map (column_of ts) rs → ys ≡ map (column_of ts) ss → xs ++ ys ≡ map (column_of ts) (rs ++ ss)
  both-columns xs ys rs ss e f = ap (λ v. v ++ ys) e ∙ ap (λ v. map (column_of ts) rs ++ v) f ∙ sym (map-append (column_of ts) rs ss)

  condition-columns : (c : syntax.WrittenCondition) → columns_of (condition_of ts c) ≡ map (column_of ts) (references_of_condition c)
  condition-columns (syntax.Compared a how b) =
      both-columns (columns_of_operand (operand_of ts a)) (columns_of_operand (operand_of ts b)) (references_of_operand a) (references_of_operand b) (operand-columns a) (operand-columns b)
  condition-columns (syntax.Not c) = condition-columns c
  condition-columns (syntax.And c d) =
      both-columns (columns_of (condition_of ts c)) (columns_of (condition_of ts d)) (references_of_condition c) (references_of_condition d) (condition-columns c) (condition-columns d)
  condition-columns (syntax.Or c d) =
      both-columns (columns_of (condition_of ts c)) (columns_of (condition_of ts d)) (references_of_condition c) (references_of_condition d) (condition-columns c) (condition-columns d)

  columns-named : (rs : List syntax.Reference) → AllByRecursion Names rs → AllByRecursion (InScope (widths_of ts)) (map (column_of ts) rs)
  columns-named rs h = each-map (InScope (widths_of ts)) (column_of ts) rs h

  condition-scope : (o : Option syntax.WrittenCondition) → AllByRecursion Names (references_of_where o) → ConditionInScope (widths_of ts) (option_map (condition_of ts) o)
  condition-scope None h = tt
  condition-scope (Some c) h = rw (condition-columns c) (columns-named (references_of_condition c) h)

  item-scope : (by : List SourceColumn) (e : syntax.WrittenEntry) → AllByRecursion Names (named_by e) → ItemInScope (widths_of ts) (item_of ts by e)
  item-scope by (syntax.Column r) h = tt
  item-scope by syntax.CountAll h = tt
  item-scope by (syntax.Of a r) h = h.0

  items-scope : (by : List SourceColumn) (es : List syntax.WrittenEntry) → AllByRecursion Names (flat_map named_by es) → AllByRecursion (ItemInScope (widths_of ts)) (map (item_of ts by) es)
  items-scope by [] h = tt
  items-scope by (e ∷ es) h =
      (item-scope by e (each-left Names (named_by e) (flat_map named_by es) h), items-scope by es (each-right Names (named_by e) (flat_map named_by es) h))

pub range_in : (a m b : ℕ) → a + m ≤ b → AllByRecursion (λ k. k < b) (range_with_len a m)
range_in a zero b h = tt
range_in a (suc m) b h = (omega (arith, h), range_in (a + 1) m b (omega (arith, h)))

all-scope : (pre : List ℕ) (ts : List Table) (s : ℕ) → length pre ≡ s → AllByRecursion (InScope (pre ++ widths_of ts)) (all_columns s ts)
all-scope pre [] s e = tt
all-scope pre (t ∷ ts) s e =
    let vs : List ℕ = pre ++ length t.columns ∷ widths_of ts in
    let rest : AllByRecursion (InScope vs) (all_columns (suc s) ts) =
    rw (← append_assoc pre (length t.columns ∷ []) (widths_of ts)) (all-scope (pre ++ length t.columns ∷ []) ts (suc s) (omega (arith, e, length-append pre (length t.columns ∷ [])))) in
    each-append (InScope vs) (map (λ k. record { source = s; column = k }) (range_with_len 0 (length t.columns))) (all_columns (suc s) ts)
    (each-map (InScope vs) (λ k. record { source = s; column = k }) (range_with_len 0 (length t.columns))
    (each-weaken (λ k. k < length t.columns) (λ k. InScope vs (record { source = s; column = k })) (here_in pre (length t.columns) (widths_of ts) s e)
    (range_with_len 0 (length t.columns)) (range_in 0 (length t.columns) (length t.columns) (omega arith))))
    rest

listed-scope : (ts : List Table) (es : syntax.Entries) → AllByRecursion (Names ts) (flat_map named_by (entry_list es)) → AllByRecursion (InScope (widths_of ts)) (listed_columns ts es)
listed-scope ts syntax.All h = all-scope [] ts 0 refl
listed-scope ts (syntax.Each es) h = columns-named ts (flat_map named_by es) h

shape-scope : (ts : List Table) (q : syntax.Query) → AllByRecursion (Names ts) (flat_map named_by (entry_list q.entries)) → AllByRecursion (Names ts) q.group → ShapeInScope (widths_of ts) (shape_of ts q)
shape-scope ts q h g =
    by_test (is_grouped q)
    (λ e. rw e (columns-named ts q.group g, items-scope ts (map (column_of ts) q.group) (entry_list q.entries) h))
    (λ e. rw e (listed-scope ts q.entries h))

pub accepted-scoped : (q : syntax.Query) (catalog : List Stream) → first_fault q catalog ≡ None → Scoped (widths q catalog) (resolved q catalog)
accepted-scoped q catalog h =
    let ts : List Table = tables catalog q.sources in
    let partitions : List (List SourceColumn) = partition_matches q catalog in
    let rs : List syntax.Reference = flat_map named_by (entry_list q.entries) in
    let ss : List syntax.Reference = references_of_where q.condition in
    let all_found : AllByRecursion (λ cs. is_missing cs ≡ false) (all_matches q catalog) =
    not_any is_missing (all_matches q catalog) (none_met (fault_tests q catalog) h).1.0 in
    let found : AllByRecursion (Names ts) (rs ++ (ss ++ q.group)) =
    each-weaken (λ r. is_missing (matches 0 ts r) ≡ false) (Names ts) (named ts) (rs ++ (ss ++ q.group))
    (each-unmap (λ cs. is_missing cs ≡ false) (matches 0 ts) (rs ++ (ss ++ q.group))
    (each-right (λ cs. is_missing cs ≡ false) partitions (map (matches 0 ts) (rs ++ (ss ++ q.group))) all_found)) in
    let after : AllByRecursion (Names ts) (ss ++ q.group) = each-right (Names ts) rs (ss ++ q.group) found in
    record {
      sources = length-map q.sources _ ∙ sym (length-map q.sources (table_of catalog)) ∙ sym (length-map ts _);
      condition = condition-scope ts q.condition (each-left (Names ts) ss q.group after);
      shape = shape-scope ts q (each-left (Names ts) rs (ss ++ q.group) found) (each-right (Names ts) ss q.group after);
    }

-- THE PLAN OF A TEXT: on all bags of its windows it has the value that the text means
pub text-plan : (q : syntax.Query) (catalog : List Stream) (ws : List (List Row)) → 0 < length q.sources → first_fault q catalog ≡ None → Tables (widths q catalog) ws
    → plan_value (plan_of (widths q catalog) (resolved q catalog)) ws ≡ body (resolved q catalog) ws
text-plan q catalog ws some accepted t =
    let long : length (widths q catalog) ≡ length q.sources = length-map (tables catalog q.sources) _ ∙ length-map q.sources (table_of catalog) in
    plan-body (widths q catalog) (resolved q catalog) ws (omega (arith, some, long)) (accepted-scoped q catalog accepted) t
