-- The value of a query's plan is the query's relation.
use Rattle.std.proofs.Common.{◌≡◌, ℕ, suc, ◌-◌, ◌<◌, Bool, ◌&&◌, Option, List, [], ◌∷◌, ◌++◌, map, filter, length, refl, sym, ap, ◌∙◌, arith, append-nil}
use Rattle.std.specs.List.{list_all, range_with_len}
use Rattle.std.proofs.lemmas.List.{length-map}
use Rattle.std.proofs.lemmas.List.FromFn.{length-map-range_with_len}
use Rattle.values.specs.Row.{Row}
use Rattle.values.specs.Condition.{SourceColumn, Condition, field, keeps}
use Rattle.values.specs.Relation.{Shape, Listed, Grouped, ListItem, Key, CountAll, Of, combinations, shaped}
use Rattle.values.specs.Answers.{Resolved, body}
use Rattle.names.specs.Split.{JoinKey, all_conjuncts, columns_of, own, keys, remains, remaining, own_of, join_keys, join_keys_of}
use Rattle.plan.specs.Values.{holds_all, selected, shaped_rows, plan_value}
use Rattle.plan.specs.Build.{alone, placed, moved, tops, plan_of}
use Rattle.std.specs.List.{AllByRecursion}
use Rattle.plan.specs.Scope.{InScope, ItemInScope, ShapeInScope, ConditionInScope, Scoped, Tables}
use Rattle.plan.proofs.Lists.{each-filter, filter_same, filter-both, map-filter}
use Rattle.plan.proofs.Joins.{flat, flat-field, KeysInScope, meets_all, all_placed, joins_whole}
use Rattle.plan.proofs.Moved.{agree_all, holds_all-moved, shape_moved, ItemIn, ShapeIn, shaped-moved}
use Rattle.plan.proofs.Splits.{keeps-split}
use Rattle.plan.proofs.Owns.{AllInScope, all_scope, passes, owns-pass, chosen, combinations-chosen, chosen-from, chosen-tables, Fit, combinations-fit}
use Rattle.plan.proofs.Keys.{all_keys-scope, all_keys-meet}
use Rattle.plan.proofs.Ends.{join_tables, once, nodes-value}

tables-length : (vs : List ℕ) (ws : List (List Row)) → Tables vs ws → length vs ≡ length ws
tables-length [] [] h = refl
tables-length [] (w ∷ ws) h = absurd h
tables-length (v ∷ vs) [] h = absurd h
tables-length (v ∷ vs) (w ∷ ws) h = ap suc (tables-length vs ws h.1)

pub tops-length : (n : ℕ) (each : List (List Condition)) → length (tops n each) ≡ length each
tops-length n [] = refl
tops-length n ([] ∷ each) = ap suc (tops-length (suc n) each)
tops-length n ((c ∷ cs) ∷ each) = ap suc (tops-length (suc (suc n)) each)

-- the joins of the tables are the combinations that meet the keys, end to end
tables-joined : (vs : List ℕ) (ws : List (List Row)) (each : List (List JoinKey)) → 0 < length vs → Tables vs ws → KeysInScope vs 1 each → length each ≡ length ws - 1
    → join_tables ws (all_placed vs each) ≡ map flat (filter (meets_all 1 each) (combinations ws))
tables-joined [] ws each l t h e = absurd (omega (arith, l))
tables-joined (v ∷ vs) [] each l t h e = absurd t
tables-joined (v ∷ vs) (w ∷ ws) each l t h e = joins_whole vs v w ws each t.0 t.1 h (omega (arith, e))

-- a combination as a row
abbrev as_row : List Row → List Row
as_row rows = flat rows ∷ []

module _ (vs : List ℕ) where
  agree : (rows : List Row) (k : SourceColumn) → Fit vs rows → InScope vs k → field rows k ≡ field (as_row rows) (placed vs k)
  agree rows k fit h =
      let e : map length rows ++ [] ≡ vs = append-nil (map length rows) ∙ fit in
      let many : length rows ≡ length vs = sym (length-map rows length) ∙ ap length fit in
      sym (rw (← e) (flat-field rows [] k.source k.column (omega (arith, h.source, many)) (rw e h.column)))

  items_in : (is : List ListItem) → AllByRecursion (ItemInScope vs) is → AllByRecursion (ItemIn (placed vs) as_row (Fit vs) (InScope vs) agree) is
  items_in [] h = tt
  items_in (Key k ∷ is) h = (tt, items_in is h.1)
  items_in (CountAll ∷ is) h = (tt, items_in is h.1)
  items_in (Of a c ∷ is) h = (h.0, items_in is h.1)

  shape_in : (shape : Shape) → ShapeInScope vs shape → ShapeIn (placed vs) as_row (Fit vs) (InScope vs) agree shape
  shape_in (Listed columns) h = h
  shape_in (Grouped by items) h = (h.0, items_in items h.1)

  rows_twice : (kept : List (List Row)) → map (λ r. r ∷ []) (map flat kept) ≡ map as_row kept
  rows_twice [] = refl
  rows_twice (rows ∷ kept) = ap (λ v. as_row rows ∷ v) (rows_twice kept)

  shaped-flat : (shape : Shape) → ShapeInScope vs shape → (kept : List (List Row)) → AllByRecursion (Fit vs) kept
      → shaped_rows (shape_moved (placed vs) shape) (map flat kept) ≡ shaped shape kept
  shaped-flat shape h kept k =
      ap (shaped (shape_moved (placed vs) shape)) (rows_twice kept)
      ∙ sym (shaped-moved (placed vs) as_row (Fit vs) (InScope vs) agree shape (shape_in shape h) kept k)

  selected-flat : (cs : List Condition) → AllInScope vs cs → (kept : List (List Row)) → AllByRecursion (Fit vs) kept
      → selected (map (moved (placed vs)) cs) (map flat kept) ≡ map flat (filter (holds_all cs) kept)
  selected-flat cs h kept k =
      sym (map-filter (Fit vs) flat (holds_all cs) (λ r. holds_all (map (moved (placed vs)) cs) (r ∷ []))
      (λ rows fit. holds_all-moved (placed vs) rows (as_row rows) cs (agree_all (placed vs) as_row (Fit vs) (InScope vs) agree rows fit cs h))
      kept k)

  -- the combinations that the condition keeps
  kept-split : (o : Option Condition) → ConditionInScope vs o → (n : ℕ) → n ≡ length vs → (ws : List (List Row)) → Tables vs ws
      → filter (keeps o) (combinations ws)
      ≡ filter (holds_all (remaining n (all_conjuncts o)))
      (filter (meets_all 1 (join_keys_of n (all_conjuncts o))) (combinations (chosen (map (map (moved alone)) (own_of n (all_conjuncts o))) ws)))
  kept-split o scope n e ws t =
      let cs : List Condition = all_conjuncts o in
      let each : List (List Condition) = map (map (moved alone)) (own_of n cs) in
      let passed : List Row → Bool = passes each in
      let met : List Row → Bool = meets_all 1 (join_keys_of n cs) in
      let left : List Row → Bool = holds_all (remaining n cs) in
      let h : AllInScope vs cs = all_scope vs o scope in
      let as_tests : (rows : List Row) → Fit vs rows → keeps o rows ≡ ((passed rows && met rows) && left rows) =
      λ rows fit.
      let many : length rows ≡ n = sym (length-map rows length) ∙ ap length fit ∙ sym e in
      keeps-split o n rows
      ∙ ap (λ b. (b && list_all (λ s. holds_all (keys cs s) rows) (range_with_len 1 (n - 1))) && left rows)
      (owns-pass vs n e cs h 0 n [] rows refl many (omega arith))
      ∙ ap (λ b. (passed rows && b) && left rows) (all_keys-meet vs cs h rows 1 (n - 1)) in
      let long : length each ≡ length ws = length-map (own_of n cs) (map (moved alone)) ∙ length-map-range_with_len (own n cs) 0 n ∙ e ∙ tables-length vs ws t in
      filter_same (Fit vs) (keeps o) (λ rows. (passed rows && met rows) && left rows) as_tests (combinations ws) (combinations-fit vs ws t)
      ∙ filter-both (λ rows. passed rows && met rows) left (combinations ws)
      ∙ ap (filter left) (filter-both passed met (combinations ws) ∙ ap (filter met) (combinations-chosen each ws long))

-- THE VALUE OF A PLAN IS THE RELATION OF ITS QUERY
pub plan-body : (vs : List ℕ) (q : Resolved) (ws : List (List Row)) → 0 < length vs → Scoped vs q → Tables vs ws → plan_value (plan_of vs q) ws ≡ body q ws
plan-body vs q ws some scope t =
    let n : ℕ = length q.windows in
    let cs : List Condition = all_conjuncts q.condition in
    let each : List (List Condition) = map (map (moved alone)) (own_of n cs) in
    let jks : List (List JoinKey) = join_keys_of n cs in
    let rest : List Condition = remaining n cs in
    let h : AllInScope vs cs = all_scope vs q.condition scope.condition in
    let own_long : length each ≡ n = length-map (own_of n cs) (map (moved alone)) ∙ length-map-range_with_len (own n cs) 0 n in
    let long : length each ≡ length ws = own_long ∙ scope.sources ∙ tables-length vs ws t in
    let ts : Tables vs (chosen each ws) = chosen-tables vs each ws t long in
    let key_long : length jks ≡ length (chosen each ws) - 1 =
    length-map-range_with_len (join_keys cs) 1 (n - 1) ∙ omega (arith, scope.sources, tables-length vs (chosen each ws) ts) in
    let met : List (List Row) = filter (meets_all 1 jks) (combinations (chosen each ws)) in
    let fit : AllByRecursion (Fit vs) met = each-filter (Fit vs) (meets_all 1 jks) (combinations (chosen each ws)) (combinations-fit vs (chosen each ws) ts) in
    let kept : filter (keeps q.condition) (combinations ws) ≡ filter (holds_all rest) met = kept-split vs q.condition scope.condition n scope.sources ws t in
    nodes-value ws each (all_placed vs jks) (map (moved (placed vs)) rest) q.is_distinct (placed vs) q.shape q.operator
    (omega (arith, some, tops-length 0 each, own_long, scope.sources))
    ∙ ap (once q.is_distinct)
    (ap (λ v. shaped_rows (shape_moved (placed vs) q.shape) (selected (map (moved (placed vs)) rest) v))
    (ap (λ v. join_tables v (all_placed vs jks)) (chosen-from each [] ws 0 refl long)
    ∙ tables-joined vs (chosen each ws) jks some ts (all_keys-scope vs cs h 1 (n - 1)) key_long)
    ∙ ap (shaped_rows (shape_moved (placed vs) q.shape)) (selected-flat vs rest (each-filter (λ c. AllByRecursion (InScope vs) (columns_of c)) (remains n) cs h) met fit)
    ∙ shaped-flat vs q.shape scope.shape (filter (holds_all rest) met) (each-filter (Fit vs) (holds_all rest) met fit)
    ∙ ap (shaped q.shape) (sym kept))
