-- Conditions and lists whose columns are moved, over combinations that are moved with them.
use Rattle.std.proofs.Common.{◌≡◌, suc, Bool, ◌&&◌, Some, List, [], ◌∷◌, map, filter, length, refl, ap, ◌∙◌, pos}
use Rattle.std.specs.List.{cons_option}
use Rattle.values.specs.Row.{Row, row_cmp, same_row}
use Rattle.values.specs.Bag.{distinct}
use Rattle.values.specs.Condition.{SourceColumn, Operand, Field, Number, Condition, Compared, Not, And, Or, field, operand, compared, not3, and3, or3, truth, is_known_true}
use Rattle.values.specs.Relation.{ListItem, Key, CountAll, Of, Shape, Listed, Grouped, numbers, aggregated, item_value, key_of, keys_of, group_row, shaped}
use Rattle.names.specs.Split.{columns_of, columns_of_operand}
use Rattle.plan.specs.Values.{holds_all}
use Rattle.plan.specs.Build.{operand_moved, moved, item_moved}
use Rattle.std.specs.List.{AllByRecursion}
use Rattle.plan.proofs.Lists.{each-left, each-right, map-filter}

module _ (f : SourceColumn → SourceColumn) (rows moved_rows : List Row) where
  abbrev pub Agrees : SourceColumn → Type 0
  Agrees k = field rows k ≡ field moved_rows (f k)

  operand-moved : (a : Operand) → AllByRecursion Agrees (columns_of_operand a) → operand rows a ≡ operand moved_rows (operand_moved f a)
  operand-moved (Field c) h = h.0
  operand-moved (Number z) h = refl

  pub truth-moved : (c : Condition) → AllByRecursion Agrees (columns_of c) → truth c rows ≡ truth (moved f c) moved_rows
  truth-moved (Compared a how b) h =
      ap (λ v. compared how v (operand rows b)) (operand-moved a (each-left Agrees (columns_of_operand a) (columns_of_operand b) h))
      ∙ ap (λ v. compared how (operand moved_rows (operand_moved f a)) v) (operand-moved b (each-right Agrees (columns_of_operand a) (columns_of_operand b) h))
  truth-moved (Not c) h = ap not3 (truth-moved c h)
  truth-moved (And c d) h =
      ap (λ v. and3 v (truth d rows)) (truth-moved c (each-left Agrees (columns_of c) (columns_of d) h))
      ∙ ap (λ v. and3 (truth (moved f c) moved_rows) v) (truth-moved d (each-right Agrees (columns_of c) (columns_of d) h))
  truth-moved (Or c d) h =
      ap (λ v. or3 v (truth d rows)) (truth-moved c (each-left Agrees (columns_of c) (columns_of d) h))
      ∙ ap (λ v. or3 (truth (moved f c) moved_rows) v) (truth-moved d (each-right Agrees (columns_of c) (columns_of d) h))

  pub holds_all-moved : (cs : List Condition) → AllByRecursion (λ c. AllByRecursion Agrees (columns_of c)) cs → holds_all cs rows ≡ holds_all (map (moved f) cs) moved_rows
  holds_all-moved [] h = refl
  holds_all-moved (c ∷ cs) h =
      ap (λ v. is_known_true v && holds_all cs rows) (truth-moved c h.0)
      ∙ ap (λ v. is_known_true (truth (moved f c) moved_rows) && v) (holds_all-moved cs h.1)

  pub key_of-moved : (by : List SourceColumn) → AllByRecursion Agrees by → key_of by rows ≡ key_of (map f by) moved_rows
  key_of-moved [] h = refl
  key_of-moved (c ∷ by) h = ap (λ v. v ∷ key_of by rows) h.0 ∙ ap (λ v. field moved_rows (f c) ∷ v) (key_of-moved by h.1)

abbrev pub shape_moved : (SourceColumn → SourceColumn) → Shape → Shape
shape_moved f (Listed columns) = Listed (map f columns)
shape_moved f (Grouped by items) = Grouped (map f by) (map (item_moved f) items)

-- g moves combinations of which P holds, and f the columns of which S holds
module _ (f : SourceColumn → SourceColumn) (g : List Row → List Row) (P : List Row → Type 0) (S : SourceColumn → Type 0)
    (agree : (rows : List Row) (k : SourceColumn) → P rows → S k → field rows k ≡ field (g rows) (f k)) where
  agree_each : (rows : List Row) → P rows → (ks : List SourceColumn) → AllByRecursion S ks → AllByRecursion (Agrees f rows (g rows)) ks
  agree_each rows p [] h = tt
  agree_each rows p (k ∷ ks) h = (agree rows k p h.0, agree_each rows p ks h.1)

  pub agree_all : (rows : List Row) → P rows → (cs : List Condition) → AllByRecursion (λ c. AllByRecursion S (columns_of c)) cs → AllByRecursion (λ c. AllByRecursion (Agrees f rows (g rows)) (columns_of c)) cs
  agree_all rows p [] h = tt
  agree_all rows p (c ∷ cs) h = (agree_each rows p (columns_of c) h.0, agree_all rows p cs h.1)

  pub key-moved : (rows : List Row) → P rows → (by : List SourceColumn) → AllByRecursion S by → key_of by rows ≡ key_of (map f by) (g rows)
  key-moved rows p by h = key_of-moved f rows (g rows) by (agree_each rows p by h)

  keys-moved : (by : List SourceColumn) → AllByRecursion S by → (kept : List (List Row)) → AllByRecursion P kept → map (key_of by) kept ≡ map (key_of (map f by)) (map g kept)
  keys-moved by h [] k = refl
  keys-moved by h (rows ∷ kept) k =
      ap (λ v. v ∷ map (key_of by) kept) (key-moved rows k.0 by h) ∙ ap (λ v. key_of (map f by) (g rows) ∷ v) (keys-moved by h kept k.1)

  numbers-moved : (c : SourceColumn) → S c → (group : List (List Row)) → AllByRecursion P group → numbers c group ≡ numbers (f c) (map g group)
  numbers-moved c s [] k = refl
  numbers-moved c s (rows ∷ group) k =
      ap (λ v. cons_option v (numbers c group)) (agree rows c k.0 s)
      ∙ ap (λ v. cons_option (field (g rows) (f c)) v) (numbers-moved c s group k.1)

  length-moved : (group : List (List Row)) → length group ≡ length (map g group)
  length-moved [] = refl
  length-moved (rows ∷ group) = ap suc (length-moved group)

  abbrev pub ItemIn : ListItem → Type 0
  ItemIn (Key k) = Unit {0}
  ItemIn CountAll = Unit {0}
  ItemIn (Of a c) = S c

  item-moved : (key : Row) (group : List (List Row)) → AllByRecursion P group → (i : ListItem) → ItemIn i → item_value key group i ≡ item_value key (map g group) (item_moved f i)
  item-moved key group k (Key n) s = refl
  item-moved key group k CountAll s = ap (λ n. Some (pos n)) (length-moved group)
  item-moved key group k (Of a c) s = ap (aggregated a) (numbers-moved c s group k)

  items-moved : (key : Row) (group : List (List Row)) → AllByRecursion P group → (items : List ListItem) → AllByRecursion ItemIn items
      → map (item_value key group) items ≡ map (item_value key (map g group)) (map (item_moved f) items)
  items-moved key group k [] h = refl
  items-moved key group k (i ∷ items) h =
      ap (λ v. v ∷ map (item_value key group) items) (item-moved key group k i h.0)
      ∙ ap (λ v. item_value key (map g group) (item_moved f i) ∷ v) (items-moved key group k items h.1)

  group_row-moved : (by : List SourceColumn) (items : List ListItem) (kept : List (List Row)) → AllByRecursion S by → AllByRecursion ItemIn items → AllByRecursion P kept → (key : Row)
      → group_row by items kept key ≡ group_row (map f by) (map (item_moved f) items) (map g kept) key
  group_row-moved by items kept h i k key =
      let t : List Row → Bool = λ rows. same_row key (key_of by rows) in
      let u : List Row → Bool = λ rows. same_row key (key_of (map f by) rows) in
      items-moved key (filter t kept) (Rattle.plan.proofs.Lists.each-filter P t kept k) items i
      ∙ ap (λ v. map (item_value key v) (map (item_moved f) items))
      (map-filter P g t u (λ rows p. ap (same_row key) (key-moved rows p by h)) kept k)

  keys_of-moved : (by : List SourceColumn) → AllByRecursion S by → (kept : List (List Row)) → AllByRecursion P kept → keys_of by kept ≡ keys_of (map f by) (map g kept)
  keys_of-moved [] h kept k = refl
  keys_of-moved (c ∷ by) h kept k = ap (distinct row_cmp) (keys-moved (c ∷ by) h kept k)

  group_rows-moved : (by : List SourceColumn) (items : List ListItem) (kept : List (List Row)) → AllByRecursion S by → AllByRecursion ItemIn items → AllByRecursion P kept → (keys : List Row)
      → map (group_row by items kept) keys ≡ map (group_row (map f by) (map (item_moved f) items) (map g kept)) keys
  group_rows-moved by items kept h i k [] = refl
  group_rows-moved by items kept h i k (key ∷ keys) =
      ap (λ v. v ∷ map (group_row by items kept) keys) (group_row-moved by items kept h i k key)
      ∙ ap (λ v. group_row (map f by) (map (item_moved f) items) (map g kept) key ∷ v) (group_rows-moved by items kept h i k keys)

  abbrev pub ShapeIn : Shape → Type 0
  ShapeIn (Listed columns) = AllByRecursion S columns
  ShapeIn (Grouped by items) = AllByRecursion S by × AllByRecursion ItemIn items

  pub shaped-moved : (shape : Shape) → ShapeIn shape → (kept : List (List Row)) → AllByRecursion P kept → shaped shape kept ≡ shaped (shape_moved f shape) (map g kept)
  shaped-moved (Listed columns) h kept k = keys-moved columns h kept k
  shaped-moved (Grouped by items) h kept k =
      group_rows-moved by items kept h.0 h.1 k (keys_of by kept)
      ∙ ap (λ v. map (group_row (map f by) (map (item_moved f) items) (map g kept)) v) (keys_of-moved by h.0 kept k)
