-- The groups of the definition, key by key, from the rows of each.
use Rattle.std.proofs.Common.{◌≡◌, ℕ, ℤ, zero, suc, ◌+◌, ◌<◌, ◌≤◌, Bool, true, false, cond, nat_lt, ◌||◌, Option, List, [], ◌∷◌, ◌++◌, map, filter, refl, sym, ap, ap₂, ◌∙◌, arith, lt-ltb}
use Rattle.std.specs.List.{list_any, flat_map}
use Rattle.values.specs.Row.{Row, row_cmp, same_row}
use Rattle.values.specs.Bag.{is_same, distinct}
use Rattle.values.specs.Perm.{Perm}
use Rattle.values.specs.Condition.{field}
use Rattle.values.specs.Relation.{ListItem as PlainItem, item_value, key_of, keys_of as keys_in}
use Rattle.values.specs.Resolved.{column_of, columns_of, items_of}
use Rattle.values.specs.declared.resolved.SourceColumn.{SourceColumn}
use Rattle.values.proofs.Worlds.{same-item_value}
use Rattle.values.proofs.Perms.{perm-map, capped}
use Rattle.op_queue.specs.Signed.{weigh, Same}
use Rattle.group.specs.Groups.{GroupBy, grouped, key_in}
use Rattle.group.specs.Laws.{count, members, keys_at, row_at, is_key, row_of}
use Rattle.group.proofs.BagLemmas.{perm-of_counts, distinct_once, any_count, count_any, count-distinct, row_itself}

-- KEYS
pub key-alone : (by : List SourceColumn) (r : Row) → key_of (columns_of by) (r ∷ []) ≡ key_in by r
key-alone [] r = refl
key-alone (c ∷ by) r = ap (λ (k : Row). field (r ∷ []) (column_of c) ∷ k) (key-alone by r)

members-alone : (g : GroupBy) (k : Row) (b : List Row) → filter (λ rows. same_row k (key_of (columns_of g.by) rows)) (map (λ r. r ∷ []) b) ≡ map (λ r. r ∷ []) (members g k b)
members-alone g k [] = refl
members-alone g k (r ∷ b) =
    ap (λ (j : Row). cond (same_row k j) ((r ∷ []) ∷ filter (λ rows. same_row k (key_of (columns_of g.by) rows)) (map (λ r. r ∷ []) b)) (filter (λ rows. same_row k (key_of (columns_of g.by) rows)) (map (λ r. r ∷ []) b))) (key-alone g.by r)
    ∙ here (same_row k (key_in g.by r)) (members-alone g k b)
  where
    here : (t : Bool) → filter (λ rows. same_row k (key_of (columns_of g.by) rows)) (map (λ r. r ∷ []) b) ≡ map (λ r. r ∷ []) (members g k b)
        → cond t ((r ∷ []) ∷ filter (λ rows. same_row k (key_of (columns_of g.by) rows)) (map (λ r. r ∷ []) b)) (filter (λ rows. same_row k (key_of (columns_of g.by) rows)) (map (λ r. r ∷ []) b)) ≡ map (λ r. r ∷ []) (cond t (r ∷ members g k b) (members g k b))
    here true i = ap (λ (rs : List (List Row)). (r ∷ []) ∷ rs) i
    here false i = i

count-keys : (g : GroupBy) (k : Row) (b : List Row) → count k (map (key_of (columns_of g.by)) (map (λ r. r ∷ []) b)) ≡ weigh (λ x. 1) (members g k b)
unfolding weigh
count-keys g k [] = refl
count-keys g k (r ∷ b) =
    ap (λ (j : Row). cond (is_same row_cmp k j) 1 0 + count k (map (key_of (columns_of g.by)) (map (λ r. r ∷ []) b))) (key-alone g.by r)
    ∙ here (is_same row_cmp k (key_in g.by r)) (count-keys g k b)
  where
    here : (t : Bool) → count k (map (key_of (columns_of g.by)) (map (λ r. r ∷ []) b)) ≡ weigh (λ x. 1) (members g k b) → cond t 1 0 + count k (map (key_of (columns_of g.by)) (map (λ r. r ∷ []) b)) ≡ weigh (λ x. 1) (cond t (r ∷ members g k b) (members g k b))
    here true i = omega (arith, i)
    here false i = omega (arith, i)

-- whether there is the group of a key, from its rows
abbrev pub has_group : List SourceColumn → Row → List Row → Bool
has_group [] k xs = is_same row_cmp k []
has_group (c ∷ by) k xs = nat_lt 0 (weigh (λ x. 1) xs)

or_false : (b : Bool) → (b || false) ≡ b
or_false true = refl
or_false false = refl

any_there : (k : Row) (xs : List Row) → list_any (is_same row_cmp k) (distinct row_cmp xs) ≡ nat_lt 0 (count k xs)
any_there k xs = here (list_any (is_same row_cmp k) (distinct row_cmp xs)) refl (count k xs) refl
  where
    here : (t : Bool) → list_any (is_same row_cmp k) (distinct row_cmp xs) ≡ t → (n : ℕ) → count k xs ≡ n → t ≡ nat_lt 0 n
    here true e zero f = absurd (omega (arith, count_any k (distinct row_cmp xs) e, count-distinct k xs, ap capped f))
    here true e (suc n) f = sym (lt-ltb 0 (suc n) (omega arith))
    here false e zero f = refl
    here false e (suc n) f = absurd (omega (arith, any_count k (distinct row_cmp xs) e, count-distinct k xs, ap capped f))

is_key-members : (g : GroupBy) (k : Row) (b : List Row) → is_key g b k ≡ has_group g.by k (members g k b)
is_key-members g k b = here g.by refl
  where
    here : (by : List SourceColumn) → g.by ≡ by → list_any (is_same row_cmp k) (keys_in (columns_of by) (map (λ r. r ∷ []) b)) ≡ has_group by k (members g k b)
    here [] e = or_false (is_same row_cmp k [])
    here (c ∷ by) e =
        any_there k (map (key_of (columns_of (c ∷ by))) (map (λ r. r ∷ []) b))
        ∙ ap (nat_lt 0) (ap (λ (cs : List SourceColumn). count k (map (key_of (columns_of cs)) (map (λ r. r ∷ []) b))) (sym e) ∙ count-keys g k b)

-- ROWS
-- the row of a group with the rows xs
abbrev pub group_of : GroupBy → Row → List Row → Row
group_of g k xs = map (item_value k (map (λ r. r ∷ []) xs)) (items_of g.items)

pub row_at-members : (g : GroupBy) (k : Row) (b : List Row) → row_at g b k ≡ group_of g k (members g k b)
row_at-members g k b = ap (λ (rs : List (List Row)). map (item_value k rs) (items_of g.items)) (members-alone g k b)

-- the row of the group k, from its rows
abbrev pub row_from : GroupBy → Row → List Row → List Row
row_from g k xs = cond (has_group g.by k xs) (group_of g k xs ∷ []) []

pub row_of-members : (g : GroupBy) (k : Row) (b : List Row) → row_of g b k ≡ row_from g k (members g k b)
row_of-members g k b = ap₂ (λ (t : Bool) (r : Row). cond t (r ∷ []) []) (is_key-members g k b) (row_at-members g k b)

same_values : (k : Row) (xs ys : List (List Row)) → Perm xs ys → (is : List PlainItem) → map (item_value k xs) is ≡ map (item_value k ys) is
same_values k xs ys p [] = refl
same_values k xs ys p (i ∷ is) = ap₂ (λ (v : Option ℤ) (vs : Row). v ∷ vs) (same-item_value k xs ys p i) (same_values k xs ys p is)

has_same : (by : List SourceColumn) (k : Row) (xs ys : List Row) → Same xs ys → has_group by k xs ≡ has_group by k ys
has_same [] k xs ys s = refl
has_same (c ∷ by) k xs ys s = ap (nat_lt 0) (s.weighs (λ x. 1))

row_from-same : (g : GroupBy) (k : Row) (xs ys : List Row) → Same xs ys → row_from g k xs ≡ row_from g k ys
row_from-same g k xs ys s =
    let p : Perm xs ys = perm-of_counts xs ys (λ q. s.weighs (λ y. cond (is_same row_cmp q y) 1 0)) in
    ap₂ (λ (t : Bool) (r : Row). cond t (r ∷ []) []) (has_same g.by k xs ys s) (same_values k (map (λ r. r ∷ []) xs) (map (λ r. r ∷ []) ys) (perm-map (λ r. r ∷ []) xs ys p) (items_of g.items))

-- a group with the same rows shows the same
pub row_of-same : (g : GroupBy) (k : Row) (b d : List Row) → Same (members g k b) (members g k d) → row_of g b k ≡ row_of g d k
row_of-same g k b d s = row_of-members g k b ∙ row_from-same g k (members g k b) (members g k d) s ∙ sym (row_of-members g k d)

-- THE RELATION
-- each key once
pub keys_once : (g : GroupBy) (b : List Row) (k : Row) → count k (keys_at g b) ≤ 1
unfolding weigh
keys_once g b k = here g.by
  where
    one : (t : Bool) → cond t 1 0 + 0 ≤ 1
    one true = omega arith
    one false = omega arith

    here : (by : List SourceColumn) → count k (keys_in (columns_of by) (map (λ r. r ∷ []) b)) ≤ 1
    here [] = one (is_same row_cmp k [])
    here (c ∷ by) = distinct_once k (map (key_of (columns_of (c ∷ by))) (map (λ r. r ∷ []) b))

-- another key has no row
pub not_key : (g : GroupBy) (b : List Row) (k : Row) → count k (keys_at g b) ≡ 0 → row_of g b k ≡ []
not_key g b k z = here (is_key g b k) refl
  where
    here : (t : Bool) → is_key g b k ≡ t → cond t (row_at g b k ∷ []) [] ≡ []
    here true e = absurd (omega (arith, z, count_any k (keys_at g b) e))
    here false e = refl

listed : (g : GroupBy) (b ks : List Row) → ((k : Row) → 0 < count k ks → is_key g b k ≡ true) → flat_map (row_of g b) ks ≡ map (row_at g b) ks
unfolding weigh
listed g b [] h = refl
listed g b (k ∷ ks) h =
    ap₂ (λ (t : Bool) (rs : List Row). cond t (row_at g b k ∷ []) [] ++ rs) (h k (omega (arith, ap {B = ℕ} (λ (t : Bool). cond t 1 0) (row_itself k)))) (listed g b ks (λ j l. h j (omega (arith, l))))

is_there : (k : Row) (ks : List Row) → 0 < count k ks → list_any (is_same row_cmp k) ks ≡ true
is_there k ks l = here (list_any (is_same row_cmp k) ks) refl
  where
    here : (t : Bool) → list_any (is_same row_cmp k) ks ≡ t → t ≡ true
    here true e = refl
    here false e = absurd (omega (arith, l, any_count k ks e))

-- the relation is the rows of its keys
pub grouped_rows : (g : GroupBy) (b : List Row) → flat_map (row_of g b) (keys_at g b) ≡ grouped g b
grouped_rows g b = listed g b (keys_at g b) (λ k l. is_there k (keys_at g b) l)
