-- What is kept of a group after a change at a key.
use Rattle.std.proofs.Common.{◌≡◌, ◌↔◌, ℕ, Bool, true, false, cond, Option, Some, None, unwrap_or, List, [], ◌∷◌, length, refl, sym, ap, subst, ◌∙◌}
use Rattle.std.specs.declared.cmp.Ordering.{Ordering}
use Rattle.std.specs.declared.cmp.Ordering.TheVariants.{Less, Equal, Greater}
use Rattle.std.specs.Ordering.{is_eq, is_ne, match_ordering, ordering_then}
use Rattle.std.specs.Option.{is_some}
use Rattle.std.specs.Map.{lookup, set_value, remove_entry, keys_of}
use Rattle.std.specs.BTreeMap.{is_at, insert_entry}
use Rattle.std.specs.Cmp.{eq_by_cmp_equiv}
use Rattle.std.specs.List.Sorted.{IsStrictlySortedBy}
use Rattle.std.proofs.lemmas.Map.{lookup-set_value, lookup-remove_entry}
use Rattle.std.proofs.lemmas.Map.Keys.{IsDistinct-from_sorted}
use Rattle.std.proofs.lemmas.Cmp.{on_total, tied_itself}
use Rattle.values.specs.Orders.{IsExactOrder}
use Rattle.values.specs.Row.{Row, row_cmp, same_row, value_at, value_cmp}
use Rattle.values.proofs.Order.{row_order}
use Rattle.values.specs.declared.resolved.ListItem.{ListItem}
use Rattle.group.specs.Cells.{Held, held, held_cmp, CellState, cell_zero, cell_after, showing}
use Rattle.group.specs.Turns.{has_key, cell_of, with_cell, taken_in, shown_in}

pub held_order : IsExactOrder held_cmp
held_order = record {
  total = on_total (λ (r : Held). r.items) row_order.total;
  exact = λ a b h. ap held (row_order.exact a.items b.items h);
}

-- rows whose first values differ compare as these do; null stands where there is none
pub first_decides : (a b : Row) (o : Ordering) → o ≡ value_cmp (value_at a 0) (value_at b 0) → is_ne o ≡ true → o ≡ row_cmp a b
first_decides [] [] o e t = let f : is_ne Equal ≡ true = subst (λ (p : Ordering). is_ne p ≡ true) e t in cc
first_decides [] (None ∷ ys) o e t = let f : is_ne Equal ≡ true = subst (λ (p : Ordering). is_ne p ≡ true) e t in cc
first_decides [] (Some y ∷ ys) o e t = e
first_decides (None ∷ xs) [] o e t = let f : is_ne Equal ≡ true = subst (λ (p : Ordering). is_ne p ≡ true) e t in cc
first_decides (Some x ∷ xs) [] o e t = e
first_decides (x ∷ xs) (y ∷ ys) Less e t = ap (λ (p : Ordering). ordering_then p (row_cmp xs ys)) e
first_decides (x ∷ xs) (y ∷ ys) Equal e t = cc
first_decides (x ∷ xs) (y ∷ ys) Greater e t = ap (λ (p : Ordering). ordering_then p (row_cmp xs ys)) e

-- MAPS OVER AN EXACT ORDER
module _ {K : Type 0} (cmp : K → K → Ordering) (order : IsExactOrder cmp) where
  eq_equal : (o : Ordering) → is_eq o ≡ true → o ≡ Equal
  eq_equal Less h = cc
  eq_equal Equal h = refl
  eq_equal Greater h = cc

  pub same_key : (x y : K) → is_eq (cmp x y) ≡ true → x ≡ y
  same_key x y h = order.exact x y (eq_equal (cmp x y) h)

  pub same_test : (k : K) (x y : K) → is_eq (cmp k x) ≡ true → is_eq (cmp k y) ≡ is_eq (cmp x y)
  same_test k x y h = ap (λ r. is_eq (cmp r y)) (same_key k x h)

  pub key_itself : (k : K) → is_eq (cmp k k) ≡ true
  key_itself k = ap is_eq (tied_itself order.total k)

  pub same_turned : (x y : K) → is_eq (cmp x y) ≡ is_eq (cmp y x)
  same_turned x y = here (is_eq (cmp x y)) refl (is_eq (cmp y x)) refl
    where
      here : (a : Bool) → is_eq (cmp x y) ≡ a → (b : Bool) → is_eq (cmp y x) ≡ b → a ≡ b
      here true h true i = refl
      here false h false i = refl
      here true h false i = let e : is_eq (cmp x x) ≡ false = subst (λ z. is_eq (cmp z x) ≡ false) (sym (same_key x y h)) i in let f : is_eq (cmp x x) ≡ true = key_itself x in cc
      here false h true i = let e : is_eq (cmp y y) ≡ false = subst (λ z. is_eq (cmp z y) ≡ false) (sym (same_key y x i)) h in let f : is_eq (cmp y y) ≡ true = key_itself y in cc

module _ {K V : Type 0} (cmp : K → K → Ordering) (order : IsExactOrder cmp) where
  inserted_at : (k q : K) (v : V) (e : K × V) (es : List (K × V)) → lookup (is_at (cmp q)) (insert_entry cmp es k v) ≡ cond (is_eq (cmp q k)) (Some v) (lookup (is_at (cmp q)) es)
      → (o : Ordering) → cmp k e.0 ≡ o → lookup (is_at (cmp q)) (match_ordering o ((k, v) ∷ e ∷ es) ((e.0, v) ∷ es) (e ∷ insert_entry cmp es k v)) ≡ cond (is_eq (cmp q k)) (Some v) (cond (is_eq (cmp q e.0)) (Some e.1) (lookup (is_at (cmp q)) es))
  inserted_at k q v e es ih Less h = refl
  inserted_at k q v e es ih Equal h = let s : k ≡ e.0 = order.exact k e.0 h in subst (λ z. cond (is_eq (cmp q z)) (Some v) (lookup (is_at (cmp q)) es) ≡ cond (is_eq (cmp q k)) (Some v) (cond (is_eq (cmp q z)) (Some e.1) (lookup (is_at (cmp q)) es))) s (both (is_eq (cmp q k)))
    where
      both : (b : Bool) → cond b (Some v) (lookup (is_at (cmp q)) es) ≡ cond b (Some v) (cond b (Some e.1) (lookup (is_at (cmp q)) es))
      both true = refl
      both false = refl
  inserted_at k q v e es ih Greater h = ap (λ (r : Option V). cond (is_eq (cmp q e.0)) (Some e.1) r) ih ∙ swap (is_eq (cmp q e.0)) refl (is_eq (cmp q k)) refl
    where
      swap : (a : Bool) → is_eq (cmp q e.0) ≡ a → (b : Bool) → is_eq (cmp q k) ≡ b → cond a (Some e.1) (cond b (Some v) (lookup (is_at (cmp q)) es)) ≡ cond b (Some v) (cond a (Some e.1) (lookup (is_at (cmp q)) es))
      swap false i b j = refl
      swap true i false j = refl
      swap true i true j = let s : k ≡ e.0 = sym (same_key cmp order q k j) ∙ same_key cmp order q e.0 i in let t : cmp k k ≡ Greater = subst (λ z. cmp k z ≡ Greater) (sym s) h in let u : cmp k k ≡ Equal = tied_itself order.total k in cc

  pub lookup-insert_entry : (k q : K) (v : V) (es : List (K × V)) → lookup (is_at (cmp q)) (insert_entry cmp es k v) ≡ cond (is_eq (cmp q k)) (Some v) (lookup (is_at (cmp q)) es)
  lookup-insert_entry k q v [] = refl
  lookup-insert_entry k q v (e ∷ es) = inserted_at k q v e es (lookup-insert_entry k q v es) (cmp k e.0) refl

  unwrap_cond : (d : V) (b : Bool) (w : V) (r : Option V) → unwrap_or (cond b (Some w) r) d ≡ cond b w (unwrap_or r d)
  unwrap_cond d true w r = refl
  unwrap_cond d false w r = refl

  pub at-set_value : (d : V) (k q : K) (w : V) (es : List (K × V)) → is_some (lookup (is_at (cmp k)) es) ≡ true → unwrap_or (lookup (is_at (cmp q)) (set_value (is_at (cmp k)) es w)) d ≡ cond (is_eq (cmp k q)) w (unwrap_or (lookup (is_at (cmp q)) es) d)
  at-set_value d k q w es some =
      ap (λ (r : Option V). unwrap_or r d) (lookup-set_value (eq_by_cmp_equiv order.total) (is_at (cmp k)) (same_test cmp order k) q w es some) ∙ unwrap_cond d (is_eq (cmp k q)) w (lookup (is_at (cmp q)) es)

  pub at-insert_entry : (d : V) (k q : K) (w : V) (es : List (K × V)) → unwrap_or (lookup (is_at (cmp q)) (insert_entry cmp es k w)) d ≡ cond (is_eq (cmp k q)) w (unwrap_or (lookup (is_at (cmp q)) es) d)
  at-insert_entry d k q w es =
      ap (λ (r : Option V). unwrap_or r d) (lookup-insert_entry k q w es) ∙ unwrap_cond d (is_eq (cmp q k)) w (lookup (is_at (cmp q)) es) ∙ ap (λ b. cond b w (unwrap_or (lookup (is_at (cmp q)) es) d)) (same_turned cmp order q k)

  pub at-remove_entry : (d : V) (k q : K) (es : List (K × V)) → IsStrictlySortedBy cmp (keys_of es) → unwrap_or (lookup (is_at (cmp q)) (remove_entry (is_at (cmp k)) es)) d ≡ cond (is_eq (cmp k q)) d (unwrap_or (lookup (is_at (cmp q)) es) d)
  at-remove_entry d k q es sorted =
      ap (λ (r : Option V). unwrap_or r d) (lookup-remove_entry (eq_by_cmp_equiv order.total) (is_at (cmp k)) (same_test cmp order k) q es (IsDistinct-from_sorted cmp (keys_of es) sorted)) ∙ none_or (is_eq (cmp k q))
    where
      none_or : (b : Bool) → unwrap_or (cond b None (lookup (is_at (cmp q)) es)) d ≡ cond b d (unwrap_or (lookup (is_at (cmp q)) es) d)
      none_or true = refl
      none_or false = refl

-- rows are the same where they compare as equal
pub same_held : (a b : Held) → (same_row a.items b.items ≡ true) ↔ (a ≡ b)
same_held a b = (same_key held_cmp held_order a b, λ e. ap (λ (k : Held). is_eq (held_cmp a k)) (sym e) ∙ key_itself held_cmp held_order a)

none_at : {V : Type 0} (d : V) (r : Option V) → is_some r ≡ false → unwrap_or r d ≡ d
none_at d None h = refl
none_at d (Some x) h = cc

-- THE GROUPS
-- the group q after the group k was kept as c, which is as fresh where the map did not have it
pub cell-with_cell : (n : ℕ) (k q : Held) (f : CellState → CellState) (es : List (Held × CellState)) → cell_of n q (with_cell k (f (cell_of n k es)) (f (cell_zero n)) es) ≡ cond (is_eq (held_cmp k q)) (f (cell_of n k es)) (cell_of n q es)
cell-with_cell n k q f es = here (has_key k es) refl
  where
    here : (b : Bool) → has_key k es ≡ b → cell_of n q (cond b (set_value (is_at (held_cmp k)) es (f (cell_of n k es))) (insert_entry held_cmp es k (f (cell_zero n)))) ≡ cond (is_eq (held_cmp k q)) (f (cell_of n k es)) (cell_of n q es)
    here true h = at-set_value held_cmp held_order (cell_zero n) k q (f (cell_of n k es)) es h
    here false h = at-insert_entry held_cmp held_order (cell_zero n) k q (f (cell_zero n)) es ∙ ap (λ (c : CellState). cond (is_eq (held_cmp k q)) (f c) (cell_of n q es)) (sym (none_at (cell_zero n) (lookup (is_at (held_cmp k)) es) h))

pub cell-taken_in : (is : List ListItem) (k q : Held) (r : Bool × Row) (es : List (Held × CellState)) → cell_of (length is) q (taken_in is k r es) ≡ cond (is_eq (held_cmp k q)) (cell_after is (cell_of (length is) k es) r) (cell_of (length is) q es)
cell-taken_in is k q r es = cell-with_cell (length is) k q (λ c. cell_after is c r) es

pub cell-shown_in : (n : ℕ) (k q r : Held) (es : List (Held × CellState)) → cell_of n q (shown_in n k r es) ≡ cond (is_eq (held_cmp k q)) (showing (cell_of n k es) (Some r)) (cell_of n q es)
cell-shown_in n k q r es = cell-with_cell n k q (λ c. showing c (Some r)) es
