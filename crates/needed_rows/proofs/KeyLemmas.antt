-- How often keys were counted, going back through rows.
use Rattle.std.proofs.Common.{◌≡◌, ℕ, ℤ, suc, ◌+◌, ◌<◌, Bool, true, false, cond, min, ◌&&◌, nat_lt, Option, None, List, [], ◌∷◌, length, get_or, refl, ap, sym, ◌∙◌, arith, ltb-true, ltb-false, lt-ltb}
use Rattle.std.specs.Borrow.{Bor}
use Rattle.std.specs.declared.cmp.Ordering.{Ordering}
use Rattle.std.specs.declared.cmp.Ordering.TheVariants.{Less, Equal, Greater}
use Rattle.std.specs.Ordering.{is_eq, ordering_then}
use Rattle.std.specs.Cmp.{Equal-is}
use Rattle.std.proofs.lemmas.List.{get_or-map, length-map}
use Rattle.values.specs.Row.{Row, row_cmp, same_row, value_at, value_cmp}
use Rattle.values.specs.Window.{same_in}
use Rattle.values.proofs.Bags.{same_itself}
use Rattle.values.proofs.Order.{row_order}
use Rattle.column.specs.Rows.{row_at}
use Rattle.needed_rows.specs.Keys.{Key, are_alike, is_of_key, key_cmp, key_in}
use Rattle.needed_rows.specs.Marks.{count_places}
use Rattle.needed_rows.specs.Needed.{lists}
use Rattle.needed_rows.proofs.CountLemmas.{count-same}
use Rattle.needed_rows.proofs.MarkLemmas.{same_bool}

-- rows that are the same are equal
same_exact : (r s : Row) → same_row r s ≡ true → r ≡ s
same_exact r s h = row_order.exact r s ((Equal-is (row_cmp r s)).0 h)

same_of : (r s : Row) → r ≡ s → same_row r s ≡ true
same_of r s e = ap (λ x. same_row r x) (sym e) ∙ same_itself row_cmp row_order r

is_eq-then : (o p : Ordering) → is_eq (ordering_then o p) ≡ (is_eq o && is_eq p)
is_eq-then Less p = refl
is_eq-then Equal p = refl
is_eq-then Greater p = refl

-- alike ones have one key
same_key : (columns : List ℕ) (r s : Row) → same_in columns r s ≡ same_row (key_in columns r) (key_in columns s)
same_key [] r s = refl
same_key (c ∷ columns) r s =
    ap (λ b. is_eq (value_cmp (value_at r c) (value_at s c)) && b) (same_key columns r s) ∙ sym (is_eq-then (value_cmp (value_at r c) (value_at s c)) (row_cmp (key_in columns r) (key_in columns s)))

turned : (r s : Row) → same_row r s ≡ same_row s r
turned r s = same_bool (same_row r s) (same_row s r) (λ t. same_of s r (sym (same_exact r s t))) (λ t. same_of r s (sym (same_exact s r t)))

module _ (passes : ℕ → Bool) (chosen : List ℕ) (columns : List (List (Option ℤ))) (most : ℕ) where
  abbrev of : Row → ℕ → Bool
  of k = is_of_key passes chosen columns k

  -- those of a row's key are alike to it
  pub of_row : (key : Row) (row before step : ℕ) → key ≡ key_in chosen (row_at columns row) → count_places (of key) before step ≡ count_places (λ j. passes j && are_alike chosen columns row j) before step
  of_row key row before step e = count-same (of key) (λ j. passes j && are_alike chosen columns row j) before step
      (λ j l u. ap (λ b. passes j && b) (turned (key_in chosen (row_at columns j)) key ∙ ap (λ k. same_row k (key_in chosen (row_at columns j))) e ∙ sym (same_key chosen (row_at columns row) (row_at columns j))))

  fewer : (n : ℕ) → nat_lt (min most n) most ≡ nat_lt n most
  fewer n = same_bool (nat_lt (min most n) most) (nat_lt n most)
      (λ t. lt-ltb n most (let l = ltb-true (min most n) most t in omega arith))
      (λ t. lt-ltb (min most n) most (let l = ltb-true n most t in omega arith))

  -- whether the key was counted fewer times says whether the row is among the last
  pub counted_few : (key : Key) (row before step n : ℕ) → key.items ≡ key_in chosen (row_at columns row) → n ≡ min most (count_places (of key.items) before step) → nat_lt n most ≡ nat_lt (count_places (λ j. passes j && are_alike chosen columns row j) before step) most
  counted_few key row before step n e h = ap (λ x. nat_lt x most) h ∙ fewer (count_places (of key.items) before step) ∙ ap (λ x. nat_lt x most) (of_row key.items row before step e)

  pub counted_none : (k : Key) → 0 ≡ min most (count_places (of k.items) 0 0)
  counted_none k = omega arith

  pub counted_no : (k : Key) (before row step : ℕ) → before ≡ row + 1 → passes row ≡ false → count_places (of k.items) row (step + 1) ≡ count_places (of k.items) before step
  counted_no k before row step e p =
      let a : step + 1 ≡ suc step = omega arith in
      ap (count_places (of k.items) row) a
      ∙ ap (λ b. cond (b && same_row (key_in chosen (row_at columns row)) k.items) (suc (count_places (of k.items) (row + 1) step)) (count_places (of k.items) (row + 1) step)) p
      ∙ ap (λ x. count_places (of k.items) x step) (sym e)

  counted_one : (k : Key) (key : Row) (before row step : ℕ) → before ≡ row + 1 → passes row ≡ true → key ≡ key_in chosen (row_at columns row)
      → count_places (of k.items) row (step + 1) ≡ cond (same_row key k.items) (suc (count_places (of k.items) before step)) (count_places (of k.items) before step)
  counted_one k key before row step e p i =
      let a : step + 1 ≡ suc step = omega arith in
      ap (count_places (of k.items) row) a
      ∙ ap (λ b. cond (b && same_row (key_in chosen (row_at columns row)) k.items) (suc (count_places (of k.items) (row + 1) step)) (count_places (of k.items) (row + 1) step)) p
      ∙ ap (λ r. cond (same_row r k.items) (suc (count_places (of k.items) (row + 1) step)) (count_places (of k.items) (row + 1) step)) (sym i)
      ∙ ap (λ x. cond (same_row key k.items) (suc (count_places (of k.items) x step)) (count_places (of k.items) x step)) (sym e)

  key_is : (key k : Key) → same_row key.items k.items ≡ true → key ≡ k
  key_is key k t = ap (λ (xs : Row). let r : Key = record { items = xs } in r) (same_exact key.items k.items t)

  pub counted_yes : (before row step : ℕ) → before ≡ row + 1 → passes row ≡ true → (old new : Key → ℕ) (key : Key) → key.items ≡ key_in chosen (row_at columns row)
      → ((k : Key) → old k ≡ min most (count_places (of k.items) before step))
      → ((k : Key) → new k ≡ cond (is_eq (key_cmp key k) && nat_lt (old key) most) (old key + 1) (old k))
      → (k : Key) → new k ≡ min most (count_places (of k.items) row (step + 1))
  counted_yes before row step e p old new key i was is k = is k ∙ here (same_row key.items k.items) refl ∙ ap (min most) (sym (counted_one k key.items before row step e p i))
    where
      C : ℕ
      C = count_places (of k.items) before step

      yes' : same_row key.items k.items ≡ true → (c : Bool) → nat_lt (old key) most ≡ c → cond c (old key + 1) (old k) ≡ min most (suc (count_places (of k.items) before step))
      yes' t true u = let o : old key ≡ old k = ap old (key_is key k t) in let w = was k in let l = ltb-true (old key) most u in omega arith
      yes' t false u = let o : old key ≡ old k = ap old (key_is key k t) in let w = was k in let l = ltb-false (old key) most u in omega arith

      here : (b : Bool) → same_row key.items k.items ≡ b → cond (is_eq (key_cmp key k) && nat_lt (old key) most) (old key + 1) (old k) ≡ min most (cond (same_row key.items k.items) (suc (count_places (of k.items) before step)) (count_places (of k.items) before step))
      here true t =
          ap (λ b. cond (b && nat_lt (old key) most) (old key + 1) (old k)) t ∙ yes' t (nat_lt (old key) most) refl
          ∙ sym (ap (λ b. min most (cond b (suc (count_places (of k.items) before step)) (count_places (of k.items) before step))) t)
      here false t =
          ap (λ b. cond (b && nat_lt (old key) most) (old key + 1) (old k)) t ∙ was k
          ∙ sym (ap (λ b. min most (cond b (suc (count_places (of k.items) before step)) (count_places (of k.items) before step))) t)

-- the value in a column
pub value_in_lists : (columns : List (Bor (List (Option ℤ)))) (row column : ℕ) (d : Bor (List (Option ℤ))) → column < length columns → value_at (row_at (lists columns) row) column ≡ value_at (get_or columns column d).now row
value_in_lists columns row column d lt =
    let values : Bor (List (Option ℤ)) → List (Option ℤ) = λ c. c.now in
    let at : List (Option ℤ) → Option ℤ = λ c. get_or c row None in
    get_or-map at (lists columns) column [] None (omega (arith, length-map columns values)) ∙ ap at (get_or-map values columns column d [] lt)
