-- Bags in order: their sums and their counts, and one item more or less.
use Rattle.std.proofs.Common.{◌≡◌, ℕ, zero, suc, ◌+◌, ◌<◌, ◌≤◌, Bool, true, false, cond, ◌||◌, List, [], ◌∷◌, length, refl, ap, sym, ◌∙◌, arith}
use Rattle.std.specs.declared.cmp.Ordering.{Ordering}
use Rattle.std.specs.declared.cmp.Ordering.TheVariants.{Less, Equal, Greater}
use Rattle.std.specs.Ordering.{is_eq, is_gt}
use Rattle.values.specs.Bag.{is_same, is_above, copies, without, bag_minus, insert_in_order}
use Rattle.values.specs.Bag.{in_order}
use Rattle.values.specs.Orders.{IsExactOrder}
use Rattle.values.proofs.Bags.{same_is, same_itself, copies-without_none, in_order_with, in_order-same}
use Rattle.op_queue.specs.Signed.{weigh, Same}
use Rattle.row_bags.specs.Bags.{is_in}

above_differs : (o : Ordering) → is_gt o ≡ true → is_eq o ≡ false
above_differs Less h = cc
above_differs Equal h = cc
above_differs Greater h = refl

module _ {K : Type 0} (cmp : K → K → Ordering) (order : IsExactOrder cmp) where
  -- one for each copy of x
  abbrev pub is_copy : K → K → ℕ
  is_copy x y = cond (is_same cmp x y) 1 0

  pub copies-weigh : (x : K) (ys : List K) → copies cmp x ys ≡ weigh (is_copy x) ys
  unfolding weigh
  copies-weigh x [] = refl
  copies-weigh x (y ∷ ys) = here (is_same cmp x y) (copies-weigh x ys)
    where
      here : (b : Bool) → copies cmp x ys ≡ weigh (is_copy x) ys → cond b (suc (copies cmp x ys)) (copies cmp x ys) ≡ cond b 1 0 + weigh (is_copy x) ys
      here true h = omega (arith, h)
      here false h = omega (arith, h)

  pub copies-same : (xs ys : List K) → Same xs ys → (q : K) → copies cmp q xs ≡ copies cmp q ys
  copies-same xs ys h q = copies-weigh q xs ∙ h.weighs (is_copy q) ∙ sym (copies-weigh q ys)

  -- bags that are the same have one list in order
  pub in_order-of_same : (xs ys : List K) → Same xs ys → in_order cmp xs ≡ in_order cmp ys
  in_order-of_same xs ys h = in_order-same cmp order xs ys (copies-same xs ys h)

  pub weigh-insert : (w : K → ℕ) (x : K) (ys : List K) → weigh w (insert_in_order cmp x ys) ≡ w x + weigh w ys
  unfolding weigh
  weigh-insert w x [] = refl
  weigh-insert w x (y ∷ ys) = here (is_above cmp x y) (weigh-insert w x ys)
    where
      here : (b : Bool) → weigh w (insert_in_order cmp x ys) ≡ w x + weigh w ys → weigh w (cond b (y ∷ insert_in_order cmp x ys) (x ∷ y ∷ ys)) ≡ w x + (w y + weigh w ys)
      here true h = omega (arith, h)
      here false h = refl

  pub weigh-in_order : (w : K → ℕ) (ys : List K) → weigh w (in_order cmp ys) ≡ weigh w ys
  unfolding weigh
  weigh-in_order w [] = refl
  weigh-in_order w (y ∷ ys) = weigh-insert w y (in_order cmp ys) ∙ ap (λ n. w y + n) (weigh-in_order w ys)

  -- a bag in order is the bag
  pub Same-in_order : (ys : List K) → Same (in_order cmp ys) ys
  Same-in_order ys = record { weighs = λ w. weigh-in_order w ys }

  pub copies-in_order : (x : K) (ys : List K) → copies cmp x (in_order cmp ys) ≡ copies cmp x ys
  copies-in_order x ys = copies-same (in_order cmp ys) ys (Same-in_order ys) x

  pub weigh-without : (w : K → ℕ) (x : K) (ys : List K) → 0 < copies cmp x ys → weigh w ys ≡ w x + weigh w (without cmp x ys)
  unfolding weigh
  weigh-without w x [] h = absurd (omega (arith, h))
  weigh-without w x (y ∷ ys) h = here (is_same cmp x y) refl (weigh-without w x ys) h
    where
      here : (b : Bool) → is_same cmp x y ≡ b → (0 < copies cmp x ys → weigh w ys ≡ w x + weigh w (without cmp x ys)) → 0 < cond b (suc (copies cmp x ys)) (copies cmp x ys) → w y + weigh w ys ≡ w x + weigh w (cond b ys (y ∷ without cmp x ys))
      here true i ih h = let q : x ≡ y = same_is cmp order x y i in ap (λ u. w u + weigh w ys) (sym q)
      here false i ih h = omega (arith, ih h)

  -- an item is in a bag where its count is not nought
  pub copies-out : (x : K) (ys : List K) → is_in cmp x ys ≡ false → copies cmp x ys ≡ 0
  copies-out x [] h = refl
  copies-out x (y ∷ ys) h = here (is_same cmp x y) (copies-out x ys) h
    where
      here : (b : Bool) → (is_in cmp x ys ≡ false → copies cmp x ys ≡ 0) → (b || is_in cmp x ys) ≡ false → cond b (suc (copies cmp x ys)) (copies cmp x ys) ≡ 0
      here true ih h = cc
      here false ih h = ih h

  pub copies-in : (x : K) (ys : List K) → is_in cmp x ys ≡ true → 0 < copies cmp x ys
  copies-in x [] h = cc
  copies-in x (y ∷ ys) h = here (is_same cmp x y) (copies-in x ys) h
    where
      here : (b : Bool) → (is_in cmp x ys ≡ true → 0 < copies cmp x ys) → (b || is_in cmp x ys) ≡ true → 0 < cond b (suc (copies cmp x ys)) (copies cmp x ys)
      here true ih h = omega arith
      here false ih h = ih h

  pub is_in-in_order : (x : K) (ys : List K) → is_in cmp x (in_order cmp ys) ≡ true → 0 < copies cmp x ys
  is_in-in_order x ys h = omega (arith, copies-in x (in_order cmp ys) h, copies-in_order x ys)

  pub out-in_order : (x : K) (ys : List K) → is_in cmp x (in_order cmp ys) ≡ false → copies cmp x ys ≡ 0
  out-in_order x ys h = sym (copies-in_order x ys) ∙ copies-out x (in_order cmp ys) h

  pub without-insert : (x : K) (ys : List K) → without cmp x (insert_in_order cmp x ys) ≡ ys
  without-insert x [] = ap (λ b. cond b [] (x ∷ [])) (same_itself cmp order x)
  without-insert x (y ∷ ys) = here (is_gt (cmp x y)) refl (without-insert x ys)
    where
      here : (b : Bool) → is_gt (cmp x y) ≡ b → without cmp x (insert_in_order cmp x ys) ≡ ys → without cmp x (cond b (y ∷ insert_in_order cmp x ys) (x ∷ y ∷ ys)) ≡ y ∷ ys
      here true h i = ap (λ b. cond b (insert_in_order cmp x ys) (y ∷ without cmp x (insert_in_order cmp x ys))) (above_differs (cmp x y) h) ∙ ap (λ l. y ∷ l) i
      here false h i = ap (λ b. cond b (y ∷ ys) (x ∷ without cmp x (y ∷ ys))) (same_itself cmp order x)

  -- one less, before or after the bag is in order
  pub without-in_order : (x : K) (ys : List K) → without cmp x (in_order cmp ys) ≡ in_order cmp (without cmp x ys)
  without-in_order x ys = here (copies cmp x ys) refl
    where
      here : (n : ℕ) → copies cmp x ys ≡ n → without cmp x (in_order cmp ys) ≡ in_order cmp (without cmp x ys)
      here zero h = copies-without_none cmp order x (in_order cmp ys) (copies-in_order x ys ∙ h) ∙ ap (in_order cmp) (sym (copies-without_none cmp order x ys h))
      here (suc n) h = ap (without cmp x) (in_order_with cmp order x ys n h) ∙ without-insert x (in_order cmp (without cmp x ys))

  pub length-in_order : (ys : List K) → length (in_order cmp ys) ≡ length ys
  length-in_order [] = refl
  length-in_order (y ∷ ys) = insert_length y (in_order cmp ys) ∙ ap suc (length-in_order ys)
    where
      insert_length : (x : K) (zs : List K) → length (insert_in_order cmp x zs) ≡ suc (length zs)
      insert_length x [] = refl
      insert_length x (z ∷ zs) = here (is_above cmp x z) (insert_length x zs)
        where
          here : (b : Bool) → length (insert_in_order cmp x zs) ≡ suc (length zs) → length (cond b (z ∷ insert_in_order cmp x zs) (x ∷ z ∷ zs)) ≡ suc (suc (length zs))
          here true h = ap suc h
          here false h = refl

  pub length-bag_minus : (xs ys : List K) → length (bag_minus cmp xs ys) ≤ length xs
  length-bag_minus xs [] = omega arith
  length-bag_minus xs (y ∷ ys) = omega (arith, length-bag_minus (without cmp y xs) ys, shorter y xs)
    where
      shorter : (x : K) (zs : List K) → length (without cmp x zs) ≤ length zs
      shorter x [] = omega arith
      shorter x (z ∷ zs) = here (is_same cmp x z) (shorter x zs)
        where
          here : (b : Bool) → length (without cmp x zs) ≤ length zs → length (cond b zs (z ∷ without cmp x zs)) ≤ suc (length zs)
          here true h = omega arith
          here false h = omega (arith, h)
