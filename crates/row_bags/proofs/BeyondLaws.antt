-- Of two bags in order, one walk gives their difference in order.
use Rattle.std.proofs.Common.{◌≡◌, Bool, true, false, cond, List, [], ◌∷◌, drop, refl, ap, sym, subst, ◌∙◌}
use Rattle.std.specs.declared.cmp.Ordering.{Ordering}
use Rattle.std.specs.declared.cmp.Ordering.TheVariants.{Less, Equal, Greater}
use Rattle.std.specs.Ordering.{is_eq, is_gt, ordering_reverse}
use Rattle.values.specs.Row.{Row, row_cmp}
use Rattle.values.specs.Bag.{is_same, is_above, without, bag_minus, insert_in_order, in_order}
use Rattle.values.proofs.Bags.{same_is, same_itself}
use Rattle.values.proofs.Order.{row_order}
use Rattle.row_bags.specs.Lists.{is_first, not_below, beyond}
use Rattle.row_bags.proofs.SpreadLemmas.{by_bool}
use Rattle.row_bags.proofs.OrderLemmas.{without-in_order}
use Rattle.row_bags.proofs.ListLaws.{above_not, not_above_trans, below_both, above_differs}

tied : (o : Ordering) → is_gt o ≡ false → is_gt (ordering_reverse o) ≡ false → is_eq o ≡ true
tied Less h k = cc
tied Equal h k = refl
tied Greater h k = cc

abbrev put : Row → List Row → List Row
put = insert_in_order row_cmp

-- x is above none of the rows
abbrev IsLeast : Row → List Row → Type 0
IsLeast x [] = Unit {0}
IsLeast x (z ∷ zs) = (is_above row_cmp x z ≡ false) × IsLeast x zs

-- each row is above none behind it
abbrev Rises : List Row → Type 0
Rises [] = Unit {0}
Rises (x ∷ xs) = IsLeast x xs × Rises xs

least_below : (y x : Row) (xs : List Row) → is_above row_cmp y x ≡ false → IsLeast x xs → IsLeast y xs
least_below y x [] h l = tt
least_below y x (z ∷ zs) h l = (not_above_trans y x z h l.0, least_below y x zs h l.1)

least-put : (x y : Row) (xs : List Row) → is_above row_cmp x y ≡ false → IsLeast x xs → IsLeast x (put y xs)
least-put x y [] h l = (h, tt)
least-put x y (z ∷ zs) h l =
    by_bool (is_above row_cmp y z)
    (λ t. rw t (l.0, least-put x y zs h l.1))
    (λ f. rw f (h, l))

rises-put : (y : Row) (xs : List Row) → Rises xs → Rises (put y xs)
rises-put y [] r = (tt, tt)
rises-put y (x ∷ xs) r =
    by_bool (is_above row_cmp y x)
    (λ t. rw t (least-put x y xs (above_not y x t) r.0, rises-put y xs r.1))
    (λ f. rw f ((f, least_below y x xs f r.0), r))

rises-in_order : (xs : List Row) → Rises (in_order row_cmp xs)
rises-in_order [] = tt
rises-in_order (x ∷ xs) = rises-put x (in_order row_cmp xs) (rises-in_order xs)

-- a row below all is not among them
without-least : (y x : Row) (xs : List Row) → is_above row_cmp x y ≡ true → IsLeast x xs → without row_cmp y xs ≡ xs
without-least y x [] h l = refl
without-least y x (z ∷ zs) h l =
    let k : is_above row_cmp z y ≡ true = below_above x y z h l.0 in
    let n : is_same row_cmp y z ≡ false = above_differs y z k in
    rw n (ap (λ (ws : List Row). z ∷ ws) (without-least y x zs h l.1))
  where
    below_above : (x y z : Row) → is_above row_cmp x y ≡ true → is_above row_cmp x z ≡ false → is_above row_cmp z y ≡ true
    below_above x y z h k = by_bool (is_above row_cmp z y) (λ t. t) (λ f. let n : is_above row_cmp x y ≡ false = not_above_trans x z y k f in cc)

-- THE ROWS BEHIND THOSE BELOW x

not_below-less : (x y : Row) (ys : List Row) → is_above row_cmp x y ≡ true → not_below x (put y ys) ≡ not_below x ys
not_below-less x y [] h = rw h
not_below-less x y (z ∷ zs) h =
    by_bool (is_above row_cmp y z)
    (λ t. let k : is_above row_cmp x z ≡ true = above_trans x y z h t in rw t (rw k (not_below-less x y zs h)))
    (λ f. rw f (rw h))
  where
    above_trans : (x y z : Row) → is_above row_cmp x y ≡ true → is_above row_cmp y z ≡ true → is_above row_cmp x z ≡ true
    above_trans x y z h t = by_bool (is_above row_cmp x z) (λ u. u) (λ f. let n : is_above row_cmp x y ≡ false = not_above_trans x z y f (above_not y z t) in cc)

itself_not : (x : Row) → is_above row_cmp x x ≡ false
itself_not x = by_bool (is_above row_cmp x x) (λ t. above_not x x t) (λ f. f)

not_below-same : (x : Row) (ys : List Row) → not_below x (put x ys) ≡ x ∷ not_below x ys
not_below-same x [] = rw (itself_not x)
not_below-same x (z ∷ zs) =
    by_bool (is_above row_cmp x z)
    (λ t. rw t (rw t (not_below-same x zs)))
    (λ f. rw f (rw (itself_not x)))

not_below-more : (x y : Row) (ys : List Row) → is_above row_cmp y x ≡ true → not_below x (put y ys) ≡ put y (not_below x ys)
not_below-more x y [] h = rw (above_not y x h)
not_below-more x y (z ∷ zs) h =
    by_bool (is_above row_cmp y z)
    (λ t. rw t (by_bool (is_above row_cmp x z) (λ u. rw u (not_below-more x y zs h)) (λ u. rw u (rw t))))
    (λ f. let k : is_above row_cmp x z ≡ false = above_not z x (below_both x y z h f) in rw f (rw (above_not y x h) (rw k (rw f))))

-- those below x are below what is not below x
not_below-twice : (x z : Row) (ys : List Row) → is_above row_cmp x z ≡ false → not_below z (not_below x ys) ≡ not_below z ys
not_below-twice x z [] h = refl
not_below-twice x z (y ∷ ys) h =
    by_bool (is_above row_cmp x y)
    (λ t. let k : is_above row_cmp z y ≡ true = by_bool (is_above row_cmp z y) (λ u. u) (λ f. let n : is_above row_cmp x y ≡ false = not_above_trans x z y h f in cc) in rw t (rw k (not_below-twice x z ys h)))
    (λ f. rw f)

beyond-not_below : (x : Row) (xs ys : List Row) → IsLeast x xs → beyond xs (not_below x ys) ≡ beyond xs ys
beyond-not_below x [] ys l = refl
beyond-not_below x (z ∷ zs) ys l =
    ap (λ (ws : List Row). cond (is_first z ws) (beyond zs (drop 1 ws)) (z ∷ beyond zs ws)) (not_below-twice x z ys l.0)

-- a row above x comes to those that are not below x
first-put : (x y : Row) (ws : List Row) → is_above row_cmp y x ≡ true → is_first x ws ≡ true → (is_first x (put y ws) ≡ true) × (drop 1 (put y ws) ≡ put y (drop 1 ws))
first-put x y [] h f = cc
first-put x y (z ∷ zs) h f =
    let e : x ≡ z = same_is row_cmp row_order x z f in
    let k : is_above row_cmp y z ≡ true = subst (λ v. is_above row_cmp y v ≡ true) e h in
    rw k (f, refl)

not_first-put : (x y : Row) (ws : List Row) → is_above row_cmp y x ≡ true → is_first x ws ≡ false → is_first x (put y ws) ≡ false
not_first-put x y [] h f = above_differs x y h
not_first-put x y (z ∷ zs) h f =
    by_bool (is_above row_cmp y z)
    (λ t. rw t f)
    (λ u. rw u (above_differs x y h))

-- ONE ROW MORE IN THE SECOND

beyond-put : (y : Row) (xs ys : List Row) → Rises xs → beyond xs (put y ys) ≡ beyond (without row_cmp y xs) ys
beyond-put y [] ys r = refl
beyond-put y (x ∷ xs) ys r =
    by_bool (is_above row_cmp x y) less (λ f. by_bool (is_above row_cmp y x) (more (λ (zs : List Row). beyond-put y xs zs r.1)) (λ g. same (equal f g)))
  where
    step : List Row → List Row → List Row
    step zs ws = cond (is_first x ws) (beyond zs (drop 1 ws)) (x ∷ beyond zs ws)

    equal : is_above row_cmp x y ≡ false → is_above row_cmp y x ≡ false → is_same row_cmp y x ≡ true
    equal f g = tied (row_cmp y x) g (sym (ap is_gt (row_order.total.antisymm x y)) ∙ f)

    less : is_above row_cmp x y ≡ true → beyond (x ∷ xs) (put y ys) ≡ beyond (without row_cmp y (x ∷ xs)) ys
    less t =
        ap (step xs) (not_below-less x y ys t)
        ∙ ap (λ (zs : List Row). step zs (not_below x ys)) (sym (without-least y x xs t r.0))
        ∙ ap (λ (b : Bool). beyond (cond b xs (x ∷ without row_cmp y xs)) ys) (sym (above_differs y x t))

    same : is_same row_cmp y x ≡ true → beyond (x ∷ xs) (put y ys) ≡ beyond (without row_cmp y (x ∷ xs)) ys
    same t =
        let e : y ≡ x = same_is row_cmp row_order y x t in
        ap (λ (v : Row). step xs (not_below x (put v ys))) e
        ∙ ap (step xs) (not_below-same x ys)
        ∙ ap (λ (b : Bool). cond b (beyond xs (not_below x ys)) (x ∷ beyond xs (x ∷ not_below x ys))) (same_itself row_cmp row_order x)
        ∙ beyond-not_below x xs ys r.0
        ∙ ap (λ (b : Bool). beyond (cond b xs (x ∷ without row_cmp y xs)) ys) (sym t)

    other : is_above row_cmp y x ≡ true → is_same row_cmp y x ≡ false
    other t = by_bool (is_same row_cmp y x) (λ u. let e : y ≡ x = same_is row_cmp row_order y x u in let k : is_above row_cmp x x ≡ true = subst (λ v. is_above row_cmp v x ≡ true) e t in let n : is_above row_cmp x x ≡ false = itself_not x in cc) (λ u. u)

    more : ((zs : List Row) → beyond xs (put y zs) ≡ beyond (without row_cmp y xs) zs) → is_above row_cmp y x ≡ true → beyond (x ∷ xs) (put y ys) ≡ beyond (without row_cmp y (x ∷ xs)) ys
    more fewer t =
        let ws : List Row = not_below x ys in
        ap (step xs) (not_below-more x y ys t)
        ∙ by_bool (is_first x ws)
        (λ u. let k = first-put x y ws t u in
        ap (λ (b : Bool). cond b (beyond xs (drop 1 (put y ws))) (x ∷ beyond xs (put y ws))) k.0
        ∙ ap (beyond xs) k.1
        ∙ fewer (drop 1 ws)
        ∙ ap (λ (b : Bool). cond b (beyond (without row_cmp y xs) (drop 1 ws)) (x ∷ beyond (without row_cmp y xs) ws)) (sym u))
        (λ u. ap (λ (b : Bool). cond b (beyond xs (drop 1 (put y ws))) (x ∷ beyond xs (put y ws))) (not_first-put x y ws t u)
        ∙ ap (λ (zs : List Row). x ∷ zs) (fewer ws)
        ∙ ap (λ (b : Bool). cond b (beyond (without row_cmp y xs) (drop 1 ws)) (x ∷ beyond (without row_cmp y xs) ws)) (sym u))
        ∙ ap (λ (b : Bool). beyond (cond b xs (x ∷ without row_cmp y xs)) ys) (sym (other t))

beyond-none : (xs : List Row) → beyond xs [] ≡ xs
beyond-none [] = refl
beyond-none (x ∷ xs) = ap (λ (zs : List Row). x ∷ zs) (beyond-none xs)

-- THE LAW

pub beyond-in_order : (a b : List Row) → beyond (in_order row_cmp a) (in_order row_cmp b) ≡ in_order row_cmp (bag_minus row_cmp a b)
beyond-in_order a [] = beyond-none (in_order row_cmp a)
beyond-in_order a (y ∷ b) =
    beyond-put y (in_order row_cmp a) (in_order row_cmp b) (rises-in_order a)
    ∙ ap (λ (xs : List Row). beyond xs (in_order row_cmp b)) (without-in_order row_cmp row_order y a)
    ∙ beyond-in_order (without row_cmp y a) b
