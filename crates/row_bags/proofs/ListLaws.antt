-- What a list of rows in order becomes is, in order, the bag that it stands for after what left and entered.
use Rattle.std.proofs.Common.{◌≡◌, ℕ, suc, ◌+◌, Bool, true, false, cond, List, [], ◌∷◌, ◌++◌, refl, ap, ap₂, sym, subst, ◌∙◌, arith}
use Rattle.std.specs.declared.cmp.Ordering.{Ordering}
use Rattle.std.specs.declared.cmp.Ordering.TheVariants.{Less, Equal, Greater}
use Rattle.std.specs.Ordering.{is_gt, ordering_reverse}
use Rattle.std.proofs.lemmas.Cmp.{upto}
use Rattle.values.specs.Row.{Row, row_cmp}
use Rattle.values.specs.Bag.{is_same, is_above, copies, bag_minus, insert_in_order, in_order}
use Rattle.values.proofs.Bags.{same_is, same_itself, copies-bag_minus}
use Rattle.values.proofs.Order.{row_order}
use Rattle.row_bags.specs.Deltas.{delta_of, delta_between}
use Rattle.row_bags.specs.Lists.{is_first, staying, up_to, past, merged, renewed}
use Rattle.row_bags.proofs.SpreadLemmas.{by_bool}
use Rattle.row_bags.proofs.DeltaLaws.{by_counts}

-- TWO LISTS AS ONE

pub merged-none : (xs : List Row) → merged xs [] ≡ xs
merged-none [] = refl
merged-none (x ∷ xs) = ap (λ (zs : List Row). x ∷ zs) (merged-none xs)

pub staying-none : (xs : List Row) → staying xs [] ≡ xs
staying-none [] = refl
staying-none (x ∷ xs) = ap (λ (zs : List Row). x ∷ zs) (staying-none xs)

-- where nothing left or entered the rows stay
pub renewed-none : (xs : List Row) → renewed xs (delta_of [] []) ≡ xs
renewed-none xs = ap (λ (zs : List Row). merged zs []) (staying-none xs) ∙ merged-none xs

-- what is not above
gt_reverse : (o : Ordering) → is_gt o ≡ true → is_gt (ordering_reverse o) ≡ false
gt_reverse Less h = cc
gt_reverse Equal h = cc
gt_reverse Greater h = refl

pub above_not : (x y : Row) → is_above row_cmp x y ≡ true → is_above row_cmp y x ≡ false
above_not x y h = ap is_gt (row_order.total.antisymm y x) ∙ gt_reverse (row_cmp x y) h

pub not_above_trans : (x y z : Row) → is_above row_cmp x y ≡ false → is_above row_cmp y z ≡ false → is_above row_cmp x z ≡ false
not_above_trans = upto row_order.total

-- y is above x, and not above z: z is above x
pub below_both : (x y z : Row) → is_above row_cmp y x ≡ true → is_above row_cmp y z ≡ false → is_above row_cmp z x ≡ true
below_both x y z h k = by_bool (is_above row_cmp z x) (λ t. t) (λ f. let n : is_above row_cmp y x ≡ false = not_above_trans y z x k f in cc)

-- y is above x, and z is not: y is above z
pub above_both : (x y z : Row) → is_above row_cmp y x ≡ true → is_above row_cmp z x ≡ false → is_above row_cmp y z ≡ true
above_both x y z h k = by_bool (is_above row_cmp y z) (λ t. t) (λ f. let n : is_above row_cmp y x ≡ false = not_above_trans y z x f k in cc)

abbrev put : Row → List Row → List Row
put = insert_in_order row_cmp

-- a row that is not above x comes before it
put_before : (x y : Row) (ys : List Row) (rest : List Row → List Row) → is_above row_cmp y x ≡ false → up_to x (put y ys) ++ x ∷ rest (past x (put y ys)) ≡ put y (up_to x ys ++ x ∷ rest (past x ys))
put_before x y [] rest h = rw h
put_before x y (z ∷ zs) rest h =
    by_bool (is_above row_cmp y z)
    (λ t. let k : is_above row_cmp z x ≡ false = not_above_trans z y x (above_not y z t) h in rw t (rw k (rw t (ap (λ (l : List Row). z ∷ l) (put_before x y zs rest h)))))
    (λ f. rw f (rw h (by_bool (is_above row_cmp z x) (λ u. rw u (rw h)) (λ u. rw u (rw f)))))

-- one that is above x comes behind it
up_to-put : (x y : Row) (ys : List Row) → is_above row_cmp y x ≡ true → up_to x (put y ys) ≡ up_to x ys
up_to-put x y [] h = rw h
up_to-put x y (z ∷ zs) h =
    by_bool (is_above row_cmp y z)
    (λ t. rw t (ap (λ (l : List Row). cond (is_above row_cmp z x) [] (z ∷ l)) (up_to-put x y zs h)))
    (λ f. let k : is_above row_cmp z x ≡ true = below_both x y z h f in rw f (rw h (rw k)))

past-put : (x y : Row) (ys : List Row) → is_above row_cmp y x ≡ true → past x (put y ys) ≡ put y (past x ys)
past-put x y [] h = rw h
past-put x y (z ∷ zs) h =
    by_bool (is_above row_cmp y z)
    (λ t. rw t (by_bool (is_above row_cmp z x) (λ u. rw u (rw t)) (λ u. rw u (past-put x y zs h))))
    (λ f. let k : is_above row_cmp z x ≡ true = below_both x y z h f in rw f (rw h (rw k (rw f))))

put-behind : (x y : Row) (ys rs : List Row) → is_above row_cmp y x ≡ true → put y (up_to x ys ++ rs) ≡ up_to x ys ++ put y rs
put-behind x y [] rs h = refl
put-behind x y (z ∷ zs) rs h =
    by_bool (is_above row_cmp z x)
    (λ u. rw u)
    (λ u. let k : is_above row_cmp y z ≡ true = above_both x y z h u in rw u (rw k (ap (λ (l : List Row). z ∷ l) (put-behind x y zs rs h))))

-- one row more among those that entered
merged-insert : (y : Row) (xs ys : List Row) → merged xs (put y ys) ≡ put y (merged xs ys)
merged-insert y [] ys = refl
merged-insert y (x ∷ xs) ys =
    by_bool (is_above row_cmp y x)
    (λ t. ap₂ (λ (a b : List Row). a ++ x ∷ merged xs b) (up_to-put x y ys t) (past-put x y ys t)
    ∙ ap (λ (l : List Row). up_to x ys ++ x ∷ l) (merged-insert y xs (past x ys))
    ∙ ap (λ (b : Bool). up_to x ys ++ cond b (x ∷ put y (merged xs (past x ys))) (y ∷ x ∷ merged xs (past x ys))) (sym t)
    ∙ sym (put-behind x y ys (x ∷ merged xs (past x ys)) t))
    (λ f. put_before x y ys (merged xs) f)

pub merged-in_order : (a b : List Row) → merged (in_order row_cmp a) (in_order row_cmp b) ≡ in_order row_cmp (b ++ a)
merged-in_order a [] = merged-none (in_order row_cmp a)
merged-in_order a (y ∷ b) = merged-insert y (in_order row_cmp a) (in_order row_cmp b) ∙ ap (insert_in_order row_cmp y) (merged-in_order a b)

-- THE ROWS THAT STAY

-- those that left stand among the rows, each where it comes in order
abbrev AreAmong : List Row → List Row → Type 0
AreAmong [] [] = Unit {0}
AreAmong [] (y ∷ ys) = ⊥
AreAmong (x ∷ xs) [] = Unit {0}
AreAmong (x ∷ xs) (y ∷ ys) = (is_same row_cmp x y ≡ true → AreAmong xs ys) × (is_same row_cmp x y ≡ false → (is_above row_cmp y x ≡ true) × AreAmong xs (y ∷ ys))

none_among : (xs : List Row) → AreAmong xs []
none_among [] = tt
none_among (x ∷ xs) = tt

-- one row more, which leaves too
abbrev BothMore : List Row → List Row → List Row → List Row → Type 0
BothMore xs2 ys2 xs ys = AreAmong xs2 ys2 × (staying xs2 ys2 ≡ staying xs ys)

put_past : (y x : Row) (xs : List Row) → is_above row_cmp y x ≡ true → put y (x ∷ xs) ≡ x ∷ put y xs
put_past y x xs h = rw h

put_here : (y x : Row) (xs : List Row) → is_above row_cmp y x ≡ false → put y (x ∷ xs) ≡ y ∷ x ∷ xs
put_here y x xs h = rw h

pub above_differs : (x y : Row) → is_above row_cmp y x ≡ true → is_same row_cmp x y ≡ false
above_differs x y h = by_bool (is_same row_cmp x y) (λ t. let e : x ≡ y = same_is row_cmp row_order x y t in let k : is_above row_cmp x y ≡ false = above_not y x h in let n : is_above row_cmp y y ≡ false = subst (λ v. is_above row_cmp v y ≡ false) e k in let m : is_above row_cmp y y ≡ true = subst (λ v. is_above row_cmp y v ≡ true) e h in cc) (λ f. f)

-- the row stands first in both
same_first : (y : Row) (xs ys : List Row) → AreAmong xs ys → BothMore (y ∷ xs) (y ∷ ys) xs ys
same_first y xs ys a = (((λ t. a), (λ f. let t : is_same row_cmp y y ≡ true = same_itself row_cmp row_order y in cc)), rw (same_itself row_cmp row_order y))

-- the first row stays, which is below those that leave
first_stays : (x y : Row) (xs2 ys2 xs ys : List Row) → is_above row_cmp y x ≡ true → is_first x ys ≡ false → BothMore xs2 (y ∷ ys2) xs ys → BothMore (x ∷ xs2) (y ∷ ys2) (x ∷ xs) ys
first_stays x y xs2 ys2 xs ys h n b =
    let f : is_same row_cmp x y ≡ false = above_differs x y h in
    (((λ t. cc), (λ g. (h, b.0))), rw f (rw n (ap (λ (l : List Row). x ∷ l) b.1)))

first_leaves : (x z : Row) (xs2 ys2 xs ys : List Row) → is_same row_cmp x z ≡ true → BothMore xs2 ys2 xs ys → BothMore (x ∷ xs2) (z ∷ ys2) (x ∷ xs) (z ∷ ys)
first_leaves x z xs2 ys2 xs ys t b = (((λ u. b.0), (λ f. cc)), rw t b.1)

both_more : (y : Row) (xs ys : List Row) → AreAmong xs ys → BothMore (put y xs) (put y ys) xs ys
both_more y [] [] a = same_first y [] [] a
both_more y [] (z ∷ zs) a = absurd a
both_more y (x ∷ xs) [] a =
    by_bool (is_above row_cmp y x)
    (λ t. subst (λ (l : List Row). BothMore l (y ∷ []) (x ∷ xs) []) (sym (put_past y x xs t)) (first_stays x y (put y xs) [] xs [] t refl (both_more y xs [] (none_among xs))))
    (λ f. subst (λ (l : List Row). BothMore l (y ∷ []) (x ∷ xs) []) (sym (put_here y x xs f)) (same_first y (x ∷ xs) [] tt))
both_more y (x ∷ xs) (z ∷ zs) a =
    by_bool (is_above row_cmp y x)
    (λ t. by_bool (is_above row_cmp y z) (later (both_more y xs zs) (both_more y xs (z ∷ zs)) t) (before (both_more y xs (z ∷ zs)) t))
    (λ f. by_bool (is_above row_cmp y z) (never f) (first f))
  where
    from_puts : (xs2 ys2 : List Row) → put y (x ∷ xs) ≡ xs2 → put y (z ∷ zs) ≡ ys2 → BothMore xs2 ys2 (x ∷ xs) (z ∷ zs) → BothMore (put y (x ∷ xs)) (put y (z ∷ zs)) (x ∷ xs) (z ∷ zs)
    from_puts xs2 ys2 p q b = subst (λ (l : List Row). BothMore (put y (x ∷ xs)) l (x ∷ xs) (z ∷ zs)) (sym q) (subst (λ (l : List Row). BothMore l ys2 (x ∷ xs) (z ∷ zs)) (sym p) b)

    -- behind both first rows
    later : (AreAmong xs zs → BothMore (put y xs) (put y zs) xs zs) → (AreAmong xs (z ∷ zs) → BothMore (put y xs) (put y (z ∷ zs)) xs (z ∷ zs)) → is_above row_cmp y x ≡ true → is_above row_cmp y z ≡ true → BothMore (put y (x ∷ xs)) (put y (z ∷ zs)) (x ∷ xs) (z ∷ zs)
    later leaving staying_on t u =
        from_puts (x ∷ put y xs) (z ∷ put y zs) (put_past y x xs t) (put_past y z zs u)
        (by_bool (is_same row_cmp x z)
        (λ e. first_leaves x z (put y xs) (put y zs) xs zs e (leaving (a.0 e)))
        (λ e. first_stays x z (put y xs) (put y zs) xs (z ∷ zs) (a.1 e).0 e (subst (λ (l : List Row). BothMore (put y xs) l xs (z ∷ zs)) (put_past y z zs u) (staying_on (a.1 e).1))))

    -- before the first that leaves
    before : (AreAmong xs (z ∷ zs) → BothMore (put y xs) (put y (z ∷ zs)) xs (z ∷ zs)) → is_above row_cmp y x ≡ true → is_above row_cmp y z ≡ false → BothMore (put y (x ∷ xs)) (put y (z ∷ zs)) (x ∷ xs) (z ∷ zs)
    before staying_on t f =
        let e : is_same row_cmp x z ≡ false = above_differs x z (below_both x y z t f) in
        from_puts (x ∷ put y xs) (y ∷ z ∷ zs) (put_past y x xs t) (put_here y z zs f)
        (first_stays x y (put y xs) (z ∷ zs) xs (z ∷ zs) t e (subst (λ (l : List Row). BothMore (put y xs) l xs (z ∷ zs)) (put_here y z zs f) (staying_on (a.1 e).1)))

    first : is_above row_cmp y x ≡ false → is_above row_cmp y z ≡ false → BothMore (put y (x ∷ xs)) (put y (z ∷ zs)) (x ∷ xs) (z ∷ zs)
    first f g = from_puts (y ∷ x ∷ xs) (y ∷ z ∷ zs) (put_here y x xs f) (put_here y z zs g) (same_first y (x ∷ xs) (z ∷ zs) a)

    -- the first that leaves is not below the first row
    never : is_above row_cmp y x ≡ false → is_above row_cmp y z ≡ true → BothMore (put y (x ∷ xs)) (put y (z ∷ zs)) (x ∷ xs) (z ∷ zs)
    never f t =
        let no : ⊥ =
        by_bool (is_same row_cmp x z)
        (λ e. let q : x ≡ z = same_is row_cmp row_order x z e in let n : is_above row_cmp y z ≡ false = subst (λ v. is_above row_cmp y v ≡ false) q f in cc)
        (λ e. let n : is_above row_cmp y z ≡ false = not_above_trans y x z f (above_not z x (a.1 e).0) in cc) in
        absurd no

all_more : (left a : List Row) → BothMore (in_order row_cmp (left ++ a)) (in_order row_cmp left) (in_order row_cmp a) []
all_more [] a = (none_among (in_order row_cmp a), refl)
all_more (y ∷ left) a =
    let b = all_more left a in
    let c = both_more y (in_order row_cmp (left ++ a)) (in_order row_cmp left) b.0 in
    (c.0, c.1 ∙ b.1)

pub staying-in_order : (left a : List Row) → staying (in_order row_cmp (left ++ a)) (in_order row_cmp left) ≡ in_order row_cmp a
staying-in_order left a = (all_more left a).1 ∙ staying-none (in_order row_cmp a)

-- THE LAW

abbrev pub count : Row → List Row → ℕ
count = copies row_cmp

abbrev pub minus : List Row → List Row → List Row
minus = bag_minus row_cmp

pub count-append : (q : Row) (xs ys : List Row) → count q (xs ++ ys) ≡ count q xs + count q ys
count-append q [] ys = omega arith
count-append q (x ∷ xs) ys = here (is_same row_cmp q x) (count-append q xs ys)
  where
    here : (b : Bool) → count q (xs ++ ys) ≡ count q xs + count q ys → cond b (suc (count q (xs ++ ys))) (count q (xs ++ ys)) ≡ cond b (suc (count q xs)) (count q xs) + count q ys
    here true h = omega (arith, h)
    here false h = h

-- the list of the bag before, with what left and entered up to now, is that of the bag now
pub renewed-between : (before now : List Row) → renewed (in_order row_cmp before) (delta_between before now) ≡ in_order row_cmp now
renewed-between before now =
    ap (λ (xs : List Row). merged (staying xs (in_order row_cmp left)) (in_order row_cmp entered)) split
    ∙ ap (λ (xs : List Row). merged xs (in_order row_cmp entered)) (staying-in_order left stayed)
    ∙ merged-in_order stayed entered
    ∙ whole
  where
    left : List Row
    left = minus before now

    entered : List Row
    entered = minus now before

    stayed : List Row
    stayed = minus before left

    split : in_order row_cmp before ≡ in_order row_cmp (left ++ stayed)
    split =
        by_counts before (left ++ stayed) (λ q.
        omega (arith, count-append q left stayed, copies-bag_minus row_cmp row_order q before now, copies-bag_minus row_cmp row_order q before left))

    whole : in_order row_cmp (entered ++ stayed) ≡ in_order row_cmp now
    whole =
        by_counts (entered ++ stayed) now (λ q.
        omega (arith, count-append q entered stayed, copies-bag_minus row_cmp row_order q before now, copies-bag_minus row_cmp row_order q now before, copies-bag_minus row_cmp row_order q before left))
