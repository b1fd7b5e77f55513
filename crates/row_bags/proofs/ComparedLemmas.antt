-- Two differences are the same where the bags, each with what the other lost, have each row as often.
use Rattle.std.proofs.Common.{◌≡◌, ◌↔◌, ℕ, suc, ◌+◌, ◌<◌, ◌&&◌, ◌||◌, Bool, true, false, cond, List, [], ◌∷◌, ◌++◌, length, drop, take, get_or, refl, ap, ap₂, sym, ◌∙◌, arith, true≢false}
use Rattle.std.specs.List.{list_all}
use Rattle.std.proofs.lemmas.Bool.{eqb-true, eq-eqb}
use Rattle.std.proofs.lemmas.List.{take_more}
use Rattle.values.specs.Row.{Row, row_cmp}
use Rattle.values.specs.Bag.{is_same}
use Rattle.values.proofs.Bags.{same_is, copies-bag_minus}
use Rattle.values.proofs.Order.{row_order}
use Rattle.row_bags.specs.Bags.{is_in}
use Rattle.row_bags.specs.Compared.{is_balanced, are_balanced}
use Rattle.row_bags.specs.Deltas.{PlainDelta, delta_between}
use Rattle.row_bags.specs.Lists.{is_first}
use Rattle.row_bags.proofs.DeltaLaws.{by_counts, both}
use Rattle.row_bags.proofs.ListLaws.{count, minus}
use Rattle.row_bags.proofs.OrderLemmas.{copies-in_order, copies-out}
use Rattle.row_bags.proofs.PileLemmas.{front}
use Rattle.row_bags.proofs.SpreadLemmas.{by_bool}

-- THE WALKS

pub alike_on : (i : ℕ) (xs ys : List Row) (x : Row) → i < length xs → i < length ys → x ≡ get_or xs i [] → is_first x (drop i ys) ≡ true → take i xs ≡ take i ys → take (i + 1) xs ≡ take (i + 1) ys
alike_on i xs ys x h k e f a =
    let y : x ≡ get_or ys i [] = same_is row_cmp row_order x (get_or ys i []) (sym (ap (is_first x) (front i ys (get_or ys i []) k refl)) ∙ f) in
    take_more xs i [] h ∙ ap₂ (λ (l : List Row) (r : Row). l ++ r ∷ []) a (sym e ∙ y) ∙ sym (take_more ys i [] k)

count_by_first : (i : ℕ) (v : Row) (xs : List Row) (b : Bool) → i < length xs → is_first v (drop i xs) ≡ b → count v (drop i xs) ≡ cond b (suc (count v (drop (i + 1) xs))) (count v (drop (i + 1) xs))
count_by_first i v xs b h t =
    let f : drop i xs ≡ get_or xs i [] ∷ drop (i + 1) xs = front i xs (get_or xs i []) h refl in
    ap (count v) f ∙ ap (λ (b : Bool). cond b (suc (count v (drop (i + 1) xs))) (count v (drop (i + 1) xs))) (sym (ap (is_first v) f) ∙ t)

pub counts : (i : ℕ) (v : Row) (xs : List Row) → i < length xs → is_first v (drop i xs) ≡ true → count v (drop i xs) ≡ suc (count v (drop (i + 1) xs))
counts i v xs h t = count_by_first i v xs true h t

pub passes : (i : ℕ) (v : Row) (xs : List Row) → i < length xs → is_first v (drop i xs) ≡ false → count v (drop i xs) ≡ count v (drop (i + 1) xs)
passes i v xs h t = count_by_first i v xs false h t

-- EACH ROW, OR THOSE OF THE BAGS

both_are : (a b : Bool) → (a && b) ≡ true → (a ≡ true) × (b ≡ true)
both_are true b h = (refl, h)
both_are false b h = absurd (true≢false (sym h))

both_true : {a b : Bool} → a ≡ true → b ≡ true → (a && b) ≡ true
both_true {b = b} h k = ap (λ (x : Bool). x && b) h ∙ k

-- a test that holds of each row of a bag holds of a row that is in it
of_row : (f : Row → Bool) (q : Row) (xs : List Row) → list_all f xs ≡ true → is_in row_cmp q xs ≡ true → f q ≡ true
of_row f q [] a i = absurd (true≢false (sym i))
of_row f q (x ∷ xs) a i =
    by_bool (is_same row_cmp q x)
    (λ t. ap f (same_is row_cmp row_order q x t) ∙ (both_are (f x) (list_all f xs) a).0)
    (λ n. of_row f q xs (both_are (f x) (list_all f xs) a).1 (sym (ap (λ (b : Bool). b || is_in row_cmp q xs) n) ∙ i))

of_all : (f : Row → Bool) (xs : List Row) → ((q : Row) → f q ≡ true) → list_all f xs ≡ true
of_all f [] h = refl
of_all f (x ∷ xs) h = both_true (h x) (of_all f xs h)

-- of the four bags a and b together have the rows of c and d
module _ (a b c d : List Row) where
  abbrev IsEven : Row → Type 0
  IsEven q = count q a + count q b ≡ count q c + count q d

  even_in : (xs : List Row) → list_all (is_balanced a b c d) xs ≡ true → (q : Row) → is_in row_cmp q xs ≡ true → IsEven q
  even_in xs h q i = eqb-true (count q a + count q b) (count q c + count q d) (of_row (is_balanced a b c d) q xs h i)

  even_out : (q : Row) → is_in row_cmp q a ≡ false → is_in row_cmp q b ≡ false → is_in row_cmp q c ≡ false → is_in row_cmp q d ≡ false → IsEven q
  even_out q e f g h =
      omega (arith, copies-out row_cmp row_order q a e, copies-out row_cmp row_order q b f, copies-out row_cmp row_order q c g, copies-out row_cmp row_order q d h)

  are_even : are_balanced a b c d ≡ true → (q : Row) → IsEven q
  are_even h q =
      let in_a = both_are _ _ h in
      let in_b = both_are _ _ in_a.1 in
      let in_c = both_are _ _ in_b.1 in
      by_bool (is_in row_cmp q a) (even_in a in_a.0 q) (λ e.
      by_bool (is_in row_cmp q b) (even_in b in_b.0 q) (λ f.
      by_bool (is_in row_cmp q c) (even_in c in_c.0 q) (λ g.
      by_bool (is_in row_cmp q d) (even_in d in_c.1 q) (even_out q e f g))))

  evens : ((q : Row) → IsEven q) → are_balanced a b c d ≡ true
  evens h =
      let one : (q : Row) → is_balanced a b c d q ≡ true = λ q. eq-eqb (count q a + count q b) (count q c + count q d) (h q) in
      let all : (xs : List Row) → list_all (is_balanced a b c d) xs ≡ true = λ xs. of_all (is_balanced a b c d) xs one in
      both_true (all a) (both_true (all b) (both_true (all c) (all d)))

  one_difference : ((q : Row) → IsEven q) → delta_between d a ≡ delta_between b c
  one_difference h =
      both
      (by_counts (minus a d) (minus c b) (λ q. omega (arith, h q, copies-bag_minus row_cmp row_order q a d, copies-bag_minus row_cmp row_order q c b)))
      (by_counts (minus d a) (minus b c) (λ q. omega (arith, h q, copies-bag_minus row_cmp row_order q d a, copies-bag_minus row_cmp row_order q b c)))

  counts_of : delta_between d a ≡ delta_between b c → (q : Row) → IsEven q
  counts_of e q =
      let came : count q (minus a d) ≡ count q (minus c b) = sym (copies-in_order row_cmp row_order q (minus a d)) ∙ ap (λ (n : PlainDelta). count q n.entered) e ∙ copies-in_order row_cmp row_order q (minus c b) in
      let gone : count q (minus d a) ≡ count q (minus b c) = sym (copies-in_order row_cmp row_order q (minus d a)) ∙ ap (λ (n : PlainDelta). count q n.left) e ∙ copies-in_order row_cmp row_order q (minus b c) in
      omega (arith, came, gone, copies-bag_minus row_cmp row_order q a d, copies-bag_minus row_cmp row_order q c b, copies-bag_minus row_cmp row_order q d a, copies-bag_minus row_cmp row_order q b c)

  pub balanced_between : (are_balanced a b c d ≡ true) ↔ (delta_between d a ≡ delta_between b c)
  balanced_between = ((λ h. one_difference (are_even h)), (λ e. evens (counts_of e)))
