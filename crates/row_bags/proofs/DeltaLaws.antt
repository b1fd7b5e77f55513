-- The law of one step: what entered and left since a bag stood are the two differences of bags, in order.
use Rattle.std.proofs.Common.{◌≡◌, ℕ, suc, ◌+◌, ◌-◌, ◌<◌, ◌≤◌, Bool, true, false, cond, List, [], ◌∷◌, ap, sym, ◌∙◌, subst, arith}
use Rattle.values.specs.Row.{Row, row_cmp}
use Rattle.values.specs.Bag.{is_same, copies, without, bag_minus, insert_in_order, in_order}
use Rattle.values.proofs.Bags.{same_is, in_order-same, copies-without, copies-bag_minus}
use Rattle.values.proofs.Order.{row_order}
use Rattle.op_queue.specs.Signed.{Same, Adds, Legal}
use Rattle.op_queue.proofs.SignedLemmas.{Same-refl, Same-from_none}
use Rattle.row_bags.specs.Bags.{is_in}
use Rattle.row_bags.specs.Deltas.{PlainDelta, delta_of, delta_between, cancelled, delta_after, deltas_after}
use Rattle.row_bags.proofs.SpreadLemmas.{by_bool}
use Rattle.row_bags.proofs.OrderLemmas.{copies-same, is_in-in_order, out-in_order, without-in_order}
use Rattle.row_bags.proofs.BagLaws.{adds-entered, legal-entered, there, adds-left, legal-left}

abbrev minus : List Row → List Row → List Row
minus = bag_minus row_cmp

abbrev count : Row → List Row → ℕ
count = copies row_cmp

-- lists in order are one where their counts are
pub by_counts : (xs ys : List Row) → ((q : Row) → count q xs ≡ count q ys) → in_order row_cmp xs ≡ in_order row_cmp ys
by_counts = in_order-same row_cmp row_order

-- the count of a row that is r, or of one that is not
count_more : (q r : Row) (xs : List Row) → count q (r ∷ xs) ≡ cond (is_same row_cmp q r) 1 0 + count q xs
count_more q r xs = here (is_same row_cmp q r)
  where
    here : (b : Bool) → cond b (suc (count q xs)) (count q xs) ≡ cond b 1 0 + count q xs
    here true = omega arith
    here false = omega arith

-- a fact of a count holds at each row, where it holds at r with one more and at any other with none
at_each : (r : Row) (P : Row → ℕ → Type 0) → P r 1 → ((q : Row) → P q 0) → (q : Row) → P q (cond (is_same row_cmp q r) 1 0)
at_each r P one none q =
    by_bool (is_same row_cmp q r)
    (λ t. let e : q ≡ r = same_is row_cmp row_order q r t in subst (λ n. P q n) (sym (ap {B = ℕ} (λ b. cond b 1 0) t)) (subst (λ x. P x 1) (sym e) one))
    (λ f. subst (λ n. P q n) (sym (ap {B = ℕ} (λ b. cond b 1 0) f)) (none q))

pub both : {a b c d : List Row} → a ≡ c → b ≡ d → delta_of a b ≡ delta_of c d
both {b = b} {c = c} e f = ap (λ x. delta_of x b) e ∙ ap (delta_of c) f

-- a row comes to one bag, which the other has more often, or not: xs is the bag that it comes to
module _ (r : Row) (xs ys : List Row) where
  abbrev n : Row → ℕ
  n q = cond (is_same row_cmp q r) 1 0

  comes_back : count r xs < count r ys → in_order row_cmp (minus xs ys) ≡ in_order row_cmp (minus (r ∷ xs) ys)
  comes_back h =
      by_counts (minus xs ys) (minus (r ∷ xs) ys) (λ q.
      let e : count q xs - count q ys ≡ (n q + count q xs) - count q ys = at_each r (λ x m. count x xs - count x ys ≡ (m + count x xs) - count x ys) (omega (arith, h)) (λ x. omega arith) q in
      copies-bag_minus row_cmp row_order q xs ys ∙ e ∙ ap (λ m. m - count q ys) (sym (count_more q r xs)) ∙ sym (copies-bag_minus row_cmp row_order q (r ∷ xs) ys))

  comes_back_less : in_order row_cmp (without row_cmp r (minus ys xs)) ≡ in_order row_cmp (minus ys (r ∷ xs))
  comes_back_less =
      by_counts (without row_cmp r (minus ys xs)) (minus ys (r ∷ xs)) (λ q.
      let e : (count q ys - count q xs) - n q ≡ count q ys - (n q + count q xs) = omega arith in
      copies-without row_cmp row_order q r (minus ys xs) ∙ ap (λ m. m - n q) (copies-bag_minus row_cmp row_order q ys xs) ∙ e ∙ ap (λ m. count q ys - m) (sym (count_more q r xs)) ∙ sym (copies-bag_minus row_cmp row_order q ys (r ∷ xs)))

  comes_more : count r ys ≤ count r xs → in_order row_cmp (r ∷ minus xs ys) ≡ in_order row_cmp (minus (r ∷ xs) ys)
  comes_more h =
      by_counts (r ∷ minus xs ys) (minus (r ∷ xs) ys) (λ q.
      let e : n q + (count q xs - count q ys) ≡ (n q + count q xs) - count q ys = at_each r (λ x m. m + (count x xs - count x ys) ≡ (m + count x xs) - count x ys) (omega (arith, h)) (λ x. omega arith) q in
      count_more q r (minus xs ys) ∙ ap (λ m. n q + m) (copies-bag_minus row_cmp row_order q xs ys) ∙ e ∙ ap (λ m. m - count q ys) (sym (count_more q r xs)) ∙ sym (copies-bag_minus row_cmp row_order q (r ∷ xs) ys))

  comes_rest : count r ys ≤ count r xs → in_order row_cmp (minus ys xs) ≡ in_order row_cmp (minus ys (r ∷ xs))
  comes_rest h =
      by_counts (minus ys xs) (minus ys (r ∷ xs)) (λ q.
      let e : count q ys - count q xs ≡ count q ys - (n q + count q xs) = at_each r (λ x m. count x ys - count x xs ≡ count x ys - (m + count x xs)) (omega (arith, h)) (λ x. omega arith) q in
      copies-bag_minus row_cmp row_order q ys xs ∙ e ∙ ap (λ m. count q ys - m) (sym (count_more q r xs)) ∙ sym (copies-bag_minus row_cmp row_order q ys (r ∷ xs)))

-- the row is cancelled against ys less xs, or comes to xs less ys
pub cancels : (r : Row) (xs ys : List Row) → cancelled (in_order row_cmp (minus ys xs)) (in_order row_cmp (minus xs ys)) r ≡ (in_order row_cmp (minus ys (r ∷ xs)), in_order row_cmp (minus (r ∷ xs) ys))
cancels r xs ys = by_bool (is_in row_cmp r gone) (λ t. ap shape t ∙ in_both t) (λ f. ap shape f ∙ out_of f)
  where
    gone : List Row
    gone = in_order row_cmp (minus ys xs)

    came : List Row
    came = in_order row_cmp (minus xs ys)

    shape : Bool → List Row × List Row
    shape b = cond b (without row_cmp r gone, came) (gone, insert_in_order row_cmp r came)

    pair_of : List Row → List Row → List Row × List Row
    pair_of a b = (a, b)

    in_both : is_in row_cmp r gone ≡ true → pair_of (without row_cmp r gone) came ≡ pair_of (in_order row_cmp (minus ys (r ∷ xs))) (in_order row_cmp (minus (r ∷ xs) ys))
    in_both t =
        let h : 0 < count r ys - count r xs = omega (arith, is_in-in_order row_cmp row_order r (minus ys xs) t, copies-bag_minus row_cmp row_order r ys xs) in
        ap (λ a. pair_of a came) (without-in_order row_cmp row_order r (minus ys xs) ∙ comes_back_less r xs ys) ∙ ap (pair_of (in_order row_cmp (minus ys (r ∷ xs)))) (comes_back r xs ys (omega (arith, h)))

    out_of : is_in row_cmp r gone ≡ false → pair_of gone (insert_in_order row_cmp r came) ≡ pair_of (in_order row_cmp (minus ys (r ∷ xs))) (in_order row_cmp (minus (r ∷ xs) ys))
    out_of f =
        let h : count r ys - count r xs ≡ 0 = sym (copies-bag_minus row_cmp row_order r ys xs) ∙ out-in_order row_cmp row_order r (minus ys xs) f in
        ap (λ a. pair_of a (insert_in_order row_cmp r came)) (comes_rest r xs ys (omega (arith, h))) ∙ ap (pair_of (in_order row_cmp (minus ys (r ∷ xs)))) (comes_more r xs ys (omega (arith, h)))

-- a row enters
pub delta-entered : (r : Row) (before now : List Row) → delta_after (delta_between before now) (true, r) ≡ delta_between before (r ∷ now)
delta-entered r before now = ap (λ (p : List Row × List Row). delta_of p.1 p.0) (cancels r now before)

-- a row leaves that was there
pub delta-left : (r : Row) (before now : List Row) → 0 < count r now → delta_after (delta_between before now) (false, r) ≡ delta_between before (without row_cmp r now)
delta-left r before now h =
    ap (λ (p : List Row × List Row). delta_of p.0 p.1) (cancels r before now)
    ∙ both
    (by_counts (minus now (r ∷ before)) (minus (without row_cmp r now) before) (λ q.
    let e : count q now - (m q + count q before) ≡ (count q now - m q) - count q before = omega arith in
    copies-bag_minus row_cmp row_order q now (r ∷ before) ∙ ap (λ k. count q now - k) (count_more q r before) ∙ e ∙ ap (λ k. k - count q before) (sym (copies-without row_cmp row_order q r now)) ∙ sym (copies-bag_minus row_cmp row_order q (without row_cmp r now) before)))
    (by_counts (minus (r ∷ before) now) (minus before (without row_cmp r now)) (λ q.
    let e : (m q + count q before) - count q now ≡ count q before - (count q now - m q) = at_each r (λ x k. (k + count x before) - count x now ≡ count x before - (count x now - k)) (omega (arith, h)) (λ x. omega arith) q in
    copies-bag_minus row_cmp row_order q (r ∷ before) now ∙ ap (λ k. k - count q now) (count_more q r before) ∙ e ∙ ap (λ k. count q before - k) (sym (copies-without row_cmp row_order q r now)) ∙ sym (copies-bag_minus row_cmp row_order q before (without row_cmp r now))))
  where
    m : Row → ℕ
    m q = cond (is_same row_cmp q r) 1 0

-- THE LAW

pub delta_between-same : {before b now n : List Row} → Same before b → Same now n → delta_between before now ≡ delta_between b n
delta_between-same {before = before} {b = b} {now = now} {n = n} h k =
    both
    (by_counts (minus now before) (minus n b) (λ q. copies-bag_minus row_cmp row_order q now before ∙ ap (λ i. i - count q before) (copies-same row_cmp row_order now n k q) ∙ ap (λ i. count q n - i) (copies-same row_cmp row_order before b h q) ∙ sym (copies-bag_minus row_cmp row_order q n b)))
    (by_counts (minus before now) (minus b n) (λ q. copies-bag_minus row_cmp row_order q before now ∙ ap (λ i. i - count q now) (copies-same row_cmp row_order before b h q) ∙ ap (λ i. count q b - i) (copies-same row_cmp row_order now n k q) ∙ sym (copies-bag_minus row_cmp row_order q b n)))

-- nothing between a bag and itself
pub delta_between-none : (b : List Row) → delta_between b b ≡ delta_of [] []
delta_between-none b = both (nothing b) (nothing b)
  where
    nothing : (xs : List Row) → in_order row_cmp (minus xs xs) ≡ []
    nothing xs = by_counts (minus xs xs) [] (λ q. copies-bag_minus row_cmp row_order q xs xs ∙ omega arith)

pub deltas-between : (ss : List (Bool × Row)) (before now next : List Row) → Legal now ss → Adds now ss next → deltas_after (delta_between before now) ss ≡ delta_between before next
deltas-between [] before now next l a = delta_between-same (Same-refl before) (Same-from_none a)
deltas-between ((true, r) ∷ ss) before now next l a =
    ap (λ (n : PlainDelta). deltas_after n ss) (delta-entered r before now) ∙ deltas-between ss before (r ∷ now) next (legal-entered r ss l) (adds-entered r ss a)
deltas-between ((false, r) ∷ ss) before now next l a =
    let h : 0 < count r now = there r ss l in
    ap (λ (n : PlainDelta). deltas_after n ss) (delta-left r before now h) ∙ deltas-between ss before (without row_cmp r now) next (legal-left r ss h l) (adds-left r ss h a)
