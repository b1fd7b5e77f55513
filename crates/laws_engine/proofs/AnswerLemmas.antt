-- The answers of a query lie at the instants that it runs over, and at each there are no more of them than its relation has rows.
use Rattle.std.proofs.Common.{◌≡◌, ℕ, zero, suc, ◌+◌, ◌-◌, ◌*◌, ◌<◌, ◌≤◌, Bool, true, false, cond, nat_le, List, [], ◌∷◌, map, length, flat_map, refl, ap, ◌∙◌, arith, length-append, le_trans}
use Rattle.std.specs.List.{AllByRecursion, range_with_len}
use Rattle.std.proofs.Math.Nat.{suc-mul}
use Rattle.std.proofs.lemmas.List.{length-map}
use Rattle.values.specs.Row.{Row, row_cmp}
use Rattle.values.specs.Bag.{bag_minus, in_order, insert_in_order, is_above, is_same, without}
use Rattle.values.specs.Window.{Element}
use Rattle.values.specs.Answers.{Dstream, Istream, StreamOperator, Resolved, Rstream, answers_at, body, relation, relation_before, shown_at, streamed}
use Rattle.plan.proofs.Lists.{each-append}
use Rattle.reference.specs.Machine.{answers_from}

-- THEIR INSTANTS
at_instant : (n t : ℕ) (rows : List Row) → t < n → AllByRecursion (λ (a : ℕ × Row). a.0 < n) (map (λ (r : Row). (t, r)) rows)
at_instant n t [] h = tt
at_instant n t (r ∷ rows) h = (h, at_instant n t rows h)

over_instants : (q : Resolved) (from : ℕ) (inputs : List (List Element)) (n start len : ℕ) → len ≤ n - start
    → AllByRecursion (λ (a : ℕ × Row). a.0 < n) (flat_map (answers_at q from inputs) (range_with_len start len))
over_instants q from inputs n start zero h = tt
over_instants q from inputs n start (suc len) h =
    each-append (λ (a : ℕ × Row). a.0 < n) (answers_at q from inputs start) (flat_map (answers_at q from inputs) (range_with_len (start + 1) len))
    (at_instant n start (in_order row_cmp (streamed q.operator (relation_before q from inputs start) (relation q from inputs start))) (omega (arith, h)))
    (over_instants q from inputs n (start + 1) len (omega (arith, h)))

-- they lie below the end
pub answers_lie_below : (q : Resolved) (from start until n : ℕ) (inputs : List (List Element)) → until ≤ n → AllByRecursion (λ (a : ℕ × Row). a.0 < n) (answers_from q from start until inputs)
answers_lie_below q from start until n inputs h = over_instants q from inputs n start (until - start) (omega (arith, h))

-- HOW MANY THEY ARE
-- rows put in order are as many
inserted_length : (x : Row) (ys : List Row) → length (insert_in_order row_cmp x ys) ≡ suc (length ys)
inserted_length x [] = refl
inserted_length x (y ∷ ys) = here (is_above row_cmp x y) (inserted_length x ys)
  where
    here : (b : Bool) → length (insert_in_order row_cmp x ys) ≡ suc (length ys) → length (cond b (y ∷ insert_in_order row_cmp x ys) (x ∷ y ∷ ys)) ≡ suc (suc (length ys))
    here true e = ap suc e
    here false e = refl

ordered_length : (xs : List Row) → length (in_order row_cmp xs) ≡ length xs
ordered_length [] = refl
ordered_length (x ∷ xs) = inserted_length x (in_order row_cmp xs) ∙ ap suc (ordered_length xs)

-- a difference of bags has no more than the first
without_fewer : (x : Row) (ys : List Row) → length (without row_cmp x ys) ≤ length ys
without_fewer x [] = omega arith
without_fewer x (y ∷ ys) = here (is_same row_cmp x y) (without_fewer x ys)
  where
    here : (b : Bool) → length (without row_cmp x ys) ≤ length ys → length (cond b ys (y ∷ without row_cmp x ys)) ≤ suc (length ys)
    here true h = omega arith
    here false h = omega (arith, h)

minus_fewer : (xs ys : List Row) → length (bag_minus row_cmp xs ys) ≤ length xs
minus_fewer xs [] = omega arith
minus_fewer xs (y ∷ ys) = le_trans (minus_fewer (without row_cmp y xs) ys) (without_fewer y xs)

streamed_few : (most : ℕ) (op : StreamOperator) (before now : List Row) → length before ≤ most → length now ≤ most → length (streamed op before now) ≤ most
streamed_few most Istream before now h k = le_trans (minus_fewer now before) k
streamed_few most Dstream before now h k = le_trans (minus_fewer before now) h
streamed_few most Rstream before now h k = k

-- where the query's relation never has more rows than `most`
module _ (q : Resolved) (from : ℕ) (inputs : List (List Element)) (most : ℕ) (few : (t : ℕ) → length (body q (shown_at from q.windows t inputs)) ≤ most) where
  relation_few : (t : ℕ) → length (relation q from inputs t) ≤ most
  relation_few t = here (nat_le from t)
    where
      here : (b : Bool) → length (cond b (body q (shown_at from q.windows t inputs)) []) ≤ most
      here true = few t
      here false = omega arith

  before_few : (t : ℕ) → length (relation_before q from inputs t) ≤ most
  before_few zero = omega arith
  before_few (suc t) = relation_few t

  at_few : (t : ℕ) → length (answers_at q from inputs t) ≤ most
  at_few t =
      let before : List Row = relation_before q from inputs t in
      let now : List Row = relation q from inputs t in
      let rows : List Row = in_order row_cmp (streamed q.operator before now) in
      let told : length (answers_at q from inputs t) ≡ length rows = length-map rows _ in
      omega (arith, told, ordered_length (streamed q.operator before now), streamed_few most q.operator before now (before_few t) (relation_few t))

  over_few : (start len : ℕ) → length (flat_map (answers_at q from inputs) (range_with_len start len)) ≤ len * most
  over_few start zero = omega arith
  over_few start (suc len) =
      omega (arith, at_few start, over_few (start + 1) len, suc-mul len most, length-append (answers_at q from inputs start) (flat_map (answers_at q from inputs) (range_with_len (start + 1) len)))

  -- there are so many answers at most
  pub answers_are_few : (start until : ℕ) → length (answers_from q from start until inputs) ≤ (until - start) * most
  answers_are_few start until = over_few start (until - start)
