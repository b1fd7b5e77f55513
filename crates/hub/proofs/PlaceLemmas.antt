-- Receipts that rise, and where those of a number stand.
use Rattle.std.proofs.Common.{◌≡◌, ◌≢◌, inl, inr, ℕ, suc, ◌+◌, ◌≤◌, ◌<◌, List, [], ◌∷◌, ◌++◌, Bool, true, false, cond, ◌==◌, nat_le, nat_lt, Option, Some, None, slice_get, length, map, take, drop, set, replicate, get_or, refl, subst, sym, ap, ◌∙◌, arith}
use Rattle.std.proofs.lemmas.Bool.{cases_lt, cond-false, cond-true}
use Rattle.std.proofs.lemmas.Bool.Decides.{nat_tests}
use Rattle.std.proofs.lemmas.List.{append_assoc, drop_more, length-map, length-take-le, map-append, set_at, take_more}
use Rattle.std.proofs.Math.Seq.{get_or-append_seam}
use Rattle.histories.specs.Histories.{Told}
use Rattle.hub.specs.Seats.{PlainSeat, held, receipts_from, times_told, told_at}
use Rattle.hub.specs.Rising.{IsRisingFrom}
use Rattle.hub.proofs.Places.{places_at, told_below}

-- one where the test holds
abbrev pub one_if : Bool → ℕ
one_if b = cond b 1 0

-- ---- receipts that rise

pub rising_lower : (m k : ℕ) (rs : List Told) → k ≤ m → IsRisingFrom m rs → IsRisingFrom k rs
rising_lower m k [] le h = tt
rising_lower m k (r ∷ rs) le h = (omega (arith, le, h.0), h.1)

pub rising_push : (m : ℕ) (rs : List Told) (r : Told) → IsRisingFrom m rs → m ≤ r.number → held rs ≤ r.number → IsRisingFrom m (rs ++ r ∷ [])
rising_push m [] r h le below = (le, tt)
rising_push m (x ∷ rs) r h le below = (h.0, rising_push (x.number + 1) rs r h.1 (omega (arith, below)) (omega (arith, below)))

-- ---- those of a number, where all are of greater ones

none_at : (n m : ℕ) (rs : List Told) → n < m → IsRisingFrom m rs → told_at n rs ≡ 0
none_at n m [] lt h = refl
none_at n m (r ∷ rs) lt h =
    let above : n < r.number = omega (arith, lt, h.0) in
    let other : (r.number == n) ≡ false = grind (arith, nat_tests) in
    let none : one_if (r.number == n) ≡ 0 = cond-false (r.number == n) 1 0 other in
    let rest : told_at n rs ≡ 0 = none_at n (r.number + 1) rs (omega (arith, above)) h.1 in
    omega (arith, none, rest)

none_below : (n m : ℕ) (rs : List Told) → n ≤ m → IsRisingFrom m rs → told_below n rs ≡ 0
none_below n m [] le h = refl
none_below n m (r ∷ rs) le h =
    let above : n ≤ r.number = omega (arith, le, h.0) in
    let other : nat_lt r.number n ≡ false = grind (arith, nat_tests) in
    cond-false (nat_lt r.number n) (suc (told_below n rs)) (told_below n rs) other ∙ none_below n (r.number + 1) rs (omega (arith, above)) h.1

-- ---- receipts from a number on

pub all_from : (n m : ℕ) (rs : List Told) → n ≤ m → IsRisingFrom m rs → receipts_from n rs ≡ rs
all_from n m [] le h = refl
all_from n m (r ∷ rs) le h =
    let above : n ≤ r.number = omega (arith, le, h.0) in
    let is : nat_le n r.number ≡ true = grind (arith, nat_tests) in
    cond-true (nat_le n r.number) (r ∷ receipts_from n rs) (receipts_from n rs) is ∙ ap (λ t. r ∷ t) (all_from n (r.number + 1) rs (omega (arith, above)) h.1)

pub from_passes : (n : ℕ) (r : Told) (rs : List Told) → r.number < n → receipts_from n (r ∷ rs) ≡ receipts_from n rs
from_passes n r rs lt =
    let differs : nat_le n r.number ≡ false = grind (arith, nat_tests) in
    cond-false (nat_le n r.number) (r ∷ receipts_from n rs) (receipts_from n rs) differs

pub from_begins : (n : ℕ) (r : Told) (rs : List Told) → IsRisingFrom 0 (r ∷ rs) → n ≤ r.number → receipts_from n (r ∷ rs) ≡ r ∷ rs
from_begins n r rs h le = all_from n r.number (r ∷ rs) le (omega arith, h.1)

-- and those of a number that is no lower
pub from_same : (n k : ℕ) (rs : List Told) → n ≤ k → told_at k (receipts_from n rs) ≡ told_at k rs
from_same n k [] le = refl
from_same n k (r ∷ rs) le =
    let rest : told_at k (receipts_from n rs) ≡ told_at k rs = from_same n k rs le in
    elim (cases_lt r.number n) [
      | inl a ↦
          let other : (r.number == k) ≡ false = grind (arith, nat_tests) in
          let none : one_if (r.number == k) ≡ 0 = cond-false (r.number == k) 1 0 other in
          ap (told_at k) (from_passes n r rs a) ∙ omega (arith, none, rest)
      | inr b ↦
          let is : nat_le n r.number ≡ true = grind (arith, nat_tests) in
          ap (told_at k) (cond-true (nat_le n r.number) (r ∷ receipts_from n rs) (receipts_from n rs) is) ∙ ap (λ t. one_if (r.number == k) + t) rest
    ]

-- ---- one number more

more_by : (a b e : Bool) (u v w : ℕ) → one_if a ≡ one_if b + one_if e → u ≡ v + w → cond a (suc u) u ≡ cond b (suc v) v + (one_if e + w)
more_by true true true u v w s h = omega (arith, h, s)
more_by true true false u v w s h = omega (arith, h, s)
more_by true false true u v w s h = omega (arith, h, s)
more_by true false false u v w s h = omega (arith, h, s)
more_by false true true u v w s h = omega (arith, h, s)
more_by false true false u v w s h = omega (arith, h, s)
more_by false false true u v w s h = omega (arith, h, s)
more_by false false false u v w s h = omega (arith, h, s)

sums_to : (a b e : Bool) (x y z : Bool) → a ≡ x → b ≡ y → e ≡ z → one_if x ≡ one_if y + one_if z → one_if a ≡ one_if b + one_if e
sums_to a b e x y z p q r h = rw (p, q, r) h

tests_add : (x n : ℕ) → one_if (nat_lt x (n + 1)) ≡ one_if (nat_lt x n) + one_if (x == n)
tests_add x n =
    elim (cases_lt x n) [
      | inl a ↦
          let p : nat_lt x (n + 1) ≡ true = grind (arith, nat_tests) in
          let q : nat_lt x n ≡ true = grind (arith, nat_tests) in
          let r : (x == n) ≡ false = grind (arith, nat_tests) in
          sums_to _ _ _ true true false p q r refl
      | inr b ↦
          elim (cases_lt n x) [
            | inl c ↦
                let p : nat_lt x (n + 1) ≡ false = grind (arith, nat_tests) in
                let q : nat_lt x n ≡ false = grind (arith, nat_tests) in
                let r : (x == n) ≡ false = grind (arith, nat_tests) in
                sums_to _ _ _ false false false p q r refl
            | inr d ↦
                let p : nat_lt x (n + 1) ≡ true = grind (arith, nat_tests) in
                let q : nat_lt x n ≡ false = grind (arith, nat_tests) in
                let r : (x == n) ≡ true = grind (arith, nat_tests) in
                sums_to _ _ _ true false true p q r refl
          ]
    ]

pub told_below_more : (n : ℕ) (rs : List Told) → told_below (n + 1) rs ≡ told_below n rs + told_at n rs
told_below_more n [] = refl
told_below_more n (r ∷ rs) = more_by (nat_lt r.number (n + 1)) (nat_lt r.number n) (r.number == n) (told_below (n + 1) rs) (told_below n rs) (told_at n rs) (tests_add r.number n) (told_below_more n rs)

-- ---- the receipt behind those of lower numbers

abbrev at_place : ℕ → Option Told → ℕ
at_place n None = 0
at_place n (Some r) = one_if (r.number == n)

behind : (b e : Bool) (n : ℕ) (r : Told) (rs : List Told) (t p : ℕ) → b ≡ true → e ≡ false → t ≡ at_place n (slice_get rs p) → one_if e + t ≡ at_place n (slice_get (r ∷ rs) (cond b (suc p) p))
behind b e n r rs t p y z is =
    let none : one_if e + t ≡ t = (let o : one_if e ≡ 0 = cond-false e 1 0 z in omega (arith, o)) in
    none ∙ is ∙ ap (λ k. at_place n (slice_get (r ∷ rs) k)) (sym (cond-true b (suc p) p y))

here : (b : Bool) (n : ℕ) (r : Told) (rs : List Told) (t p : ℕ) → b ≡ false → t ≡ 0 → p ≡ 0 → one_if (r.number == n) + t ≡ at_place n (slice_get (r ∷ rs) (cond b (suc p) p))
here b n r rs t p differs none first =
    let one : one_if (r.number == n) + t ≡ one_if (r.number == n) = omega (arith, none) in
    one ∙ ap (λ k. at_place n (slice_get (r ∷ rs) k)) (sym (cond-false b (suc p) p differs ∙ first))

at_is : (n m : ℕ) (rs : List Told) → IsRisingFrom m rs → told_at n rs ≡ at_place n (slice_get rs (told_below n rs))
at_is n m [] h = refl
at_is n m (r ∷ rs) h =
    elim (cases_lt r.number n) [
      | inl a ↦
          let y : nat_lt r.number n ≡ true = grind (arith, nat_tests) in
          let z : (r.number == n) ≡ false = grind (arith, nat_tests) in
          behind (nat_lt r.number n) (r.number == n) n r rs (told_at n rs) (told_below n rs) y z (at_is n (r.number + 1) rs h.1)
      | inr b ↦
          let y : nat_lt r.number n ≡ false = grind (arith, nat_tests) in
          here (nat_lt r.number n) n r rs (told_at n rs) (told_below n rs) y (none_at n (r.number + 1) rs (omega (arith, b)) h.1) (none_below n (r.number + 1) rs (omega (arith, b)) h.1)
    ]

-- of receipts that rise, where so many are of lower numbers
module _ (n : ℕ) (rs : List Told) (h : IsRisingFrom 0 rs) (p : ℕ) (is : p ≡ told_below n rs) where
  at_p : told_at n rs ≡ at_place n (slice_get rs p)
  at_p = at_is n 0 rs h ∙ ap (λ k. at_place n (slice_get rs k)) (sym is)

  pub past_all : slice_get rs p ≡ None → told_at n rs ≡ 0
  past_all none = at_p ∙ ap (at_place n) none

  pub has_other : (r : Told) → slice_get rs p ≡ Some r → r.number ≢ n → told_at n rs ≡ 0
  has_other r some differs =
      let other : (r.number == n) ≡ false = grind (arith, nat_tests) in
      at_p ∙ ap (at_place n) some ∙ cond-false (r.number == n) 1 0 other

  pub has_it : (r : Told) → slice_get rs p ≡ Some r → r.number ≡ n → told_at n rs ≡ 1
  has_it r some same_number =
      let same : (r.number == n) ≡ true = grind (arith, nat_tests) in
      at_p ∙ ap (at_place n) some ∙ cond-true (r.number == n) 1 0 same

-- ---- places of all seats, passed over one by one

module _ (f g : PlainSeat → ℕ) (seats : List PlainSeat) (places : List ℕ) (i : ℕ) (d : PlainSeat) (lt : i < length seats) (is : places ≡ map f (take i seats) ++ map g (drop i seats)) where
  split_here : places ≡ map f (take i seats) ++ g (get_or seats i d) ∷ map g (drop (i + 1) seats)
  split_here = is ∙ ap (λ xs. map f (take i seats) ++ map g xs) (drop_more seats i d lt)

  passed : length (map f (take i seats)) ≡ i
  passed = length-map (take i seats) f ∙ length-take-le i seats (omega (arith, lt))

  pub place_here : (e : ℕ) → get_or places i e ≡ g (get_or seats i d)
  place_here e =
      ap (λ ps. get_or ps i e) split_here ∙ ap (λ k. get_or (map f (take i seats) ++ g (get_or seats i d) ∷ map g (drop (i + 1) seats)) k e) (sym passed)
      ∙ get_or-append_seam (map f (take i seats)) (g (get_or seats i d)) (map g (drop (i + 1) seats)) e

  one_more : map f (take (i + 1) seats) ++ map g (drop (i + 1) seats) ≡ map f (take i seats) ++ f (get_or seats i d) ∷ map g (drop (i + 1) seats)
  one_more =
      ap (λ xs. map f xs ++ map g (drop (i + 1) seats)) (take_more seats i d lt)
      ∙ ap (λ ys. ys ++ map g (drop (i + 1) seats)) (map-append f (take i seats) (get_or seats i d ∷ []))
      ∙ append_assoc (map f (take i seats)) (f (get_or seats i d) ∷ []) (map g (drop (i + 1) seats))

  pub place_set : (a : ℕ) → a ≡ f (get_or seats i d) → set places i a ≡ map f (take (i + 1) seats) ++ map g (drop (i + 1) seats)
  place_set a at =
      ap (λ x. set places i x) at ∙ ap (λ ps. set ps i (f (get_or seats i d))) split_here
      ∙ set_at (map f (take i seats)) (g (get_or seats i d)) (map g (drop (i + 1) seats)) (f (get_or seats i d)) i passed ∙ sym one_more

times_push : (n : ℕ) (ss : List PlainSeat) (s : PlainSeat) → times_told n (ss ++ s ∷ []) ≡ times_told n ss + told_at n s.receipts
times_push n [] s = omega arith
times_push n (x ∷ ss) s = omega (arith, times_push n ss s)

pub times_more : (n : ℕ) (seats : List PlainSeat) (i : ℕ) (d : PlainSeat) → i < length seats → times_told n (take (i + 1) seats) ≡ times_told n (take i seats) + told_at n (get_or seats i d).receipts
times_more n seats i d lt = ap (times_told n) (take_more seats i d lt) ∙ times_push n (take i seats) (get_or seats i d)

-- at the beginning no place is passed over
pub below_nought : (rs : List Told) → told_below 0 rs ≡ 0
below_nought [] = refl
below_nought (r ∷ rs) =
    let differs : nat_lt r.number 0 ≡ false = grind (arith, nat_tests) in
    cond-false (nat_lt r.number 0) (suc (told_below 0 rs)) (told_below 0 rs) differs ∙ below_nought rs

pub none_passed : (ss : List PlainSeat) → replicate (length ss) 0 ≡ places_at 0 ss
none_passed [] = refl
none_passed (s ∷ ss) =
    let more : replicate (length (s ∷ ss)) 0 ≡ 0 ∷ places_at 0 ss = ap (λ (ts : List ℕ). 0 ∷ ts) (none_passed ss) in
    more ∙ ap (λ (x : ℕ). x ∷ places_at 0 ss) (sym (below_nought s.receipts))

-- ---- the rest of the receipts, one by one

pub rest_begins : (n : ℕ) (rest : List Told) (r : Told) (rs : List Told) → rest ≡ r ∷ rs → IsRisingFrom 0 rest → n ≤ r.number → receipts_from n rest ≡ rest
rest_begins n rest r rs is h le = subst (λ x. receipts_from n x ≡ x) (sym is) (from_begins n r rs (subst (λ x. IsRisingFrom 0 x) is h) le)

pub rest_passes : (n : ℕ) (rest : List Told) (r : Told) (rs : List Told) → rest ≡ r ∷ rs → IsRisingFrom 0 rest → r.number < n → (receipts_from n rest ≡ receipts_from n rs) × IsRisingFrom 0 rs
rest_passes n rest r rs is h lt =
    let both : IsRisingFrom 0 (r ∷ rs) = subst (λ x. IsRisingFrom 0 x) is h in
    (ap (receipts_from n) is ∙ from_passes n r rs lt, rising_lower (r.number + 1) 0 rs (omega arith) both.1)
