use Rattle.std.proofs.Common.{ℕ, ℤ, Bool, true, false, List, [], ◌∷◌, ◌++◌, ◌≡◌, ◌<◌, ◌≤◌, ◌*◌, ◌+◌, ◌-◌, ◌%◌, ◌^◌, cond, length, map, refl, sym, ◌∙◌, ap, arith, to_z, of_z, nat_eq, nat_lt, nat_le, not, pos, negsuc, zero, suc, inl, inr, lit<}
use Rattle.std.specs.Simd.Lanes.{mask_l, zip2, Each1, top}
use Rattle.std.specs.Int.Signed.{lt_z, le_z}
use Rattle.std.specs.Ordering.{int_eq}
use Rattle.std.proofs.lemmas.Simd.{tops_compared, mask_l-mod, length-zip2}
use Rattle.std.proofs.lemmas.Int.{to_z-of_z}
use Rattle.std.proofs.lemmas.Bool.Decides.{same_from_decides, Decides-eqb, Decides-int_eq}
use Rattle.std.proofs.lemmas.Simd.{mask_l-lt, chunk-drop, length-chunk, Each1-chunk, Each1-replicate, Each1-get_or, zip2_splat, get_or-zip2}
use Rattle.std.proofs.lemmas.List.{length-map, length-drop, map-append, drop_more}
use Rattle.std.specs.Bool.{Decides}
use Rattle.std.specs.Simd.Lanes.{chunk}
use Rattle.std.proofs.Math.ListN.{drop, take, get_or, replicate}
use Rattle.std.proofs.Math.Nat.{pow-le-pow_right, pow-succ', mul_assoc}
use Rattle.std.specs.Ordering.{int_cmp, is_eq, is_ne, is_lt, is_le, is_gt, is_ge}
use Rattle.std.specs.declared.cmp.Ordering.{Ordering}
use Rattle.std.specs.declared.cmp.Ordering.TheVariants.{Less, Equal, Greater}
use Rattle.std.proofs.lemmas.Bool.Decides.{nat_tests}
use Rattle.std.proofs.lemmas.Bool.{cases_lt}
use Rattle.values.specs.declared.resolved.Compare.TheVariants.{Differs, Below, AtMost, Above, AtLeast}
use Rattle.lane_kernels.specs.Lanes.{IsEight, test_of}
use mir.Val.{bool_byte, SFits, hbits, bits}
use mir.Syntax.{w64}

-- a test of numbers as it is made on their bits
pub record AgreesOnBits (f : ℕ → ℕ → Bool) (t : ℤ → ℤ → Bool) : Type 0 where
  pub agrees : (x y : ℤ) → SFits w64 x → SFits w64 y → f (of_z w64 x) (of_z w64 y) ≡ t x y

zip2_bits : (f : ℕ → ℕ → Bool) (t : ℤ → ℤ → Bool) → AgreesOnBits f t → (xs ys : List ℤ) → Each1 (SFits w64) xs → Each1 (SFits w64) ys → zip2 f (map (of_z w64) xs) (map (of_z w64) ys) ≡ zip2 t xs ys
zip2_bits f t a [] ys p q = refl
zip2_bits f t a (x ∷ xs) [] p q = refl
zip2_bits f t a (x ∷ xs) (y ∷ ys) p q = rw (a.agrees x y p.0 q.0) (ap (λ l. t x y ∷ l) (zip2_bits f t a xs ys p.1 q.1))

-- the mask of eight comparisons, as a vector makes it
pub mask_bits : (f : ℕ → ℕ → Bool) (t : ℤ → ℤ → Bool) → AgreesOnBits f t → (xs ys : List ℤ) → IsEight xs → IsEight ys
    → mask_l (map (top (hbits w64)) (zip2 (λ a b. cond (f a b) (2 ^ bits w64 - 1) 0) (map (of_z w64) xs) (map (of_z w64) ys))) % 2 ^ 64 ≡ mask_l (zip2 t xs ys)
mask_bits f t a xs ys p q =
    let e : map (top (hbits w64)) (zip2 (λ a b. cond (f a b) (2 ^ bits w64 - 1) 0) (map (of_z w64) xs) (map (of_z w64) ys)) ≡ zip2 t xs ys =
    tops_compared w64 f (map (of_z w64) xs) (map (of_z w64) ys) ∙ zip2_bits f t a xs ys p.fit q.fit in
    let n : length (zip2 t xs ys) ≡ 8 = length-zip2 t xs ys (p.eight ∙ sym q.eight) ∙ p.eight in
    rw e (mask_l-mod (zip2 t xs ys) 64 (omega arith))

pub less_bits : AgreesOnBits (λ a b. lt_z (to_z w64 a) (to_z w64 b)) lt_z
less_bits = record { agrees = λ x y p q. rw (to_z-of_z w64 x p, to_z-of_z w64 y q) refl }

equal_of_bits : (x y : ℤ) → SFits w64 x → SFits w64 y → Decides (nat_eq (of_z w64 x) (of_z w64 y)) (x ≡ y)
equal_of_bits x y p q =
    let d = Decides-eqb (of_z w64 x) (of_z w64 y) in
    (λ t. sym (to_z-of_z w64 x p) ∙ ap (to_z w64) (d.0 t) ∙ to_z-of_z w64 y q, λ e. d.1 (ap (of_z w64) e))

pub equal_bits : AgreesOnBits nat_eq int_eq
equal_bits = record { agrees = λ x y p q. same_from_decides _ _ (equal_of_bits x y p q) (Decides-int_eq x y) }

pub not_equal_bits : AgreesOnBits (λ a b. not (nat_eq a b)) (λ x y. not (int_eq x y))
not_equal_bits = record { agrees = λ x y p q. ap not (equal_bits.agrees x y p q) }

pub less_or_equal_bits : AgreesOnBits (λ a b. le_z (to_z w64 a) (to_z w64 b)) le_z
less_or_equal_bits = record { agrees = λ x y p q. rw (to_z-of_z w64 x p, to_z-of_z w64 y q) refl }

flipped_zip2 : (t : ℤ → ℤ → Bool) (xs ys : List ℤ) → zip2 t ys xs ≡ zip2 (λ x y. t y x) xs ys
flipped_zip2 t [] [] = refl
flipped_zip2 t [] (y ∷ ys) = refl
flipped_zip2 t (x ∷ xs) [] = refl
flipped_zip2 t (x ∷ xs) (y ∷ ys) = ap (λ l. t y x ∷ l) (flipped_zip2 t xs ys)

pub flipped : (t : ℤ → ℤ → Bool) (xs ys : List ℤ) → mask_l (zip2 t ys xs) ≡ mask_l (zip2 (λ x y. t y x) xs ys)
flipped t xs ys = ap mask_l (flipped_zip2 t xs ys)

-- ---- the six tests by the order of two numbers
abbrev ranked : Bool → Bool → Ordering
ranked below above = cond below Less (cond above Greater Equal)

low_nat : (a b : ℕ) → nat_lt a b ≡ is_lt (ranked (nat_lt a b) (nat_lt b a))
low_nat a b = elim (nat_lt a b) as (λ t. t ≡ is_lt (ranked t (nat_lt b a))) [ true ↦ refl | false ↦ elim (nat_lt b a) as (λ t. false ≡ is_lt (ranked false t)) [ true ↦ refl | false ↦ refl ] ]

high_nat : (a b : ℕ) → nat_lt b a ≡ is_gt (ranked (nat_lt a b) (nat_lt b a))
high_nat a b = elim (cases_lt a b) [
  | inl h ↦ let x : nat_lt a b ≡ true = grind (arith, nat_tests) in let y : nat_lt b a ≡ false = grind (arith, nat_tests) in y ∙ sym (λ t. is_gt (ranked (x t) (y t)))
  | inr h ↦ let x : nat_lt a b ≡ false = grind (arith, nat_tests) in
      elim (nat_lt b a) as (λ t. t ≡ is_gt (ranked (nat_lt a b) t)) [ true ↦ sym (ap (λ t. is_gt (ranked t true)) x) | false ↦ sym (ap (λ t. is_gt (ranked t false)) x) ]
]

low_or_same_nat : (a b : ℕ) → nat_le a b ≡ is_le (ranked (nat_lt a b) (nat_lt b a))
low_or_same_nat a b = elim (cases_lt b a) [
  | inl h ↦ let x : nat_lt a b ≡ false = grind (arith, nat_tests) in let y : nat_lt b a ≡ true = grind (arith, nat_tests) in let z : nat_le a b ≡ false = grind (arith, nat_tests) in z ∙ sym (λ t. is_le (ranked (x t) (y t)))
  | inr h ↦ let y : nat_lt b a ≡ false = grind (arith, nat_tests) in let z : nat_le a b ≡ true = grind (arith, nat_tests) in
      z ∙ elim (nat_lt a b) as (λ t. true ≡ is_le (ranked t (nat_lt b a))) [ true ↦ refl | false ↦ sym (ap (λ t. is_le (ranked false t)) y) ]
]

high_or_same_nat : (a b : ℕ) → nat_le b a ≡ is_ge (ranked (nat_lt a b) (nat_lt b a))
high_or_same_nat a b = elim (cases_lt a b) [
  | inl h ↦ let x : nat_lt a b ≡ true = grind (arith, nat_tests) in let z : nat_le b a ≡ false = grind (arith, nat_tests) in z ∙ sym (ap (λ t. is_ge (ranked t (nat_lt b a))) x)
  | inr h ↦ let x : nat_lt a b ≡ false = grind (arith, nat_tests) in let z : nat_le b a ≡ true = grind (arith, nat_tests) in
      z ∙ elim (nat_lt b a) as (λ t. true ≡ is_ge (ranked (nat_lt a b) t)) [ true ↦ sym (ap (λ t. is_ge (ranked t true)) x) | false ↦ sym (ap (λ t. is_ge (ranked t false)) x) ]
]

pub differs_is : (x y : ℤ) → not (int_eq x y) ≡ test_of Differs x y
differs_is x y = elim (int_cmp x y) as (λ o. not (is_eq o) ≡ is_ne o) [ Less ↦ refl | Equal ↦ refl | Greater ↦ refl ]

pub below_is : (x y : ℤ) → lt_z x y ≡ test_of Below x y
below_is (pos a) (pos b) = low_nat a b
below_is (pos a) (negsuc b) = refl
below_is (negsuc a) (pos b) = refl
below_is (negsuc a) (negsuc b) = low_nat b a

pub at_most_is : (x y : ℤ) → le_z x y ≡ test_of AtMost x y
at_most_is (pos a) (pos b) = low_or_same_nat a b
at_most_is (pos a) (negsuc b) = refl
at_most_is (negsuc a) (pos b) = refl
at_most_is (negsuc a) (negsuc b) = low_or_same_nat b a

pub above_is : (x y : ℤ) → lt_z y x ≡ test_of Above x y
above_is (pos a) (pos b) = high_nat a b
above_is (pos a) (negsuc b) = refl
above_is (negsuc a) (pos b) = refl
above_is (negsuc a) (negsuc b) = high_nat b a

pub at_least_is : (x y : ℤ) → le_z y x ≡ test_of AtLeast x y
at_least_is (pos a) (pos b) = high_or_same_nat a b
at_least_is (pos a) (negsuc b) = refl
at_least_is (negsuc a) (pos b) = refl
at_least_is (negsuc a) (negsuc b) = high_or_same_nat b a

pub mask_by : (t u : ℤ → ℤ → Bool) (xs ys : List ℤ) → ((x y : ℤ) → t x y ≡ u x y) → mask_l (zip2 t xs ys) ≡ mask_l (zip2 u xs ys)
mask_by t u xs ys e = ap (λ f. mask_l (zip2 f xs ys)) (λ i x y. e x y i)

-- ---- a word built from its last places on
pub mask_l-append : (xs ys : List Bool) → mask_l (xs ++ ys) ≡ mask_l xs + 2 ^ length xs * mask_l ys
mask_l-append [] ys = omega arith
mask_l-append (x ∷ xs) ys =
    let e : 2 ^ suc (length xs) * mask_l ys ≡ 2 * (2 ^ length xs * mask_l ys) = ap (λ k. k * mask_l ys) (pow-succ' 2 (length xs)) ∙ mul_assoc 2 (2 ^ length xs) (mask_l ys) in
    rw (mask_l-append xs ys) (omega (arith, e))

pub mask_room : (t : ℤ → Bool) (xs : List ℤ) (at k : ℕ) → length xs ≤ at + k → mask_l (map t (drop at xs)) < 2 ^ k
mask_room t xs at k h =
    let b : mask_l (map t (drop at xs)) < 2 ^ length (map t (drop at xs)) = mask_l-lt (map t (drop at xs)) in
    let n : length (map t (drop at xs)) ≤ k = omega (arith, length-map (drop at xs) t, length-drop at xs) in
    omega (arith, pow-le-pow_right {n = 2} (lit< tt) n)

-- the numbers of a load, passed as the lanes of a vector
pub back : (xs : List ℤ) → Each1 (SFits w64) xs → map (to_z w64) (map (of_z w64) xs) ≡ xs
back [] p = refl
back (x ∷ xs) p = rw (to_z-of_z w64 x p.0) (ap (λ l. x ∷ l) (back xs p.1))

pub IsEight-load : (xs : List ℤ) (at : ℕ) → at + 8 ≤ length xs → Each1 (SFits w64) xs → IsEight (map (to_z w64) (map (of_z w64) (chunk at 8 xs)))
IsEight-load xs at h p =
    let q : Each1 (SFits w64) (chunk at 8 xs) = Each1-chunk (SFits w64) at 8 xs p in
    rw (back (chunk at 8 xs) q) (record { eight = length-chunk at 8 xs h; fit = q })

pub IsEight-splat : (c : ℤ) → SFits w64 c → IsEight (map (to_z w64) (map (of_z w64) (replicate 8 c)))
IsEight-splat c p = rw (to_z-of_z w64 c p) (record { eight = refl; fit = Each1-replicate (SFits w64) 8 c p })

bit_step : (b : Bool) (n : ℕ) → n * 2 + bool_byte b ≡ cond b 1 0 + 2 * n
bit_step true n = omega arith
bit_step false n = omega arith

pub one_step : (t : ℤ → Bool) (xs : List ℤ) (at word : ℕ) (b : Bool) → 0 < at → at ≤ length xs → word ≡ mask_l (map t (drop at xs)) → b ≡ t (get_or xs (at - 1) (pos 0)) → word * 2 + bool_byte b ≡ mask_l (map t (drop (at - 1) xs))
one_step t xs at word b low high w e =
    let k : at - 1 + 1 ≡ at = omega arith in
    let d : drop (at - 1) xs ≡ get_or xs (at - 1) (pos 0) ∷ drop at xs = drop_more xs (at - 1) (pos 0) (omega arith) ∙ ap (λ n. get_or xs (at - 1) (pos 0) ∷ drop n xs) k in
    ap (λ n. n * 2 + bool_byte b) w ∙ ap (λ v. mask_l (map t (drop at xs)) * 2 + bool_byte v) e ∙ bit_step _ _ ∙ sym (ap (λ l. mask_l (map t l)) d)

pub eight_step : (t : ℤ → Bool) (xs : List ℤ) (at word r : ℕ) → 8 ≤ at → at ≤ length xs → word ≡ mask_l (map t (drop at xs)) → r ≡ mask_l (map t (chunk (at - 8) 8 xs)) → word * 256 + r ≡ mask_l (map t (drop (at - 8) xs))
eight_step t xs at word r low high w e =
    let k : at - 8 + 8 ≡ at = omega arith in
    let d : drop (at - 8) xs ≡ chunk (at - 8) 8 xs ++ drop at xs = chunk-drop (at - 8) 8 xs ∙ ap (λ n. chunk (at - 8) 8 xs ++ drop n xs) k in
    let n : length (map t (chunk (at - 8) 8 xs)) ≡ 8 = length-map (chunk (at - 8) 8 xs) t ∙ length-chunk (at - 8) 8 xs (omega arith) in
    let m : mask_l (map t (drop (at - 8) xs)) ≡ mask_l (map t (chunk (at - 8) 8 xs)) + 2 ^ 8 * mask_l (map t (drop at xs)) =
    ap (λ l. mask_l (map t l)) d ∙ ap mask_l (map-append t (chunk (at - 8) 8 xs) (drop at xs)) ∙ mask_l-append _ _ ∙ ap (λ i. mask_l (map t (chunk (at - 8) 8 xs)) + 2 ^ i * mask_l (map t (drop at xs))) n in
    omega (arith, m, w, e)

-- what the eight comparisons of a load with one number give
pub eight_const : (t : ℤ → ℤ → Bool) (xs : List ℤ) (c : ℤ) (at r : ℕ) → at + 8 ≤ length xs → Each1 (SFits w64) xs
    → r ≡ mask_l (zip2 t (map (to_z w64) (map (of_z w64) (chunk at 8 xs))) (replicate 8 c)) → r ≡ mask_l (map (λ x. t x c) (chunk at 8 xs))
eight_const t xs c at r h p e =
    e ∙ ap (λ l. mask_l (zip2 t l (replicate 8 c))) (back (chunk at 8 xs) (Each1-chunk (SFits w64) at 8 xs p))
    ∙ ap mask_l (zip2_splat t (chunk at 8 xs) 8 c (length-chunk at 8 xs h))

pub word_room : (t : ℤ → Bool) (xs : List ℤ) (at word k : ℕ) → word ≡ mask_l (map t (drop at xs)) → length xs ≤ at + k → word < 2 ^ k
word_room t xs at word k e h = rw e (mask_room t xs at k h)

pub one_const : (t : ℤ → ℤ → Bool) (xs : List ℤ) (c : ℤ) (i : ℕ) (b : Bool) → i < length xs → Each1 (SFits w64) xs
    → b ≡ t (to_z w64 (of_z w64 (get_or xs i (pos 0)))) c → b ≡ t (get_or xs i (pos 0)) c
one_const t xs c i b h p e = e ∙ ap (λ x. t x c) (to_z-of_z w64 (get_or xs i (pos 0)) (Each1-get_or (SFits w64) xs i (pos 0) h p))

pub word_ends : (t : ℤ → ℤ → Bool) (xs : List ℤ) (c : ℤ) (at word : ℕ) → SFits w64 c → at ≡ 0 → word ≡ mask_l (map (λ x. t x (to_z w64 (of_z w64 c))) (drop at xs)) → word ≡ mask_l (map (λ x. t x c) xs)
word_ends t xs c at word p z e =
    e ∙ ap (λ n. mask_l (map (λ x. t x (to_z w64 (of_z w64 c))) (drop n xs))) z ∙ ap (λ d. mask_l (map (λ x. t x d) xs)) (to_z-of_z w64 c p)

-- ---- pairs, as one list of results
zip2-nil : (t : ℤ → ℤ → Bool) (xs : List ℤ) → zip2 t xs [] ≡ []
zip2-nil t [] = refl
zip2-nil t (x ∷ xs) = refl

pub drop-zip2 : (t : ℤ → ℤ → Bool) (n : ℕ) (xs ys : List ℤ) → zip2 t (drop n xs) (drop n ys) ≡ drop n (zip2 t xs ys)
drop-zip2 t zero xs ys = refl
drop-zip2 t (suc n) [] ys = refl
drop-zip2 t (suc n) (x ∷ xs) [] = zip2-nil t (drop n xs)
drop-zip2 t (suc n) (x ∷ xs) (y ∷ ys) = drop-zip2 t n xs ys

pub take-zip2 : (t : ℤ → ℤ → Bool) (n : ℕ) (xs ys : List ℤ) → zip2 t (take n xs) (take n ys) ≡ take n (zip2 t xs ys)
take-zip2 t zero xs ys = refl
take-zip2 t (suc n) [] ys = refl
take-zip2 t (suc n) (x ∷ xs) [] = refl
take-zip2 t (suc n) (x ∷ xs) (y ∷ ys) = ap (λ l. t x y ∷ l) (take-zip2 t n xs ys)

pub chunk-zip2 : (t : ℤ → ℤ → Bool) (i n : ℕ) (xs ys : List ℤ) → zip2 t (chunk i n xs) (chunk i n ys) ≡ chunk i n (zip2 t xs ys)
chunk-zip2 t i n xs ys = take-zip2 t n (drop i xs) (drop i ys) ∙ ap (take n) (drop-zip2 t i xs ys)

pub pair_one : (bs : List Bool) (at word : ℕ) (b : Bool) → 0 < at → at ≤ length bs → word ≡ mask_l (drop at bs) → b ≡ get_or bs (at - 1) false → word * 2 + bool_byte b ≡ mask_l (drop (at - 1) bs)
pair_one bs at word b low high w e =
    let k : at - 1 + 1 ≡ at = omega arith in
    let d : drop (at - 1) bs ≡ get_or bs (at - 1) false ∷ drop at bs = drop_more bs (at - 1) false (omega arith) ∙ ap (λ n. get_or bs (at - 1) false ∷ drop n bs) k in
    ap (λ n. n * 2 + bool_byte b) w ∙ ap (λ v. mask_l (drop at bs) * 2 + bool_byte v) e ∙ bit_step _ _ ∙ sym (ap mask_l d)

pub pair_eight : (bs : List Bool) (at word r : ℕ) → 8 ≤ at → at ≤ length bs → word ≡ mask_l (drop at bs) → r ≡ mask_l (chunk (at - 8) 8 bs) → word * 256 + r ≡ mask_l (drop (at - 8) bs)
pair_eight bs at word r low high w e =
    let k : at - 8 + 8 ≡ at = omega arith in
    let d : drop (at - 8) bs ≡ chunk (at - 8) 8 bs ++ drop at bs = chunk-drop (at - 8) 8 bs ∙ ap (λ n. chunk (at - 8) 8 bs ++ drop n bs) k in
    let n : length (chunk (at - 8) 8 bs) ≡ 8 = length-chunk (at - 8) 8 bs (omega arith) in
    let m : mask_l (drop (at - 8) bs) ≡ mask_l (chunk (at - 8) 8 bs) + 2 ^ 8 * mask_l (drop at bs) =
    ap mask_l d ∙ mask_l-append _ _ ∙ ap (λ i. mask_l (chunk (at - 8) 8 bs) + 2 ^ i * mask_l (drop at bs)) n in
    omega (arith, m, w, e)

pub pair_room : (bs : List Bool) (at word k : ℕ) → word ≡ mask_l (drop at bs) → length bs ≤ at + k → word < 2 ^ k
pair_room bs at word k e h =
    let l : mask_l (drop at bs) < 2 ^ length (drop at bs) = mask_l-lt (drop at bs) in
    let n : length (drop at bs) ≤ k = omega (arith, length-drop at bs) in
    rw e (omega (arith, l, pow-le-pow_right {n = 2} (lit< tt) n))

pub eight_pairs : (t : ℤ → ℤ → Bool) (xs ys : List ℤ) (at r : ℕ) → Each1 (SFits w64) xs → Each1 (SFits w64) ys
    → r ≡ mask_l (zip2 t (map (to_z w64) (map (of_z w64) (chunk at 8 xs))) (map (to_z w64) (map (of_z w64) (chunk at 8 ys)))) → r ≡ mask_l (chunk at 8 (zip2 t xs ys))
eight_pairs t xs ys at r p q e =
    e ∙ ap (λ l. mask_l (zip2 t l (map (to_z w64) (map (of_z w64) (chunk at 8 ys))))) (back (chunk at 8 xs) (Each1-chunk (SFits w64) at 8 xs p))
    ∙ ap (λ l. mask_l (zip2 t (chunk at 8 xs) l)) (back (chunk at 8 ys) (Each1-chunk (SFits w64) at 8 ys q)) ∙ ap mask_l (chunk-zip2 t at 8 xs ys)

pub one_pair : (t : ℤ → ℤ → Bool) (xs ys : List ℤ) (i : ℕ) (b : Bool) → i < length xs → i < length ys → Each1 (SFits w64) xs → Each1 (SFits w64) ys
    → b ≡ t (to_z w64 (of_z w64 (get_or xs i (pos 0)))) (to_z w64 (of_z w64 (get_or ys i (pos 0)))) → b ≡ get_or (zip2 t xs ys) i false
one_pair t xs ys i b h k p q e =
    e ∙ ap (λ x. t x (to_z w64 (of_z w64 (get_or ys i (pos 0))))) (to_z-of_z w64 (get_or xs i (pos 0)) (Each1-get_or (SFits w64) xs i (pos 0) h p))
    ∙ ap (λ y. t (get_or xs i (pos 0)) y) (to_z-of_z w64 (get_or ys i (pos 0)) (Each1-get_or (SFits w64) ys i (pos 0) k q))
    ∙ sym (get_or-zip2 t xs ys i (pos 0) (pos 0) false h k)

drop-nil : (n : ℕ) → let none : List Bool = [] in drop n none ≡ none
drop-nil zero = refl
drop-nil (suc n) = refl

pub nothing_left : (bs : List Bool) (n : ℕ) → length bs ≡ n → 0 ≡ mask_l (drop n bs)
nothing_left [] n e = sym (ap mask_l (drop-nil n))
nothing_left (b ∷ bs) zero e = absurd (omega arith)
nothing_left (b ∷ bs) (suc n) e = nothing_left bs n (omega arith)
