use Rattle.std.proofs.Common.{ℕ, ℤ, Bool, true, false, List, [], ◌∷◌, ◌≡◌, ◌<◌, ◌≤◌, ◌*◌, ◌+◌, ◌-◌, ◌^◌, ◌==◌, cond, length, map, refl, sym, ◌∙◌, ap, arith, to_z, of_z, nat_eq, not, pos, negsuc, zero, suc, neg_ℤ, ◌+ℤ◌, ◌-ℤ◌, ◌≤ℤ◌, bit_and, subst, lit<}
use Rattle.std.specs.Simd.Lanes.{zip2, sel_l, fold_l, Each1, Each2, Steps, top}
use Rattle.std.specs.Int.{bit_at}
use Rattle.std.proofs.lemmas.Int.{to_z-of_z, ints}
use Rattle.std.proofs.lemmas.Nat.Bits.{and_pow, bit_at-lt}
use Rattle.std.proofs.lemmas.Simd.{tops_compared}
use Rattle.std.proofs.lemmas.Nat.{pow_pos}
use Rattle.std.proofs.lemmas.Bool.Decides.{nat_tests}
use Rattle.std.proofs.Math.ListN.{replicate}
use Rattle.lane_kernels.specs.Lanes.{IsWithin, IsSmallEight, signed_sum, bits_of}
use mir.Val.{SFits, hbits, bits}
use mir.Syntax.{w64}

pub fits_within : (n : ℕ) (z : ℤ) → n < 2 ^ 63 → IsWithin n z → SFits w64 z
fits_within n (pos a) h w = let l : pos a ≤ℤ pos n = w.high in record { sfits = omega (arith, ints) }
fits_within n (negsuc a) h w = let l : neg_ℤ (pos n) ≤ℤ negsuc a = w.low in record { sfits = omega (arith, ints) }

pub within_neg : (n : ℕ) (z : ℤ) → IsWithin n z → IsWithin n (neg_ℤ z)
within_neg n z w = let l : neg_ℤ (pos n) ≤ℤ z = w.low in let h : z ≤ℤ pos n = w.high in record { low = omega (arith, ints); high = omega (arith, ints) }

pub within_add : (m n : ℕ) (a b : ℤ) → IsWithin m a → IsWithin n b → IsWithin (m + n) (a +ℤ b)
within_add m n a b v w =
    let l : neg_ℤ (pos m) ≤ℤ a = v.low in let h : a ≤ℤ pos m = v.high in let l2 : neg_ℤ (pos n) ≤ℤ b = w.low in let h2 : b ≤ℤ pos n = w.high in
    record { low = omega (arith, ints); high = omega (arith, ints) }

one_sign : (b p : ℕ) → b < 2 → 0 < p → not (nat_eq (b * p) 0) ≡ (b == 1)
one_sign zero p h q = let e : 0 * p ≡ 0 = omega arith in ap (λ m. not (nat_eq m 0)) e
one_sign (suc zero) (suc p) h q = let e : nat_eq (1 * suc p) 0 ≡ false = grind (arith, nat_tests) in ap not e
one_sign (suc zero) zero h q = absurd (omega arith)
one_sign (suc (suc b)) p h q = absurd (omega arith)

bit_test : (n k : ℕ) → not (nat_eq (bit_and n (2 ^ k)) 0) ≡ (bit_at n k == 1)
bit_test n k = ap (λ m. not (nat_eq m 0)) (and_pow n k) ∙ one_sign (bit_at n k) (2 ^ k) (bit_at-lt n k) (pow_pos k)

abbrev pub powers : List ℕ
powers = 1 ∷ 2 ∷ 4 ∷ 8 ∷ 16 ∷ 32 ∷ 64 ∷ 128 ∷ []

pub signs_of : (n : ℕ) → zip2 (λ a b. not (nat_eq a b)) (zip2 bit_and (replicate 8 n) powers) (replicate 8 0) ≡ bits_of n
signs_of n = λ i. bit_test n 0 i ∷ bit_test n 1 i ∷ bit_test n 2 i ∷ bit_test n 3 i ∷ bit_test n 4 i ∷ bit_test n 5 i ∷ bit_test n 6 i ∷ bit_test n 7 i ∷ []

-- the lanes' signs, as a vector's mask has them
pub tops_of : (n : ℕ) → map (top (hbits w64)) (zip2 (λ a b. cond (not (nat_eq a b)) (2 ^ bits w64 - 1) 0) (zip2 bit_and (replicate 8 n) powers) (replicate 8 0)) ≡ bits_of n
tops_of n = tops_compared w64 (λ a b. not (nat_eq a b)) (zip2 bit_and (replicate 8 n) powers) (replicate 8 0) ∙ signs_of n

abbrev pub signed_l : List Bool → List ℤ → List ℤ
signed_l = zip2 (λ m x. cond m (neg_ℤ x) x)

small : (x : ℤ) → IsWithin (2 ^ 40) x → SFits w64 x
small x p = fits_within (2 ^ 40) x (lit< tt) p

abbrev sub_w : ℕ → ℕ → ℕ
sub_w a b = of_z w64 (to_z w64 a -ℤ to_z w64 b)

abbrev add_w : ℕ → ℕ → ℕ
add_w a b = of_z w64 (to_z w64 a +ℤ to_z w64 b)

zero_less : (x : ℤ) → pos 0 -ℤ x ≡ neg_ℤ x
zero_less x = omega (arith, ints)

one_lane : (m : Bool) (x : ℤ) → IsWithin (2 ^ 40) x → cond m (sub_w 0 (of_z w64 x)) (of_z w64 x) ≡ of_z w64 (cond m (neg_ℤ x) x)
one_lane true x p = ap (λ z. of_z w64 (pos 0 -ℤ z)) (to_z-of_z w64 x (small x p)) ∙ ap (of_z w64) (zero_less x)
one_lane false x p = refl

pub selected : (ms : List Bool) (xs : List ℤ) → Each1 (IsWithin (2 ^ 40)) xs → sel_l ms (zip2 sub_w (replicate (length xs) 0) (map (of_z w64) xs)) (map (of_z w64) xs) ≡ map (of_z w64) (signed_l ms xs)
selected [] xs p = refl
selected (m ∷ ms) [] p = refl
selected (m ∷ ms) (x ∷ xs) p = λ i. one_lane m x p.0 i ∷ selected ms xs p.1 i

pub asks_sub : (xs : List ℤ) → Each1 (IsWithin (2 ^ 40)) xs → Each2 (λ a b. SFits w64 (to_z w64 a -ℤ to_z w64 b)) (replicate (length xs) 0) (map (of_z w64) xs)
asks_sub [] p = tt
asks_sub (x ∷ xs) p =
    let P : ℤ → Type 0 = λ z. SFits w64 z in
    let e : pos 0 -ℤ to_z w64 (of_z w64 x) ≡ neg_ℤ x = ap (λ z. pos 0 -ℤ z) (to_z-of_z w64 x (small x p.0)) ∙ zero_less x in
    (subst P (sym e) (small (neg_ℤ x) (within_neg _ x p.0)), asks_sub xs p.1)

pub signed_within : (ms : List Bool) (xs : List ℤ) → Each1 (IsWithin (2 ^ 40)) xs → Each1 (IsWithin (2 ^ 40)) (signed_l ms xs)
signed_within [] xs p = tt
signed_within (m ∷ ms) [] p = tt
signed_within (true ∷ ms) (x ∷ xs) p = (within_neg _ x p.0, signed_within ms xs p.1)
signed_within (false ∷ ms) (x ∷ xs) p = (p.0, signed_within ms xs p.1)

pub record IsFolded (s : ℤ) (ys : List ℤ) : Type 0 where
  pub steps : Steps (λ a b. SFits w64 (to_z w64 a +ℤ to_z w64 b)) add_w (of_z w64 s) (map (of_z w64) ys)
  pub value : fold_l add_w (of_z w64 s) (map (of_z w64) ys) ≡ of_z w64 (fold_l ◌+ℤ◌ s ys)
  pub fits : SFits w64 (fold_l ◌+ℤ◌ s ys)

pub folded : (ys : List ℤ) (s : ℤ) (n : ℕ) → IsWithin n s → Each1 (IsWithin (2 ^ 40)) ys → n + 2 ^ 40 * length ys < 2 ^ 63 → IsFolded s ys
folded [] s n v p h = record { steps = tt; value = refl; fits = fits_within n s (omega arith) v }
folded (y ∷ ys) s n v p h =
    let w : IsWithin (n + 2 ^ 40) (s +ℤ y) = within_add n (2 ^ 40) s y v p.0 in
    let r : IsFolded (s +ℤ y) ys = folded ys (s +ℤ y) (n + 2 ^ 40) w p.1 (omega arith) in
    let z : to_z w64 (of_z w64 s) +ℤ to_z w64 (of_z w64 y) ≡ s +ℤ y = ap (λ a. a +ℤ to_z w64 (of_z w64 y)) (to_z-of_z w64 s (fits_within n s (omega arith) v)) ∙ ap (λ a. s +ℤ a) (to_z-of_z w64 y (small y p.0)) in
    let P : ℤ → Type 0 = λ a. SFits w64 a in
    let Q : ℤ → Type 0 = λ a. Steps (λ a b. SFits w64 (to_z w64 a +ℤ to_z w64 b)) add_w (of_z w64 a) (map (of_z w64) ys) in
    record {
      steps = (subst P (sym z) (fits_within (n + 2 ^ 40) (s +ℤ y) (omega arith) w), subst Q (sym z) r.steps);
      value = ap (λ a. fold_l add_w (of_z w64 a) (map (of_z w64) ys)) z ∙ r.value;
      fits = r.fits;
    }

zero_plus : (a : ℤ) → pos 0 +ℤ a ≡ a
zero_plus a = omega (arith, ints)

add_again : (a b c : ℤ) → (a +ℤ b) +ℤ c ≡ a +ℤ (b +ℤ c)
add_again a b c = omega (arith, ints)

pub fold_is : (ms : List Bool) (xs : List ℤ) (s : ℤ) → fold_l ◌+ℤ◌ s (signed_l ms xs) ≡ s +ℤ signed_sum ms xs
fold_is [] xs s = omega (arith, ints)
fold_is (m ∷ ms) [] s = omega (arith, ints)
fold_is (m ∷ ms) (x ∷ xs) s = fold_is ms xs (s +ℤ cond m (neg_ℤ x) x) ∙ add_again s (cond m (neg_ℤ x) x) (signed_sum ms xs)

-- ---- at a vector of n lanes
pub asks_sub_n : (xs : List ℤ) (n : ℕ) → length xs ≡ n → Each1 (IsWithin (2 ^ 40)) xs → Each2 (λ a b. SFits w64 (to_z w64 a -ℤ to_z w64 b)) (replicate n 0) (map (of_z w64) xs)
asks_sub_n xs n e p = let P : ℕ → Type 0 = λ k. Each2 (λ a b. SFits w64 (to_z w64 a -ℤ to_z w64 b)) (replicate k 0) (map (of_z w64) xs) in subst P e (asks_sub xs p)

pub lanes_of : (minus : ℕ) (xs : List ℤ) → IsSmallEight xs
    → sel_l (map (top (hbits w64)) (zip2 (λ a b. cond (not (nat_eq a b)) (2 ^ bits w64 - 1) 0) (zip2 bit_and (replicate 8 minus) powers) (replicate 8 0))) (zip2 sub_w (replicate 8 0) (map (of_z w64) xs)) (map (of_z w64) xs)
    ≡ map (of_z w64) (signed_l (bits_of minus) xs)
lanes_of minus xs s =
    let P : ℕ → Type 0 = λ k. sel_l (bits_of minus) (zip2 sub_w (replicate k 0) (map (of_z w64) xs)) (map (of_z w64) xs) ≡ map (of_z w64) (signed_l (bits_of minus) xs) in
    ap (λ ms. sel_l ms (zip2 sub_w (replicate 8 0) (map (of_z w64) xs)) (map (of_z w64) xs)) (tops_of minus) ∙ subst P s.eight (selected (bits_of minus) xs s.small)

signed_long : (ms : List Bool) (xs : List ℤ) → length (signed_l ms xs) ≤ length xs
signed_long [] xs = omega arith
signed_long (m ∷ ms) [] = omega arith
signed_long (m ∷ ms) (x ∷ xs) = omega (arith, signed_long ms xs)

pub folded_signs : (minus : ℕ) (xs : List ℤ) → IsSmallEight xs → IsFolded (pos 0) (signed_l (bits_of minus) xs)
folded_signs minus xs s = folded (signed_l (bits_of minus) xs) (pos 0) 0 (record { low = omega (arith, ints); high = omega (arith, ints) }) (signed_within (bits_of minus) xs s.small) (omega (arith, signed_long (bits_of minus) xs, s.eight))

pub sum_steps : (minus : ℕ) (xs : List ℤ) → IsSmallEight xs
    → Steps (λ a b. SFits w64 (to_z w64 a +ℤ to_z w64 b)) add_w 0 (sel_l (map (top (hbits w64)) (zip2 (λ a b. cond (not (nat_eq a b)) (2 ^ bits w64 - 1) 0) (zip2 bit_and (replicate 8 minus) powers) (replicate 8 0))) (zip2 sub_w (replicate 8 0) (map (of_z w64) xs)) (map (of_z w64) xs))
sum_steps minus xs s = let P : List ℕ → Type 0 = λ l. Steps (λ a b. SFits w64 (to_z w64 a +ℤ to_z w64 b)) add_w 0 l in subst P (sym (lanes_of minus xs s)) (folded_signs minus xs s).steps

pub sum_value : (minus : ℕ) (xs : List ℤ) → IsSmallEight xs
    → to_z w64 (fold_l add_w 0 (sel_l (map (top (hbits w64)) (zip2 (λ a b. cond (not (nat_eq a b)) (2 ^ bits w64 - 1) 0) (zip2 bit_and (replicate 8 minus) powers) (replicate 8 0))) (zip2 sub_w (replicate 8 0) (map (of_z w64) xs)) (map (of_z w64) xs)))
    ≡ signed_sum (bits_of minus) xs
sum_value minus xs s =
    let f = folded_signs minus xs s in
    ap (λ l. to_z w64 (fold_l add_w 0 l)) (lanes_of minus xs s) ∙ ap (to_z w64) f.value ∙ to_z-of_z w64 _ f.fits ∙ fold_is (bits_of minus) xs (pos 0) ∙ zero_plus (signed_sum (bits_of minus) xs)
