use Rattle.std.proofs.Common.{ℕ, ℤ, Bool, true, false, List, [], ◌∷◌, ◌++◌, ◌≡◌, ◌<◌, ◌≤◌, ◌*◌, ◌+◌, ◌-◌, ◌/◌, ◌%◌, ◌^◌, ◌==◌, cond, length, map, refl, sym, ◌∙◌, ap, arith, to_z, of_z, pos, zero, suc, neg_ℤ, ◌+ℤ◌, ◌≤ℤ◌, subst, lit<, All, Some, None, Option, unwrap_or}
use Rattle.std.specs.Simd.Lanes.{chunk, Each1}
use Rattle.std.specs.Int.{bit_at}
use Rattle.std.proofs.lemmas.Int.{to_z-of_z, ints}
use Rattle.std.proofs.lemmas.Simd.{chunk-drop, length-chunk, get_or-chunk, Each1-chunk, Each1-get_or}
use Rattle.std.proofs.lemmas.List.{length-drop, drop_more, ext_get_or}
use Rattle.std.proofs.lemmas.List.FromFn.{length-map-range_with_len, get_or-map-range_with_len}
use Rattle.std.proofs.Math.ListN.{get_or, drop, take}
use Rattle.std.proofs.Math.Nat.{div-div-eq-div-mul}
use Rattle.std.proofs.lemmas.Nat.{pow-add}
use Rattle.lane_kernels.specs.Lanes.{IsWithin, IsSmallEight, signed_sum, bits_of}
use Rattle.column.specs.Bits.{bits, place}
use Rattle.lane_kernels.proofs.SumLemmas.{fits_within, within_neg, within_add}
use Rattle.lane_kernels.proofs.LaneLemmas.{back}
use Rattle.std.proofs.lemmas.List.{length-map}
use Rattle.values.specs.Value.{stream_max}
use Rattle.values.specs.Ranges.{IsStreamNumber}
use Rattle.column.specs.Columns.{IsStreamValue, numbers_of}
use Rattle.lane_kernels.specs.Truth.{signed_total}
use mir.Val.{SFits}
use mir.Syntax.{w64}

weaker : (m n : ℕ) (x : ℤ) → m ≤ n → IsWithin m x → IsWithin n x
weaker m n x h w = let l : neg_ℤ (pos m) ≤ℤ x = w.low in let u : x ≤ℤ pos m = w.high in record { low = omega (arith, ints); high = omega (arith, ints) }

within_zero : (n : ℕ) → IsWithin n (pos 0)
within_zero n = record { low = omega (arith, ints); high = omega (arith, ints) }

within_one : (m : Bool) (x : ℤ) → IsWithin (2 ^ 40) x → IsWithin (2 ^ 40) (cond m (neg_ℤ x) x)
within_one true x p = within_neg _ x p
within_one false x p = p

pub within_sum : (ms : List Bool) (xs : List ℤ) → Each1 (IsWithin (2 ^ 40)) xs → IsWithin (2 ^ 40 * length xs) (signed_sum ms xs)
within_sum [] xs p = within_zero _
within_sum (m ∷ ms) [] p = within_zero _
within_sum (m ∷ ms) (x ∷ xs) p = weaker _ _ _ (omega arith) (within_add (2 ^ 40) (2 ^ 40 * length xs) _ _ (within_one m x p.0) (within_sum ms xs p.1))

all_drop : (P : ℤ → Type 0) (at : ℕ) (xs : List ℤ) → Each1 P xs → Each1 P (drop at xs)
all_drop P zero xs p = p
all_drop P (suc at) [] p = tt
all_drop P (suc at) (x ∷ xs) p = all_drop P at xs p.1

zero_plus : (a : ℤ) → a ≡ pos 0 +ℤ a
zero_plus a = omega (arith, ints)

plus_zero : (a : ℤ) → a +ℤ pos 0 ≡ a
plus_zero a = omega (arith, ints)

regroup : (a b c : ℤ) → a +ℤ (b +ℤ c) ≡ (a +ℤ b) +ℤ c
regroup a b c = omega (arith, ints)

swapped : (a b : ℤ) → a +ℤ b ≡ b +ℤ a
swapped a b = omega (arith, ints)

signed_sum-append : (ms ns : List Bool) (xs ys : List ℤ) → length ms ≡ length xs → signed_sum (ms ++ ns) (xs ++ ys) ≡ signed_sum ms xs +ℤ signed_sum ns ys
signed_sum-append [] ns [] ys h = zero_plus _
signed_sum-append [] ns (x ∷ xs) ys h = absurd (omega arith)
signed_sum-append (m ∷ ms) ns [] ys h = absurd (omega arith)
signed_sum-append (m ∷ ms) ns (x ∷ xs) ys h = ap (λ a. cond m (neg_ℤ x) x +ℤ a) (signed_sum-append ms ns xs ys (omega arith)) ∙ regroup (cond m (neg_ℤ x) x) (signed_sum ms xs) (signed_sum ns ys)

fit_all : (xs : List ℤ) → Each1 (IsWithin (2 ^ 40)) xs → Each1 (SFits w64) xs
fit_all [] p = tt
fit_all (x ∷ xs) p = (fits_within (2 ^ 40) x (lit< tt) p.0, fit_all xs p.1)

none_left : (ms : List Bool) (xs : List ℤ) → length ms ≡ 0 → signed_sum ms xs ≡ pos 0
none_left [] xs h = refl
none_left (m ∷ ms) xs h = absurd (omega arith)

pub record IsStep (signs : List Bool) (numbers : List ℤ) (at : ℕ) (t r : ℤ) : Type 0 where
  pub fits : SFits w64 (t +ℤ to_z w64 (of_z w64 r))
  pub value : to_z w64 (of_z w64 (t +ℤ to_z w64 (of_z w64 r))) ≡ signed_sum (drop at signs) (drop at numbers)

pub sum_step : (signs : List Bool) (numbers : List ℤ) (at k : ℕ) (t r : ℤ) → k ≤ at → at ≤ length numbers → length signs ≡ length numbers → length numbers ≤ 1024 → Each1 (IsWithin (2 ^ 40)) numbers
    → t ≡ signed_sum (drop at signs) (drop at numbers) → r ≡ signed_sum (chunk (at - k) k signs) (chunk (at - k) k numbers) → IsStep signs numbers (at - k) t r
sum_step signs numbers at k t r low high same few p done e =
    let j : at - k + k ≡ at = omega arith in
    let d : drop (at - k) signs ≡ chunk (at - k) k signs ++ drop at signs = chunk-drop (at - k) k signs ∙ ap (λ n. chunk (at - k) k signs ++ drop n signs) j in
    let f : drop (at - k) numbers ≡ chunk (at - k) k numbers ++ drop at numbers = chunk-drop (at - k) k numbers ∙ ap (λ n. chunk (at - k) k numbers ++ drop n numbers) j in
    let ls : length (chunk (at - k) k signs) ≡ k = length-chunk (at - k) k signs (omega arith) in
    let ln : length (chunk (at - k) k numbers) ≡ k = length-chunk (at - k) k numbers (omega arith) in
    let s : signed_sum (drop (at - k) signs) (drop (at - k) numbers) ≡ signed_sum (chunk (at - k) k signs) (chunk (at - k) k numbers) +ℤ signed_sum (drop at signs) (drop at numbers) =
    ap (λ l. signed_sum l (drop (at - k) numbers)) d ∙ ap (λ l. signed_sum (chunk (at - k) k signs ++ drop at signs) l) f ∙ signed_sum-append _ _ _ _ (ls ∙ sym ln) in
    let v : t +ℤ r ≡ signed_sum (drop (at - k) signs) (drop (at - k) numbers) = ap (λ a. a +ℤ r) done ∙ ap (λ a. signed_sum (drop at signs) (drop at numbers) +ℤ a) e ∙ swapped (signed_sum (drop at signs) (drop at numbers)) (signed_sum (chunk (at - k) k signs) (chunk (at - k) k numbers)) ∙ sym s in
    let P : ℤ → Type 0 = λ a. SFits w64 a in
    let rf : SFits w64 r = subst P (sym e) (fits_within (2 ^ 40 * k) _ (omega arith) (weaker _ (2 ^ 40 * k) _ (omega (arith, ln)) (within_sum _ _ (Each1-chunk (IsWithin (2 ^ 40)) (at - k) k numbers p)))) in
    let z : t +ℤ to_z w64 (of_z w64 r) ≡ signed_sum (drop (at - k) signs) (drop (at - k) numbers) = ap (λ a. t +ℤ a) (to_z-of_z w64 r rf) ∙ v in
    let w : SFits w64 (signed_sum (drop (at - k) signs) (drop (at - k) numbers)) = fits_within (2 ^ 40 * 1024) _ (lit< tt) (weaker _ (2 ^ 40 * 1024) _ (omega (arith, length-drop (at - k) numbers)) (within_sum _ _ (all_drop (IsWithin (2 ^ 40)) (at - k) numbers p))) in
    record { fits = subst P (sym z) w; value = ap (λ a. to_z w64 (of_z w64 a)) z ∙ to_z-of_z w64 _ w }

pub length-bits : (n : ℕ) (words : List ℕ) → length (bits n words) ≡ n
length-bits n words = length-map-range_with_len (λ i. place words i == 1) 0 n

bit_at_shr : (w s k : ℕ) → bit_at (w / 2 ^ s) k ≡ bit_at w (s + k)
bit_at_shr w s k = ap (λ n. n % 2) (div-div-eq-div-mul w (2 ^ s) (2 ^ k) ∙ ap (λ m. w / m) (sym (pow-add 2 s k)))

place_in : (words : List ℕ) (at k : ℕ) → at % 8 ≡ 0 → k < 8 → bit_at (get_or words (at / 64) 0 / 2 ^ (at % 64)) k ≡ place words (at + k)
place_in words at k whole h =
    let q : (at + k) / 64 ≡ at / 64 = omega arith in
    let r : (at + k) % 64 ≡ at % 64 + k = omega arith in
    bit_at_shr (get_or words (at / 64) 0) (at % 64) k ∙ ap (λ j. bit_at (get_or words (at / 64) 0) j) (sym r) ∙ ap (λ j. bit_at (get_or words j 0) ((at + k) % 64)) (sym q)

pub bits_chunk : (n : ℕ) (words : List ℕ) (at : ℕ) → at % 8 ≡ 0 → at + 8 ≤ n → bits_of (get_or words (at / 64) 0 / 2 ^ (at % 64)) ≡ chunk at 8 (bits n words)
bits_chunk n words at whole h =
    let long : length (chunk at 8 (bits n words)) ≡ 8 = length-chunk at 8 (bits n words) (omega (arith, length-bits n words)) in
    let each : (k : ℕ) → k < 8 → get_or (bits_of (get_or words (at / 64) 0 / 2 ^ (at % 64))) k false ≡ get_or (chunk at 8 (bits n words)) k false =
    λ k l. get_or-map-range_with_len (λ j. bit_at (get_or words (at / 64) 0 / 2 ^ (at % 64)) j == 1) 0 8 k k false l (omega arith)
    ∙ ap (λ b. b == 1) (place_in words at k whole l)
    ∙ sym (get_or-map-range_with_len (λ j. place words j == 1) 0 n (at + k) (at + k) false (omega arith) (omega arith))
    ∙ sym (get_or-chunk at 8 (bits n words) k false l) in
    ext_get_or false _ _ (sym long) each

take_one : {X : Type 0} (x : X) (xs : List X) → take 1 (x ∷ xs) ≡ x ∷ []
take_one x [] = refl
take_one x (y ∷ ys) = refl

pub chunk_one : {X : Type 0} (xs : List X) (at : ℕ) (d : X) → at < length xs → chunk at 1 xs ≡ get_or xs at d ∷ []
chunk_one xs at d h = ap (λ l. take 1 l) (drop_more xs at d h) ∙ take_one (get_or xs at d) (drop (at + 1) xs)

-- what the eight lanes give
pub eight_sum : (numbers : List ℤ) (words : List ℕ) (at : ℕ) (r : ℤ) → at % 8 ≡ 0 → at + 8 ≤ length numbers → Each1 (IsWithin (2 ^ 40)) numbers
    → r ≡ signed_sum (bits_of (get_or words (at / 64) 0 / 2 ^ (at % 64))) (map (to_z w64) (map (of_z w64) (chunk at 8 numbers)))
    → r ≡ signed_sum (chunk at 8 (bits (length numbers) words)) (chunk at 8 numbers)
eight_sum numbers words at r whole h p e =
    e ∙ ap (λ l. signed_sum l (map (to_z w64) (map (of_z w64) (chunk at 8 numbers)))) (bits_chunk (length numbers) words at whole h)
    ∙ ap (λ l. signed_sum (chunk at 8 (bits (length numbers) words)) l) (back (chunk at 8 numbers) (fit_all (chunk at 8 numbers) (Each1-chunk (IsWithin (2 ^ 40)) at 8 numbers p)))

pub one_sum : (numbers : List ℤ) (words : List ℕ) (at : ℕ) (r : ℤ) → at < length numbers → Each1 (IsWithin (2 ^ 40)) numbers
    → r ≡ cond (bit_at (get_or words (at / 64) 0) (at % 64) == 1) (neg_ℤ (to_z w64 (of_z w64 (get_or numbers at (pos 0))))) (to_z w64 (of_z w64 (get_or numbers at (pos 0))))
    → r ≡ signed_sum (chunk at 1 (bits (length numbers) words)) (chunk at 1 numbers)
one_sum numbers words at r h p e =
    let f : to_z w64 (of_z w64 (get_or numbers at (pos 0))) ≡ get_or numbers at (pos 0) = to_z-of_z w64 _ (fits_within (2 ^ 40) _ (lit< tt) (Each1-get_or (IsWithin (2 ^ 40)) numbers at (pos 0) h p)) in
    let b : get_or (bits (length numbers) words) at false ≡ (place words at == 1) = get_or-map-range_with_len (λ j. place words j == 1) 0 (length numbers) at at false h (omega arith) in
    e ∙ ap (λ x. cond (place words at == 1) (neg_ℤ x) x) f
    ∙ ap (λ m. cond m (neg_ℤ (get_or numbers at (pos 0))) (get_or numbers at (pos 0))) (sym b)
    ∙ sym (plus_zero (cond (get_or (bits (length numbers) words) at false) (neg_ℤ (get_or numbers at (pos 0))) (get_or numbers at (pos 0))))
    ∙ sym (ap (λ l. signed_sum l (get_or numbers at (pos 0) ∷ [])) (chunk_one (bits (length numbers) words) at false (omega (arith, h, length-bits (length numbers) words))))
    ∙ sym (ap (λ l. signed_sum (chunk at 1 (bits (length numbers) words)) l) (chunk_one numbers at (pos 0) h))

pub IsSmallEight-load : (xs : List ℤ) (at : ℕ) → at + 8 ≤ length xs → Each1 (IsWithin (2 ^ 40)) xs → IsSmallEight (map (to_z w64) (map (of_z w64) (chunk at 8 xs)))
IsSmallEight-load xs at h p =
    let q : Each1 (IsWithin (2 ^ 40)) (chunk at 8 xs) = Each1-chunk (IsWithin (2 ^ 40)) at 8 xs p in
    rw (back (chunk at 8 xs) (fit_all (chunk at 8 xs) q)) (record { eight = length-chunk at 8 xs h; small = q })

pub sum_none : (n : ℕ) (words : List ℕ) (numbers : List ℤ) → n ≡ length numbers → pos 0 ≡ signed_sum (drop n (bits n words)) (drop n numbers)
sum_none n words numbers e = sym (none_left (drop n (bits n words)) (drop n numbers) (omega (arith, length-drop n (bits n words), length-bits n words)))

-- ---- a column's sum
zero_sign : (m : Bool) → cond m (neg_ℤ (pos 0)) (pos 0) ≡ pos 0
zero_sign true = refl
zero_sign false = refl

pub total_of_numbers : (ms : List Bool) (vs : List (Option ℤ)) → signed_sum ms (numbers_of vs) ≡ signed_total ms vs
total_of_numbers [] vs = refl
total_of_numbers (m ∷ ms) [] = refl
total_of_numbers (m ∷ ms) (None ∷ vs) = ap (λ z. z +ℤ signed_sum ms (numbers_of vs)) (zero_sign m) ∙ sym (zero_plus (signed_sum ms (numbers_of vs))) ∙ total_of_numbers ms vs
total_of_numbers (m ∷ ms) (Some x ∷ vs) = ap (λ z. cond m (neg_ℤ x) x +ℤ z) (total_of_numbers ms vs)

stream_within : (z : ℤ) → IsStreamNumber z → IsWithin (2 ^ 40) z
stream_within z h = let l : neg_ℤ stream_max ≤ℤ z = h.0 in let u : z ≤ℤ stream_max = h.1 in record { low = omega (arith, ints); high = omega (arith, ints) }

pub stream_small : (vs : List (Option ℤ)) → All IsStreamValue vs → Each1 (IsWithin (2 ^ 40)) (numbers_of vs)
stream_small [] p = tt
stream_small (None ∷ vs) p = (within_zero _, stream_small vs (λ k d h. p (suc k) d (omega arith)))
stream_small (Some z ∷ vs) p = (stream_within z (p 0 None (omega arith)), stream_small vs (λ k d h. p (suc k) d (omega arith)))

pub sum_fits : (ms : List Bool) (xs : List ℤ) → length xs ≤ 1024 → Each1 (IsWithin (2 ^ 40)) xs → SFits w64 (signed_sum ms xs)
sum_fits ms xs few p = fits_within (2 ^ 40 * 1024) _ (lit< tt) (weaker _ (2 ^ 40 * 1024) _ (omega (arith, few)) (within_sum ms xs p))

pub column_total : (vs : List (Option ℤ)) (numbers : List ℤ) (minus : List ℕ) (r : ℤ) → numbers ≡ numbers_of vs → length vs ≤ 1024 → All IsStreamValue vs
    → r ≡ signed_sum (bits (length numbers) minus) numbers → to_z w64 (of_z w64 r) ≡ signed_total (bits (length vs) minus) vs
column_total vs numbers minus r e few p f =
    let n : length numbers ≡ length vs = ap length e ∙ length-map vs (λ v. unwrap_or v (pos 0)) in
    let small : Each1 (IsWithin (2 ^ 40)) numbers = rw e (stream_small vs p) in
    ap (λ z. to_z w64 (of_z w64 z)) f ∙ to_z-of_z w64 _ (sum_fits (bits (length numbers) minus) numbers (omega (arith, n, few)) small)
    ∙ (λ t. signed_sum (bits (n t) minus) (e t)) ∙ total_of_numbers (bits (length vs) minus) vs
