-- Set bits, counted with signs.
use Rattle.std.proofs.Common.{ℕ, ℤ, pos, neg_ℤ, ◌+ℤ◌, ◌-ℤ◌, ◌≤ℤ◌, Bool, true, false, List, [], ◌∷◌, ◌++◌, ◌≡◌, ◌<◌, ◌≤◌, ◌*◌, ◌+◌, ◌-◌, ◌^◌, ◌==◌, cond, length, map, refl, sym, ◌∙◌, ap, ap₂, arith, zero, suc, count_by, bit_and, min, Option, Some, None, is_some, lit<}
use Rattle.std.specs.List.{range_with_len}
use Rattle.std.specs.Int.{bit_at}
use Rattle.std.specs.Int.RustNames.{count_ones}
use Rattle.std.proofs.Math.ListN.{get_or}
use Rattle.std.proofs.lemmas.Int.{ints}
use Rattle.std.proofs.lemmas.Nat.Bits.{bit_at_and, bit_at-lt}
use Rattle.std.proofs.lemmas.List.FromFn.{map-range_with_len_more}
use Rattle.std.proofs.lemmas.List.Sums.{sum_by-cons}
use Rattle.column.specs.Bits.{bits, place}
use Rattle.lane_kernels.specs.Lanes.{IsWithin, signed_truths}
use Rattle.lane_kernels.specs.Truth.{signed_count}
use Rattle.lane_kernels.proofs.CountLemmas.{word_bits, ones_of_word, bits_more}
use Rattle.column.proofs.BitLemmas.{length-bits}
use Rattle.lane_kernels.proofs.SumLemmas.{within_add, fits_within}
use mir.Val.{SFits}
use mir.Syntax.{w64}

regroup : (a b c : ℤ) → a +ℤ (b +ℤ c) ≡ (a +ℤ b) +ℤ c
regroup a b c = omega (arith, ints)

zero_plus : (a : ℤ) → a ≡ pos 0 +ℤ a
zero_plus a = omega (arith, ints)

plus_zero : (a : ℤ) → a +ℤ pos 0 ≡ a
plus_zero a = omega (arith, ints)

-- ---- one word after the other
truths-append : (ms ns vs us : List Bool) → length ms ≡ length vs → signed_truths (ms ++ ns) (vs ++ us) ≡ signed_truths ms vs +ℤ signed_truths ns us
truths-append [] ns [] us h = zero_plus _
truths-append [] ns (v ∷ vs) us h = absurd (omega (arith, h))
truths-append (m ∷ ms) ns [] us h = absurd (omega (arith, h))
truths-append (m ∷ ms) ns (v ∷ vs) us h = ap (λ (a : ℤ). cond v (cond m (neg_ℤ (pos 1)) (pos 1)) (pos 0) +ℤ a) (truths-append ms ns vs us (omega (arith, h))) ∙ regroup (cond v (cond m (neg_ℤ (pos 1)) (pos 1)) (pos 0)) (signed_truths ms vs) (signed_truths ns us)

one_bit : (a b c n k : ℕ) → b < 2 → a < 2 → c ≡ min b a → cond (b == 1) (cond (a == 1) (neg_ℤ (pos 1)) (pos 1)) (pos 0) +ℤ (pos n -ℤ pos (2 * k)) ≡ pos (cond {A = ℕ} (b == 1) 1 0 + n) -ℤ pos (2 * (cond {A = ℕ} (c == 1) 1 0 + k))
one_bit a zero c n k p q e =
    let z : c ≡ 0 = omega (arith, e) in
    let t : cond {A = ℕ} (c == 1) 1 0 ≡ 0 = ap {B = ℕ} (λ (x : ℕ). cond (x == 1) 1 0) z in
    omega (arith, ints, t)
one_bit zero (suc zero) c n k p q e =
    let z : c ≡ 0 = omega (arith, e) in
    let t : cond {A = ℕ} (c == 1) 1 0 ≡ 0 = ap {B = ℕ} (λ (x : ℕ). cond (x == 1) 1 0) z in
    omega (arith, ints, t)
one_bit (suc zero) (suc zero) c n k p q e =
    let z : c ≡ 1 = omega (arith, e) in
    let t : cond {A = ℕ} (c == 1) 1 0 ≡ 1 = ap {B = ℕ} (λ (x : ℕ). cond (x == 1) 1 0) z in
    omega (arith, ints, t)
one_bit (suc (suc a)) (suc zero) c n k p q e = absurd (omega (arith, q))
one_bit a (suc (suc b)) c n k p q e = absurd (omega (arith, p))

-- the bits of some places of two words
places_signed : (v m : ℕ) (ks : List ℕ) → signed_truths (map (λ k. bit_at m k == 1) ks) (map (λ k. bit_at v k == 1) ks)
    ≡ pos (count_by (λ b. b) (map (λ k. bit_at v k == 1) ks)) -ℤ pos (2 * count_by (λ b. b) (map (λ k. bit_at (bit_and v m) k == 1) ks))
places_signed v m [] = refl
places_signed v m (k ∷ ks) =
    ap (λ (a : ℤ). cond (bit_at v k == 1) (cond (bit_at m k == 1) (neg_ℤ (pos 1)) (pos 1)) (pos 0) +ℤ a) (places_signed v m ks)
    ∙ one_bit (bit_at m k) (bit_at v k) (bit_at (bit_and v m) k) (count_by (λ b. b) (map (λ j. bit_at v j == 1) ks)) (count_by (λ b. b) (map (λ j. bit_at (bit_and v m) j == 1) ks)) (bit_at-lt v k) (bit_at-lt m k) (bit_at_and v m k)
    ∙ sym (ap₂ (λ (a b : ℕ). pos a -ℤ pos (2 * b)) (sum_by-cons (λ (b : Bool). cond b 1 0) (bit_at v k == 1) (map (λ j. bit_at v j == 1) ks)) (sum_by-cons (λ (b : Bool). cond b 1 0) (bit_at (bit_and v m) k == 1) (map (λ j. bit_at (bit_and v m) j == 1) ks)))

word_signed : (v m : ℕ) → v < 2 ^ 64 → bit_and v m < 2 ^ 64 → pos (count_ones v) -ℤ pos (2 * count_ones (bit_and v m)) ≡ signed_truths (word_bits m) (word_bits v)
word_signed v m h g = ap₂ (λ (a b : ℕ). pos a -ℤ pos (2 * b)) (ones_of_word v h) (ones_of_word (bit_and v m) g) ∙ sym (places_signed v m (range_with_len 0 64))

truths_more : (valid minus : List ℕ) (k : ℕ) → signed_truths (bits (64 * k) minus) (bits (64 * k) valid) +ℤ signed_truths (word_bits (get_or minus k 0)) (word_bits (get_or valid k 0)) ≡ signed_truths (bits (64 * (k + 1)) minus) (bits (64 * (k + 1)) valid)
truths_more valid minus k =
    sym (truths-append (bits (64 * k) minus) (word_bits (get_or minus k 0)) (bits (64 * k) valid) (word_bits (get_or valid k 0)) (length-bits (64 * k) minus ∙ sym (length-bits (64 * k) valid)))
    ∙ ap₂ (λ (a b : List Bool). signed_truths a b) (sym (bits_more minus k)) (sym (bits_more valid k))

-- one word more
pub word_more : (valid minus : List ℕ) (k : ℕ) → get_or valid k 0 < 2 ^ 64 → bit_and (get_or valid k 0) (get_or minus k 0) < 2 ^ 64
    → signed_truths (bits (64 * k) minus) (bits (64 * k) valid) +ℤ (pos (count_ones (get_or valid k 0)) -ℤ pos (2 * count_ones (bit_and (get_or valid k 0) (get_or minus k 0))))
    ≡ signed_truths (bits (64 * (k + 1)) minus) (bits (64 * (k + 1)) valid)
word_more valid minus k h g = ap (λ (a : ℤ). signed_truths (bits (64 * k) minus) (bits (64 * k) valid) +ℤ a) (word_signed (get_or valid k 0) (get_or minus k 0) h g) ∙ truths_more valid minus k

-- ---- bounds
weaker : (m n : ℕ) (x : ℤ) → m ≤ n → IsWithin m x → IsWithin n x
weaker m n x h w = let l : neg_ℤ (pos m) ≤ℤ x = w.low in let u : x ≤ℤ pos m = w.high in record { low = omega (arith, ints); high = omega (arith, ints) }

one_within : (v m : Bool) → IsWithin 1 (cond v (cond m (neg_ℤ (pos 1)) (pos 1)) (pos 0))
one_within false m = record { low = omega (arith, ints); high = omega (arith, ints) }
one_within true true = record { low = omega (arith, ints); high = omega (arith, ints) }
one_within true false = record { low = omega (arith, ints); high = omega (arith, ints) }

truths_within : (ms vs : List Bool) → IsWithin (length vs) (signed_truths ms vs)
truths_within [] vs = weaker 0 (length vs) _ (omega arith) (record { low = omega (arith, ints); high = omega (arith, ints) })
truths_within (m ∷ ms) [] = record { low = omega (arith, ints); high = omega (arith, ints) }
truths_within (m ∷ ms) (v ∷ vs) = weaker _ _ _ (omega arith) (within_add 1 (length vs) _ _ (one_within v m) (truths_within ms vs))

pub truths_fit : (ms vs : List Bool) → length vs ≤ 1024 → SFits w64 (signed_truths ms vs)
truths_fit ms vs h = fits_within 1024 _ (lit< tt) (weaker _ 1024 _ h (truths_within ms vs))

-- ---- a column's count
pub count_of_truths : (ms : List Bool) (vs : List (Option ℤ)) → signed_truths ms (map is_some vs) ≡ signed_count ms vs
count_of_truths [] vs = refl
count_of_truths (m ∷ ms) [] = refl
count_of_truths (m ∷ ms) (None ∷ vs) = sym (zero_plus _) ∙ count_of_truths ms vs
count_of_truths (m ∷ ms) (Some x ∷ vs) = ap (λ (z : ℤ). cond m (neg_ℤ (pos 1)) (pos 1) +ℤ z) (count_of_truths ms vs)

-- bits past the column's length are not set
past_one : (m : Bool) (v : ℕ) → v ≡ 0 → signed_truths (m ∷ []) ((v == 1) ∷ []) ≡ pos 0
past_one m v e = ap (λ (x : ℕ). signed_truths (m ∷ []) ((x == 1) ∷ [])) e

truths_past : (minus valid : List ℕ) (n : ℕ) → ((i : ℕ) → n ≤ i → place valid i ≡ 0) → (j : ℕ) → signed_truths (bits (n + j) minus) (bits (n + j) valid) ≡ signed_truths (bits n minus) (bits n valid)
truths_past minus valid n clear zero = let e : n + 0 ≡ n = omega arith in ap (λ (k : ℕ). signed_truths (bits k minus) (bits k valid)) e
truths_past minus valid n clear (suc j) =
    let e : n + suc j ≡ n + j + 1 = omega arith in
    ap (λ (k : ℕ). signed_truths (bits k minus) (bits k valid)) e
    ∙ ap₂ (λ (a b : List Bool). signed_truths a b) (map-range_with_len_more (λ i. place minus i == 1) 0 (n + j) (n + j) (omega arith)) (map-range_with_len_more (λ i. place valid i == 1) 0 (n + j) (n + j) (omega arith))
    ∙ truths-append (bits (n + j) minus) ((place minus (n + j) == 1) ∷ []) (bits (n + j) valid) ((place valid (n + j) == 1) ∷ []) (length-bits (n + j) minus ∙ sym (length-bits (n + j) valid))
    ∙ ap (λ (a : ℤ). signed_truths (bits (n + j) minus) (bits (n + j) valid) +ℤ a) (past_one (place minus (n + j) == 1) (place valid (n + j)) (clear (n + j) (omega arith)))
    ∙ plus_zero (signed_truths (bits (n + j) minus) (bits (n + j) valid))
    ∙ truths_past minus valid n clear j

pub column_count : (vs : List (Option ℤ)) (minus valid : List ℕ) (k : ℕ) → length vs ≤ k → bits (length vs) valid ≡ map is_some vs → ((i : ℕ) → length vs ≤ i → place valid i ≡ 0)
    → signed_truths (bits k minus) (bits k valid) ≡ signed_count (bits (length vs) minus) vs
column_count vs minus valid k h e clear =
    let n : length vs + (k - length vs) ≡ k = omega arith in
    sym (ap (λ (j : ℕ). signed_truths (bits j minus) (bits j valid)) n)
    ∙ truths_past minus valid (length vs) clear (k - length vs)
    ∙ ap (λ (bs : List Bool). signed_truths (bits (length vs) minus) bs) e
    ∙ count_of_truths (bits (length vs) minus) vs
