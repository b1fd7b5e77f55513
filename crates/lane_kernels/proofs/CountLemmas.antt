-- Set bits, counted word by word.
use Rattle.std.proofs.Common.{ℕ, Bool, false, List, [], ◌∷◌, ◌++◌, ◌≡◌, ◌<◌, ◌≤◌, ◌*◌, ◌+◌, ◌/◌, ◌%◌, ◌^◌, ◌==◌, cond, length, map, refl, sym, ◌∙◌, ap, arith, zero, suc, count_by, inl, inr, ◌-◌}
use Rattle.std.specs.List.{range_with_len}
use Rattle.std.specs.Int.{bit_at}
use Rattle.std.specs.Int.RustNames.{count_ones}
use Rattle.std.specs.Simd.Lanes.{mask_l}
use Rattle.std.proofs.Math.ListN.{get_or, get_or-append}
use Rattle.std.proofs.lemmas.Simd.{bit_mask_l, ones-mask_l}
use Rattle.std.proofs.lemmas.Nat.Bits.{same_from_bits, bit_at_above, bit_at-lt}
use Rattle.std.proofs.lemmas.List.{length-append, ext_get_or, get_or_past, get_or-append_right}
use Rattle.std.proofs.lemmas.List.FromFn.{length-map-range_with_len, get_or-map-range_with_len}
use Rattle.std.proofs.lemmas.List.Sums.{count_by-le-length, sum_by-append}
use Rattle.std.proofs.lemmas.Bool.{cases_lt}
use Rattle.column.specs.Bits.{bits}
use Rattle.column.proofs.BitLemmas.{length-bits, get_or-bits}

-- the bits of one word
abbrev pub word_bits : ℕ → List Bool
word_bits w = map (λ k. bit_at w k == 1) (range_with_len 0 64)

cond_bit : (b : ℕ) → b < 2 → cond (b == 1) 1 0 ≡ b
cond_bit zero h = refl
cond_bit (suc zero) h = refl
cond_bit (suc (suc b)) h = absurd (omega arith)

word_again : (w : ℕ) → w < 2 ^ 64 → mask_l (word_bits w) ≡ w
word_again w h = same_from_bits _ _ (λ i. bit_mask_l (word_bits w) i ∙ elim (cases_lt i 64) [
  | inl l ↦ ap (λ b. cond b 1 0) (get_or-map-range_with_len (λ k. bit_at w k == 1) 0 64 i i false l (omega arith)) ∙ cond_bit (bit_at w i) (bit_at-lt w i)
  | inr l ↦ ap (λ b. cond b 1 0) (get_or_past (word_bits w) i false (omega (arith, l, length-map-range_with_len (λ k. bit_at w k == 1) 0 64))) ∙ sym (bit_at_above w 64 i h l)
])

same_id : (bs : List Bool) → map (λ b. b) bs ≡ bs
same_id [] = refl
same_id (b ∷ bs) = ap (λ l. b ∷ l) (same_id bs)

pub ones_of_word : (w : ℕ) → w < 2 ^ 64 → count_ones w ≡ count_by (λ b. b) (word_bits w)
ones_of_word w h = ap count_ones (sym (word_again w h) ∙ ap mask_l (sym (same_id (word_bits w)))) ∙ ones-mask_l (λ b. b) (word_bits w)

pub bits_more : (words : List ℕ) (k : ℕ) → bits (64 * (k + 1)) words ≡ bits (64 * k) words ++ word_bits (get_or words k 0)
bits_more words k =
    let long : length (bits (64 * k) words ++ word_bits (get_or words k 0)) ≡ 64 * (k + 1) =
    omega (arith, length-append (bits (64 * k) words) (word_bits (get_or words k 0)), length-bits (64 * k) words, length-map-range_with_len (λ j. bit_at (get_or words k 0) j == 1) 0 64) in
    ext_get_or false _ _ (length-bits (64 * (k + 1)) words ∙ sym long) (λ i h.
    let l : i < 64 * (k + 1) = omega (arith, h, length-bits (64 * (k + 1)) words) in
    get_or-bits (64 * (k + 1)) words i false l ∙ elim (cases_lt i (64 * k)) [
      | inl b ↦ sym (get_or-bits (64 * k) words i false b) ∙ sym (get_or-append (bits (64 * k) words) (word_bits (get_or words k 0)) false i (omega (arith, b, length-bits (64 * k) words)))
      | inr b ↦
          let q : i / 64 ≡ k = omega (arith, b, l) in
          let r : i % 64 ≡ i - 64 * k = omega (arith, b, l) in
          (λ t. bit_at (get_or words (q t) 0) (r t) == 1)
          ∙ sym (get_or-map-range_with_len (λ j. bit_at (get_or words k 0) j == 1) 0 64 (i - 64 * k) (i - 64 * k) false (omega (arith, l, b)) (omega arith))
          ∙ sym (get_or-append_right (bits (64 * k) words) (word_bits (get_or words k 0)) (64 * k) i false (length-bits (64 * k) words) b)
    ])

count_by-append : (xs ys : List Bool) → count_by (λ b. b) (xs ++ ys) ≡ count_by (λ b. b) xs + count_by (λ b. b) ys
count_by-append xs ys = sum_by-append (λ b. cond b 1 0) xs ys

pub count_small : (words : List ℕ) (n : ℕ) → count_by (λ b. b) (bits n words) ≤ n
count_small words n = omega (arith, count_by-le-length (λ b. b) (bits n words), length-bits n words)

pub counted_more : (words : List ℕ) (k w : ℕ) → w < 2 ^ 64 → w ≡ get_or words k 0 → count_by (λ b. b) (bits (64 * k) words) + count_ones w ≡ count_by (λ b. b) (bits (64 * (k + 1)) words)
counted_more words k w h e =
    ap (λ n. count_by (λ b. b) (bits (64 * k) words) + n) (ones_of_word w h ∙ ap (λ v. count_by (λ b. b) (word_bits v)) e)
    ∙ sym (ap (count_by (λ b. b)) (bits_more words k) ∙ count_by-append (bits (64 * k) words) (word_bits (get_or words k 0)))
