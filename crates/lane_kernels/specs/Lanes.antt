-- Words for the steps of the kernels: eight lanes, single tests, signs as bits.
use Rattle.std.specs.Prelude.{ℕ, ℤ, pos, ◌+ℤ◌, neg_ℤ, ◌≤ℤ◌, Bool, List, [], ◌∷◌, map, ◌≡◌, ◌^◌}
use Rattle.std.specs.Prelude.{cond, ◌==◌, length, Option, Some, None, get_or}
use Rattle.std.specs.List.{range_with_len}
use Rattle.std.specs.Ordering.{int_cmp}
use Rattle.values.specs.Condition.{passes}
use Rattle.values.specs.declared.resolved.Compare.{Compare}
use Rattle.std.specs.Int.{bit_at}
use Rattle.std.specs.Simd.Lanes.{Each1}
use Rattle.column.specs.Bits.{place}
use mir.Val.{SFits}
use mir.Syntax.{w64}

-- eight numbers of 64 bits
pub record IsEight (xs : List ℤ) : Type 0 where
  pub eight : length xs ≡ 8
  pub fit : Each1 (SFits w64) xs

-- the value at a place: the number where the place is valid, else null
abbrev pub value_at : List ℤ → List ℕ → ℕ → Option ℤ
value_at numbers valid i = cond (place valid i == 1) (Some (get_or numbers i (pos 0))) None

-- a comparison of two numbers
abbrev pub test_of : Compare → ℤ → ℤ → Bool
test_of how x y = passes how (int_cmp x y)

-- a comparison, which is unknown at null
abbrev pub test3 : (ℤ → ℤ → Bool) → Option ℤ → Option ℤ → Option Bool
test3 t None y = None
test3 t (Some x) None = None
test3 t (Some x) (Some y) = Some (t x y)

-- between -n and n
pub record IsWithin (n : ℕ) (x : ℤ) : Type 0 where
  pub low : neg_ℤ (pos n) ≤ℤ x
  pub high : x ≤ℤ pos n

-- eight numbers that a sum of signs can hold
pub record IsSmallEight (xs : List ℤ) : Type 0 where
  pub eight : length xs ≡ 8
  pub small : Each1 (IsWithin (2 ^ 40)) xs

abbrev pub signed_sum : List Bool → List ℤ → ℤ
signed_sum [] xs = pos 0
signed_sum (m ∷ ms) [] = pos 0
signed_sum (m ∷ ms) (x ∷ xs) = cond m (neg_ℤ x) x +ℤ signed_sum ms xs

abbrev pub bits_of : ℕ → List Bool
bits_of byte = map (λ k. bit_at byte k == 1) (range_with_len 0 8)

-- how many truths there are, those with a true sign taken away
abbrev pub signed_truths : List Bool → List Bool → ℤ
signed_truths [] vs = pos 0
signed_truths (m ∷ ms) [] = pos 0
signed_truths (m ∷ ms) (v ∷ vs) =
    cond v (cond m (neg_ℤ (pos 1)) (pos 1)) (pos 0) +ℤ signed_truths ms vs
