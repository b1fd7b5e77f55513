-- Truths of many places, as two lists of words.
use Rattle.std.specs.Prelude.{ℕ, ℤ, pos, neg_ℤ, ◌+ℤ◌, Bool, List, [], ◌∷◌, map, ◌≡◌, ◌≤◌, cond}
use Rattle.std.specs.Prelude.{◌==◌, Option, Some, None}
use Rattle.std.specs.List.{range_with_len}
use Rattle.column.specs.Bits.{place}

-- the truth at a place: unknown is None
abbrev pub truth_at : List ℕ → List ℕ → ℕ → Option Bool
truth_at truth known i = cond (place known i == 1) (Some (place truth i == 1)) None

-- the truths of the first n places
abbrev pub truths : ℕ → List ℕ → List ℕ → List (Option Bool)
truths n truth known = map (truth_at truth known) (range_with_len 0 n)

-- a true place is a known one
abbrev pub IsKnownTruth : List ℕ → List ℕ → Type 0
IsKnownTruth truth known = (i : ℕ) → place truth i ≤ place known i

-- no bit from n on is set
abbrev pub IsClearFrom : ℕ → List ℕ → Type 0
IsClearFrom n words = (i : ℕ) → n ≤ i → place words i ≡ 0

-- a true place is a known one, and no place from n on is known
pub record IsTruth (n : ℕ) (truth known : List ℕ) : Type 0 where
  pub true_is_known : (i : ℕ) → place truth i ≤ place known i
  pub past : (i : ℕ) → n ≤ i → place known i ≡ 0

-- the sum of the values that are no nulls, those with a true sign taken away
abbrev pub signed_total : List Bool → List (Option ℤ) → ℤ
signed_total [] vs = pos 0
signed_total (m ∷ ms) [] = pos 0
signed_total (m ∷ ms) (None ∷ vs) = signed_total ms vs
signed_total (m ∷ ms) (Some x ∷ vs) = cond m (neg_ℤ x) x +ℤ signed_total ms vs

-- how many of the values are no nulls, those with a true sign taken away
abbrev pub signed_count : List Bool → List (Option ℤ) → ℤ
signed_count [] vs = pos 0
signed_count (m ∷ ms) [] = pos 0
signed_count (m ∷ ms) (None ∷ vs) = signed_count ms vs
signed_count (m ∷ ms) (Some x ∷ vs) = cond m (neg_ℤ (pos 1)) (pos 1) +ℤ signed_count ms vs
