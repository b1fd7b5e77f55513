-- Bits in words of 64, and the truths that a list of words holds.
use Rattle.std.specs.Prelude.{ℕ, Bool, false, List, [], ◌∷◌, map, filter, ◌≡◌, ◌≤◌, ◌+◌, ◌*◌, ◌/◌}
use Rattle.std.specs.Prelude.{◌%◌, cond, ◌==◌, length, get_or}
use Rattle.std.specs.List.{range_with_len}
use Rattle.std.specs.Int.{bit_at}

-- how many words of 64 bits hold n bits
abbrev pub word_count : ℕ → ℕ
word_count n = (n + 63) / 64

-- the bit at a place, 0 or 1; past the words it is 0
abbrev pub place : List ℕ → ℕ → ℕ
place words i = bit_at (get_or words (i / 64) 0) (i % 64)

-- the first n bits, true where the bit is set
abbrev pub bits : ℕ → List ℕ → List Bool
bits n words = map (λ i. place words i == 1) (range_with_len 0 n)

-- as many words as n bits need, and no bit set past them
pub record IsClear (n : ℕ) (words : List ℕ) : Type 0 where
  pub words_fit : length words ≡ word_count n
  pub clear : (i : ℕ) → n ≤ i → place words i ≡ 0

-- the items at whose places a mask has true, in order
abbrev pub chosen : {X : Type 0} → List Bool → List X → List X
chosen [] xs = []
chosen (b ∷ bs) [] = []
chosen (b ∷ bs) (x ∷ xs) = cond b (x ∷ chosen bs xs) (chosen bs xs)

-- the items at these places, in the order of the places
abbrev pub at_places : {X : Type 0} → X → List ℕ → List X → List X
at_places d places xs = map (λ i. get_or xs i d) places

-- every so many-th place from a start on, so many of them
abbrev pub places_by : ℕ → ℕ → ℕ → List ℕ
places_by start stride n = map (λ i. start + i * stride) (range_with_len 0 n)

-- the places at which a mask has true
abbrev pub true_places : List Bool → List ℕ
true_places bs = filter (λ i. get_or bs i false) (range_with_len 0 (length bs))
