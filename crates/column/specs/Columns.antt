-- Columns: numbers beside the truths that say which of them are no nulls.
use Rattle.std.specs.Prelude.{ℤ, pos, Bool, false, Option, Some, None, List, [], ◌∷◌, ◌≡◌, cond}
use Rattle.std.specs.Prelude.{map, unwrap_or}
use Rattle.values.specs.Ranges.{IsAnswerNumber, IsStreamNumber}

-- the values: the number where it is valid, else null
abbrev pub values_of : List ℤ → List Bool → List (Option ℤ)
values_of [] valid = []
values_of (n ∷ ns) [] = []
values_of (n ∷ ns) (v ∷ vs) = cond v (Some n) None ∷ values_of ns vs

-- a number of the answer range, which is 0 at a null
pub record IsCell (n : ℤ) (v : Bool) : Type 0 where
  pub range : IsAnswerNumber n
  pub zero : v ≡ false → n ≡ pos 0

-- as many numbers as validities, place by place a cell
abbrev pub IsColumn : List ℤ → List Bool → Type 0
IsColumn [] [] = Unit {0}
IsColumn [] (v ∷ vs) = ⊥
IsColumn (n ∷ ns) [] = ⊥
IsColumn (n ∷ ns) (v ∷ vs) = IsCell n v × IsColumn ns vs

-- null, or a number of the stream range
abbrev pub IsStreamValue : Option ℤ → Type 0
IsStreamValue None = Unit {0}
IsStreamValue (Some z) = IsStreamNumber z

-- the numbers as they lie in memory, 0 at a null
abbrev pub numbers_of : List (Option ℤ) → List ℤ
numbers_of vs = map (λ v. unwrap_or v (pos 0)) vs
