-- How a table is kept: the entries of a map from names to numbers, and how many numbers were given.
use Rattle.std.specs.Prelude.{◌≡◌, ℕ, ◌<◌, ◌==◌, cond, List, [], ◌∷◌, map, Option, Some, None}
use Rattle.std.specs.Prelude.{String, string_bytes}
use Rattle.std.specs.List.{range_with_len, AllByRecursion}
use Rattle.std.specs.Map.{keys_of}
use Rattle.std.specs.List.Sorted.{IsStrictlySortedBy}
use Rattle.std.specs.String.{string_cmp}
use Rattle.std.specs.declared.alloc.Global.{Global}

-- the name to which the entries give a number
abbrev pub name_at : List (String Global × ℕ) → ℕ → Option (List ℕ)
name_at [] n = None
name_at (e ∷ es) n = cond (e.1 == n) (Some (string_bytes e.0)) (name_at es n)

-- the names of the numbers below count
abbrev pub names_in : ℕ → List (String Global × ℕ) → List (Option (List ℕ))
names_in count es = map (name_at es) (range_with_len 0 count)

-- no number is given twice
abbrev pub IsOnce : List (String Global × ℕ) → Type 0
IsOnce [] = Unit {0}
IsOnce (e ∷ es) = (name_at es e.1 ≡ None) × IsOnce es

pub record IsTable (count : ℕ) (es : List (String Global × ℕ)) : Type 0 where
  pub ordered : IsStrictlySortedBy string_cmp (keys_of es)
  pub given : AllByRecursion (λ e. e.1 < count) es
  pub once : IsOnce es
