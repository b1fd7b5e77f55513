-- Groups by keys of few values.
use Rattle.std.specs.Prelude.{◌≡◌, ℕ, ◌≤◌, List, [], length, fold}
use Rattle.std.specs.List.{All}
use Rattle.std.specs.Map.{keys_of}
use Rattle.std.specs.BTreeSet.{insert_key}
use Rattle.group.specs.Cells.{Held, held, held_cmp, CellState}

-- the key has at most n values
abbrev pub IsShort : ℕ → Held → Type 0
IsShort n k = length k.items ≤ n

-- all keys have at most n values
abbrev pub Short : ℕ → List (Held × CellState) → Type 0
Short n es = All (IsShort n) (keys_of es)

-- keys in order, each once
abbrev pub in_set : List Held → List Held
in_set ks = fold (insert_key held_cmp) [] ks

-- no key but that of the one group without Group By
abbrev pub AreWhole : List Held → Type 0
AreWhole ks = All (λ k. k ≡ held []) ks

-- what is kept of each group, and the keys that were touched since the last tick
pub record KeyedState : Type 0 where
  pub cells : List (Held × CellState)
  pub touched : List Held
