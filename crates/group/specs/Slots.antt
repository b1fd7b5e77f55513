-- Groups by their places in a list.
use Rattle.std.specs.Prelude.{◌≡◌, ◌≢◌, ◌≤◌, ℕ, Option, Some, None, List, map}
use Rattle.std.specs.Map.{keys_of, lookup}
use Rattle.std.specs.BTreeMap.{is_at}
use Rattle.std.specs.List.{All}
use Rattle.std.specs.List.Sorted.{IsStrictlySortedBy}
use Rattle.values.specs.declared.TheConstants.{MAX_COLUMNS}
use Rattle.group.specs.Cells.{Held, held_cmp, CellState, cell_zero}
use Rattle.group.specs.Keys.{IsShort}

-- by the key, what is kept of each group
pub record SlotsState : Type 0 where
  pub entries : List (Held × CellState)

-- the key of the group at a place, if there is one
abbrev pub key_at : Option (Held × CellState) → Option Held
key_at None = None
key_at (Some e) = Some e.0

-- what is kept of it
abbrev pub cell_at : Option (Held × CellState) → CellState
cell_at None = cell_zero 0
cell_at (Some e) = e.1

-- the groups with these places
abbrev pub held_at : (ℕ → Option (Held × CellState)) → List (Held × ℕ) → List (Held × CellState)
held_at f ps = map (λ e. (e.0, cell_at (f e.1))) ps

-- by keys in order, of at most n values, each group has its place, and each place its group
pub record IsPlaced (n : ℕ) (ps : List (Held × ℕ))
    (f : ℕ → Option (Held × CellState)) : Type 0 where
  pub room : n ≤ MAX_COLUMNS
  pub sorted : IsStrictlySortedBy held_cmp (keys_of ps)
  pub short : All (IsShort n) (keys_of ps)
  pub there : (k : Held) (p : ℕ) → lookup (is_at (held_cmp k)) ps ≡ Some p → key_at (f p) ≡ Some k
  pub back : (k : Held) (p : ℕ) → key_at (f p) ≡ Some k → lookup (is_at (held_cmp k)) ps ≡ Some p

-- each place has the same group
abbrev pub KeepsKeys : (ℕ → Option (Held × CellState)) → (ℕ → Option (Held × CellState)) → Type 0
KeepsKeys f g = (q : ℕ) → key_at (g q) ≡ key_at (f q)

-- c is kept at the place p, and all else stays
pub record Writes (f g : ℕ → Option (Held × CellState)) (p : ℕ) (c : CellState) : Type 0 where
  pub cell : cell_at (g p) ≡ c
  pub others : (q : ℕ) → q ≢ p → g q ≡ f q
