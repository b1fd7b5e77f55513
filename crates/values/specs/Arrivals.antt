-- Inputs that differ by later elements, or in the order of arrival alone.
use Rattle.std.specs.Prelude.{◌≡◌, ℕ, ◌==◌, List, [], ◌∷◌, ◌++◌, filter}
use Rattle.values.specs.Row.{Row}
use Rattle.values.specs.Perm.{Perm}
use Rattle.values.specs.Window.{Element, Window, Instants, LastRows, AllFrom}

-- the second inputs are the first with elements of instants from `until` on behind them
abbrev pub Longer : ℕ → List (List Element) → List (List Element) → Type 0
Longer until [] [] = Unit {0}
Longer until [] (g ∷ gs) = ⊥
Longer until (e ∷ es) [] = ⊥
Longer until (e ∷ es) (g ∷ gs) =
    ((more : List Element) × ((g ≡ e ++ more) × AllFrom until more)) × Longer until es gs

-- the elements of each instant came in the same order
abbrev pub SameAtInstants : List (ℕ × Row) → List (ℕ × Row) → Type 0
SameAtInstants xs ys = (t : ℕ) → filter (λ e. e.0 == t) xs ≡ filter (λ e. e.0 == t) ys

-- the same elements came to a window: where it is one of last
-- rows, those of each instant in the same order; else in any order
abbrev pub CameAlike : Window → List (ℕ × Row) → List (ℕ × Row) → Type 0
CameAlike (Instants r) xs ys = Perm xs ys
CameAlike (LastRows columns n) xs ys = SameAtInstants xs ys

-- so at each window, of which each has an input in both lists, or in neither
abbrev pub AllCameAlike : List Window → List (List (ℕ × Row)) → List (List (ℕ × Row)) → Type 0
AllCameAlike [] inputs others = Unit {0}
AllCameAlike (w ∷ ws) [] [] = Unit {0}
AllCameAlike (w ∷ ws) [] (ys ∷ others) = ⊥
AllCameAlike (w ∷ ws) (xs ∷ inputs) [] = ⊥
AllCameAlike (w ∷ ws) (xs ∷ inputs) (ys ∷ others) =
    CameAlike w xs ys × AllCameAlike ws inputs others
