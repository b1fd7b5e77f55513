-- Touched groups, and what groups show from a tick on, kept in lists side by side.
use Rattle.std.specs.Prelude.{◌≡◌, ℤ, pos, Option, Some, None, List, [], ◌∷◌, map, get_or, Bool}
use Rattle.std.specs.Prelude.{cond, ℕ}
use Rattle.std.specs.Option.{is_some}
use Rattle.values.specs.Row.{Row}
use Rattle.group.specs.Cells.{Held, held}
use Rattle.group.specs.Turns.{ShownState, TouchedState}
use Rattle.group.specs.declared.cells.Figure.{Figure}

-- ROWS THAT MAY BE MISSING
-- of rows those that are there
abbrev pub rows_there : List Bool → List Row → List (Option Held)
rows_there [] rs = []
rows_there (b ∷ bs) [] = []
rows_there (b ∷ bs) (r ∷ rs) = cond b (Some (held r)) None ∷ rows_there bs rs

-- the values of a row, none where it is missing
abbrev pub values_of : Option Held → Row
values_of None = []
values_of (Some h) = h.items

-- which rows are there, and their values
pub record AreRows (bs : List Bool) (rs : List Row) (os : List (Option Held)) : Type 0 where
  pub there : bs ≡ map is_some os
  pub values : rs ≡ map values_of os

-- TOUCHED GROUPS
-- the groups with these keys, rows shown, counts of rows and figures
abbrev pub touched_of : List Row → List (Option Held) → List ℤ → List (List Figure)
    → List TouchedState
touched_of [] ss rs fs = []
touched_of (k ∷ ks) [] rs fs = []
touched_of (k ∷ ks) (s ∷ ss) [] fs = []
touched_of (k ∷ ks) (s ∷ ss) (r ∷ rs) [] = []
touched_of (k ∷ ks) (s ∷ ss) (r ∷ rs) (f ∷ fs) =
    record { key = held k; shown = s; rows = r; figures = f } ∷ touched_of ks ss rs fs

-- the keys, rows shown, counts of rows and figures of these groups
pub record ListTouched (ks : List Row) (ss : List (Option Held)) (rs : List ℤ)
    (fs : List (List Figure)) (ts : List TouchedState) : Type 0 where
  pub keys : ks ≡ map (λ t. t.key.items) ts
  pub shown : ss ≡ map (λ t. t.shown) ts
  pub rows : rs ≡ map (λ t. t.rows) ts
  pub figures : fs ≡ map (λ t. t.figures) ts

abbrev pub no_touched : TouchedState
no_touched = record { key = held []; shown = None; rows = pos 0; figures = [] }

-- the group at a place
abbrev pub touched_at : List TouchedState → ℕ → TouchedState
touched_at ts k = get_or ts k no_touched

-- WHAT GROUPS SHOW
-- the groups with these keys, which show these rows
abbrev pub shown_of : List Row → List (Option Held) → List ShownState
shown_of [] rs = []
shown_of (k ∷ ks) [] = []
shown_of (k ∷ ks) (r ∷ rs) = record { key = held k; row = r } ∷ shown_of ks rs

-- the keys of the groups, and the rows that they show
pub record ListShown (ks : List Row) (rs : List (Option Held)) (cs : List ShownState) : Type 0 where
  pub keys : ks ≡ map (λ c. c.key.items) cs
  pub rows : rs ≡ map (λ c. c.row) cs

abbrev pub no_shown : ShownState
no_shown = record { key = held []; row = None }

-- what the group at a place shows
abbrev pub shown_at_place : List ShownState → ℕ → ShownState
shown_at_place cs k = get_or cs k no_shown
