-- Touched groups in lists side by side, as the code holds them.
use Rattle.std.specs.Prelude.{◌≡◌, List, [], ◌∷◌, ◌++◌}
use Rattle.group.specs.Turns.{TouchedState}
use Rattle.group.specs.Excerpts.{ListTouched, touched_of}
use Rattle.group.specs.declared.turn.Touched.{Touched}

-- the groups in the lists
abbrev pub groups_of : Touched → List TouchedState
groups_of g = touched_of g.keys g.shown g.rows.items g.figures

-- the lists are those of these groups
abbrev pub HasTouched : Touched → List TouchedState → Type 0
HasTouched g ts = ListTouched g.keys g.shown g.rows.items g.figures ts

-- the group t more
pub record TouchedMore (g h : Touched) (t : TouchedState) : Type 0 where
  pub more : (ts : List TouchedState) → HasTouched g ts → HasTouched h (ts ++ t ∷ [])

-- the lists are the same
abbrev pub SameTouched : Touched → Touched → Type 0
SameTouched g h = (g.keys ≡ h.keys)
    × ((g.shown ≡ h.shown) × ((g.rows.items ≡ h.rows.items) × (g.figures ≡ h.figures)))
