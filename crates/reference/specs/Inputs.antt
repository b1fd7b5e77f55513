-- Inputs that no window tells apart.
use Rattle.std.specs.Prelude.{◌≡◌, ℕ, ℤ, negsuc, int_le, Bool, true, ◌&&◌, nat_lt, List, [], ◌∷◌}
use Rattle.std.specs.List.{list_all}
use Rattle.values.specs.Row.{Row}
use Rattle.reference.specs.declared.limits.TheConstants.{MAX_INSTANT}
use Rattle.values.specs.Window.{Element, Window, window_rows}

-- every window shows the same rows of both at every instant
pub record ShowsSame (es gs : List Element) : Type 0 where
  pub shows : (from : ℕ) (w : Window) (t : ℕ) → window_rows from w t es ≡ window_rows from w t gs

abbrev pub EachShowsSame : List (List Element) → List (List Element) → Type 0
EachShowsSame [] [] = Unit {0}
EachShowsSame [] (gs ∷ rest) = ⊥
EachShowsSame (es ∷ more) [] = ⊥
EachShowsSame (es ∷ more) (gs ∷ rest) = ShowsSame es gs × EachShowsSame more rest

-- the instants of the answers fit a signed number of 64 bits
abbrev pub are_signed : List (ℕ × Row) → Bool
are_signed rows = list_all (λ a. nat_lt a.0 0x8000_0000_0000_0000) rows

-- -1, or an instant
abbrev pub IsClosed : ℤ → Type 0
IsClosed z = (int_le (negsuc 0) z && int_le z MAX_INSTANT) ≡ true
