-- Rows of one width that are kept flat: a head for each, and their values one row after the other.
use Rattle.std.specs.Prelude.{ℕ, ℤ, ◌≡◌, ◌*◌, ◌≤◌, Bool, Option, List, [], ◌∷◌, ◌++◌, length}
use Rattle.std.specs.Prelude.{take, drop, refl}
use Rattle.std.specs.Coded.{Coded, code_by, coded×, coded_ℕ, coded_ℤ, coded_list, coded_option}
use Rattle.values.specs.Row.{Row}
use Rattle.values.specs.declared.TheConstants.{MAX_COLUMNS}

-- rows with their heads, and how many columns each of them has
pub record Flat (H : Type 0) : Type 0 where
  pub width : ℕ
  pub rows : List (H × Row)

-- of signed rows the head says whether a row enters
abbrev pub FlatState : Type 0
FlatState = Flat Bool

-- they are stored as a pair
abbrev pub flat_code : {H : Type 0} → Coded H → Coded (Flat H)
flat_code {H} code =
    code_by (ℕ × List (H × Row))
    (coded× coded_ℕ (coded_list (coded× code (coded_list (coded_option coded_ℤ)))))
    (λ s. (s.width, s.rows)) (λ p. record { width = p.0; rows = p.1 }) (λ _. refl)

-- each head with the values of its row, which are the next w of them
abbrev pub rows_in : {H : Type 0} → ℕ → List H → List (Option ℤ) → List (H × Row)
rows_in w [] values = []
rows_in w (head ∷ heads) values = (head, take w values) ∷ rows_in w heads (drop w values)

abbrev pub flat_in : {H : Type 0} → ℕ → List H → List (Option ℤ) → Flat H
flat_in w heads values = record { width = w; rows = rows_in w heads values }

-- there are as many values as the rows have
pub record AreFlat {H : Type 0} (w : ℕ) (heads : List H)
    (values : List (Option ℤ)) : Type 0 where
  pub size : length values ≡ length heads * w
  pub narrow : w ≤ MAX_COLUMNS

-- no rows of so many columns
abbrev pub none_of : {H : Type 0} → ℕ → Flat H
none_of w = record { width = w; rows = [] }

-- with these rows more
abbrev pub with_rows : {H : Type 0} → Flat H → List (H × Row) → Flat H
with_rows s rows = record { width = s.width; rows = s.rows ++ rows }

-- the same of signed rows
abbrev pub with_signed : FlatState → List (Bool × Row) → FlatState
with_signed s rows = with_rows s rows
