-- Marks of rows, and the tests by place that set them.
use Rattle.std.specs.Prelude.{◌≡◌, ℕ, zero, suc, ◌+◌, ◌-◌, ◌<◌, Bool, false, cond, ◌&&◌, ◌||◌}
use Rattle.std.specs.Prelude.{nat_le, nat_lt, List, length, get_or}

-- the marks of the places that pass are set, and the others are as they were
pub record Sets (passes : ℕ → Bool) (old new : List Bool) : Type 0 where
  pub same : length new ≡ length old
  pub marks : (i : ℕ) → i < length old → get_or new i false ≡ (get_or old i false || passes i)

-- the row arrived at the place or later
abbrev pub has_arrived : List ℕ → ℕ → ℕ → Bool
has_arrived numbers place i = nat_le place (get_or numbers i 0)

-- between two places
abbrev pub is_in_run : List ℕ → ℕ → ℕ → ℕ → ℕ → Bool
is_in_run numbers place start end i =
    has_arrived numbers place i && (nat_le start i && nat_lt i end)

-- of the least instant or a later one
abbrev pub is_from : List ℕ → List ℕ → ℕ → ℕ → ℕ → Bool
is_from instants numbers place least i =
    has_arrived numbers place i && nat_le least (get_or instants i 0)

-- and of an instant below `end`
abbrev pub is_between : List ℕ → List ℕ → ℕ → ℕ → ℕ → ℕ → Bool
is_between instants numbers place least end i =
    has_arrived numbers place i && (nat_le least (get_or instants i 0)
    && nat_lt (get_or instants i 0) end)

-- how many of so many places from `start` on pass
abbrev pub count_places : (ℕ → Bool) → ℕ → ℕ → ℕ
count_places p start zero = 0
count_places p start (suc n) =
    cond (p start) (suc (count_places p (start + 1) n)) (count_places p (start + 1) n)

-- of the places from `start` to below `end` that pass, fewer than n later ones are alike
abbrev pub is_among_last : (ℕ → Bool) → (ℕ → ℕ → Bool) → ℕ → ℕ → ℕ → ℕ → Bool
is_among_last passes alike n start end i =
    (nat_le start i && nat_lt i end)
    && (passes i && nat_lt (count_places (λ j. passes j && alike i j) (i + 1) (end - (i + 1))) n)
