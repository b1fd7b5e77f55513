-- TO BELIEVE: the theorem rests on these definitions, and no proof can check them.
-- The declared streams that a query may name.
use Rattle.std.specs.Prelude.{ℕ, List, [], Option, position, slice_get, option_and_then}
use Rattle.std.specs.Option.{option_map_or}
use Rattle.std.specs.Str.{bytes_eq}

-- a declared stream: the bytes of its name, and of its columns' names
pub record Stream : Type 0 where
  pub name : List ℕ
  pub columns : List (List ℕ)

-- the number of the stream of a name
abbrev pub number_in : List Stream → List ℕ → Option ℕ
number_in catalog name = position (λ s. bytes_eq s.name name) catalog

-- the columns of the stream of a name; none where no stream has it
abbrev pub columns_in : List Stream → List ℕ → List (List ℕ)
columns_in catalog name = option_map_or (λ s. s.columns)
    (option_and_then (slice_get catalog) (number_in catalog name)) []
