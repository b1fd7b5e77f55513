-- Names by number.
use Rattle.std.specs.Prelude.{ℕ, Bool, false, List, Option, Some, None}
use Rattle.std.specs.Str.{bytes_eq}

-- the number has this name
abbrev pub bears : List ℕ → Option (List ℕ) → Bool
bears name None = false
bears name (Some other) = bytes_eq other name
