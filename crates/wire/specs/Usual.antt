-- The lines of the usual requests.
use Rattle.std.specs.Prelude.{◌≢◌, ◌<◌, ◌≤◌, ◌^◌, ℕ, ℤ, nat_abs, List, ◌++◌, Option, Some, None, ⊤}
use Rattle.std.specs.Prelude.{codes, flat_map}
use Rattle.std.specs.Fmt.{signed_decimal}
use Rattle.std.specs.List.{AllByRecursion}
use Rattle.wire.specs.Calls.{NewRow}
use Rattle.wire.specs.Printed.{rows_text}

-- at most 17 digits
abbrev pub IsShort : ℤ → Type 0
IsShort z = nat_abs z < 10 ^ 17

abbrev pub ValueIsShort : Option ℤ → Type 0
ValueIsShort None = ⊤
ValueIsShort (Some z) = IsShort z

abbrev pub RowIsShort : NewRow → Type 0
RowIsShort row = IsShort row.0 × AllByRecursion ValueIsShort row.1

-- a byte that stands for itself in a text of JSON
abbrev pub IsPlain : ℕ → Type 0
IsPlain b = (b ≢ 34) × (b ≢ 92) × (32 ≤ b)

-- an append of rows to the stream of a name, without blanks
abbrev pub append_line : List ℕ → List NewRow → List ℕ
append_line name rows = codes "{\"op\":\"append\",\"stream\":\"" ++ name ++ codes "\",\"rows\":["
    ++ rows_text rows ++ codes "]}"

-- each text before a comma
abbrev pub before_commas : {A : Type 0} → (A → List ℕ) → List A → List ℕ
before_commas f xs = flat_map (λ x. f x ++ codes ",") xs

-- a stream of a name is closed up to an instant
abbrev pub heartbeat_line : List ℕ → ℤ → List ℕ
heartbeat_line name at = codes "{\"op\":\"heartbeat\",\"stream\":\"" ++ name ++ codes "\",\"at\":"
    ++ signed_decimal at ++ codes "}"

-- a take of at most so many answers of the query of a name
abbrev pub take_line : List ℕ → ℤ → List ℕ
take_line name limit = codes "{\"op\":\"take\",\"query\":\"" ++ name ++ codes "\",\"limit\":"
    ++ signed_decimal limit ++ codes "}"

-- what such a take would hand out
abbrev pub peek_line : List ℕ → ℤ → List ℕ
peek_line name limit = codes "{\"op\":\"peek\",\"query\":\"" ++ name ++ codes "\",\"limit\":"
    ++ signed_decimal limit ++ codes "}"
