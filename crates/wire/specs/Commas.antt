-- A comma between the items of a list.
use Rattle.std.specs.Prelude.{ℕ, zero, suc, List, [], codes}

-- a comma, before all but the first
abbrev pub comma_before : ℕ → List ℕ
comma_before zero = []
comma_before (suc number) = codes ","
