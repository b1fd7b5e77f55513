-- How a value is shown.
use Rattle.std.specs.Prelude.{ℕ, List, codes, Option, Some, None, ℤ}
use Rattle.std.specs.Fmt.{signed_decimal}

-- how a value is shown
abbrev pub value_text : Option ℤ → List ℕ
value_text None = codes "null"
value_text (Some z) = signed_decimal z
