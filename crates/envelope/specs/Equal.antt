-- Fractions that are the same number.
use Rattle.std.specs.Prelude.{◌*◌, ◌==◌, ◌≡◌, Bool}
use Rattle.envelope.specs.Fraction.{Fraction, denominator}

abbrev pub fraction_eq : Fraction → Fraction → Bool
fraction_eq x y = x.numerator * denominator y == y.numerator * denominator x

-- the same number
abbrev pub SameNumber : Fraction → Fraction → Type 0
SameNumber x y = x.numerator * denominator y ≡ y.numerator * denominator x
